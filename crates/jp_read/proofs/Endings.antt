-- Lists of tokens that end in the end of the text.
use Rattle.std.proofs.Common.{◌≡◌, ℕ, Bool, true, false, not, ◌&&◌, IsTrue, cond, List, [], ◌∷◌, ◌++◌, refl, subst}
use Rattle.std.specs.Str.{bytes_eq}
use Rattle.jp_ast.specs.declared.token.Token.{Token}
use Rattle.jp_grammar.specs.declared.kind.Kind.{Kind}
use Rattle.jp_grammar.specs.declared.kind.Kind.TheVariants as k
use Rattle.jp_grammar.specs.Kinds.{Tokens, kind_in, kind_of_word, kind_of_token, reserved}
use Rattle.jp_grammar.specs.Reading.{IsText}

abbrev is_end : Kind → Bool
is_end k.End = true
is_end _ = false

abbrev endless_rows : List (List ℕ × Kind) → Bool
endless_rows [] = true
endless_rows (row ∷ table) = not (is_end row.1) && endless_rows table

first_of : (a b : Bool) → IsTrue (a && b) → IsTrue a
first_of true b h = refl
first_of false b h = cc

second_of : (a b : Bool) → IsTrue (a && b) → IsTrue b
second_of true b h = h
second_of false b h = cc

row_endless : (word : List ℕ) (table : List (List ℕ × Kind)) → IsTrue (endless_rows table) → IsTrue (not (is_end (kind_in table word)))
row_endless word [] h = refl
row_endless word (row ∷ table) h =
    let first : IsTrue (not (is_end row.1)) = first_of (not (is_end row.1)) (endless_rows table) h in
    let others : IsTrue (not (is_end (kind_in table word))) = row_endless word table (second_of (not (is_end row.1)) (endless_rows table) h) in
    elim (bytes_eq row.0 word) as (λ b. IsTrue (not (is_end (cond b row.1 (kind_in table word))))) [ true ↦ first | false ↦ others ]

-- no word is the end of the text
pub word_no_end : (word : List ℕ) → kind_of_word word ≡ k.End → ⊥
unfolding kind_of_word reserved
word_no_end word h =
    let g : IsTrue (not (is_end (kind_in reserved word))) = row_endless word reserved refl in
    let g' : IsTrue (not (is_end k.End)) = subst (λ (x : Kind). IsTrue (not (is_end x))) h g in
    cc

-- no token is the end of the text
abbrev pub Endless : Tokens → Type 0
Endless [] = Unit {0}
Endless (s ∷ xs) = (kind_of_token s ≡ k.End → ⊥) × Endless xs

pub endless_text : (xs : Tokens) (s : Token) → Endless xs → kind_of_token s ≡ k.End → IsText (xs ++ s ∷ [])
endless_text [] s all h = h
endless_text (x ∷ []) s all h = (all.0, h)
endless_text (x ∷ x' ∷ xs) s all h = (all.0, endless_text (x' ∷ xs) s all.1 h)
