-- Tokens of the lexical forms: words, names and signs.
use Rattle.std.proofs.Common.{◌≡◌, ℕ, zero, suc, ◌<◌, ◌≤◌, Bool, true, false, List, [], ◌∷◌, ◌++◌, map, length, Option, Some, None, refl, sym, ap, ◌∙◌, subst, inl, inr, ◌⊎◌, arith, codes, IsTrue, get_or, cond}
use Rattle.std.specs.Prelude.{◌&&◌, ◌||◌, not, nat_lt, nat_le, slice_get, slice_index}
use Rattle.std.specs.List.{AllByRecursion, list_all}
use Rattle.std.proofs.lemmas.Bool.{and_parts, ltb-true, leb-true}
use Rattle.std.proofs.lemmas.List.Elements.{All-from_recursion}
use Rattle.std.proofs.lemmas.Option.{slice_get-get_or}
use Rattle.std.specs.Str.{bytes_eq}
use Rattle.jp_ast.specs.declared.token.Token.{Token}
use Rattle.jp_ast.specs.declared.token.Lexeme.{Lexeme}
use Rattle.jp_ast.specs.declared.token.Lexeme.TheVariants.{Word, Number, Text, Sign, End}
use Rattle.jp_lexical.specs.Characters.{begins_word, is_word_byte}
use Rattle.jp_lexical.specs.Words.{IsWord}
use Rattle.jp_lexical.specs.Tokens.{Spells}
use Rattle.jp_lexical.specs.Signs.{signs}
use Rattle.jp_grammar.specs.declared.kind.Kind.{Kind}
use Rattle.jp_grammar.specs.declared.kind.Kind.TheVariants as k
use Rattle.jp_grammar.specs.Kinds.{Is, IsSign, IsName, Tokens, kind_of_word, kind_of_lexeme, kind_of_token, kind_in, reserved}
use Rattle.jp_print.specs.ReadsBack.{HasForm, IsFormed}

-- each of the tokens has a lexical form
abbrev pub Formed : List Lexeme → Type 0
Formed tokens = AllByRecursion HasForm tokens

-- each token is of a lexical form or the end
abbrev pub FormedTokens : Tokens → Type 0
FormedTokens tokens = AllByRecursion IsFormed tokens

pub formed_append : (xs ys : List Lexeme) → Formed xs → Formed ys → Formed (xs ++ ys)
formed_append [] ys f g = g
formed_append (x ∷ xs) ys f g = (f.0, formed_append xs ys f.1 g)

-- ---- signs

signs_length : length signs ≡ 38
unfolding signs
signs_length = refl

pub sign_formed : (n : ℕ) → n < 38 → HasForm (Sign n)
sign_formed n lt = record { bytes = get_or signs n []; spells = slice_get-get_or signs n [] (omega (arith, signs_length)) }

pub is_sign : (n : ℕ) (s : Token) → s.lexeme ≡ Sign n → IsSign n s
is_sign n s h = ap kind_of_lexeme h

-- ---- words

-- the bytes are a word of at most 255 bytes, as a test
abbrev pub word_passes : List ℕ → Bool
word_passes word = nat_lt 0 (length word) && begins_word (slice_index word 0) && list_all is_word_byte word && nat_le (length word) 255

all_pass : (word : List ℕ) → list_all is_word_byte word ≡ true → AllByRecursion (λ b. IsTrue (is_word_byte b)) word
all_pass [] h = tt
all_pass (b ∷ bs) h = let p = and_parts (is_word_byte b) (list_all is_word_byte bs) h in (p.0, all_pass bs p.1)

pub word_formed : (word : List ℕ) → word_passes word ≡ true → HasForm (Word word)
word_formed word h =
    let p = and_parts (nat_lt 0 (length word) && begins_word (slice_index word 0) && list_all is_word_byte word) (nat_le (length word) 255) h in
    let q = and_parts (nat_lt 0 (length word) && begins_word (slice_index word 0)) (list_all is_word_byte word) p.0 in
    let r = and_parts (nat_lt 0 (length word)) (begins_word (slice_index word 0)) q.0 in
    record {
      bytes = word;
      spells = (refl, record { some = ltb-true _ _ r.0; begins = r.1; goes_on = All-from_recursion _ _ (all_pass word q.1) }, leb-true _ _ p.1);
    }

pub is_word : (word : List ℕ) (kind : Kind) (s : Token) → kind_of_word word ≡ kind → s.lexeme ≡ Word word → Is kind s
is_word word kind s e h = ap kind_of_lexeme h ∙ e

-- ---- names

-- the word may be a name, and has a lexical form
pub record Nameable (name : List ℕ) : Type 0 where
  pub free : kind_of_word name ≡ k.Name
  pub formed : HasForm (Word name)

pub is_name : (name : List ℕ) (s : Token) → Nameable name → s.lexeme ≡ Word name → IsName name s
is_name name s n h = (h, ap kind_of_lexeme h ∙ n.free)

-- ---- what a token of a text is

pub has_form : (l : Lexeme) (s : Token) → s.lexeme ≡ l → (l ≡ End → ⊥) → IsFormed s → HasForm l
has_form l s e other (inl end) = absurd (other (sym e ∙ end))
has_form l s e other (inr f) = subst HasForm e f

pub nameable : (name : List ℕ) (s : Token) → IsName name s → IsFormed s → Nameable name
nameable name s n f = record { free = sym (ap kind_of_lexeme n.0) ∙ n.1; formed = has_form (Word name) s n.0 (λ e. cc) f }

-- the kind is no sign's
abbrev pub no_sign : Kind → Bool
no_sign (k.Sign n) = false
no_sign _ = true

abbrev pub no_signs : List (List ℕ × Kind) → Bool
no_signs [] = true
no_signs (row ∷ table) = no_sign row.1 && no_signs table

kind_no_sign : (word : List ℕ) (table : List (List ℕ × Kind)) → no_signs table ≡ true → no_sign (kind_in table word) ≡ true
kind_no_sign word [] h = refl
kind_no_sign word (row ∷ table) h =
    let p = and_parts (no_sign row.1) (no_signs table) h in
    let others = kind_no_sign word table p.1 in
    elim (bytes_eq row.0 word) as (λ b. no_sign (cond b row.1 (kind_in table word)) ≡ true) [ true ↦ p.0 | false ↦ others ]

word_no_sign : (word : List ℕ) (n : ℕ) → kind_of_word word ≡ k.Sign n → ⊥
unfolding kind_of_word reserved
word_no_sign word n h = let g : no_sign (k.Sign n) ≡ true = subst (λ (x : Kind). no_sign x ≡ true) h (kind_no_sign word reserved refl) in cc

sign_lexeme : (n : ℕ) (l : Lexeme) → kind_of_lexeme l ≡ k.Sign n → l ≡ Sign n
sign_lexeme n (Word word) h = absurd (word_no_sign word n h)
sign_lexeme n (Number value hex) h = cc
sign_lexeme n (Text text) h = cc
sign_lexeme n (Sign m) h = cc
sign_lexeme n End h = cc

pub sign_form : (n : ℕ) (s : Token) → IsSign n s → IsFormed s → HasForm (Sign n)
sign_form n s h f = has_form (Sign n) s (sign_lexeme n s.lexeme h) (λ e. cc) f
