-- What a token of a kind is made of.
use Rattle.std.proofs.Common.{◌≡◌, ℕ, Bool, true, false, ◌&&◌, IsTrue, cond, List, [], ◌∷◌, refl, sym, ap, ◌∙◌, subst}
use Rattle.std.specs.Str.{bytes_eq}
use Rattle.jp_ast.specs.declared.token.Token.{Token}
use Rattle.jp_ast.specs.declared.token.Lexeme.{Lexeme}
use Rattle.jp_ast.specs.declared.token.Lexeme.TheVariants as lexeme
use Rattle.jp_grammar.specs.declared.kind.Kind.{Kind}
use Rattle.jp_grammar.specs.declared.kind.Kind.TheVariants as k
use Rattle.jp_grammar.specs.Kinds.{kind_in, kind_of_word, kind_of_lexeme, kind_of_token, reserved, IsName, IsNumber, IsText}

-- the kind is a word's
abbrev pub wordy : Kind → Bool
wordy (k.Sign n) = false
wordy k.Number = false
wordy k.Text = false
wordy k.End = false
wordy _ = true

abbrev wordy_table : List (List ℕ × Kind) → Bool
wordy_table [] = true
wordy_table (row ∷ table) = wordy row.1 && wordy_table table

left : (a b : Bool) → IsTrue (a && b) → IsTrue a
left true b h = refl
left false b h = cc

right : (a b : Bool) → IsTrue (a && b) → IsTrue b
right true b h = h
right false b h = cc

in_table : (word : List ℕ) (table : List (List ℕ × Kind)) → IsTrue (wordy_table table) → IsTrue (wordy (kind_in table word))
in_table word [] h = refl
in_table word (row ∷ table) h =
    let first : IsTrue (wordy row.1) = left (wordy row.1) (wordy_table table) h in
    let others : IsTrue (wordy (kind_in table word)) = in_table word table (right (wordy row.1) (wordy_table table) h) in
    elim (bytes_eq row.0 word) as (λ b. IsTrue (wordy (cond b row.1 (kind_in table word)))) [ true ↦ first | false ↦ others ]

word_wordy : (word : List ℕ) → IsTrue (wordy (kind_of_word word))
unfolding kind_of_word reserved
word_wordy word = in_table word reserved refl

-- a kind that is no word's is no word's kind
not_word : (word : List ℕ) (kind : Kind) → wordy kind ≡ false → kind_of_word word ≡ kind → ⊥
not_word word kind f h = let g : wordy kind ≡ true = subst (λ (x : Kind). wordy x ≡ true) h (word_wordy word) in cc

number_lexeme : (l : Lexeme) → kind_of_lexeme l ≡ k.Number → (value : ℕ) × (hex : Bool) × (l ≡ lexeme.Number value hex)
number_lexeme (lexeme.Word word) h = absurd (not_word word k.Number refl h)
number_lexeme (lexeme.Number value hex) h = (value, hex, refl)
number_lexeme (lexeme.Text text) h = cc
number_lexeme (lexeme.Sign n) h = cc
number_lexeme lexeme.End h = cc

text_lexeme : (l : Lexeme) → kind_of_lexeme l ≡ k.Text → (text : List ℕ) × (l ≡ lexeme.Text text)
text_lexeme (lexeme.Word word) h = absurd (not_word word k.Text refl h)
text_lexeme (lexeme.Number value hex) h = cc
text_lexeme (lexeme.Text text) h = (text, refl)
text_lexeme (lexeme.Sign n) h = cc
text_lexeme lexeme.End h = cc

name_lexeme : (l : Lexeme) → kind_of_lexeme l ≡ k.Name → (word : List ℕ) × (l ≡ lexeme.Word word)
name_lexeme (lexeme.Word word) h = (word, refl)
name_lexeme (lexeme.Number value hex) h = cc
name_lexeme (lexeme.Text text) h = cc
name_lexeme (lexeme.Sign n) h = cc
name_lexeme lexeme.End h = cc

pub number_token : (s : Token) → kind_of_token s ≡ k.Number → (value : ℕ) × (hex : Bool) × IsNumber value hex s
number_token s h = number_lexeme s.lexeme h

pub text_token : (s : Token) → kind_of_token s ≡ k.Text → (text : List ℕ) × IsText text s
text_token s h = text_lexeme s.lexeme h

pub name_token : (s : Token) → kind_of_token s ≡ k.Name → (word : List ℕ) × IsName word s
name_token s h = let w = name_lexeme s.lexeme h in (w.0, (w.1, h))
