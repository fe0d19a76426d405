use Rattle.std.proofs.Common.{◌≡◌, ℕ, Bool, true, false, ◌&&◌, IsTrue, cond, List, [], ◌∷◌, refl, sym}
use Rattle.std.specs.Str.{bytes_eq}
use Rattle.jp_ast.specs.declared.token.Lexeme.{Lexeme}
use Rattle.jp_ast.specs.declared.token.Lexeme.TheVariants as lexeme
use Rattle.jp_grammar.specs.declared.kind.Kind.{Kind}
use Rattle.jp_grammar.specs.declared.kind.Kind.TheVariants as k
use Rattle.jp_grammar.specs.Kinds.{kind_in, kind_of_word, kind_of_lexeme, is_sign_kind, reserved}
use Rattle.jp_grammar.proofs.reading.is_sign.Goals as goal

-- the kind is no sign
abbrev signless : Kind → Bool
signless (k.Sign n) = false
signless _ = true

-- no row of the table is a sign's
abbrev signless_table : List (List ℕ × Kind) → Bool
signless_table [] = true
signless_table (row ∷ table) = signless row.1 && signless_table table

signless_sign : (sign : ℕ) (kind : Kind) → IsTrue (signless kind) → is_sign_kind sign kind ≡ false
signless_sign sign (k.Sign n) h = cc
signless_sign sign _ h = refl

left : (a b : Bool) → IsTrue (a && b) → IsTrue a
left true b h = refl
left false b h = cc

right : (a b : Bool) → IsTrue (a && b) → IsTrue b
right true b h = h
right false b h = cc

word_no_sign : (sign : ℕ) (word : List ℕ) (table : List (List ℕ × Kind)) → IsTrue (signless_table table) → is_sign_kind sign (kind_in table word) ≡ false
word_no_sign sign word [] h = refl
word_no_sign sign word (row ∷ table) h =
    let first : is_sign_kind sign row.1 ≡ false = signless_sign sign row.1 (left (signless row.1) (signless_table table) h) in
    let others : is_sign_kind sign (kind_in table word) ≡ false = word_no_sign sign word table (right (signless row.1) (signless_table table) h) in
    elim (bytes_eq row.0 word) as (λ b. is_sign_kind sign (cond b row.1 (kind_in table word)) ≡ false) [ true ↦ first | false ↦ others ]

other_no_sign : (sign : ℕ) (l : Lexeme) → ((n : ℕ) → l ≡ lexeme.Sign n → ⊥) → is_sign_kind sign (kind_of_lexeme l) ≡ false
unfolding kind_of_word reserved
other_no_sign sign (lexeme.Word word) h = word_no_sign sign word reserved refl
other_no_sign sign (lexeme.Number value hex) h = refl
other_no_sign sign (lexeme.Text text) h = refl
other_no_sign sign (lexeme.Sign n) h = absurd (h n refl)
other_no_sign sign lexeme.End h = refl

pub returns-in_default : goal.returns-in_default
returns-in_default c = sym (other_no_sign c.args.sign c.args.token.now.lexeme c.in_default.not-Sign)
