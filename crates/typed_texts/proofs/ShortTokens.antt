-- The words and texts among the tokens of a text are short, and have the bytes of a text.
use Rattle.std.proofs.Common.{◌≡◌, ℕ, suc, List, [], ◌∷◌, length, Bool, true, refl, subst, arith}
use Rattle.std.specs.Prelude.{nat_le, All, IsTrue}
use Rattle.std.specs.List.{list_all}
use Rattle.std.proofs.lemmas.Bool.{le-leb, and_from}
use Rattle.std.proofs.lemmas.Bool.Decides.{nat_tests}
use Rattle.class_form.specs.WellFormed.{is_text_byte}
use Rattle.jp_pred.specs.declared.ty.Ty.{Ty}
use Rattle.jp_pred.specs.declared.ty.Ty.TheVariants as ty
use Rattle.jp_ast.specs.declared.token.Place.{Place}
use Rattle.jp_ast.specs.declared.token.Lexeme.{Lexeme}
use Rattle.jp_ast.specs.declared.token.Lexeme.TheVariants as lexeme
use Rattle.jp_ast.specs.declared.token.Token.{Token}
use Rattle.jp_lexical.specs.Characters.{is_word_byte, is_plain}
use Rattle.jp_lexical.specs.Tokens.{Spells, is_letter}
use Rattle.jp_lexical.specs.Lexed.{LexedFrom, end, gap, token}
use Rattle.jp_grammar.specs.Kinds.{IsName, IsText, Tokens}
use Rattle.jp_grammar.specs.Expressions.{IsElement}
use Rattle.jp_grammar.specs.Statements.{array_of, OneType, element_type, array_type, ResultType, no_result, some_result}
use Rattle.code_texts.specs.Short.{is_short, names_short}

-- BYTES

word_byte : (b : ℕ) → is_word_byte b ≡ true → is_text_byte b ≡ true
unfolding is_word_byte
word_byte b h = grind (arith, nat_tests)

letter_byte : (b : ℕ) → is_letter b ≡ true → is_text_byte b ≡ true
unfolding is_letter is_plain
letter_byte b h = grind (arith, nat_tests)

bytes_fit : (test : ℕ → Bool) → ((b : ℕ) → test b ≡ true → is_text_byte b ≡ true) → (bytes : List ℕ) → All (λ b. IsTrue (test b)) bytes → list_all is_text_byte bytes ≡ true
bytes_fit test f [] h = refl
bytes_fit test f (b ∷ bytes) h = and_from (is_text_byte b) (list_all is_text_byte bytes) (f b (h 0 b (omega arith))) (bytes_fit test f bytes (λ k d lt. h (suc k) d (omega (arith, lt))))

-- TOKENS

-- a word is a short name, and a text has the bytes of one
abbrev pub Reads : Lexeme → Type 0
Reads (lexeme.Word name) = is_short name ≡ true
Reads (lexeme.Text bytes) = list_all is_text_byte bytes ≡ true
Reads _ = Unit {0}

abbrev pub AreShort : Tokens → Type 0
AreShort [] = Unit {0}
AreShort (s ∷ xs) = Reads s.lexeme × AreShort xs

short_lexeme : (spelled : List ℕ) (x : Lexeme) → Spells x spelled → Reads x
short_lexeme spelled (lexeme.Word name) s = and_from (nat_le (length name) 255) (list_all is_text_byte name) (le-leb (length name) 255 s.2) (bytes_fit is_word_byte word_byte name s.1.goes_on)
short_lexeme spelled (lexeme.Number value hex) s = tt
short_lexeme spelled (lexeme.Text value) s = bytes_fit is_letter letter_byte value s.1
short_lexeme spelled (lexeme.Sign sign) s = tt
short_lexeme spelled lexeme.End s = tt

pub lexed_short : {place : Place} {text : List ℕ} {tokens : Tokens} → LexedFrom place text tokens → AreShort tokens
lexed_short end = (tt, tt)
lexed_short (gap e g l) = lexed_short l
lexed_short (token {bytes = spelled} {lexeme = x} e t l) = (short_lexeme spelled x t.spells, lexed_short l)

pub named : (name : List ℕ) (s : Token) → IsName name s → Reads s.lexeme → is_short name ≡ true
named name s h w = subst Reads h.0 w

pub texted : (bytes : List ℕ) (s : Token) → IsText bytes s → Reads s.lexeme → list_all is_text_byte bytes ≡ true
texted bytes s h w = subst Reads h w

-- TYPES

pub element_short : (elem : Ty) (s : Token) → IsElement elem s → Reads s.lexeme → (names_short elem ≡ true) × (names_short (array_of elem) ≡ true)
element_short ty.Int s h w = (refl, refl)
element_short ty.Boolean s h w = (refl, refl)
element_short (ty.Class name) s h w = let p = named name s h w in (p, p)
element_short ty.Void s h w = absurd h
element_short ty.IntArray s h w = absurd h
element_short ty.BooleanArray s h w = absurd h
element_short (ty.ClassArray name) s h w = absurd h

-- a type and what stands behind it
pub type_short : {t : Ty} {xs zs : Tokens} → OneType xs t zs → AreShort xs → AreShort zs × (names_short t ≡ true)
type_short (element_type {s = s} {elem = elem} h) w = (w.1, (element_short elem s h w.0).0)
type_short (array_type {s = s} elem h i j) w = (w.1.1.1, (element_short elem s h w.0).1)

pub result_short : {t : Ty} {xs zs : Tokens} → ResultType xs t zs → AreShort xs → AreShort zs × (names_short t ≡ true)
result_short (no_result h) w = (w.1, refl)
result_short (some_result t) w = type_short t w
