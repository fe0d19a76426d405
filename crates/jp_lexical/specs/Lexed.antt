-- The tokens of a text, and its first fault.
use Rattle.std.specs.Prelude.{◌≡◌, ℕ, if◌then◌else◌, ◌||◌, ◌==◌, List, [], ◌∷◌, ◌++◌, All}
use Rattle.std.specs.Char.{is_ascii_digit}
use Rattle.std.specs.Str.{byte}
use Rattle.jp_ast.specs.declared.token.Place.{Place}
use Rattle.jp_ast.specs.declared.token.Lexeme.{Lexeme}
use Rattle.jp_ast.specs.declared.token.Lexeme.TheVariants.{End}
use Rattle.jp_ast.specs.declared.token.Token.{Token}
use Rattle.jp_lexical.specs.declared.fault.LexKind.{LexKind}
use Rattle.jp_lexical.specs.declared.fault.LexKind.TheVariants.{BadByte, BadNumber, OpenText, LongName}
use Rattle.jp_lexical.specs.declared.fault.LexFault.{LexFault}
use Rattle.jp_lexical.specs.Characters.{begins_word}
use Rattle.jp_lexical.specs.Places.{first_place, behind}
use Rattle.jp_lexical.specs.Tokens.{IsToken, IsGap}

-- the token at this place
abbrev pub at : Place → Lexeme → Token
at place lexeme = record { place = place; lexeme = lexeme }

-- The text, whose first byte stands at the place, is these tokens, with gaps before, between and behind them.
pub data LexedFrom : Place → List ℕ → List Token → Type 0 where
  end : {place : Place} → LexedFrom place [] (at place End ∷ [])
  gap : {place : Place} {text bytes rest : List ℕ} {tokens : List Token} →
      text ≡ bytes ++ rest → IsGap bytes rest → LexedFrom (behind place bytes) rest tokens → LexedFrom place text tokens
  token : {place : Place} {text bytes rest : List ℕ} {lexeme : Lexeme} {tokens : List Token} →
      text ≡ bytes ++ rest → IsToken lexeme bytes rest → LexedFrom (behind place bytes) rest tokens → LexedFrom place text (at place lexeme ∷ tokens)

-- the tokens of the text, with the end as the last
abbrev pub Lexed : List ℕ → List Token → Type 0
Lexed text tokens = LexedFrom first_place text tokens

-- The last token, and no other, is `End`, and stands behind the text, whose first byte stands at the place.
pub record EndsOnce (place : Place) (text : List ℕ) (tokens : List Token) : Type 0 where
  pub front : List Token
  pub parts : tokens ≡ front ++ at (behind place text) End ∷ []
  pub others : All (λ t. ¬ (t.lexeme ≡ End)) front

-- there is a byte, but neither a gap nor a token begins with it
pub record IsStuck (text : List ℕ) : Type 0 where
  pub first : ℕ
  pub others : List ℕ
  pub parts : text ≡ first ∷ others
  pub no_gap : (bytes rest : List ℕ) → text ≡ bytes ++ rest → IsGap bytes rest → ⊥
  pub no_token : (lexeme : Lexeme) (bytes rest : List ℕ) → text ≡ bytes ++ rest → IsToken lexeme bytes rest → ⊥

-- What is wrong where no token begins with this byte: a letter or `_` begins a word that is too long, a digit no
-- number, `"` a text and `/` a block comment that isn't closed.
unfoldable pub kind_of : ℕ → LexKind
kind_of b =
    if begins_word b then LongName else (if is_ascii_digit b then BadNumber
    else (if b == byte "\"" || b == byte "/" then OpenText else BadByte))

-- The text, whose first byte stands at the place, has its first fault behind some gaps and tokens.
pub data FaultFrom : Place → List ℕ → LexFault → Type 0 where
  here : {place : Place} {text : List ℕ} → (stuck : IsStuck text) → FaultFrom place text (record { place = place; kind = kind_of stuck.first })
  behind_gap : {place : Place} {text bytes rest : List ℕ} {fault : LexFault} →
      text ≡ bytes ++ rest → IsGap bytes rest → FaultFrom (behind place bytes) rest fault → FaultFrom place text fault
  behind_token : {place : Place} {text bytes rest : List ℕ} {lexeme : Lexeme} {fault : LexFault} →
      text ≡ bytes ++ rest → IsToken lexeme bytes rest → FaultFrom (behind place bytes) rest fault → FaultFrom place text fault

-- the first fault of the text
abbrev pub FirstFault : List ℕ → LexFault → Type 0
FirstFault text fault = FaultFrom first_place text fault
