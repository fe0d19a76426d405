-- What the bytes of a token are, and where it ends.
use Rattle.std.specs.Prelude.{◌≡◌, ℕ, ◌<◌, ◌≤◌, ◌⊎◌, Bool, true, false, ◌||◌, ◌==◌, if◌then◌else◌, List, [], ◌∷◌, ◌++◌, length, codes, decimal, flat_map, slice_get, Some, All, IsTrue, IsFalse}
use Rattle.std.specs.Str.{byte}
use Rattle.std.specs.Str.Parse.{AllDigits, digits_value}
use Rattle.jp_ast.specs.declared.token.Lexeme.{Lexeme}
use Rattle.jp_ast.specs.declared.token.Lexeme.TheVariants.{Word, Number, Text, Sign, End}
use Rattle.jp_lexical.specs.Characters.{is_white, is_word_byte, is_plain}
use Rattle.jp_lexical.specs.Words.{IsWord}
use Rattle.jp_lexical.specs.Signs.{signs}

-- ---- numbers

-- a decimal number of at most 2147483648, without leading zeros
pub record IsDecimal (bytes : List ℕ) (value : ℕ) : Type 0 where
  pub digits : bytes ≡ decimal value
  pub fits : value ≤ 2147483648

-- `0x` or `0X`, and 1 to 8 hexadecimal digits
pub record IsHexadecimal (bytes : List ℕ) (value : ℕ) : Type 0 where
  pub x : ℕ
  pub digits : List ℕ
  pub parts : bytes ≡ byte "0" ∷ x ∷ digits
  pub marked : IsTrue (x == byte "x" || x == byte "X")
  pub each : AllDigits 16 digits
  pub some : 0 < length digits
  pub short : length digits ≤ 8
  pub means : value ≡ digits_value 16 digits

abbrev pub IsNumber : List ℕ → ℕ → Bool → Type 0
IsNumber bytes value true = IsHexadecimal bytes value
IsNumber bytes value false = IsDecimal bytes value

-- ---- texts

-- the bytes that a text literal can hold: `\n`, `\t`, `\r`, `\"`, `\\` and what stands for itself
unfoldable pub is_letter : ℕ → Bool
is_letter b = b == 10 || b == 9 || b == 13 || b == 34 || b == 92 || is_plain b

-- how a text literal writes the byte
unfoldable pub written : ℕ → List ℕ
written b =
    if b == 10 then codes "\\n" else (if b == 9 then codes "\\t" else (if b == 13 then codes "\\r"
    else (if b == 34 then codes "\\\"" else (if b == 92 then codes "\\\\" else b ∷ []))))

-- the text literal that holds these bytes
abbrev pub quoted : List ℕ → List ℕ
quoted value = byte "\"" ∷ (flat_map written value ++ byte "\"" ∷ [])

-- ---- tokens

-- these are the bytes of the token
abbrev pub Spells : Lexeme → List ℕ → Type 0
Spells (Word name) bytes = (bytes ≡ name) × IsWord name × (length name ≤ 255)
Spells (Number value hex) bytes = IsNumber bytes value hex
Spells (Text value) bytes = (bytes ≡ quoted value) × All (λ b. IsTrue (is_letter b)) value
Spells (Sign sign) bytes = slice_get signs sign ≡ Some bytes
Spells End bytes = ⊥

-- no letter, digit or `_` comes next
abbrev pub NoWordByte : List ℕ → Type 0
NoWordByte [] = Unit {0}
NoWordByte (b ∷ rest) = IsFalse (is_word_byte b)

-- of the signs with which the text begins none is longer
abbrev pub IsLongest : List ℕ → List ℕ → Type 0
IsLongest bytes rest = (sign : ℕ) (longer more : List ℕ) → slice_get signs sign ≡ Some longer → bytes ++ rest ≡ longer ++ more → length longer ≤ length bytes

-- no comment begins here
abbrev pub NoComment : List ℕ → Type 0
NoComment text = (mark more : List ℕ) → (mark ≡ codes "//") ⊎ (mark ≡ codes "/*") → text ≡ mark ++ more → ⊥

-- the token with these bytes ends where the rest begins: it is the longest that fits
abbrev pub EndsBefore : Lexeme → List ℕ → List ℕ → Type 0
EndsBefore (Word name) bytes rest = NoWordByte rest
EndsBefore (Number value hex) bytes rest = NoWordByte rest
EndsBefore (Text value) bytes rest = Unit {0}
EndsBefore (Sign sign) bytes rest = IsLongest bytes rest × NoComment (bytes ++ rest)
EndsBefore End bytes rest = ⊥

-- the bytes are the token, and the rest doesn't go on with it
pub record IsToken (lexeme : Lexeme) (bytes rest : List ℕ) : Type 0 where
  pub spells : Spells lexeme bytes
  pub ends : EndsBefore lexeme bytes rest

-- ---- gaps

-- the text's only `*/` stands at its end
abbrev pub ClosesAtEnd : List ℕ → Type 0
ClosesAtEnd text = (front more : List ℕ) → text ≡ front ++ codes "*/" ++ more → more ≡ []

-- the rest is at the end of a line or of the text
abbrev pub AtLineEnd : List ℕ → Type 0
AtLineEnd [] = Unit {0}
AtLineEnd (b ∷ rest) = b ≡ 10

-- Between tokens may stand a white byte, a comment from `//` to the end of the line or of the text, and a comment
-- from `/*` to the next `*/`.
pub data IsGap (bytes rest : List ℕ) : Type 0 where
  white : (b : ℕ) → bytes ≡ b ∷ [] → IsTrue (is_white b) → IsGap bytes rest
  line : (body : List ℕ) → bytes ≡ codes "//" ++ body → All (λ b. ¬ (b ≡ 10)) body → AtLineEnd rest → IsGap bytes rest
  block : (body : List ℕ) → bytes ≡ codes "/*" ++ body ++ codes "*/" → ClosesAtEnd (body ++ codes "*/") → IsGap bytes rest
