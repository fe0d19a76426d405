-- How tokens are laid out as a text.
use Rattle.std.specs.Prelude.{ℕ, Bool, ◌==◌, ◌||◌, false, if◌then◌else◌, List, [], ◌∷◌, ◌++◌, codes, decimal, flat_map, slice_get, unwrap_or}
use Rattle.std.specs.Borrow.{Bor}
use Rattle.std.specs.Fmt.{digits}
use Rattle.jp_ast.specs.declared.token.Lexeme.{Lexeme}
use Rattle.jp_ast.specs.declared.token.Lexeme.TheVariants.{Word, Number, Text, Sign, End}
use Rattle.jp_ast.specs.declared.sign.TheConstants as sign
use Rattle.jp_lexical.specs.Tokens.{quoted}
use Rattle.jp_lexical.specs.Signs.{signs}

-- the bytes that a row of a table lends
abbrev pub row_text : Bor (List ℕ) → List ℕ
row_text row = row.now

-- the text at this place, or none behind the end
abbrev pub text_at : List (List ℕ) → ℕ → List ℕ
text_at table place = unwrap_or (slice_get table place) []

-- the bytes of the sign with this number
abbrev pub sign_text : ℕ → List ℕ
sign_text number = text_at signs number

-- `0x` and lower-case digits, or decimal digits; neither with leading zeros
abbrev pub number_text : ℕ → Bool → List ℕ
number_text value hex = if hex then codes "0x" ++ digits 16 false value else decimal value

-- the bytes of a token
abbrev pub spelled : Lexeme → List ℕ
spelled (Word word) = word
spelled (Number value hex) = number_text value hex
spelled (Text value) = quoted value
spelled (Sign number) = sign_text number
spelled End = []

-- a line ends behind `{`, `}` and `;`
abbrev pub ends_line : Lexeme → Bool
ends_line (Sign number) = number == sign.OPEN_BRACE || number == sign.CLOSE_BRACE || number == sign.SEMICOLON
ends_line _ = false

-- what stands behind a token: the end of the line, or one space in front of the line's next token
abbrev pub gap_behind : Lexeme → List ℕ
gap_behind token = if ends_line token then codes "\n" else codes " "

-- a token with what stands behind it
abbrev pub with_gap : Lexeme → List ℕ
with_gap token = spelled token ++ gap_behind token

-- The tokens as lines. Each line ends with `{`, `}` or `;`, and one space stands between two of its tokens: a unit's
-- last token is a `}`, so behind every other token of a line there is a next one.
abbrev pub laid_out : List Lexeme → List ℕ
laid_out tokens = flat_map with_gap tokens
