-- What each step of the lexer finds at the front of a text.
use Rattle.std.specs.Prelude.{ℕ, ◌+◌, ◌-◌, ◌&&◌, ◌||◌, ◌==◌, nat_le, nat_lt, not, Bool, true, false, if◌then◌else◌, List, [], ◌∷◌, length, take, drop, slice_index, Option, Some, None, is_some, option_map, unwrap_or, Result, Ok, Err, decimal, bytes_eq}
use Rattle.std.specs.List.{prefix_len, list_all}
use Rattle.std.specs.Char.{digit_value}
use Rattle.std.specs.Str.Parse.{digits_value}
use Rattle.jp_ast.specs.declared.token.Lexeme.{Lexeme}
use Rattle.jp_ast.specs.declared.token.Lexeme.TheVariants.{Word as WordToken, Number as NumberToken, Text as TextToken, Sign as SignToken}
use Rattle.jp_ast.specs.declared.token.Place.{Place}
use Rattle.jp_ast.specs.declared.token.Token.{Token}
use Rattle.jp_lexical.specs.declared.fault.LexKind.{LexKind}
use Rattle.jp_lexical.specs.declared.fault.LexKind.TheVariants.{BadByte, BadNumber, OpenText, LongName}
use Rattle.jp_lexical.specs.Characters.{is_white, begins_word, is_word_byte, is_plain}
use Rattle.jp_lexical.specs.Lexed.{at}
use Rattle.jp_lexer.specs.declared.front.Form.{Form}
use Rattle.jp_lexer.specs.declared.front.Form.TheVariants.{Gap, Word, Number, Text, Sign}

-- ---- comments

-- how many bytes there are up to the end of the first `*/`
abbrev pub close_len : List ℕ → Option ℕ
close_len [] = None
close_len (b ∷ bytes) = if b == 42 && slice_index bytes 0 == 47 then Some 2 else option_map (λ n. 1 + n) (close_len bytes)

-- ---- numbers

-- the number of at most 2147483648 whose decimal digits these are
unfoldable pub decimal_of : List ℕ → Option ℕ
decimal_of digits =
    let value = digits_value 10 digits in
    if bytes_eq digits (decimal value) && nat_le value 2147483648 then Some value else None

-- these are 1 to 8 hexadecimal digits
unfoldable pub is_hexadecimal : List ℕ → Bool
is_hexadecimal digits = nat_lt 0 (length digits) && nat_le (length digits) 8 && list_all (λ b. nat_lt (digit_value b) 16) digits

-- the number whose 1 to 8 hexadecimal digits these are
unfoldable pub hexadecimal_of : List ℕ → Option ℕ
hexadecimal_of digits = if is_hexadecimal digits then Some (digits_value 16 digits) else None

-- `0x` or `0X` is at the front
unfoldable pub is_marked : List ℕ → Bool
is_marked run = slice_index run 0 == 48 && (slice_index run 1 == 120 || slice_index run 1 == 88)

-- the number that the bytes write, and whether they do so in hexadecimal digits
unfoldable pub number_value : List ℕ → Option (ℕ × Bool)
number_value run =
    if is_marked run then option_map (λ value. (value, true)) (hexadecimal_of (drop 2 run))
    else option_map (λ value. (value, false)) (decimal_of run)

-- ---- texts

-- the byte that an escape with this second byte stands for
unfoldable pub escape_of : ℕ → Option ℕ
escape_of b =
    if b == 110 then Some 10 else (if b == 116 then Some 9 else (if b == 114 then Some 13
    else (if b == 34 then Some 34 else (if b == 92 then Some 92 else None))))

-- one more, where there is a number
abbrev pub one_more : Option ℕ → Option ℕ
one_more n = option_map (λ k. 1 + k) n

-- how many bytes a text literal has from here to its closing quote, where an escape is open or isn't
abbrev pub text_len : Bool → List ℕ → Option ℕ
text_len escaped [] = None
text_len true (b ∷ bytes) = if is_some (escape_of b) then one_more (text_len false bytes) else None
text_len false (b ∷ bytes) =
    if b == 92 then one_more (text_len true bytes)
    else (if b == 34 then Some 1 else (if is_plain b then one_more (text_len false bytes) else None))

-- what the inside of a text literal stands for, from here on
abbrev pub letters_of : Bool → List ℕ → List ℕ
letters_of escaped [] = []
letters_of true (b ∷ bytes) = unwrap_or (escape_of b) b ∷ letters_of false bytes
letters_of false (b ∷ bytes) = if b == 92 then letters_of true bytes else b ∷ letters_of false bytes

-- what a text literal stands for
unfoldable pub text_value : List ℕ → List ℕ
text_value literal = letters_of false (take (length literal - 2) (drop 1 literal))

-- ---- signs

-- the number of the sign of two bytes
unfoldable pub pair_sign : ℕ → ℕ → Option ℕ
pair_sign a b =
    if a == 61 && b == 61 then Some 25 else (if a == 33 && b == 61 then Some 26 else (if a == 60 && b == 61 then Some 27
    else (if a == 62 && b == 61 then Some 28 else (if a == 38 && b == 38 then Some 29 else (if a == 124 && b == 124 then Some 30
    else (if a == 60 && b == 60 then Some 31 else (if a == 62 && b == 62 then Some 32 else (if a == 43 && b == 61 then Some 34
    else (if a == 45 && b == 61 then Some 35 else (if a == 43 && b == 43 then Some 36 else (if a == 45 && b == 45 then Some 37
    else None)))))))))))

-- the number of the sign of one byte
unfoldable pub single_sign : ℕ → Option ℕ
single_sign b =
    if b == 123 then Some 0 else (if b == 125 then Some 1 else (if b == 40 then Some 2 else (if b == 41 then Some 3
    else (if b == 91 then Some 4 else (if b == 93 then Some 5 else (if b == 59 then Some 6 else (if b == 44 then Some 7
    else (if b == 46 then Some 8 else (if b == 61 then Some 9 else (if b == 60 then Some 10 else (if b == 62 then Some 11
    else (if b == 33 then Some 12 else (if b == 126 then Some 13 else (if b == 63 then Some 14 else (if b == 58 then Some 15
    else (if b == 43 then Some 16 else (if b == 45 then Some 17 else (if b == 42 then Some 18 else (if b == 47 then Some 19
    else (if b == 37 then Some 20 else (if b == 38 then Some 21 else (if b == 124 then Some 22 else (if b == 94 then Some 23
    else (if b == 64 then Some 24 else None))))))))))))))))))))))))

-- the first answer, or else the second
abbrev pub or_else : {A : Type 0} → Option A → Option A → Option A
or_else (Some x) other = Some x
or_else None other = other

-- the number of the longest sign at the front, and how many bytes it has
unfoldable pub sign_at : List ℕ → Option (ℕ × ℕ)
sign_at text =
    let first = slice_index text 0 in
    let second = slice_index text 1 in
    if first == 62 && second == 62 && slice_index text 2 == 62 then Some (33, 3)
    else or_else (option_map (λ sign. (sign, 2)) (pair_sign first second)) (option_map (λ sign. (sign, 1)) (single_sign first))

-- ---- the front

-- a form with its length, or what is wrong where there is none
abbrev pub Front : Type 0
Front = Result (Form × ℕ) LexKind

-- the gap of a comment with this length behind its first two bytes
abbrev pub comment_front : Option ℕ → Front
comment_front (Some n) = Ok (Gap, 2 + n)
comment_front None = Err OpenText

-- the text literal with this length behind its opening quote
abbrev pub text_front : Option ℕ → Front
text_front (Some n) = Ok (Text, 1 + n)
text_front None = Err OpenText

abbrev pub number_front : Option (ℕ × Bool) → ℕ → Front
number_front (Some found) len = Ok (Number found.0 found.1, len)
number_front None len = Err BadNumber

abbrev pub sign_front : Option (ℕ × ℕ) → Front
sign_front (Some found) = Ok (Sign found.0, found.1)
sign_front None = Err BadByte

-- a word at the front
unfoldable pub word_of : List ℕ → Front
word_of text = let len = prefix_len is_word_byte text in if nat_le len 255 then Ok (Word, len) else Err LongName

-- a number at the front
unfoldable pub number_of : List ℕ → Front
number_of text = let len = prefix_len is_word_byte text in number_front (number_value (take len text)) len

-- a comment or a sign at the front
unfoldable pub mark_of : List ℕ → Front
mark_of text =
    if slice_index text 0 == 47 && slice_index text 1 == 47 then Ok (Gap, 2 + prefix_len (λ b. not (b == 10)) (drop 2 text))
    else (if slice_index text 0 == 47 && slice_index text 1 == 42 then comment_front (close_len (drop 2 text))
    else sign_front (sign_at text))

-- the form of the gap or token at the front, and how many bytes it has, or what is wrong where there is none
unfoldable pub front_of : List ℕ → Front
front_of text =
    let first = slice_index text 0 in
    if is_white first then Ok (Gap, 1)
    else (if begins_word first then word_of text
    else (if is_word_byte first then number_of text
    else (if first == 34 then text_front (text_len false (drop 1 text))
    else mark_of text)))

-- the token of this form with these bytes, or `None` for a gap
abbrev pub lexeme_of : Form → List ℕ → Option Lexeme
lexeme_of Gap bytes = None
lexeme_of Word bytes = Some (WordToken bytes)
lexeme_of (Number value hex) bytes = Some (NumberToken value hex)
lexeme_of Text bytes = Some (TextToken (text_value bytes))
lexeme_of (Sign sign) bytes = Some (SignToken sign)

-- the token at this place, where there is one
abbrev pub tokens_at : Place → Option Lexeme → List Token
tokens_at place None = []
tokens_at place (Some lexeme) = at place lexeme ∷ []
