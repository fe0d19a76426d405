-- The classes of bytes that words, numbers, texts and the gaps between them are made of.
use Rattle.std.specs.Prelude.{ℕ, Bool, ◌||◌, ◌&&◌, ◌==◌, nat_le, not}
use Rattle.std.specs.Char.{is_ascii_alphabetic, is_ascii_alphanumeric}
use Rattle.std.specs.Str.{byte}

-- a tab, a line feed, a form feed, a carriage return or a space
unfoldable pub is_white : ℕ → Bool
is_white b = b == 9 || b == 10 || b == 12 || b == 13 || b == 32

-- a letter or `_`, which begins a word
unfoldable pub begins_word : ℕ → Bool
begins_word b = is_ascii_alphabetic b || b == byte "_"

-- a letter, a digit or `_`, which a word or a number goes on with
unfoldable pub is_word_byte : ℕ → Bool
is_word_byte b = is_ascii_alphanumeric b || b == byte "_"

-- a printable character of ASCII that stands for itself in a text, so neither `"` nor a backslash
unfoldable pub is_plain : ℕ → Bool
is_plain b = nat_le 32 b && nat_le b 126 && not (b == 34 || b == 92)
