-- Words and names.
use Rattle.std.specs.Prelude.{ℕ, ◌<◌, ◌≤◌, ◌⊎◌, List, [], ◌∷◌, length, slice_index, codes, All, Contains, IsTrue}
use Rattle.jp_lexical.specs.Characters.{begins_word, is_word_byte}

-- the words that the language keeps for itself
unfoldable pub own_words : List (List ℕ)
own_words =
    codes "abstract" ∷ codes "as" ∷ codes "boolean" ∷ codes "break" ∷ codes "class" ∷ codes "continue" ∷ codes "else"
    ∷ codes "extends" ∷ codes "false" ∷ codes "final" ∷ codes "for" ∷ codes "if" ∷ codes "implements" ∷ codes "instanceof"
    ∷ codes "int" ∷ codes "interface" ∷ codes "new" ∷ codes "null" ∷ codes "private" ∷ codes "public" ∷ codes "return"
    ∷ codes "static" ∷ codes "super" ∷ codes "this" ∷ codes "true" ∷ codes "void" ∷ codes "when" ∷ codes "while" ∷ []

-- the words that Java keeps beside them
unfoldable pub outside_words : List (List ℕ)
outside_words =
    codes "assert" ∷ codes "byte" ∷ codes "case" ∷ codes "catch" ∷ codes "char" ∷ codes "const" ∷ codes "default"
    ∷ codes "do" ∷ codes "double" ∷ codes "enum" ∷ codes "finally" ∷ codes "float" ∷ codes "goto" ∷ codes "import"
    ∷ codes "long" ∷ codes "native" ∷ codes "package" ∷ codes "protected" ∷ codes "short" ∷ codes "strictfp" ∷ codes "switch"
    ∷ codes "synchronized" ∷ codes "throw" ∷ codes "throws" ∷ codes "transient" ∷ codes "try" ∷ codes "volatile" ∷ []

-- a word of one of the two lists
abbrev pub IsReserved : List ℕ → Type 0
IsReserved word = Contains own_words word ⊎ Contains outside_words word

-- letters, digits and `_`, of which the first is no digit
pub record IsWord (bytes : List ℕ) : Type 0 where
  pub some : 0 < length bytes
  pub begins : IsTrue (begins_word (slice_index bytes 0))
  pub goes_on : All (λ b. IsTrue (is_word_byte b)) bytes

-- a word of at most 255 bytes that isn't reserved
pub record IsName (bytes : List ℕ) : Type 0 where
  pub word : IsWord bytes
  pub short : length bytes ≤ 255
  pub free : ¬ IsReserved bytes
