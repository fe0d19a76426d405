-- What the grammar knows of a token besides its value.
use Rattle.std.specs.Prelude.{◌≡◌, ℕ, Bool, false, ◌==◌, if◌then◌else◌, List, [], ◌∷◌, codes}
use Rattle.std.specs.Borrow.{Bor}
use Rattle.std.specs.Str.{bytes_eq}
use Rattle.jp_ast.specs.declared.token.Place.{Place}
use Rattle.jp_ast.specs.declared.token.Token.{Token}
use Rattle.jp_ast.specs.declared.token.Lexeme.{Lexeme}
use Rattle.jp_ast.specs.declared.token.Lexeme.TheVariants as lexeme
use Rattle.jp_grammar.specs.declared.kind.Kind.{Kind}
use Rattle.jp_grammar.specs.declared.kind.Kind.TheVariants as k

-- the words that the language keeps for itself, each of its own kind, and those that Java keeps beside them
unfoldable pub reserved : List (List ℕ × Kind)
reserved =
    (codes "abstract", k.Abstract) ∷ (codes "as", k.As) ∷ (codes "boolean", k.Boolean) ∷
    (codes "break", k.Break) ∷ (codes "class", k.Class) ∷ (codes "continue", k.Continue) ∷
    (codes "else", k.Else) ∷ (codes "extends", k.Extends) ∷ (codes "false", k.False) ∷
    (codes "final", k.Final) ∷ (codes "for", k.For) ∷ (codes "if", k.If) ∷ (codes "implements", k.Implements) ∷
    (codes "instanceof", k.InstanceOf) ∷ (codes "int", k.Int) ∷ (codes "interface", k.Interface) ∷
    (codes "new", k.New) ∷ (codes "null", k.Null) ∷ (codes "private", k.Private) ∷ (codes "public", k.Public) ∷
    (codes "return", k.Return) ∷ (codes "static", k.Static) ∷ (codes "super", k.Super) ∷
    (codes "this", k.This) ∷ (codes "true", k.True) ∷ (codes "void", k.Void) ∷ (codes "when", k.When) ∷
    (codes "while", k.While) ∷ (codes "assert", k.Outside) ∷ (codes "byte", k.Outside) ∷
    (codes "case", k.Outside) ∷ (codes "catch", k.Outside) ∷ (codes "char", k.Outside) ∷
    (codes "const", k.Outside) ∷ (codes "default", k.Outside) ∷ (codes "do", k.Outside) ∷
    (codes "double", k.Outside) ∷ (codes "enum", k.Outside) ∷ (codes "finally", k.Outside) ∷
    (codes "float", k.Outside) ∷ (codes "goto", k.Outside) ∷ (codes "import", k.Outside) ∷
    (codes "long", k.Outside) ∷ (codes "native", k.Outside) ∷ (codes "package", k.Outside) ∷
    (codes "protected", k.Outside) ∷ (codes "short", k.Outside) ∷ (codes "strictfp", k.Outside) ∷
    (codes "switch", k.Outside) ∷ (codes "synchronized", k.Outside) ∷ (codes "throw", k.Outside) ∷
    (codes "throws", k.Outside) ∷ (codes "transient", k.Outside) ∷ (codes "try", k.Outside) ∷
    (codes "volatile", k.Outside) ∷ []

-- a row of the table, as the code has it
abbrev pub row_of : (Bor (List ℕ) × Kind) → List ℕ × Kind
row_of row = (row.0.now, row.1)

-- the kind that the table gives for the word, or Name where the word isn't in it
abbrev pub kind_in : List (List ℕ × Kind) → List ℕ → Kind
kind_in [] word = k.Name
kind_in (row ∷ table) word = if bytes_eq row.0 word then row.1 else kind_in table word

-- the kind of a word
unfoldable pub kind_of_word : List ℕ → Kind
kind_of_word word = kind_in reserved word

-- the kind of what a token is
abbrev pub kind_of_lexeme : Lexeme → Kind
kind_of_lexeme (lexeme.Word word) = kind_of_word word
kind_of_lexeme (lexeme.Number value hex) = k.Number
kind_of_lexeme (lexeme.Text text) = k.Text
kind_of_lexeme (lexeme.Sign sign) = k.Sign sign
kind_of_lexeme lexeme.End = k.End

-- the kind of a token
abbrev pub kind_of_token : Token → Kind
kind_of_token token = kind_of_lexeme token.lexeme

-- the token is of this kind
abbrev pub Is : Kind → Token → Type 0
Is kind token = kind_of_token token ≡ kind

-- the token is this sign
abbrev pub IsSign : ℕ → Token → Type 0
IsSign sign token = kind_of_token token ≡ k.Sign sign

-- the token is this word, and may be a name
abbrev pub IsName : List ℕ → Token → Type 0
IsName word token = (token.lexeme ≡ lexeme.Word word) × (kind_of_token token ≡ k.Name)

-- the token is this number
abbrev pub IsNumber : ℕ → Bool → Token → Type 0
IsNumber value hex token = token.lexeme ≡ lexeme.Number value hex

-- the token is this text
abbrev pub IsText : List ℕ → Token → Type 0
IsText text token = token.lexeme ≡ lexeme.Text text

-- tokens one after the other
abbrev pub Tokens : Type 0
Tokens = List Token

-- the place of no token
abbrev pub nowhere : Place
nowhere = record { line = 1; col = 1 }

-- where the first token stands
abbrev pub place_of : Tokens → Place
place_of [] = nowhere
place_of (token ∷ tokens) = token.place

-- the kind is this sign
abbrev pub is_sign_kind : ℕ → Kind → Bool
is_sign_kind sign (k.Sign own) = own == sign
is_sign_kind sign _ = false

-- the token is this sign, as a test
abbrev pub is_sign_of : ℕ → Token → Bool
is_sign_of sign token = is_sign_kind sign (kind_of_token token)
