-- The command line's words, and what they ask for.
use Rattle.std.specs.Prelude.{◌≡◌, ℕ, ◌≤◌, List, [], ◌∷◌, ◌++◌, length, codes}
use Rattle.jp_lexical.specs.Words.{IsName}
use Rattle.cli_text.specs.declared.words.Command.{Command}

-- the name of a unit's file: 4 to 255 bytes that end in `.jp`
pub record IsUnitName (bytes : List ℕ) : Type 0 where
  pub long : 4 ≤ length bytes
  pub short : length bytes ≤ 255
  pub ending : (stem : List ℕ) × (bytes ≡ stem ++ codes ".jp")

-- what the command line can ask for
pub data Request : Type 0 where
  -- to build the unit of this name and run the `main` of this class
  Go : List ℕ → List ℕ → Request

-- The words ask for this: `go M U`, with the name of a class and of a unit.
abbrev pub IsRequest : List (List ℕ) → Request → Type 0
IsRequest words (Go main unit) = (words ≡ codes "go" ∷ main ∷ unit ∷ []) × IsName main × IsUnitName unit

-- the request of a command, without where its words lie in memory
abbrev pub request_of : Command → Request
request_of command = Go command.main.now command.unit.now

-- the class that a request names has the form of a name
abbrev pub NamesClass : Request → Type 0
NamesClass (Go main unit) = IsName main
