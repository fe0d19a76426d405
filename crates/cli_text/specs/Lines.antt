-- The status of each ending, and the line that the diagnostics get.
use Rattle.std.specs.Prelude.{◌≡◌, ◌⊎◌, ℕ, List, [], ◌∷◌, ◌++◌, Option, codes, decimal, flat_map}
use Rattle.std.specs.Io.KnownBytes.{append_known}
use Rattle.jp_outside.specs.Faults.{Rose}
use Rattle.jp_outside.specs.Bytes.{AppendsFront}
use Rattle.jp_ast.specs.declared.token.Place.{Place}
use Rattle.jp_lexical.specs.declared.fault.LexKind.{LexKind}
use Rattle.jp_lexical.specs.declared.fault.LexKind.TheVariants.{BadByte, BadNumber, OpenText, LongName}
use Rattle.jp_read.specs.declared.fault.SyntaxKind.{SyntaxKind}
use Rattle.jp_read.specs.declared.fault.SyntaxKind.TheVariants.{Unexpected, Outside, TooDeep}
use Rattle.cli_text.specs.declared.refusal.Refusal.{Refusal}
use Rattle.cli_text.specs.declared.refusal.Refusal.TheVariants.{Lex, Syntax, NotYet}
use Rattle.cli_text.specs.declared.ending.Ending.{Ending}
use Rattle.cli_text.specs.declared.ending.Ending.TheVariants.{Done, NoCommand, Refused, Missing, UnitFault, ClassFault, OutputFault, OutOfMemory}

-- the status that a program ends with
abbrev pub status_of : Ending → ℕ
status_of Done = 0
status_of NoCommand = 2
status_of (Refused refusal) = 3
status_of Missing = 6
status_of UnitFault = 8
status_of ClassFault = 8
status_of OutputFault = 9
status_of OutOfMemory = 12

-- the name of the file that a class is kept in
abbrev pub class_file_name : List ℕ → List ℕ
class_file_name class = class ++ codes ".class"

-- every command, with those that are still to come
abbrev pub usage : List ℕ
usage = codes "usage: jpred compile U.jp | link M | run [--steps N] M | go [--steps N] M U.jp .. | gen K U.jp"

-- a text as a line
abbrev pub line : List ℕ → List ℕ
line text = text ++ 10 ∷ []

-- pieces of a text, one after the other
abbrev pub joined : List (List ℕ) → List ℕ
joined pieces = flat_map (λ piece. piece) pieces

-- where the fault of a refusal stands
abbrev pub place_of : Refusal → Place
place_of (Lex fault) = fault.place
place_of (Syntax fault) = fault.place
place_of (NotYet place) = place

-- the word for a kind of lexical faults
abbrev pub lexical_word : LexKind → List ℕ
lexical_word BadByte = codes "BadByte"
lexical_word BadNumber = codes "BadNumber"
lexical_word OpenText = codes "OpenText"
lexical_word LongName = codes "LongName"

-- the word for a kind of syntax faults, behind which an outside word stands itself
abbrev pub syntax_words : SyntaxKind → List (List ℕ)
syntax_words Unexpected = codes "Unexpected" ∷ []
syntax_words (Outside word) = codes "Outside " ∷ word ∷ []
syntax_words TooDeep = codes "TooDeep" ∷ []

-- the words for the kind of a refusal
abbrev pub kind_words : Refusal → List (List ℕ)
kind_words (Lex fault) = lexical_word fault.kind ∷ []
kind_words (Syntax fault) = syntax_words fault.kind
kind_words (NotYet place) = codes "NotYet" ∷ []

-- `UNIT:LINE:COLUMN: KIND`
abbrev pub refusal_text : List ℕ → Refusal → List ℕ
refusal_text unit refusal =
    unit ++ codes ":" ++ decimal (place_of refusal).line ++ codes ":" ++ decimal (place_of refusal).col ++ codes ": " ++ joined (kind_words refusal)

-- the line of an ending, for this class and this unit
abbrev pub line_of : Ending → List ℕ → List ℕ → List ℕ
line_of Done main unit = []
line_of NoCommand main unit = line usage
line_of (Refused refusal) main unit = line (refusal_text unit refusal)
line_of Missing main unit = line (codes "missing " ++ unit)
line_of UnitFault main unit = line (codes "store fault " ++ unit)
line_of ClassFault main unit = line (codes "store fault " ++ class_file_name main)
line_of OutputFault main unit = line (codes "output fault")
line_of OutOfMemory main unit = line (codes "want of memory")

-- every ending but `Done` has a line
abbrev pub HasLine : Ending → Type 0
HasLine Done = ⊥
HasLine NoCommand = Unit {0}
HasLine (Refused refusal) = Unit {0}
HasLine Missing = Unit {0}
HasLine UnitFault = Unit {0}
HasLine ClassFault = Unit {0}
HasLine OutputFault = Unit {0}
HasLine OutOfMemory = Unit {0}

-- the status came with its whole line; or 9 with a front part of a line and a fault of the diagnostics
abbrev pub Reports : Ending → List ℕ → List ℕ → ℕ → Option (List ℕ) → Option (List ℕ) → ℕ → ℕ → Type 0
Reports ending main unit status taken taken' faults faults' =
    ((status ≡ status_of ending) × (taken' ≡ append_known taken (line_of ending main unit)) × (faults' ≡ faults))
    ⊎ (HasLine ending × (status ≡ 9) × AppendsFront taken taken' (line_of ending main unit) × Rose faults faults')
