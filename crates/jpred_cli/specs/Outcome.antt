-- What a command does outside, ending by ending.
use Rattle.std.specs.Prelude.{◌≡◌, ◌⊎◌, ℕ, List, Option, Some, None, flat_map}
use Rattle.std.specs.Fmt.{signed_decimal}
use Rattle.std.specs.Io.KnownBytes.{append_known}
use Rattle.jp_outside.specs.Faults.{Rose}
use Rattle.jp_outside.specs.Bytes.{AppendsFront}
use Rattle.jp_outside.specs.Files.{Files, Finds, put_known, OthersStay}
use Rattle.cli_text.specs.declared.ending.Ending.{Ending}
use Rattle.cli_text.specs.declared.ending.Ending.TheVariants.{Done, NoCommand, Refused, Missing, UnitFault, ClassFault, OutputFault, OutOfMemory}
use Rattle.cli_text.specs.Words.{Request, Go, IsRequest}
use Rattle.print_form.specs.declared.literal.Literal.{Literal}
use Rattle.print_form.specs.Form.{value_of}
use Rattle.cli_text.specs.declared.refusal.Refusal.{Refusal}
use Rattle.cli_text.specs.Programs.{IsOnlyProgram, IsOnlyRefusal}
use Rattle.cli_text.specs.Lines.{class_file_name, Reports}

-- what a command can change: the store's files and its faults, what the output took and its faults
pub record Outside : Type 0 where
  pub files : Option Files
  pub store_faults : ℕ
  pub out : Option (List ℕ)
  pub out_faults : ℕ

-- the same by its parts
abbrev pub outside : Option Files → ℕ → Option (List ℕ) → ℕ → Outside
outside files store_faults out out_faults = record { files = files; store_faults = store_faults; out = out; out_faults = out_faults }

-- the words ask for nothing
abbrev pub AskNothing : List (List ℕ) → Type 0
AskNothing words = (request : Request) → IsRequest words request → ⊥

-- what a program of these literals means: their numbers in order, each in decimal
abbrev pub meaning : List Literal → List ℕ
meaning literals = flat_map (λ literal. signed_decimal (value_of literal)) literals

-- the store has the unit, and its text is the program of these literals, and nothing else
pub record HasProgram (files : Option Files) (main unit : List ℕ) (literals : List Literal) : Type 0 where
  pub text : List ℕ
  pub found : Finds files unit (Some text)
  pub read : IsOnlyProgram main text literals

-- the store has the unit, and its text is refused so, and not otherwise
pub record HasRefusal (files : Option Files) (main unit : List ℕ) (refusal : Refusal) : Type 0 where
  pub text : List ℕ
  pub found : Finds files unit (Some text)
  pub read : IsOnlyRefusal main text refusal

-- the class file was put, and a front part of the program's meaning was written
pub record HasBegun (main unit : List ℕ) (old new : Outside) : Type 0 where
  pub literals : List Literal
  pub program : HasProgram old.files main unit literals
  pub bytes : List ℕ
  pub files : new.files ≡ put_known old.files (class_file_name main) bytes
  pub store_faults : new.store_faults ≡ old.store_faults
  pub out : AppendsFront old.out new.out (meaning literals)

-- What `go M U` did. Done: the class file was put, and the program's meaning was written.
abbrev pub Did : List ℕ → List ℕ → Outside → Outside → Ending → Type 0
Did main unit old new Done =
    (literals : List Literal) × HasProgram old.files main unit literals
    × (bytes : List ℕ) × (new ≡ record old { files = put_known old.files (class_file_name main) bytes; out = append_known old.out (meaning literals) })
Did main unit old new NoCommand = ⊥
Did main unit old new (Refused refusal) = HasRefusal old.files main unit refusal × (new ≡ old)
Did main unit old new Missing = Finds old.files unit None × (new ≡ old)
Did main unit old new UnitFault = Rose old.store_faults new.store_faults × (new ≡ record old { store_faults = new.store_faults })
Did main unit old new ClassFault =
    (literals : List Literal) × HasProgram old.files main unit literals
    × OthersStay old.files new.files (class_file_name main) × Rose old.store_faults new.store_faults
    × (new ≡ record old { files = new.files; store_faults = new.store_faults })
Did main unit old new OutputFault = HasBegun main unit old new × Rose old.out_faults new.out_faults
Did main unit old new OutOfMemory = (new ≡ old) ⊎ (HasBegun main unit old new × (new.out_faults ≡ old.out_faults))

-- How a command ended: the words ask for nothing, or for a run that did so.
abbrev pub Ended : List (List ℕ) → List ℕ → List ℕ → Outside → Outside → Ending → Type 0
Ended words main unit old new NoCommand = AskNothing words × (new ≡ old)
Ended words main unit old new Done = IsRequest words (Go main unit) × Did main unit old new Done
Ended words main unit old new (Refused refusal) = IsRequest words (Go main unit) × Did main unit old new (Refused refusal)
Ended words main unit old new Missing = IsRequest words (Go main unit) × Did main unit old new Missing
Ended words main unit old new UnitFault = IsRequest words (Go main unit) × Did main unit old new UnitFault
Ended words main unit old new ClassFault = IsRequest words (Go main unit) × Did main unit old new ClassFault
Ended words main unit old new OutputFault = IsRequest words (Go main unit) × Did main unit old new OutputFault
Ended words main unit old new OutOfMemory = IsRequest words (Go main unit) × Did main unit old new OutOfMemory

-- A whole answer of the program: how the command that the words ask for ended, and what was reported.
pub record Answers (words : List (List ℕ)) (old new : Outside) (status : ℕ) (taken taken' : Option (List ℕ)) (faults faults' : ℕ) : Type 0 where
  pub ending : Ending
  pub main : List ℕ
  pub unit : List ℕ
  pub ended : Ended words main unit old new ending
  pub reports : Reports ending main unit status taken taken' faults faults'
