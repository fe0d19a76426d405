-- What single statuses say.
use Rattle.std.specs.Prelude.{◌≡◌, ◌⊎◌, ℕ, List, Option, Some, None}
use Rattle.std.specs.Io.KnownBytes.{append_known}
use Rattle.jp_outside.specs.Files.{Files, Finds}
use Rattle.print_form.specs.declared.literal.Literal.{Literal}
use Rattle.cli_text.specs.declared.refusal.Refusal.{Refusal}
use Rattle.cli_text.specs.declared.ending.Ending.{Ending}
use Rattle.cli_text.specs.declared.ending.Ending.TheVariants.{Refused}
use Rattle.cli_text.specs.Words.{Go, IsRequest}
use Rattle.cli_text.specs.Programs.{IsProgramText, IsRefusal, SameRefusal}
use Rattle.cli_text.specs.Lines.{status_of, line, line_of, usage}
use Rattle.jpred_cli.specs.Outcome.{Outside, AskNothing, Did}

-- the status is one that an ending has
abbrev pub IsStatus : ℕ → Type 0
IsStatus status = (ending : Ending) × (status ≡ status_of ending)

-- the words ask for a run, which ended so
abbrev pub WentSo : List (List ℕ) → Outside → Outside → Ending → Type 0
WentSo words old new ending = (main : List ℕ) × (unit : List ℕ) × IsRequest words (Go main unit) × Did main unit old new ending

-- the words ask for nothing, nothing was done, and the usage was written
abbrev pub ShowsUsage : List (List ℕ) → Outside → Outside → Option (List ℕ) → Option (List ℕ) → Type 0
ShowsUsage words old new taken taken' = AskNothing words × (new ≡ old) × (taken' ≡ append_known taken (line usage))

-- the words ask for a run of a unit, which was refused, and the refusal's line was written
pub record WasRefused (words : List (List ℕ)) (old new : Outside) (taken taken' : Option (List ℕ)) : Type 0 where
  pub main : List ℕ
  pub unit : List ℕ
  pub refusal : Refusal
  pub asked : IsRequest words (Go main unit)
  pub did : Did main unit old new (Refused refusal)
  pub written : taken' ≡ append_known taken (line_of (Refused refusal) main unit)

-- the words ask for a run, and the store tells what it finds under the unit's name
pub record AsksFor (words : List (List ℕ)) (known : Option Files) (main unit : List ℕ) (found : Option (List ℕ)) : Type 0 where
  pub files : Files
  pub told : known ≡ Some files
  pub asked : IsRequest words (Go main unit)
  pub finds : Finds (Some files) unit found

-- A program of the form is run, unless a device fails or memory is wanting.
abbrev pub RunsPrograms : List (List ℕ) → Option Files → ℕ → Type 0
RunsPrograms words known status =
    (main unit text : List ℕ) (literals : List Literal) → AsksFor words known main unit (Some text) → IsProgramText main text literals
    → (status ≡ 0) ⊎ (status ≡ 8) ⊎ (status ≡ 9) ⊎ (status ≡ 12)

-- A text that is no program of the form is refused, unless a device fails or memory is wanting.
abbrev pub RefusesOthers : List (List ℕ) → Option Files → ℕ → Type 0
RefusesOthers words known status =
    (main unit text : List ℕ) → AsksFor words known main unit (Some text) → ((literals : List Literal) → IsProgramText main text literals → ⊥)
    → (status ≡ 3) ⊎ (status ≡ 8) ⊎ (status ≡ 9) ⊎ (status ≡ 12)

-- The line of this refusal was written, with any place for a unit that can't be run yet.
pub record ShowsRefusal (refusal : Refusal) (main unit : List ℕ) (status : ℕ) (taken taken' : Option (List ℕ)) : Type 0 where
  pub shown : Refusal
  pub same : SameRefusal shown refusal
  pub status_is : status ≡ 3
  pub written : taken' ≡ append_known taken (line_of (Refused shown) main unit)

-- A text with a lexical fault, a text whose tokens are no unit, and a unit that is no program of the form are each refused
-- with their own line, unless a device fails or memory is wanting.
abbrev pub ShowsRefusals : List (List ℕ) → Option Files → ℕ → Option (List ℕ) → Option (List ℕ) → Type 0
ShowsRefusals words known status taken taken' =
    (main unit text : List ℕ) (refusal : Refusal) → AsksFor words known main unit (Some text) → IsRefusal main text refusal
    → ShowsRefusal refusal main unit status taken taken' ⊎ (status ≡ 8) ⊎ (status ≡ 9) ⊎ (status ≡ 12)

-- A unit that isn't there is missed, unless a device fails or memory is wanting.
abbrev pub MissesUnits : List (List ℕ) → Option Files → ℕ → Type 0
MissesUnits words known status =
    (main unit : List ℕ) → AsksFor words known main unit None
    → (status ≡ 6) ⊎ (status ≡ 8) ⊎ (status ≡ 9) ⊎ (status ≡ 12)
