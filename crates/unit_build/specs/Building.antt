-- What is built of the text of a unit.
use Rattle.std.specs.Prelude.{◌≡◌, ◌⊎◌, true, false, ℕ, List, map, string_bytes, Result, Ok, Err}
use Rattle.class_form.specs.declared.class_file.ClassFile.{ClassFile}
use Rattle.jp_pred.specs.Names.{Word}
use Rattle.jp_ast.specs.declared.token.Place.{Place}
use Rattle.jp_ast.specs.declared.decl.SourceUnit.{SourceUnit}
use Rattle.jp_meaning.specs.declared.unit.TypedUnit.{TypedUnit}
use Rattle.jp_meaning.specs.declared.unit.TypedClass.{TypedClass}
use Rattle.jp_meaning.specs.Classes.{hier_in}
use Rattle.plain_form.specs.Main.{has_main}
use Rattle.unit_faults.specs.declared.refusal.Refusal.{Refusal}
use Rattle.unit_faults.specs.declared.refusal.Refusal.TheVariants.{NotYet, Lex, Syntax, TooLarge, «Type» as TypeFault}
use Rattle.unit_check.specs.Texts.{IsSound, IsRefused}
use Rattle.unit_check.specs.declared.fault.CheckErr.{CheckErr}
use Rattle.unit_check.specs.declared.fault.CheckErr.TheVariants as checker
use Rattle.unit_build.specs.declared.fault.BuildErr.{BuildErr}
use Rattle.unit_build.specs.declared.fault.BuildErr.TheVariants.{Refused, OutOfMemory}
use Rattle.unit_build.specs.declared.building.Built.{Built}
use Rattle.unit_build.specs.Form.{HasForm, IsLack, first_name}
use Rattle.unit_build.specs.Files.{AreCompiled, AreFlagged, AreFormed}

-- WHAT A TEXT IS

-- The text is a unit that breaks no rule, and has the form and a class of this name; its resolved tree is this
pub record IsPlainText (main : Word) (text : List ℕ) (unit : SourceUnit) (tree : TypedUnit) : Type 0 where
  pub sound : IsSound text unit tree
  pub form : HasForm unit main

-- and that class has a `main`
pub record IsProgramText (main : Word) (text : List ℕ) (unit : SourceUnit) (tree : TypedUnit) : Type 0 where
  pub is : IsPlainText main text unit tree
  pub main_there : has_main unit main ≡ true

-- or it has none
pub record HasNoMain (main : Word) (text : List ℕ) (unit : SourceUnit) (tree : TypedUnit) : Type 0 where
  pub is : IsPlainText main text unit tree
  pub no_main : has_main unit main ≡ false

-- The text is a unit that breaks no rule and can't be run yet: it lacks the form at this place; or a class file of it can't be
-- written, of which nothing is said
pub record IsNotYet (main : Word) (text : List ℕ) (place : Place) : Type 0 where
  pub unit : SourceUnit
  pub tree : TypedUnit
  pub sound : IsSound text unit tree
  pub lack : IsLack unit main place ⊎ (HasForm unit main × (place ≡ first_name unit))

-- WHAT IS BUILT

-- the files are those of the classes, in their order, and the names theirs
pub record IsBuilt (classes : List TypedClass) (names : List Word) (files : List ClassFile) : Type 0 where
  pub named : names ≡ map (λ c. c.head.name) classes
  pub compiled : AreCompiled (hier_in classes) classes files
  pub flagged : AreFlagged classes files
  pub formed : AreFormed files

-- the text is refused so
abbrev pub IsRefusal : Word → List ℕ → Refusal → Type 0
IsRefusal main text (NotYet place) = IsRefused text (NotYet place) ⊎ IsNotYet main text place
IsRefusal main text (Lex fault) = IsRefused text (Lex fault)
IsRefusal main text (Syntax fault) = IsRefused text (Syntax fault)
IsRefusal main text (TooLarge over) = IsRefused text (TooLarge over)
IsRefusal main text (TypeFault fault) = IsRefused text (TypeFault fault)

-- the class files, and whether the class has a `main`; or why there are none, of which nothing is said where memory is wanting
abbrev pub Builds : Word → List ℕ → Result Built BuildErr → Type 0
Builds main text (Ok built) =
    (unit : SourceUnit) × (tree : TypedUnit) × IsPlainText main text unit tree
    × IsBuilt tree.classes (map string_bytes built.names) built.files × (built.has_main ≡ has_main unit main)
Builds main text (Err (Refused why)) = IsRefusal main text why
Builds main text (Err OutOfMemory) = Unit {0}

-- what the checker tells
abbrev pub of_check_err : CheckErr → BuildErr
of_check_err (checker.Refused why) = Refused why
of_check_err checker.OutOfMemory = OutOfMemory
