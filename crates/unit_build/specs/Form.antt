-- Which units have the form of those whose classes can be written yet, with a class of some name, and where others lack it.
use Rattle.std.specs.Prelude.{◌≡◌, Bool, true, false, not, ◌&&◌, ◌⊎◌, List, [], ◌∷◌, Some, Result, Ok, Err}
use Rattle.std.specs.List.{list_any}
use Rattle.jp_pred.specs.Names.{Word, same}
use Rattle.jp_ast.specs.declared.token.Place.{Place}
use Rattle.jp_ast.specs.declared.decl.Decl.{Decl}
use Rattle.jp_ast.specs.declared.decl.SourceUnit.{SourceUnit}
use Rattle.plain_form.specs.Forms.{IsPlain, lacks}
use Rattle.plain_form.specs.Places.{first_place}

-- a class, not an interface, of that name
abbrev pub is_class_called : Word → Decl → Bool
is_class_called name d = not d.is_interface && same d.name name

abbrev pub declares_class : SourceUnit → Word → Bool
declares_class unit name = list_any (is_class_called name) unit.decls

-- where the name of the first declaration stands; a unit that is read has one
abbrev pub first_name_in : List Decl → Place
first_name_in [] = record { line = 1; col = 1 }
first_name_in (d ∷ ds) = d.place

abbrev pub first_name : SourceUnit → Place
first_name unit = first_name_in unit.decls

-- The unit has no guards and no two bodies of one family, and a class of that name
pub record HasForm (unit : SourceUnit) (main : Word) : Type 0 where
  pub plain : IsPlain unit
  pub class : declares_class unit main ≡ true

-- a unit without guards and without two bodies of one family, that has no class of that name
pub record LacksClass (unit : SourceUnit) (main : Word) : Type 0 where
  pub plain : IsPlain unit
  pub no_class : declares_class unit main ≡ false

-- this is the first place of the unit that can't be run yet: a guard, or the name of a body behind another of its family; or the
-- first name, where there is no class of the name that is asked for
abbrev pub IsLack : SourceUnit → Word → Place → Type 0
IsLack unit main place = (first_place (lacks unit) ≡ Some place) ⊎ (LacksClass unit main × (place ≡ first_name unit))

-- the unit has the form, or lacks it at this place
abbrev pub Suits : SourceUnit → Word → Result (Unit {0}) Place → Type 0
Suits unit main (Ok done) = HasForm unit main
Suits unit main (Err place) = IsLack unit main place
