-- What selection says of the chains of a unit of the plain form.
use Rattle.std.specs.Prelude.{◌≡◌, true, List, [], ◌∷◌}
use Rattle.std.specs.List.{list_all}
use Rattle.jp_pred.specs.declared.shape.Shape.{Shape}
use Rattle.jp_pred.specs.Names.{Word}
use Rattle.jp_pred.specs.Selection.{Body}
use Rattle.jp_ast.specs.declared.decl.SourceUnit.{SourceUnit}
use Rattle.jp_meaning.specs.declared.unit.TypedUnit.{TypedUnit}
use Rattle.jp_meaning.specs.Choice.{Question, Choice, Selects, NoneIsTrue, IsChoice}
use Rattle.jp_meaning.specs.Classes.{hier_in, chain_of}
use Rattle.jp_meaning.specs.Does.{Method}
use Rattle.jp_meaning.specs.Run.{Program}
use Rattle.whole_program.specs.Right.{question_in}
use Rattle.typed_fits.specs.Laws.{has_plain_names}
use Rattle.unit_laws.specs.Laws.{has_ordinary_methods, IsProgramOf, has_own_fields, is_open_interface, SelectsInChains}
use Rattle.plain_form.specs.Forms.{HasNoGuards, HasLoneBodies}

-- the first of some bodies, where there is one
abbrev pub first_of : List Body → Choice
first_of [] = NoneIsTrue
first_of (body ∷ more) = Selects 0

-- the first body of the chain
abbrev pub nearest : Question → Choice
nearest q = first_of q.chain

-- it holds of each program of a unit of the plain form that has no fault, names no class of another unit in its fields, and
-- has names as those that are read from a text
abbrev pub InPlainUnits : (Program → Type 0) → Type 0
InPlainUnits Holds =
    (unit : SourceUnit) (tree : TypedUnit) (p : Program) → IsProgramOf unit tree p →
    HasNoGuards unit →
    HasLoneBodies unit →
    list_all has_plain_names unit.decls ≡ true →
    list_all has_ordinary_methods unit.decls ≡ true →
    list_all is_open_interface unit.decls ≡ true →
    list_all (has_own_fields unit.decls) unit.decls ≡ true →
    Holds p

-- the nearest is what selection says of a chain
abbrev pub NearestIsBest : Type 0
NearestIsBest = InPlainUnits (λ p.
    (m : Method) (class : Word) (shape : Shape) → let q : Question = question_in (chain_of p.classes m class) shape in IsChoice (hier_in p.classes) q (nearest q))

-- so a program that selects the nearest selects what it should
abbrev pub NearestSelects : Type 0
NearestSelects = InPlainUnits (λ p. p.select ≡ nearest → SelectsInChains p)
