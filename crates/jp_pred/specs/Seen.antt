-- The classes that guards and types name, and whether a hierarchy has them.
use Rattle.std.specs.Prelude.{List, [], ◌∷◌, ◌++◌, map, flat_map}
use Rattle.jp_pred.specs.declared.hier.Hier.{Hier}
use Rattle.jp_pred.specs.declared.ty.Ty.{Ty}
use Rattle.jp_pred.specs.declared.ty.Ty.TheVariants as ty
use Rattle.jp_pred.specs.declared.path.Path.{Path}
use Rattle.jp_pred.specs.declared.guard.Guard.{Guard, Guard-F, fold-Guard}
use Rattle.jp_pred.specs.declared.guard.Guard.TheOpen as layer
use Rattle.jp_pred.specs.declared.guard.Atom.{Atom}
use Rattle.jp_pred.specs.declared.guard.Atom.TheVariants as atom
use Rattle.jp_pred.specs.Names.{Word, In}
use Rattle.jp_pred.specs.Universe.{IsSeen}
use Rattle.jp_pred.specs.Implication.{root_types}

-- the class that a type names, itself or of its elements
abbrev pub type_names : Ty → List Word
type_names (ty.Class name) = name ∷ []
type_names (ty.ClassArray name) = name ∷ []
type_names _ = []

-- the classes of a path's steps
abbrev pub step_names : Path → List Word
step_names path = map (λ s. s.class) path.steps

-- the classes that an atom names: those of its paths' steps, and that of a type which it tests for
abbrev pub atom_names : Atom → List Word
atom_names (atom.Is path t) = step_names path ++ type_names t
atom_names (atom.Row row) = flat_map (λ t. step_names t.path) row.terms

-- those of the parts
abbrev pub names_step : Guard-F (List Word) → List Word
names_step layer.True = []
names_step layer.False = []
names_step (layer.And left right) = left ++ right
names_step (layer.Or left right) = left ++ right
names_step (layer.Not inner) = inner
names_step (layer.Atom a) = atom_names a

-- the classes that a guard names
abbrev pub names_of : Guard → List Word
names_of = fold-Guard (List Word) names_step

-- the hierarchy has every class that the types of the roots and the guards name
abbrev pub AreSeen : Hier → List Ty → List Guard → Type 0
AreSeen hier parameters guards = (name : Word) → In name (flat_map type_names (root_types parameters) ++ flat_map names_of guards) → IsSeen hier name
