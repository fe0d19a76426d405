-- Implication of guards over all universes that extend a hierarchy.
use Rattle.std.specs.Prelude.{◌≡◌, List, [], ◌∷◌, ◌++◌, map, true, false}
use Rattle.jp_pred.specs.declared.hier.Hier.{Hier}
use Rattle.jp_pred.specs.declared.ty.Ty.{Ty}
use Rattle.jp_pred.specs.declared.ty.Ty.TheVariants as ty
use Rattle.jp_pred.specs.declared.path.Path.{Path}
use Rattle.jp_pred.specs.declared.shape.Shape.{Shape}
use Rattle.jp_pred.specs.declared.guard.Guard.{Guard, Guard-F, fold-Guard}
use Rattle.jp_pred.specs.declared.guard.Guard.TheOpen as layer
use Rattle.jp_pred.specs.declared.guard.Atom.{Atom}
use Rattle.jp_pred.specs.declared.guard.Atom.TheVariants as atom
use Rattle.jp_pred.specs.Names.{object}
use Rattle.jp_pred.specs.Universe.{Extends}
use Rattle.jp_pred.specs.Truth.{is_true}
use Rattle.jp_pred.specs.Shapes.{IsShape}

-- the paths that an atom names
abbrev pub atom_paths : Atom → List Path
atom_paths (atom.Is path t) = path ∷ []
atom_paths (atom.Row row) = map (λ t. t.path) row.terms

-- those of the parts
abbrev pub paths_step : Guard-F (List Path) → List Path
paths_step layer.True = []
paths_step layer.False = []
paths_step (layer.And left right) = left ++ right
paths_step (layer.Or left right) = left ++ right
paths_step (layer.Not inner) = inner
paths_step (layer.Atom a) = atom_paths a

-- the paths that a guard names
abbrev pub paths_of : Guard → List Path
paths_of = fold-Guard (List Path) paths_step

-- the types of the roots in an implication: Object for the receiver, then the parameters'
abbrev pub root_types : List Ty → List Ty
root_types parameters = ty.Class object ∷ parameters

-- on every shape of every universe that extends the hierarchy, where g is true h is true
abbrev pub Implies : Hier → List Ty → Guard → Guard → Type 0
Implies hier parameters g h = (universe : Hier) (shape : Shape) → Extends universe hier → IsShape universe (root_types parameters) (paths_of g ++ paths_of h) shape →
    is_true universe shape g ≡ true → is_true universe shape h ≡ true

-- a shape of the hierarchy itself on which the first guard is true and the second isn't
pub record Refuted (hier : Hier) (parameters : List Ty) (g h : Guard) : Type 0 where
  pub shape : Shape
  pub over : IsShape hier (root_types parameters) (paths_of g ++ paths_of h) shape
  pub first : is_true hier shape g ≡ true
  pub second : is_true hier shape h ≡ false
