-- Beating among the bodies of a chain, and the body that is selected on a shape.
use Rattle.std.specs.Prelude.{◌≡◌, ◌≢◌, ℕ, List, Some, slice_get, true, ◌⊎◌}
use Rattle.jp_pred.specs.declared.hier.Hier.{Hier}
use Rattle.jp_pred.specs.declared.ty.Ty.{Ty}
use Rattle.jp_pred.specs.declared.ty.Ty.TheVariants as ty
use Rattle.jp_pred.specs.declared.shape.Shape.{Shape}
use Rattle.jp_pred.specs.declared.guard.Guard.{Guard}
use Rattle.jp_pred.specs.declared.guard.Guard.TheVariants as guard
use Rattle.jp_pred.specs.declared.guard.Atom.TheVariants as atom
use Rattle.jp_pred.specs.Names.{Word}
use Rattle.jp_pred.specs.Paths.{this}
use Rattle.jp_pred.specs.Truth.{is_true}
use Rattle.jp_pred.specs.Shapes.{AreTyped}
use Rattle.jp_pred.specs.Implication.{Implies, paths_of, root_types}

-- a body of a chain: the class that declares it, and its guard
abbrev pub Body : Type 0
Body = Word × Guard

-- the guard of a body with the test that the receiver is of its class
abbrev pub whole_guard : Body → Guard
whole_guard body = guard.And (guard.Atom (atom.Is this (ty.Class body.0))) body.1

-- the guard of the first, with its class, implies that of the second, and not the other way round
pub record Beats (hier : Hier) (parameters : List Ty) (first second : Body) : Type 0 where
  pub implies : Implies hier parameters (whole_guard first) (whole_guard second)
  pub strictly : Implies hier parameters (whole_guard second) (whole_guard first) → ⊥

-- body i of the chain is there and its guard is true on the shape, whatever its class is
pub record Applies (universe : Hier) (shape : Shape) (chain : List Body) (i : ℕ) : Type 0 where
  pub body : Body
  pub at : slice_get chain i ≡ Some body
  pub true_there : is_true universe shape body.1 ≡ true

-- body i of the chain is true on the shape, and beats every other body that is true on it
pub record Selected (hier : Hier) (parameters : List Ty) (universe : Hier) (shape : Shape) (chain : List Body) (i : ℕ) : Type 0 where
  pub applies : Applies universe shape chain i
  pub beats : (j : ℕ) (other : Applies universe shape chain j) → j ≢ i → Beats hier parameters applies.body other.body

-- some body that is true on the shape beats both
pub record BeatsBoth (hier : Hier) (parameters : List Ty) (universe : Hier) (shape : Shape) (chain : List Body) (first second : Body) : Type 0 where
  pub index : ℕ
  pub applies : Applies universe shape chain index
  pub over_first : Beats hier parameters applies.body first
  pub over_second : Beats hier parameters applies.body second

-- one of two bodies beats the other, or some body that is true on the shape beats both
abbrev pub Settles : Hier → List Ty → Hier → Shape → List Body → Body → Body → Type 0
Settles hier parameters universe shape chain first second =
    Beats hier parameters first second ⊎ (Beats hier parameters second first ⊎ BeatsBoth hier parameters universe shape chain first second)

-- the paths of the bodies' guards have types
abbrev pub AreTypedBodies : Hier → List Ty → List Body → Type 0
AreTypedBodies hier parameters chain = (i : ℕ) (body : Body) → slice_get chain i ≡ Some body → AreTyped hier (root_types parameters) (paths_of (whole_guard body))
