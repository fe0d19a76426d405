-- Which body a call runs.
use Rattle.std.specs.Prelude.{ℕ, List}
use Rattle.jp_pred.specs.declared.ty.Ty.{Ty}
use Rattle.jp_pred.specs.declared.hier.Hier.{Hier}
use Rattle.jp_pred.specs.declared.shape.Shape.{Shape}
use Rattle.jp_pred.specs.Selection.{Body, Applies, Selected}

-- a chain with the types of its parameters, and the shape of a state
pub record Question : Type 0 where
  pub parameters : List Ty
  pub chain : List Body
  pub shape : Shape

-- the body that is selected, by its position in the chain; or none, because none is true, or because none of those that
-- are true beats all others
pub data Choice : Type 0 where
  Selects : ℕ → Choice
  NoneIsTrue : Choice
  NoneIsBest : Choice

-- the choice is what selection says of the question
abbrev pub IsChoice : Hier → Question → Choice → Type 0
IsChoice hier q (Selects i) = Selected hier q.parameters hier q.shape q.chain i
IsChoice hier q NoneIsTrue = (i : ℕ) → Applies hier q.shape q.chain i → ⊥
IsChoice hier q NoneIsBest =
    ((i : ℕ) × Applies hier q.shape q.chain i) × ((i : ℕ) → Selected hier q.parameters hier q.shape q.chain i → ⊥)

-- each answer is what selection says
abbrev pub IsSelection : Hier → (Question → Choice) → Type 0
IsSelection hier select = (q : Question) → IsChoice hier q (select q)
