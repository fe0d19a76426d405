-- Paths: when two are the same, their order, and their prefixes.
use Rattle.std.specs.Prelude.{◌≡◌, ◌≢◌, ℕ, nat_eq, List, [], ◌∷◌, ◌++◌, map, Bool, pos}
use Rattle.std.specs.declared.cmp.Ordering.{Ordering}
use Rattle.std.specs.declared.cmp.Ordering.TheVariants as order
use Rattle.std.specs.Ordering.{nat_cmp, on, then_cmp, eq_of_both, eq_by_cmp}
use Rattle.std.specs.Cmp.{both_tied, unsigned_ties}
use Rattle.std.specs.Cmp.Lexicographic.{pointwise, slice_cmp, texts_ties, lists_ties}
use Rattle.jp_pred.specs.declared.path.Path.{Path}
use Rattle.jp_pred.specs.declared.path.PathStep.{PathStep}
use Rattle.jp_pred.specs.declared.guard.Row.{Row}
use Rattle.jp_pred.specs.declared.guard.Term.{Term}
use Rattle.jp_pred.specs.Names.{same, In}

-- two steps name the same field of the same class
abbrev pub same_step : PathStep → PathStep → Bool
same_step = eq_of_both (on (λ s. s.class) same) (on (λ s. s.field) same)

-- two paths have the same root and the same steps
abbrev pub same_path : Path → Path → Bool
same_path = eq_of_both (on (λ p. p.root) nat_eq) (on (λ p. p.steps) (pointwise same_step))

-- steps in the order of their classes' bytes, then of their fields'
abbrev pub step_cmp : PathStep → PathStep → Ordering
step_cmp = then_cmp (on (λ s. s.class) (slice_cmp nat_cmp)) (on (λ s. s.field) (slice_cmp nat_cmp))

-- path order: by roots, then step by step, a prefix first
abbrev pub path_cmp : Path → Path → Ordering
path_cmp = then_cmp (on (λ p. p.root) nat_cmp) (on (λ p. p.steps) (slice_cmp step_cmp))

-- the order answers Equal exactly where two steps are the same
pub step_ties : (s t : PathStep) → same_step s t ≡ eq_by_cmp step_cmp s t
step_ties s t = both_tied (same s.class t.class) (same s.field t.field) (slice_cmp nat_cmp s.class t.class) (slice_cmp nat_cmp s.field t.field)
    (texts_ties s.class t.class) (texts_ties s.field t.field)

-- and exactly where two paths are
pub path_ties : (p q : Path) → same_path p q ≡ eq_by_cmp path_cmp p q
path_ties p q = both_tied (nat_eq p.root q.root) (pointwise same_step p.steps q.steps) (nat_cmp p.root q.root) (slice_cmp step_cmp p.steps q.steps)
    (unsigned_ties p.root q.root) (lists_ties step_cmp step_ties p.steps q.steps)

-- the terms stand in path order, no path twice
abbrev pub AreAscending : List Term → Type 0
AreAscending [] = Unit {0}
AreAscending (t ∷ ts) = ((u : Term) → In u ts → path_cmp t.path u.path ≡ order.Less) × AreAscending ts

-- a row's terms have distinct paths in path order, and no coefficient is 0
pub record IsRow (row : Row) : Type 0 where
  pub ascending : AreAscending row.terms
  pub counted : (t : Term) → In t row.terms → t.coefficient ≢ pos 0

-- the path without steps
abbrev pub root_path : ℕ → Path
root_path root = record { root = root; steps = [] }

-- the receiver
abbrev pub this : Path
this = root_path 0

-- one step further
abbrev pub extend : Path → PathStep → Path
extend path s = record { root = path.root; steps = path.steps ++ s ∷ [] }

-- the beginnings of a list, from the empty one to the whole
abbrev pub beginnings : {X : Type 0} → List X → List (List X)
beginnings [] = [] ∷ []
beginnings (x ∷ xs) = [] ∷ map (λ ys. x ∷ ys) (beginnings xs)

-- a path and all its prefixes
abbrev pub prefixes_of : Path → List Path
prefixes_of path = map (λ steps. record { root = path.root; steps = steps }) (beginnings path.steps)

-- the paths of a list and all their prefixes
abbrev pub prefixes : List Path → List Path
prefixes [] = []
prefixes (p ∷ ps) = prefixes_of p ++ prefixes ps
