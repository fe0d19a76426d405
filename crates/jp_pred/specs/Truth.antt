-- Truth of guards on shapes: two values, and false for each atom that names an undefined path.
use Rattle.std.specs.Prelude.{ℕ, length, max, int_le, List, [], ◌∷◌, Bool, true, false, cond, not, ◌&&◌, ◌||◌, Option, Some, None, option_and_then, ℤ, pos, ◌+ℤ◌, ◌*ℤ◌}
use Rattle.std.specs.List.{list_any}
use Rattle.jp_pred.specs.declared.guard.Guard.{Guard, Guard-F, fold-Guard}
use Rattle.jp_pred.specs.declared.guard.Guard.TheOpen as layer
use Rattle.jp_pred.specs.declared.guard.Atom.{Atom}
use Rattle.jp_pred.specs.declared.guard.Atom.TheVariants as atom
use Rattle.jp_pred.specs.declared.guard.Term.{Term}
use Rattle.jp_pred.specs.declared.shape.Kind.{Kind}
use Rattle.jp_pred.specs.declared.shape.Kind.TheVariants as kind
use Rattle.jp_pred.specs.declared.shape.Shape.{Shape}
use Rattle.jp_pred.specs.declared.ty.Ty.{Ty}
use Rattle.jp_pred.specs.declared.ty.Ty.TheVariants as ty
use Rattle.jp_pred.specs.declared.path.Path.{Path}
use Rattle.jp_pred.specs.declared.hier.Hier.{Hier}
use Rattle.jp_pred.specs.Names.{Word}
use Rattle.jp_pred.specs.Hierarchy.{is_below}
use Rattle.jp_pred.specs.Kinds.{is_array}
use Rattle.jp_pred.specs.Paths.{same_path}

-- And, Or and Not over the truth of their parts, with a truth of each atom
abbrev pub truth_step : (Atom → Bool) → Guard-F Bool → Bool
truth_step value layer.True = true
truth_step value layer.False = false
truth_step value (layer.And left right) = left && right
truth_step value (layer.Or left right) = left || right
truth_step value (layer.Not inner) = not inner
truth_step value (layer.Atom a) = value a

-- the truth of a guard, given the truth of its atoms
abbrev pub truth : (Atom → Bool) → Guard → Bool
truth value = fold-Guard Bool (truth_step value)

-- some of the names is below the type, which names a class or an interface
abbrev pub some_below : Hier → List Word → Ty → Bool
some_below hier names (ty.Class c) = list_any (λ n. is_below hier n c) names
some_below hier names _ = false

-- the kind isn't null and is below the type
abbrev pub kind_below : Hier → Kind → Ty → Bool
kind_below hier kind.Null t = false
kind_below hier kind.Array t = is_array t
kind_below hier (kind.Known name) t = some_below hier (name ∷ []) t
kind_below hier (kind.Fresh superclass interfaces) t = some_below hier (superclass ∷ interfaces) t

-- the first entry of a path; none where the path is undefined
abbrev pub entry_of : {X : Type 0} → Path → List (Path × X) → Option X
entry_of path [] = None
entry_of path (e ∷ es) = cond (same_path e.0 path) (Some e.1) (entry_of path es)

-- a class test: there is an entry, which isn't null and is below the type
abbrev pub is_of : Hier → Ty → Option Kind → Bool
is_of hier t None = false
is_of hier t (Some kind) = kind_below hier kind t

-- a total and the terms, summed on whole numbers, where all their paths have entries
abbrev pub sum_from : List (Path × ℤ) → ℤ → List Term → Option ℤ
sum_from ints total [] = Some total
sum_from ints total (t ∷ ts) = option_and_then (λ value. sum_from ints (total +ℤ t.coefficient *ℤ value) ts) (entry_of t.path ints)

-- the sum of the terms
abbrev pub sum_of : List (Path × ℤ) → List Term → Option ℤ
sum_of ints terms = sum_from ints (pos 0) terms

-- there is a sum, which is at most the bound
abbrev pub at_most : ℤ → Option ℤ → Bool
at_most bound None = false
at_most bound (Some total) = int_le total bound

-- the truth of an atom on a shape
abbrev pub atom_holds : Hier → Shape → Atom → Bool
atom_holds hier shape (atom.Is path t) = is_of hier t (entry_of path shape.refs)
atom_holds hier shape (atom.Row row) = at_most row.bound (sum_of shape.ints row.terms)

-- the truth of a guard on a shape
abbrev pub is_true : Hier → Shape → Guard → Bool
is_true hier shape = truth (atom_holds hier shape)

-- the number of terms of an atom
abbrev pub row_length : Atom → ℕ
row_length (atom.Is path t) = 0
row_length (atom.Row row) = length row.terms

-- the larger of the parts' numbers
abbrev pub longest_step : Guard-F ℕ → ℕ
longest_step layer.True = 0
longest_step layer.False = 0
longest_step (layer.And left right) = max left right
longest_step (layer.Or left right) = max left right
longest_step (layer.Not inner) = inner
longest_step (layer.Atom a) = row_length a

-- the number of terms of the longest row of a guard
abbrev pub longest : Guard → ℕ
longest = fold-Guard ℕ longest_step
