-- Shapes over root types, a universe and a set of paths.
use Rattle.std.specs.Prelude.{◌≡◌, ◌≢◌, ℕ, List, [], ◌∷◌, cond, Option, Some, None, option_and_then, ◌⊎◌, ℤ, pos, IsSome, FitsSigned, slice_get, map}
use Rattle.std.specs.Int.{w32}
use Rattle.jp_pred.specs.declared.hier.Hier.{Hier}
use Rattle.jp_pred.specs.declared.shape.Kind.{Kind}
use Rattle.jp_pred.specs.declared.ty.Ty.{Ty}
use Rattle.jp_pred.specs.declared.ty.Ty.TheVariants as ty
use Rattle.jp_pred.specs.declared.path.Path.{Path}
use Rattle.jp_pred.specs.declared.path.PathStep.{PathStep}
use Rattle.jp_pred.specs.declared.shape.Shape.{Shape}
use Rattle.jp_pred.specs.Names.{Word, same, In, AreDistinct}
use Rattle.jp_pred.specs.Hierarchy.{class_named}
use Rattle.jp_pred.specs.Kinds.{IsOf, IsKind, Conforms}
use Rattle.jp_pred.specs.Paths.{root_path, extend, prefixes}
use Rattle.jp_pred.specs.Truth.{entry_of}

-- the type of a field
abbrev pub field_type : Word → List (Word × Ty) → Option Ty
field_type name [] = None
field_type name (f ∷ fs) = cond (same f.0 name) (Some f.1) (field_type name fs)

-- the declared type behind some steps from a value of a type
abbrev pub steps_type : Hier → Ty → List PathStep → Option Ty
steps_type hier t [] = Some t
steps_type hier t (s ∷ ss) = option_and_then (λ c. option_and_then (λ u. steps_type hier u ss) (field_type s.field c.fields)) (class_named s.class hier.classes)

-- the declared type of a path
abbrev pub path_type : Hier → List Ty → Path → Option Ty
path_type hier roots path = option_and_then (λ t. steps_type hier t path.steps) (slice_get roots path.root)

-- the path has a declared type, which is that of a value
abbrev pub IsTyped : Hier → List Ty → Path → Type 0
IsTyped hier roots path = (t : Ty) × (path_type hier roots path ≡ Some t) × (t ≢ ty.Void)

-- the paths and all their prefixes have types
abbrev pub AreTyped : Hier → List Ty → List Path → Type 0
AreTyped hier roots paths = (path : Path) → In path (prefixes paths) → IsTyped hier roots path

-- a reference at a path with that declared type
abbrev pub RefFits : Hier → Kind → Option Ty → Type 0
RefFits universe kind None = ⊥
RefFits universe kind (Some t) = IsKind universe kind × Conforms universe kind t

-- a number at a path with that declared type: any int, or 0 or 1 for a boolean
abbrev pub IntFits : ℤ → Option Ty → Type 0
IntFits value (Some ty.Int) = FitsSigned w32 value
IntFits value (Some ty.Boolean) = (value ≡ pos 0) ⊎ (value ≡ pos 1)
IntFits value _ = ⊥

-- the path is defined
abbrev pub HasEntry : Shape → Path → Type 0
HasEntry shape path = IsSome (entry_of path shape.refs) ⊎ IsSome (entry_of path shape.ints)

-- the path has an entry of a kind below the class
abbrev pub LeadsTo : Hier → Shape → Path → Word → Type 0
LeadsTo universe shape path class = (kind : Kind) × (entry_of path shape.refs ≡ Some kind) × IsOf universe kind (ty.Class class)

-- a shape over the roots' types, the universe, and the paths with their prefixes; other paths may have entries too, where they are reached
pub record IsShape (universe : Hier) (roots : List Ty) (paths : List Path) (shape : Shape) : Type 0 where
  -- each root has an entry
  pub root : (i : ℕ) (t : Ty) → slice_get roots i ≡ Some t → HasEntry shape (root_path i)
  -- a longer path of the set has an entry where its prefix has one of a kind below the class of the last step
  pub longer : (path : Path) (s : PathStep) → In (extend path s) (prefixes paths) → LeadsTo universe shape path s.class → HasEntry shape (extend path s)
  -- and a longer path, of the set or not, has an entry only there
  pub defined : (path : Path) (s : PathStep) → HasEntry shape (extend path s) → LeadsTo universe shape path s.class
  -- each entry fits the path's declared type
  pub refs : (path : Path) (kind : Kind) → entry_of path shape.refs ≡ Some kind → RefFits universe kind (path_type universe roots path)
  pub ints : (path : Path) (value : ℤ) → entry_of path shape.ints ≡ Some value → IntFits value (path_type universe roots path)
  -- no path has two entries
  pub refs_once : AreDistinct (map (λ e. e.0) shape.refs)
  pub ints_once : AreDistinct (map (λ e. e.0) shape.ints)
