-- Laws of hierarchies, of implication and of selection.
use Rattle.std.specs.Prelude.{◌≡◌, ◌≢◌, ◌↔◌, ◌⊎◌, ℕ, List, [], ◌∷◌, map}
use Rattle.std.specs.Bool.{Decides}
use Rattle.jp_pred.specs.declared.hier.Hier.{Hier}
use Rattle.jp_pred.specs.declared.ty.Ty.{Ty}
use Rattle.jp_pred.specs.declared.shape.Kind.{Kind}
use Rattle.jp_pred.specs.declared.shape.Shape.{Shape}
use Rattle.jp_pred.specs.declared.guard.Guard.{Guard}
use Rattle.jp_pred.specs.Names.{Word}
use Rattle.jp_pred.specs.Hierarchy.{HasNoCycle, IsBelow, is_below}
use Rattle.jp_pred.specs.Universe.{IsUniverse, Extends, IsSeen}
use Rattle.jp_pred.specs.Kinds.{IsOf}
use Rattle.jp_pred.specs.Truth.{kind_below}
use Rattle.jp_pred.specs.Shapes.{AreTyped}
use Rattle.jp_pred.specs.Implication.{Implies, Refuted, paths_of, root_types}
use Rattle.jp_pred.specs.Seen.{AreSeen}
use Rattle.jp_pred.specs.Selection.{Body, whole_guard, Beats, Applies, Selected, BeatsBoth, Settles, AreTypedBodies}

-- without cycles the computed answers are those of the relations
abbrev pub BelowIsDecided : Type 0
BelowIsDecided = (hier : Hier) (a b : Word) → HasNoCycle hier → Decides (is_below hier a b) (IsBelow hier a b)

abbrev pub KindsAreDecided : Type 0
KindsAreDecided = (hier : Hier) (k : Kind) (t : Ty) → HasNoCycle hier → Decides (kind_below hier k t) (IsOf hier k t)

-- a seen class has the same seen classes above it in every universe that extends a universe
abbrev pub BelowIsKept : Type 0
BelowIsKept = (universe hier : Hier) (a b : Word) → IsUniverse hier → Extends universe hier → IsSeen hier a → Decides (is_below hier a b) (IsBelow universe a b)

abbrev pub ExtensionIsTransitive : Type 0
ExtensionIsTransitive = (larger universe hier : Hier) → Extends larger universe → Extends universe hier → Extends larger hier

abbrev pub ImplicationIsReflexive : Type 0
ImplicationIsReflexive = (hier : Hier) (parameters : List Ty) (g : Guard) → Implies hier parameters g g

-- where the paths of the guard in the middle have types
abbrev pub ImplicationIsTransitive : Type 0
ImplicationIsTransitive = (hier : Hier) (parameters : List Ty) (g h k : Guard) → AreTyped hier (root_types parameters) (paths_of h) →
    Implies hier parameters g h → Implies hier parameters h k → Implies hier parameters g k

-- what is implied over a hierarchy is implied over each universe that extends it
abbrev pub ImplicationIsKept : Type 0
ImplicationIsKept = (universe hier : Hier) (parameters : List Ty) (g h : Guard) → Extends universe hier → Implies hier parameters g h → Implies universe parameters g h

-- over a universe that has every class named, the same is implied as over each universe that extends it
abbrev pub ImplicationIsStable : Type 0
ImplicationIsStable = (universe hier : Hier) (parameters : List Ty) (g h : Guard) → IsUniverse hier → AreSeen hier parameters (g ∷ h ∷ []) → Extends universe hier →
    Implies hier parameters g h ↔ Implies universe parameters g h

-- where a universe that has every class named doesn't imply, a shape of its own says so
abbrev pub ImplicationIsDecided : Type 0
ImplicationIsDecided = (hier : Hier) (parameters : List Ty) (g h : Guard) → IsUniverse hier → AreSeen hier parameters (g ∷ h ∷ []) → Implies hier parameters g h ⊎ Refuted hier parameters g h

abbrev pub BeatingIsTransitive : Type 0
BeatingIsTransitive = (hier : Hier) (parameters : List Ty) (a b c : Body) → AreTyped hier (root_types parameters) (paths_of (whole_guard a)) → AreTyped hier (root_types parameters) (paths_of (whole_guard b)) →
    Beats hier parameters a b → Beats hier parameters b c → Beats hier parameters a c

-- beating over a universe that has every class named is beating over each universe that extends it, and so the same body is selected
abbrev pub BeatingIsStable : Type 0
BeatingIsStable = (universe hier : Hier) (parameters : List Ty) (a b : Body) → IsUniverse hier → AreSeen hier parameters (whole_guard a ∷ whole_guard b ∷ []) → Extends universe hier →
    Beats hier parameters a b ↔ Beats universe parameters a b

abbrev pub SelectionIsStable : Type 0
SelectionIsStable = (larger hier : Hier) (parameters : List Ty) (universe : Hier) (shape : Shape) (chain : List Body) (i : ℕ) → IsUniverse hier → AreSeen hier parameters (map whole_guard chain) → Extends larger hier →
    Selected hier parameters universe shape chain i ↔ Selected larger parameters universe shape chain i

abbrev pub BeatingIsOneWay : Type 0
BeatingIsOneWay = (hier : Hier) (parameters : List Ty) (a b : Body) → Beats hier parameters a b → Beats hier parameters b a → ⊥

abbrev pub OneBodyIsSelected : Type 0
OneBodyIsSelected = (hier : Hier) (parameters : List Ty) (universe : Hier) (shape : Shape) (chain : List Body) (i j : ℕ) →
    Selected hier parameters universe shape chain i → Selected hier parameters universe shape chain j → i ≡ j

-- a true body that beats every other true one is selected, and no other is
abbrev pub TheGreatestIsSelected : Type 0
TheGreatestIsSelected = (hier : Hier) (parameters : List Ty) (universe : Hier) (shape : Shape) (chain : List Body) (i : ℕ) (body : Applies universe shape chain i) →
    ((j : ℕ) (other : Applies universe shape chain j) → j ≢ i → Beats hier parameters body.body other.body) →
    Selected hier parameters universe shape chain i × ((j : ℕ) → Selected hier parameters universe shape chain j → j ≡ i)

-- where some body is true, and of each two true bodies one beats the other or some true body beats both, a body is selected
abbrev pub SettledPairsSelect : Type 0
SettledPairsSelect = (hier : Hier) (parameters : List Ty) (universe : Hier) (shape : Shape) (chain : List Body) → AreTypedBodies hier parameters chain →
    ((i j : ℕ) (a : Applies universe shape chain i) (b : Applies universe shape chain j) → i ≢ j → Settles hier parameters universe shape chain a.body b.body) →
    (i : ℕ) → Applies universe shape chain i → (m : ℕ) × Selected hier parameters universe shape chain m

-- where some body is true, and for each two true bodies of which neither beats the other some true body beats both, a body is selected
abbrev pub CheckedPairsSelect : Type 0
CheckedPairsSelect = (hier : Hier) (parameters : List Ty) (universe : Hier) (shape : Shape) (chain : List Body) → IsUniverse hier → AreSeen hier parameters (map whole_guard chain) → AreTypedBodies hier parameters chain →
    ((i j : ℕ) (a : Applies universe shape chain i) (b : Applies universe shape chain j) → i ≢ j → (Beats hier parameters a.body b.body → ⊥) → (Beats hier parameters b.body a.body → ⊥) →
    BeatsBoth hier parameters universe shape chain a.body b.body) →
    (i : ℕ) → Applies universe shape chain i → (m : ℕ) × Selected hier parameters universe shape chain m
