-- Marks on the classes that a search has looked at.
use Rattle.std.specs.Prelude.{◌≡◌, ℕ, ◌+◌, List, [], ◌∷◌, Bool, true, false, not, cond, Option, Some, None, option_map, slice_get, slice_index_or, count_by}
use Rattle.jp_pred.specs.declared.hier.SeenClass.{SeenClass}
use Rattle.jp_pred.specs.declared.hier.Hier.{Hier}
use Rattle.jp_pred.specs.Names.{Word, same, In}
use Rattle.jp_pred.specs.Hierarchy.{named}

-- the place of the first entry of that name
abbrev pub place : Word → List SeenClass → Option ℕ
place a [] = None
place a (c ∷ cs) = cond (same c.name a) (Some 0) (option_map (λ n. n + 1) (place a cs))

-- the class at that place was looked at
abbrev pub is_marked : List Bool → ℕ → Bool
is_marked ms i = slice_index_or ms i false

-- how many classes weren't looked at yet
abbrev pub unmarked : List Bool → ℕ
unmarked ms = count_by not ms

-- no mark is taken back
abbrev pub Grows : List Bool → List Bool → Type 0
Grows old new = (i : ℕ) → is_marked old i ≡ true → is_marked new i ≡ true

-- the name isn't the one that is looked for, and its class is marked
pub record Done (hier : Hier) (upper : Word) (ms : List Bool) (a : Word) : Type 0 where
  pub other : a ≡ upper → ⊥
  pub marked : (i : ℕ) → place a hier.classes ≡ Some i → is_marked ms i ≡ true

-- what was marked since has all its parents done
pub record Closed (hier : Hier) (upper : Word) (old new : List Bool) : Type 0 where
  pub parents : (i : ℕ) (c : SeenClass) → slice_get hier.classes i ≡ Some c → is_marked old i ≡ false → is_marked new i ≡ true → (p : Word) → In p (named c) → Done hier upper new p
