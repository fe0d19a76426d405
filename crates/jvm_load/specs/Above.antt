-- The classes and interfaces at or above each class, as lists.
use Rattle.std.specs.Prelude.{◌≡◌, ℕ, ◌<◌, ◌||◌, List, [], length, get_or}
use Rattle.jp_store.specs.Classes.{Class, is_among, is_below_in}

-- a list holds the numbers of two others
abbrev pub IsJoined : List ℕ → List ℕ → List ℕ → Type 0
IsJoined whole a b = (n : ℕ) → is_among n whole ≡ (is_among n a || is_among n b)

-- a list holds the positions of the classes that the class at a position is or is below
abbrev pub HoldsAbove : List Class → ℕ → List ℕ → Type 0
HoldsAbove classes at met = (up : ℕ) → is_among up met ≡ is_below_in (length classes) classes up at

-- such lists for the first n positions
pub record AreAbove (classes : List Class) (n : ℕ) (lists : List (List ℕ)) : Type 0 where
  pub count : length lists ≡ n
  pub each : (at : ℕ) → at < n → HoldsAbove classes at (get_or lists at [])
