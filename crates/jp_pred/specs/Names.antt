-- Names as contracts see them, and what stands in a list.
use Rattle.std.specs.Prelude.{ℕ, List, [], ◌∷◌, Bool, codes}
use Rattle.std.specs.Str.{bytes_eq}

-- a name, as its bytes
abbrev pub Word : Type 0
Word = List ℕ

-- the class that is above all others
abbrev pub object : Word
object = codes "Object"

-- two names have the same bytes
abbrev pub same : Word → Word → Bool
same = bytes_eq

-- the item stands in the list
pub data In {X : Type 0} : X → List X → Type 0 where
  here : {x : X} {xs : List X} → In x (x ∷ xs)
  there : {x y : X} {xs : List X} → In x xs → In x (y ∷ xs)

-- each item stands in the list once
abbrev pub AreDistinct : {X : Type 0} → List X → Type 0
AreDistinct [] = Unit {0}
AreDistinct (x ∷ xs) = (In x xs → ⊥) × AreDistinct xs
