-- The lines upwards from each of the first n classes.
use Rattle.std.specs.Prelude.{ℕ, zero, suc, List, [], ◌∷◌, ◌++◌}
use Rattle.jp_store.specs.Classes.{Class, line}

unfoldable pub lines_of : List Class → ℕ → List (List ℕ)
lines_of classes zero = []
lines_of classes (suc n) = lines_of classes n ++ line classes n ∷ []
