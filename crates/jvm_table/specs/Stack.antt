-- The operand stack as contracts see it.
use Rattle.std.specs.Prelude.{ℕ, ◌+◌, List, [], ◌∷◌}
use Rattle.jp_store.specs.declared.value.Value.{Value}
use Rattle.jp_store.specs.Arith.{width_of}

-- how many places there are, and the values, the top first
pub record Held : Type 0 where
  pub room : ℕ
  pub values : List Value

-- how many places values take: a long takes two
abbrev pub depth_of : List Value → ℕ
depth_of [] = 0
depth_of (v ∷ vs) = width_of v + depth_of vs
