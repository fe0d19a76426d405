-- A value of an object or array that is replaced.
use Rattle.std.specs.Prelude.{ℕ, List, Option, Some, None, slice_get, slice_set}
use Rattle.jp_store.specs.declared.value.Value.{Value}
use Rattle.jp_store.specs.declared.heap.Thing.{Thing}
use Rattle.jp_store.specs.declared.heap.Thing.TheVariants.{Object, Array}

-- with another value at an index
abbrev pub with_value : Thing → ℕ → Value → Thing
with_value (Object class fields) index v = Object class (slice_set fields index v)
with_value (Array element values) index v = Array element (slice_set values index v)

-- where one is there
abbrev pub set_in : List Thing → ℕ → Option Thing → ℕ → Value → List Thing
set_in heap number None index v = heap
set_in heap number (Some thing) index v = slice_set heap number (with_value thing index v)

-- with another value at an index of the object or array of a number
abbrev pub with_cell : List Thing → ℕ → ℕ → Value → List Thing
with_cell heap number index v = set_in heap number (slice_get heap number) index v
