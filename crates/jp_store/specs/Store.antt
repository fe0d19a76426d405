-- Objects and arrays in order of making, and static fields.
use Rattle.std.specs.Prelude.{List, []}
use Rattle.jp_store.specs.declared.value.Value.{Value}
use Rattle.jp_store.specs.declared.heap.Thing.{Thing}
use Rattle.jp_store.specs.Classes.{Class, first_statics}

-- the classes, the objects and arrays in order of making, and for each class the values of the static fields that it declares
pub record Store : Type 0 where
  pub classes : List Class
  pub heap : List Thing
  pub statics : List (List Value)

-- before a program starts
abbrev pub first_store : List Class → Store
first_store classes = record { classes = classes; heap = []; statics = first_statics classes }
