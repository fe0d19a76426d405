-- What is known of values of types and of typed stores.
use Rattle.std.specs.Prelude.{◌≡◌, List, IsTrue, Some, is_some}
use Rattle.jp_pred.specs.declared.ty.Ty.{Ty}
use Rattle.jp_pred.specs.declared.hier.Hier.{Hier}
use Rattle.jp_store.specs.declared.value.Value.{Value}
use Rattle.jp_store.specs.declared.value.Kind.{Kind}
use Rattle.jp_store.specs.Arith.{is_kind, default_of}
use Rattle.jp_store.specs.Classes.{Class}
use Rattle.jp_store.specs.Store.{Store, first_store}
use Rattle.jp_meaning.specs.Descriptors.{kind_of_type}
use Rattle.jp_meaning.specs.States.{entry_at}
use Rattle.value_types.specs.Values.{has_type}
use Rattle.value_types.specs.Stores.{IsTyped, GoesOn, InheritsFields}
use Rattle.value_types.specs.Work.{WorkIsTyped}

-- a store goes on from itself, and from what it goes on from goes on from
pub record GoingOnIsAnOrder : Type 0 where
  pub itself : (s : Store) → GoesOn s s
  pub joined : (s u w : Store) → GoesOn s u → GoesOn u w → GoesOn s w

-- a value stays of its type
abbrev pub ValuesStay : Type 0
ValuesStay = (s u : Store) (t : Ty) (v : Value) → GoesOn s u → IsTrue (has_type s t v) → IsTrue (has_type u t v)

-- a value of a type is of its kind, and what a variable of a type starts as is of the type
pub record ValuesAreOfKinds : Type 0 where
  pub same : (s : Store) (t : Ty) (v : Value) (kind : Kind) → kind_of_type t ≡ Some kind → IsTrue (has_type s t v) → IsTrue (is_kind kind v)
  pub first : (s : Store) (t : Ty) (kind : Kind) → kind_of_type t ≡ Some kind → IsTrue (has_type s t (default_of kind))

-- it is one that a guard may be asked of
abbrev pub ValuesHaveEntries : Type 0
ValuesHaveEntries = (hier : Hier) (s : Store) (t : Ty) (v : Value) (kind : Kind) → kind_of_type t ≡ Some kind → IsTrue (has_type s t v) → IsTrue (is_some (entry_at hier s t v))

-- before a program starts the store is typed
abbrev pub TheFirstStoreIsTyped : Type 0
TheFirstStoreIsTyped = (classes : List Class) → IsTyped (first_store classes)

-- each operation on a typed store whose operands are of the types that are wanted comes to a value of the type, or traps
abbrev pub TypedWorkIsSound : Type 0
TypedWorkIsSound = (s : Store) → InheritsFields s.classes → IsTyped s → WorkIsTyped s
