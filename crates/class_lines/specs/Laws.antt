-- What is below what in the store, and which values are of types above theirs.
use Rattle.std.specs.Prelude.{◌≡◌, ℕ, List, IsTrue, Some, slice_get}
use Rattle.jp_pred.specs.declared.ty.Ty.{Ty}
use Rattle.jp_pred.specs.Hierarchy.{is_below as is_seen_below}
use Rattle.jp_store.specs.declared.value.Value.{Value}
use Rattle.jp_store.specs.declared.value.ClassAt.TheVariants.{Listed}
use Rattle.jp_store.specs.Classes.{is_below}
use Rattle.jp_store.specs.Store.{Store}
use Rattle.jp_meaning.specs.declared.unit.TypedClass.{TypedClass}
use Rattle.jp_meaning.specs.Classes.{hier_in}
use Rattle.value_types.specs.Values.{has_type}
use Rattle.value_types.specs.Stores.{InheritsFields}
use Rattle.class_lines.specs.Agreeing.{store_classes, AreClasses, widens}

-- one class is below another in the store where predicates see it below
abbrev pub BelowIsTheSame : Type 0
BelowIsTheSame =
    (classes : List TypedClass) → AreClasses classes → (at up : ℕ) (c d : TypedClass) → slice_get classes at ≡ Some c → slice_get classes up ≡ Some d →
    is_below (store_classes classes) (Listed at) (Listed up) ≡ is_seen_below (hier_in classes) c.head.name d.head.name

-- objects of a class hold the fields that a class above it declares
abbrev pub FieldsAreInherited : Type 0
FieldsAreInherited = (classes : List TypedClass) → AreClasses classes → InheritsFields (store_classes classes)

-- a value of a class is one of each class above it
abbrev pub ValuesWiden : Type 0
ValuesWiden =
    (classes : List TypedClass) → AreClasses classes → (s : Store) → s.classes ≡ store_classes classes → (t u : Ty) (v : Value) → IsTrue (widens classes t u) →
    IsTrue (has_type s t v) → IsTrue (has_type s u v)
