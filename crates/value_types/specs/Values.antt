-- Which values are of a type, in a store.
use Rattle.std.specs.Prelude.{ℕ, ◌==◌, Bool, true, false, List, map, Option, slice_get}
use Rattle.std.specs.Option.{option_map_or}
use Rattle.jp_pred.specs.declared.ty.Ty.{Ty}
use Rattle.jp_pred.specs.declared.ty.Ty.TheVariants as ty
use Rattle.jp_store.specs.declared.value.Value.{Value}
use Rattle.jp_store.specs.declared.value.Value.TheVariants.{Int, Long, Null, Ref, Text}
use Rattle.jp_store.specs.declared.value.Kind.TheVariants.{Number}
use Rattle.jp_store.specs.declared.value.ClassAt.{ClassAt}
use Rattle.jp_store.specs.declared.value.ClassAt.TheVariants.{Root, Listed}
use Rattle.jp_store.specs.declared.value.Element.{Element}
use Rattle.jp_store.specs.declared.value.Element.TheVariants.{Numbers, Truths, References}
use Rattle.jp_store.specs.declared.value.ElementKind.TheVariants.{TruthElement}
use Rattle.jp_store.specs.declared.heap.Thing.{Thing}
use Rattle.jp_store.specs.declared.heap.Thing.TheVariants.{Object, Array}
use Rattle.jp_store.specs.Arith.{is_kind}
use Rattle.jp_store.specs.Classes.{Class, class_at, is_below}
use Rattle.jp_store.specs.Store.{Store}
use Rattle.jp_store.specs.Work.{can_store}
use Rattle.jp_meaning.specs.Descriptors.{internal_name}

-- what is made, its content aside: an object of a class, or an array of such elements
pub data Sort : Type 0 where
  ObjectOf : ClassAt → Sort
  ArrayOf : Element → Sort

abbrev pub sort_of : Thing → Sort
sort_of (Object class fields) = ObjectOf class
sort_of (Array element values) = ArrayOf element

-- the sorts of all that is made
abbrev pub sorts : Store → List Sort
sorts s = map sort_of s.heap

-- whether it is of the class or of one below it. Arrays are objects
abbrev pub is_at_or_below : List Class → ClassAt → Sort → Bool
is_at_or_below classes up (ObjectOf class) = is_below classes class up
is_at_or_below classes up (ArrayOf element) = is_below classes Root up

abbrev pub same_class : ClassAt → ClassAt → Bool
same_class Root Root = true
same_class Root (Listed n) = false
same_class (Listed m) Root = false
same_class (Listed m) (Listed n) = m == n

abbrev pub same_element : Element → Element → Bool
same_element Numbers Numbers = true
same_element Numbers Truths = false
same_element Numbers (References class) = false
same_element Truths Numbers = false
same_element Truths Truths = true
same_element Truths (References class) = false
same_element (References class) Numbers = false
same_element (References class) Truths = false
same_element (References class) (References other) = same_class class other

-- whether it is an array of such elements
abbrev pub is_array_of : Element → Sort → Bool
is_array_of element (ObjectOf class) = false
is_array_of element (ArrayOf other) = same_element element other

-- whether it is of a type
abbrev pub is_sort_of : List Class → Ty → Sort → Bool
is_sort_of classes ty.Void sort = false
is_sort_of classes ty.Int sort = false
is_sort_of classes ty.Boolean sort = false
is_sort_of classes (ty.Class name) sort = option_map_or (λ up. is_at_or_below classes up sort) (class_at classes (internal_name name)) false
is_sort_of classes ty.IntArray sort = is_array_of Numbers sort
is_sort_of classes ty.BooleanArray sort = is_array_of Truths sort
is_sort_of classes (ty.ClassArray name) sort = option_map_or (λ class. is_array_of (References class) sort) (class_at classes (internal_name name)) false

-- null, or the number of something that passes the test
abbrev pub refers : List Sort → (Sort → Bool) → Value → Bool
refers made test Null = true
refers made test (Ref o) = option_map_or test (slice_get made o) false
refers made test (Int n) = false
refers made test (Long n) = false
refers made test (Text t) = false

abbrev pub is_null : Value → Bool
is_null Null = true
is_null (Ref o) = false
is_null (Int n) = false
is_null (Long n) = false
is_null (Text t) = false

-- Whether a value is of a type, where things of these sorts are made. A boolean is 0 or 1; what has no value is null
abbrev pub is_value_of : List Class → List Sort → Ty → Value → Bool
is_value_of classes made ty.Void v = is_null v
is_value_of classes made ty.Int v = is_kind Number v
is_value_of classes made ty.Boolean v = can_store TruthElement v
is_value_of classes made (ty.Class name) v = refers made (is_sort_of classes (ty.Class name)) v
is_value_of classes made ty.IntArray v = refers made (is_sort_of classes ty.IntArray) v
is_value_of classes made ty.BooleanArray v = refers made (is_sort_of classes ty.BooleanArray) v
is_value_of classes made (ty.ClassArray name) v = refers made (is_sort_of classes (ty.ClassArray name)) v

-- whether a value is of a type, in a store
abbrev pub has_type : Store → Ty → Value → Bool
has_type s t v = is_value_of s.classes (sorts s) t v
