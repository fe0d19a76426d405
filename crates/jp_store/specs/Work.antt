-- What is done to objects, arrays and static fields, named as the source and code name them.
use Rattle.std.specs.Prelude.{ℕ, zero, suc, ℤ, pos, negsuc, Bool, true, false, not, List, [], ◌∷◌, ◌++◌, length, replicate, Option, Some, None, slice_get, slice_set, option_and_then, ◌||◌}
use Rattle.std.specs.Option.{option_map, option_map_or}
use Rattle.jp_store.specs.declared.value.Value.{Value}
use Rattle.jp_store.specs.declared.value.Value.TheVariants.{Int, Long, Null, Ref, Text}
use Rattle.jp_store.specs.declared.value.TrapKind.TheVariants.{NullReference, OutOfBounds, NegativeSize, BadCast}
use Rattle.jp_store.specs.declared.value.Kind.TheVariants.{Number, Reference}
use Rattle.jp_store.specs.declared.value.ClassAt.{ClassAt}
use Rattle.jp_store.specs.declared.value.ClassAt.TheVariants.{Root, Listed}
use Rattle.jp_store.specs.declared.value.Element.{Element}
use Rattle.jp_store.specs.declared.value.Element.TheVariants.{Numbers, Truths, References}
use Rattle.jp_store.specs.declared.value.ElementKind.{ElementKind}
use Rattle.jp_store.specs.declared.value.ElementKind.TheVariants.{NumberElement, TruthElement, ReferenceElement}
use Rattle.jp_store.specs.declared.heap.Thing.{Thing}
use Rattle.jp_store.specs.declared.heap.Thing.TheVariants.{Object, Array}
use Rattle.jp_store.specs.declared.outcome.Outcome.{Outcome}
use Rattle.jp_store.specs.declared.outcome.Outcome.TheVariants.{Fine, Trap, Wrong}
use Rattle.jp_store.specs.Outcome.{then_with, on_some}
use Rattle.jp_store.specs.Arith.{is_kind, of_truth, on_int}
use Rattle.jp_store.specs.Classes.{Class, Key, Found, class_at, field_of, slot_of, first_values, is_below}
use Rattle.jp_store.specs.Store.{Store}

-- an array's elements as source and code name them
pub data NamedElement : Type 0 where
  IntElements : NamedElement
  BooleanElements : NamedElement
  ClassElements : List ℕ → NamedElement

-- what is done. Objects and arrays are the values that name them; an operation without an answer answers null
pub data Op : Type 0 where
  GetField : Value → Key → Op
  PutField : Value → Key → Value → Op
  GetStatic : Key → Op
  PutStatic : Key → Value → Op
  MakeObject : List ℕ → Op
  -- of so many elements
  MakeArray : NamedElement → Value → Op
  GetElem : ElementKind → Value → Value → Op
  PutElem : ElementKind → Value → Value → Value → Op
  Length : Value → Op
  InstanceOf : Value → List ℕ → Op
  Cast : Value → List ℕ → Op

-- what an operation comes to: a value, with the store that it leaves
abbrev pub Worked : Type 0
Worked = Outcome (Value × Store)

-- the value, with the store as it is
abbrev pub answers : Store → Value → Worked
answers s v = Fine (v, s)

-- the object or array that a value names, or a trap
abbrev pub on_thing : {A : Type 0} → List Thing → Value → (ℕ → Thing → Outcome A) → Outcome A
on_thing heap (Ref o) go = on_some (slice_get heap o) (go o)
on_thing heap Null go = Trap NullReference
on_thing heap (Int n) go = Wrong
on_thing heap (Long n) go = Wrong
on_thing heap (Text t) go = Wrong

-- a condition without which there is no such operation
abbrev pub where_true : {A : Type 0} → Bool → Outcome A → Outcome A
where_true true go = go
where_true false go = Wrong

-- the new content of the object or array of this number
abbrev pub changed : Store → ℕ → Thing → Worked
changed s o thing = Fine (Null, record s { heap = slice_set s.heap o thing })

-- a new object or array, whose number is that of those before it
abbrev pub made : Store → Thing → Worked
made s thing = Fine (Ref (length s.heap), record s { heap = s.heap ++ thing ∷ [] })

-- the value of an object's field
abbrev pub field_in : List Class → Found → Thing → Option Value
field_in classes found (Object class fields) = option_and_then (slice_get fields) (slot_of classes class found)
field_in classes found (Array element values) = None

-- an object with another value of a field
abbrev pub with_field : List Class → Found → Value → Thing → Option Thing
with_field classes found v (Object class fields) = option_map (λ slot. Object class (slice_set fields slot v)) (slot_of classes class found)
with_field classes found v (Array element values) = None

-- the value of a static field
abbrev pub static_in : List (List Value) → Found → Option Value
static_in statics found = option_and_then (λ values. slice_get values found.slot) (slice_get statics found.class)

-- the static fields with another value of one
abbrev pub with_static : List (List Value) → Found → Value → Option (List (List Value))
with_static statics found v = option_map (λ values. slice_set statics found.class (slice_set values found.slot v)) (slice_get statics found.class)

-- whether an object of the class can be made: it is Object, or neither an interface nor abstract
abbrev pub is_concrete : List Class → ClassAt → Bool
is_concrete classes Root = true
is_concrete classes (Listed at) = option_map_or (λ c. not (c.is_interface || c.is_abstract)) (slice_get classes at) false

-- an array's elements by their class
abbrev pub element_of : List Class → NamedElement → Option Element
element_of classes IntElements = Some Numbers
element_of classes BooleanElements = Some Truths
element_of classes (ClassElements name) = option_map References (class_at classes name)

-- what an array's elements start as
abbrev pub first_element : Element → Value
first_element Numbers = Int (pos 0)
first_element Truths = Int (pos 0)
first_element (References class) = Null

-- a new array of so many elements
abbrev pub array_made : Store → Element → ℤ → Worked
array_made s element (pos n) = made s (Array element (replicate n (first_element element)))
array_made s element (negsuc n) = Trap NegativeSize

-- whether an array's elements are of a kind
abbrev pub is_element : ElementKind → Element → Bool
is_element NumberElement Numbers = true
is_element NumberElement Truths = false
is_element NumberElement (References class) = false
is_element TruthElement Numbers = false
is_element TruthElement Truths = true
is_element TruthElement (References class) = false
is_element ReferenceElement Numbers = false
is_element ReferenceElement Truths = false
is_element ReferenceElement (References class) = true

-- whether a value may be stored in an element of a kind; a boolean is 0 or 1
abbrev pub can_store : ElementKind → Value → Bool
can_store NumberElement v = is_kind Number v
can_store ReferenceElement v = is_kind Reference v
can_store TruthElement (Int (pos zero)) = true
can_store TruthElement (Int (pos (suc zero))) = true
can_store TruthElement (Int (pos (suc (suc n)))) = false
can_store TruthElement (Int (negsuc n)) = false
can_store TruthElement (Long n) = false
can_store TruthElement Null = false
can_store TruthElement (Ref o) = false
can_store TruthElement (Text t) = false

-- the elements of an array of a kind
abbrev pub on_array : {A : Type 0} → ElementKind → Thing → (Element → List Value → Outcome A) → Outcome A
on_array kind (Object class fields) go = Wrong
on_array kind (Array element values) go = where_true (is_element kind element) (go element values)

-- an element that is there, or a trap
abbrev pub or_outside : {A : Type 0} → Option Value → (Value → Outcome A) → Outcome A
or_outside None go = Trap OutOfBounds
or_outside (Some v) go = go v

-- the element at an index, with the index, or a trap
abbrev pub at_index : {A : Type 0} → List Value → ℤ → (ℕ → Value → Outcome A) → Outcome A
at_index values (pos i) go = or_outside (slice_get values i) (go i)
at_index values (negsuc i) go = Trap OutOfBounds

-- an array's length
abbrev pub size_of : Store → Thing → Worked
size_of s (Object class fields) = Wrong
size_of s (Array element values) = answers s (Int (pos (length values)))

-- whether an object or array is one of the class or of one below it. Arrays are objects
abbrev pub is_instance : List Class → ClassAt → Thing → Bool
is_instance classes up (Object class fields) = is_below classes class up
is_instance classes up (Array element values) = is_below classes Root up

-- whether a reference is null or names an instance of the class
abbrev pub is_null_or : (Thing → Bool) → List Thing → Value → Outcome Bool
is_null_or test heap Null = Fine true
is_null_or test heap (Ref o) = on_some (slice_get heap o) (λ thing. Fine (test thing))
is_null_or test heap (Int n) = Wrong
is_null_or test heap (Long n) = Wrong
is_null_or test heap (Text t) = Wrong

-- whether a reference that is stored fits an array's elements
abbrev pub fits_element : Store → Element → Value → Outcome Bool
fits_element s Numbers v = Fine true
fits_element s Truths v = Fine true
fits_element s (References class) v = is_null_or (is_instance s.classes class) s.heap v

-- whether a reference names an instance of the class; null doesn't
abbrev pub instance_truth : Store → ClassAt → Value → Outcome Value
instance_truth s up Null = Fine (of_truth false)
instance_truth s up (Ref o) = on_some (slice_get s.heap o) (λ thing. Fine (of_truth (is_instance s.classes up thing)))
instance_truth s up (Int n) = Wrong
instance_truth s up (Long n) = Wrong
instance_truth s up (Text t) = Wrong

-- the value, where the condition holds, or a failing cast
abbrev pub cast_by : Store → Value → Bool → Worked
cast_by s v true = answers s v
cast_by s v false = Trap BadCast

-- what is done to a store
abbrev pub work : Op → Store → Worked
work (GetField r key) s =
    on_some (field_of false s.classes key) (λ found. on_thing s.heap r (λ o thing. on_some (field_in s.classes found thing) (answers s)))
work (PutField r key v) s =
    on_some (field_of false s.classes key) (λ found. where_true (is_kind found.kind v) (on_thing s.heap r (λ o thing.
    on_some (with_field s.classes found v thing) (changed s o))))
work (GetStatic key) s = on_some (field_of true s.classes key) (λ found. on_some (static_in s.statics found) (answers s))
work (PutStatic key v) s =
    on_some (field_of true s.classes key) (λ found. where_true (is_kind found.kind v) (on_some (with_static s.statics found v) (λ statics.
    Fine (Null, record s { statics = statics }))))
work (MakeObject name) s =
    on_some (class_at s.classes name) (λ class. where_true (is_concrete s.classes class) (made s (Object class (first_values s.classes class))))
work (MakeArray named size) s = on_some (element_of s.classes named) (λ element. on_int (array_made s element) size)
work (GetElem kind r index) s =
    on_int (λ i. on_thing s.heap r (λ o thing. on_array kind thing (λ element values. at_index values i (λ n v. answers s v)))) index
work (PutElem kind r index v) s =
    on_int (λ i. where_true (can_store kind v) (on_thing s.heap r (λ o thing. on_array kind thing (λ element values.
    at_index values i (λ n old. then_with (fits_element s element v) (λ fits. where_true fits (changed s o (Array element (slice_set values n v))))))))) index
work (Length r) s = on_thing s.heap r (λ o thing. size_of s thing)
work (InstanceOf r name) s = on_some (class_at s.classes name) (λ up. then_with (instance_truth s up r) (answers s))
work (Cast r name) s = on_some (class_at s.classes name) (λ up. then_with (is_null_or (is_instance s.classes up) s.heap r) (cast_by s r))
