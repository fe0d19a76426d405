-- Stores in which all values are of their types.
use Rattle.std.specs.Prelude.{◌≡◌, ℕ, Bool, true, false, List, [], ◌∷◌, ◌++◌, IsTrue, filter, length, reverse, Option, Some, None, slice_get}
use Rattle.std.specs.List.{list_all, flat_map}
use Rattle.jp_pred.specs.declared.ty.Ty.{Ty}
use Rattle.jp_store.specs.declared.value.Value.{Value}
use Rattle.jp_store.specs.declared.value.Kind.TheVariants.{Number}
use Rattle.jp_store.specs.declared.value.ClassAt.{ClassAt}
use Rattle.jp_store.specs.declared.value.ClassAt.TheVariants.{Root, Listed}
use Rattle.jp_store.specs.declared.value.Element.{Element}
use Rattle.jp_store.specs.declared.value.Element.TheVariants.{Numbers, Truths, References}
use Rattle.jp_store.specs.declared.value.ElementKind.TheVariants.{TruthElement}
use Rattle.jp_store.specs.declared.heap.Thing.{Thing}
use Rattle.jp_store.specs.declared.heap.Thing.TheVariants.{Object, Array}
use Rattle.jp_store.specs.Arith.{is_kind}
use Rattle.jp_store.specs.Classes.{Class, Field, has_role, own_part, is_among, line, is_below_in}
use Rattle.jp_store.specs.Store.{Store}
use Rattle.jp_store.specs.Work.{can_store, is_concrete}
use Rattle.jp_meaning.specs.Descriptors.{descriptor_of}
use Rattle.value_types.specs.Values.{Sort, sorts, is_at_or_below, refers, is_value_of}

-- the value is of each type that has the field's descriptor
abbrev pub Holds : List Class → List Sort → Field → Value → Type 0
Holds classes made f v = (t : Ty) → descriptor_of t ≡ f.descriptor → IsTrue (is_value_of classes made t v)

-- there are as many values as fields, and each field holds its own
abbrev pub AllHold : List Class → List Sort → List Field → List Value → Type 0
AllHold classes made [] [] = Unit {0}
AllHold classes made [] (v ∷ vs) = ⊥
AllHold classes made (f ∷ fs) [] = ⊥
AllHold classes made (f ∷ fs) (v ∷ vs) = Holds classes made f v × AllHold classes made fs vs

-- the fields of an object of a class, those of the topmost class first
abbrev pub fields_of : List Class → ClassAt → List Field
fields_of classes Root = []
fields_of classes (Listed at) = flat_map (own_part false classes) (reverse (line classes at))

-- whether a value may be an array's element
abbrev pub is_element_of : List Class → List Sort → Element → Value → Bool
is_element_of classes made Numbers v = is_kind Number v
is_element_of classes made Truths v = can_store TruthElement v
is_element_of classes made (References class) v = refers made (is_at_or_below classes class) v

-- an object is of a class of which there are objects, and what it or an array holds is of its types
abbrev pub IsFilled : List Class → List Sort → Thing → Type 0
IsFilled classes made (Object class fields) = IsTrue (is_concrete classes class) × AllHold classes made (fields_of classes class) fields
IsFilled classes made (Array element values) = IsTrue (list_all (is_element_of classes made element) values)

-- there are values, and the fields hold them
abbrev pub AreHeld : List Class → List Sort → List Field → Option (List Value) → Type 0
AreHeld classes made fields None = ⊥
AreHeld classes made fields (Some vs) = AllHold classes made fields vs

-- all that is made holds what is of its types, and so do the static fields of each class
pub record IsTyped (s : Store) : Type 0 where
  pub things : (o : ℕ) (thing : Thing) → slice_get s.heap o ≡ Some thing → IsFilled s.classes (sorts s) thing
  pub statics : (at : ℕ) (c : Class) → slice_get s.classes at ≡ Some c → AreHeld s.classes (sorts s) (filter (has_role true) c.fields) (slice_get s.statics at)

-- the second store goes on from the first: it has its classes, and what is made stays of its sort
pub record GoesOn (s u : Store) : Type 0 where
  pub same : u.classes ≡ s.classes
  pub more : List Sort
  pub grown : sorts u ≡ sorts s ++ more

-- each class that declares fields of objects and is met upwards from a class, is met upwards from each class below that
abbrev pub InheritsFields : List Class → Type 0
InheritsFields classes =
    (at up c : ℕ) → IsTrue (is_below_in (length classes) classes up at) → IsTrue (is_among c (line classes up)) → (f : Field) (i : ℕ) →
    slice_get (own_part false classes c) i ≡ Some f → IsTrue (is_among c (line classes at))
