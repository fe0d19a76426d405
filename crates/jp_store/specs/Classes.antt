-- The classes by which everything is resolved: of two classes of one name the first counts.
use Rattle.std.specs.Prelude.{ℕ, zero, suc, ◌+◌, ◌==◌, Bool, true, false, not, ◌||◌, ◌&&◌, List, [], ◌∷◌, ◌++◌, length, map, filter, take, reverse, Option, Some, None, position, slice_get, option_and_then, if◌then◌else◌, codes}
use Rattle.std.specs.List.{list_any, flat_map, filter_map}
use Rattle.std.specs.Option.{option_map, option_map_or}
use Rattle.std.specs.Str.{bytes_eq}
use Rattle.jp_store.specs.declared.value.Value.{Value}
use Rattle.jp_store.specs.declared.value.Value.TheVariants.{Null}
use Rattle.jp_store.specs.declared.value.Kind.{Kind}
use Rattle.jp_store.specs.declared.value.Kind.TheVariants.{Number, LongNumber, Reference}
use Rattle.jp_store.specs.declared.value.ClassAt.{ClassAt}
use Rattle.jp_store.specs.declared.value.ClassAt.TheVariants.{Root, Listed}
use Rattle.jp_store.specs.Arith.{default_of}

-- a field, static or of each object
pub record Field : Type 0 where
  pub name : List ℕ
  pub descriptor : List ℕ
  pub is_static : Bool

-- a class or an interface. The super class of one that names none is none
pub record Class : Type 0 where
  pub name : List ℕ
  pub superclass : Option (List ℕ)
  pub interfaces : List (List ℕ)
  pub is_interface : Bool
  pub is_abstract : Bool
  pub fields : List Field

-- a field as code names it
pub record Key : Type 0 where
  pub class : List ℕ
  pub name : List ℕ
  pub descriptor : List ℕ

-- the class that is known without being listed, and has no fields
abbrev pub object_name : List ℕ
object_name = codes "java/lang/Object"

-- what kind of value a descriptor stands for (JVM specification, second edition, 4.3.2); an `int` or a `boolean` is a number
abbrev pub kind_of : List ℕ → Option Kind
kind_of [] = None
kind_of (c ∷ cs) =
    if (c == 73) || (c == 90) then Some Number
    else (if c == 74 then Some LongNumber
    else (if (c == 76) || (c == 91) then Some Reference else None))

-- where the first class of a name stands
abbrev pub place_of : List Class → List ℕ → Option ℕ
place_of classes name = position (λ c. bytes_eq c.name name) classes

-- the class of a name: one that is listed, or else Object
abbrev pub class_at : List Class → List ℕ → Option ClassAt
class_at classes name =
    option_map_or (λ at. Some (Listed at)) (place_of classes name) (if bytes_eq name object_name then Some Root else None)

-- where the super class stands that the class at a position names
abbrev pub super_of : List Class → ℕ → Option ℕ
super_of classes at = option_and_then (λ c. option_and_then (place_of classes) c.superclass) (slice_get classes at)

-- whether a number is among others
abbrev pub is_among : ℕ → List ℕ → Bool
is_among n ns = list_any (λ m. m == n) ns

-- the first n classes upwards from one: through the super classes, until one that isn't listed or was met before
unfoldable pub line_from : ℕ → List Class → List ℕ → ℕ → List ℕ
line_from zero classes met at = []
line_from (suc n) classes met at =
    if is_among at met then [] else at ∷ option_map_or (line_from n classes (met ++ at ∷ [])) (super_of classes at) []

-- a class and the classes upwards from it, each once
abbrev pub line : List Class → ℕ → List ℕ
line classes at = line_from (length classes) classes [] at

-- the fields that a class declares
abbrev pub own_fields : List Class → ℕ → List Field
own_fields classes at = option_map_or (λ c. c.fields) (slice_get classes at) []

-- the first of the classes that declares a field of this name, and the field's position there
abbrev pub first_field : List Class → List ℕ → List ℕ → Option (ℕ × ℕ)
first_field classes name [] = None
first_field classes name (at ∷ more) =
    option_map_or (λ i. Some (at, i)) (position (λ f. bytes_eq f.name name) (own_fields classes at)) (first_field classes name more)

-- the field that is found upwards from a class
abbrev pub find_field : List Class → ℕ → List ℕ → Option (ℕ × ℕ)
find_field classes at name = first_field classes name (line classes at)

-- whether a field is static, or one of each object
abbrev pub has_role : Bool → Field → Bool
has_role true f = f.is_static
has_role false f = not f.is_static

-- the static fields that a class declares, or those of each object
abbrev pub own_part : Bool → List Class → ℕ → List Field
own_part static classes at = filter (has_role static) (own_fields classes at)

-- a field of a class, with its position among the static fields that the class declares, or among those of each object
pub record Found : Type 0 where
  pub class : ℕ
  pub slot : ℕ
  pub kind : Kind

-- a field that was found, where it is static as wanted and has the wanted descriptor
abbrev pub fitted : Bool → Key → List Class → ℕ → ℕ → Field → Option Found
fitted static key classes at i f =
    if has_role static f && bytes_eq f.descriptor key.descriptor
    then option_map (λ kind. record { class = at; slot = length (filter (has_role static) (take i (own_fields classes at))); kind = kind }) (kind_of f.descriptor)
    else None

-- the field that a key names: found upwards from the named class, static as wanted, with the key's descriptor
abbrev pub field_of : Bool → List Class → Key → Option Found
field_of static classes key =
    option_and_then (λ at. option_and_then (λ found. option_and_then (fitted static key classes found.0 found.1)
    (slice_get (own_fields classes found.0) found.1)) (find_field classes at key.name)) (place_of classes key.class)

-- how many values of an object stand before those of a class, in classes from the topmost down
abbrev pub offset_in : List Class → ℕ → List ℕ → Option ℕ
offset_in classes at [] = None
offset_in classes at (c ∷ more) =
    if c == at then Some 0 else option_map (λ n. length (own_part false classes c) + n) (offset_in classes at more)

-- where an object of a class holds a field that was found
abbrev pub slot_of : List Class → ClassAt → Found → Option ℕ
slot_of classes Root found = None
slot_of classes (Listed at) found = option_map (λ n. n + found.slot) (offset_in classes found.class (reverse (line classes at)))

-- what a field starts as; one of a kind that nothing can store is never read
abbrev pub first_value : Field → Value
first_value f = option_map_or default_of (kind_of f.descriptor) Null

-- the values of a new object: for each class from the topmost down those of the fields that it declares
abbrev pub first_values : List Class → ClassAt → List Value
first_values classes Root = []
first_values classes (Listed at) = flat_map (λ c. map first_value (own_part false classes c)) (reverse (line classes at))

-- the static fields of all classes before a program starts: for each class those that it declares
abbrev pub first_statics : List Class → List (List Value)
first_statics classes = map (λ c. map first_value (filter (has_role true) c.fields)) classes

-- where the classes and interfaces stand that the class at a position names as its super types
abbrev pub supers_in : List Class → Class → List ℕ
supers_in classes c =
    option_map_or (λ at. at ∷ []) (option_and_then (place_of classes) c.superclass) [] ++ filter_map (place_of classes) c.interfaces

abbrev pub supers_of : List Class → ℕ → List ℕ
supers_of classes at = option_map_or (supers_in classes) (slice_get classes at) []

-- whether a class is another one or below it, by at most n steps upwards
unfoldable pub is_below_in : ℕ → List Class → ℕ → ℕ → Bool
is_below_in zero classes up at = at == up
is_below_in (suc n) classes up at = (at == up) || list_any (is_below_in n classes up) (supers_of classes at)

-- whether a class is another one or below it. All are below Object
abbrev pub is_below : List Class → ClassAt → ClassAt → Bool
is_below classes at Root = true
is_below classes Root (Listed up) = false
is_below classes (Listed at) (Listed up) = is_below_in (length classes) classes up at
