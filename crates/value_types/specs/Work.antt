-- What operations on a store answer, where their operands are of the types that are wanted.
use Rattle.std.specs.Prelude.{◌≡◌, Bool, true, false, List, IsTrue, Option, Some, None, is_some}
use Rattle.std.specs.Option.{option_map_or}
use Rattle.jp_pred.specs.declared.ty.Ty.{Ty}
use Rattle.jp_pred.specs.declared.ty.Ty.TheVariants as ty
use Rattle.jp_pred.specs.Names.{Word}
use Rattle.jp_pred.specs.Kinds.{is_reference, is_array}
use Rattle.jp_store.specs.declared.value.Value.{Value}
use Rattle.jp_store.specs.declared.outcome.Outcome.TheVariants.{Fine, Trap, Wrong}
use Rattle.jp_store.specs.Classes.{Class, class_at, field_of}
use Rattle.jp_store.specs.Store.{Store}
use Rattle.jp_store.specs.Work.{NamedElement, Worked, work, is_concrete, element_of, GetField, PutField, GetStatic, PutStatic, MakeObject, MakeArray, GetElem, PutElem, Length, InstanceOf, Cast}
use Rattle.jp_meaning.specs.Descriptors.{internal_name, key_of, element_kind_of, elements_of}
use Rattle.value_types.specs.Values.{has_type}
use Rattle.value_types.specs.Stores.{IsTyped, GoesOn}

-- a value of the type, in a typed store that goes on from the first
pub record Comes (s : Store) (t : Ty) (v : Value) (u : Store) : Type 0 where
  pub typed : IsTyped u
  pub on : GoesOn s u
  pub value : IsTrue (has_type u t v)

-- it comes to a value of the type, or traps; it isn't wrong
abbrev pub Answers : Store → Ty → Worked → Type 0
Answers s t (Fine r) = Comes s t r.0 r.1
Answers s t (Trap kind) = Unit {0}
Answers s t Wrong = ⊥

-- WHAT IS NAMED IS THERE

-- a field of that name and type is found upwards from the class, static or not
abbrev pub has_field : Bool → List Class → Word → Word → Ty → Bool
has_field static classes class name t = is_some (field_of static classes (key_of class name t))

-- a class of that name is there
abbrev pub has_class : List Class → Word → Bool
has_class classes name = is_some (class_at classes (internal_name name))

-- and there are objects of it
abbrev pub has_objects : List Class → Word → Bool
has_objects classes name = option_map_or (is_concrete classes) (class_at classes (internal_name name)) false

-- there are arrays with elements of the type
abbrev pub has_arrays : List Class → Ty → Bool
has_arrays classes t = option_map_or (λ named. is_some (element_of classes named)) (elements_of t) false

-- the type of arrays with elements of the type
abbrev pub array_of : Ty → Option Ty
array_of ty.Void = None
array_of ty.Int = Some ty.IntArray
array_of ty.Boolean = Some ty.BooleanArray
array_of (ty.Class name) = Some (ty.ClassArray name)
array_of ty.IntArray = None
array_of ty.BooleanArray = None
array_of (ty.ClassArray name) = None

-- EACH OPERATION, where it stands. One without an answer answers null

pub record WorkIsTyped (s : Store) : Type 0 where
  pub get_field : (class name : Word) (t : Ty) (o : Value) → IsTrue (has_field false s.classes class name t) → IsTrue (has_type s (ty.Class class) o) →
      Answers s t (work (GetField o (key_of class name t)) s)
  pub put_field : (class name : Word) (t : Ty) (o v : Value) → IsTrue (has_field false s.classes class name t) → IsTrue (has_type s (ty.Class class) o) →
      IsTrue (has_type s t v) → Answers s ty.Void (work (PutField o (key_of class name t) v) s)
  pub get_static : (class name : Word) (t : Ty) → IsTrue (has_field true s.classes class name t) → Answers s t (work (GetStatic (key_of class name t)) s)
  pub put_static : (class name : Word) (t : Ty) (v : Value) → IsTrue (has_field true s.classes class name t) → IsTrue (has_type s t v) →
      Answers s ty.Void (work (PutStatic (key_of class name t) v) s)
  pub make_object : (class : Word) → IsTrue (has_objects s.classes class) → Answers s (ty.Class class) (work (MakeObject (internal_name class)) s)
  pub make_array : (t u : Ty) (named : NamedElement) (n : Value) → array_of t ≡ Some u → elements_of t ≡ Some named → IsTrue (has_arrays s.classes t) →
      IsTrue (has_type s ty.Int n) → Answers s u (work (MakeArray named n) s)
  pub get_element : (t u : Ty) (a i : Value) → array_of t ≡ Some u → IsTrue (has_type s u a) → IsTrue (has_type s ty.Int i) →
      Answers s t (work (GetElem (element_kind_of t) a i) s)
  pub put_element : (t u : Ty) (a i v : Value) → array_of t ≡ Some u → IsTrue (has_type s u a) → IsTrue (has_type s ty.Int i) → IsTrue (has_type s t v) →
      Answers s ty.Void (work (PutElem (element_kind_of t) a i v) s)
  pub length_of : (u : Ty) (a : Value) → IsTrue (is_array u) → IsTrue (has_type s u a) → Answers s ty.Int (work (Length a) s)
  pub instance_of : (t : Ty) (v : Value) (class : Word) → IsTrue (is_reference t) → IsTrue (has_type s t v) → IsTrue (has_class s.classes class) →
      Answers s ty.Boolean (work (InstanceOf v (internal_name class)) s)
  pub cast : (t : Ty) (v : Value) (class : Word) → IsTrue (is_reference t) → IsTrue (has_type s t v) → IsTrue (has_class s.classes class) →
      Answers s (ty.Class class) (work (Cast v (internal_name class)) s)
