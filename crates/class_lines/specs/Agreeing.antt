-- The classes of a program, as predicates see them and as the store has them.
use Rattle.std.specs.Prelude.{◌≡◌, ◌≢◌, ℕ, List, [], map, Bool, true, false, Some, slice_get}
use Rattle.jp_pred.specs.declared.ty.Ty.{Ty}
use Rattle.jp_pred.specs.declared.ty.Ty.TheVariants as ty
use Rattle.jp_pred.specs.Hierarchy.{is_below}
use Rattle.jp_pred.specs.Universe.{IsUniverse}
use Rattle.iface_codec.specs.Hierarchy.{instance_fields}
use Rattle.jp_store.specs.Classes.{Class, object_name}
use Rattle.jp_meaning.specs.declared.unit.TypedClass.{TypedClass}
use Rattle.jp_meaning.specs.Classes.{class_of_head, hier_in}

-- the classes as the store has them
abbrev pub store_classes : List TypedClass → List Class
store_classes classes = map (λ c. class_of_head c.head) classes

-- Classes that are a universe; none has the name of Object in code, and the objects of none have fields of an interface
pub record AreClasses (classes : List TypedClass) : Type 0 where
  pub universe : IsUniverse (hier_in classes)
  pub ordinary : (at : ℕ) (c : TypedClass) → slice_get classes at ≡ Some c → c.head.name ≢ object_name
  pub fieldless : (at : ℕ) (c : TypedClass) → slice_get classes at ≡ Some c → c.head.is_interface ≡ true → instance_fields c.head.fields ≡ []

-- a class or an interface is below the other type, which is one too
abbrev pub widens : List TypedClass → Ty → Ty → Bool
widens classes (ty.Class lower) (ty.Class upper) = is_below (hier_in classes) lower upper
widens classes _ _ = false
