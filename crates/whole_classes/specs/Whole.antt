-- Classes that have a body for each of their families.
use Rattle.std.specs.Prelude.{◌≡◌, ◌<◌, ℕ, List, [], IsTrue, Some, slice_get}
use Rattle.jp_pred.specs.Names.{In}
use Rattle.jp_pred.specs.Hierarchy.{is_below}
use Rattle.iface_codec.specs.declared.iface.Iface.{Iface}
use Rattle.iface_codec.specs.declared.iface.IfaceMethod.{IfaceMethod}
use Rattle.jp_meaning.specs.declared.unit.TypedClass.{TypedClass}
use Rattle.jp_meaning.specs.Does.{Method}
use Rattle.jp_meaning.specs.Descriptors.{method_of}
use Rattle.jp_meaning.specs.Classes.{is_virtual, hier_in, chain_of}
use Rattle.type_rules.specs.Heads.{is_concrete}

-- what names the family of a method in a call
abbrev pub family_of : Iface → IfaceMethod → Method
family_of head m = method_of head.name m.name m.params m.result

-- where the class is concrete, its chain has a body for each family that it, or a class or interface above it, declares
abbrev pub IsWhole : List TypedClass → TypedClass → Type 0
IsWhole classes c =
    IsTrue (is_concrete c.head) → (d : TypedClass) → In d classes → IsTrue (is_below (hier_in classes) c.head.name d.head.name) →
    (m : IfaceMethod) → In m d.head.methods → IsTrue (is_virtual m.kind) → chain_of classes (family_of d.head m) c.head.name ≡ [] → ⊥

-- each of the classes is so
abbrev pub AreWhole : List TypedClass → Type 0
AreWhole classes = (c : TypedClass) → In c classes → IsWhole classes c

-- a class is concrete and has no body for one of its families
pub record Lacks (classes : List TypedClass) (c : TypedClass) : Type 0 where
  pub concrete : IsTrue (is_concrete c.head)
  pub upper : TypedClass
  pub is_one : In upper classes
  pub is_above : IsTrue (is_below (hier_in classes) c.head.name upper.head.name)
  pub method : IfaceMethod
  pub is_declared : In method upper.head.methods
  pub is_of_family : IsTrue (is_virtual method.kind)
  pub has_none : chain_of classes (family_of upper.head method) c.head.name ≡ []

-- the class at that position lacks a body, and each before it is whole
pub record IsFirstLacking (classes : List TypedClass) (at : ℕ) : Type 0 where
  pub class : TypedClass
  pub is_there : slice_get classes at ≡ Some class
  pub lacks : Lacks classes class
  pub before : (i : ℕ) → i < at → (c : TypedClass) → slice_get classes i ≡ Some c → IsWhole classes c
