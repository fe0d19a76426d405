-- What is asked of a program whose files need no dispatchers.
use Rattle.std.specs.Prelude.{◌≡◌, ◌≢◌, ◌⊎◌, ℕ, List, [], length, Some, slice_get, codes}
use Rattle.std.specs.List.{flat_map}
use Rattle.jp_pred.specs.declared.guard.Guard.TheVariants as guard
use Rattle.jp_pred.specs.declared.shape.Shape.{Shape}
use Rattle.jp_pred.specs.Names.{Word}
use Rattle.iface_codec.specs.declared.iface.IfaceMethod.{IfaceMethod}
use Rattle.jp_store.specs.Classes.{object_name}
use Rattle.jp_meaning.specs.declared.unit.TypedClass.{TypedClass}
use Rattle.jp_meaning.specs.Does.{Method}
use Rattle.jp_meaning.specs.Classes.{Placed, Candidate, is_static, methods_in, static_named, upwards, chain_of}
use Rattle.jp_meaning.specs.Choice.{Selects}
use Rattle.jp_meaning.specs.Run.{Program, main_of}
use Rattle.whole_program.specs.Right.{question_in}

-- the static methods with a name and a descriptor, from a class upwards
abbrev pub statics_of : List TypedClass → Method → Word → List Candidate
statics_of classes m name = flat_map (methods_in is_static m) (upwards (length classes) classes name)

-- What the rules of types say of names, beside what the calls of a program need: no two classes have one name, and none has
-- the name of Object in code; no method is called as constructors are; upwards from a class a static method and a body have
-- not the same name and descriptor; and there is a `main`
pub record IsNamed (p : Program) : Type 0 where
  pub distinct : (i j : ℕ) (c d : TypedClass) → slice_get p.classes i ≡ Some c → slice_get p.classes j ≡ Some d → c.head.name ≡ d.head.name → i ≡ j
  pub ordinary : (i : ℕ) (c : TypedClass) → slice_get p.classes i ≡ Some c → c.head.name ≢ object_name
  pub methods : (i j : ℕ) (c : TypedClass) (m : IfaceMethod) → slice_get p.classes i ≡ Some c → slice_get c.head.methods j ≡ Some m → m.name ≢ codes "<init>"
  pub apart : (m : Method) (class : Word) → (chain_of p.classes m class ≡ []) ⊎ (statics_of p.classes m class ≡ [])
  pub main : Placed
  pub main_there : static_named p.classes (main_of p.main) ≡ Some main

-- what is selected in a chain is its first body
abbrev pub NearestIsSelected : Program → Type 0
NearestIsSelected p =
    (m : Method) (class : Word) (shape : Shape) (i : ℕ) → p.select (question_in (chain_of p.classes m class) shape) ≡ Selects i → i ≡ 0

-- no body has a guard
abbrev pub HasNoGuards : Program → Type 0
HasNoGuards p = (i j : ℕ) (c : TypedClass) (m : IfaceMethod) → slice_get p.classes i ≡ Some c → slice_get c.head.methods j ≡ Some m → m.guard ≡ guard.True
