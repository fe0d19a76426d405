-- Universes, and the universes that extend a hierarchy.
use Rattle.std.specs.Prelude.{◌≡◌, true, false, Some, None, map, ◌⊎◌}
use Rattle.jp_pred.specs.declared.hier.SeenClass.{SeenClass}
use Rattle.jp_pred.specs.declared.hier.Hier.{Hier}
use Rattle.jp_pred.specs.declared.ty.Ty.{Ty}
use Rattle.jp_pred.specs.declared.ty.Ty.TheVariants as ty
use Rattle.jp_pred.specs.Names.{Word, object, In, AreDistinct}
use Rattle.jp_pred.specs.Hierarchy.{class_named, Ascends, HasNoCycle}

-- the name is that of an entry which is no interface
pub record IsClass (hier : Hier) (name : Word) : Type 0 where
  pub entry : SeenClass
  pub found : class_named name hier.classes ≡ Some entry
  pub kind : entry.is_interface ≡ false

-- the name is that of an entry which is an interface
pub record IsInterface (hier : Hier) (name : Word) : Type 0 where
  pub entry : SeenClass
  pub found : class_named name hier.classes ≡ Some entry
  pub kind : entry.is_interface ≡ true

-- the type names a class, itself or of its elements
abbrev pub Names : Ty → Word → Type 0
Names t name = (t ≡ ty.Class name) ⊎ (t ≡ ty.ClassArray name)

-- the name is Object's or that of an entry
abbrev pub IsSeen : Hier → Word → Type 0
IsSeen hier name = (name ≡ object) ⊎ ((c : SeenClass) × (class_named name hier.classes ≡ Some c))

-- a hierarchy that is whole: all that its entries name is there and is used as what it is
pub record IsUniverse (hier : Hier) : Type 0 where
  -- the names of the entries are distinct, and Object isn't listed
  pub distinct : AreDistinct (map (λ c. c.name) hier.classes)
  pub no_object : In object (map (λ c. c.name) hier.classes) → ⊥
  -- each superclass is Object or an entry that is no interface, and each interface an entry that is one
  pub superclass : (c : SeenClass) (s : Word) → In c hier.classes → c.superclass ≡ Some s → (s ≡ object) ⊎ IsClass hier s
  pub interfaces : (c : SeenClass) (i : Word) → In c hier.classes → In i c.interfaces → IsInterface hier i
  -- an interface names no superclass and isn't final
  pub interface : (c : SeenClass) → In c hier.classes → c.is_interface ≡ true → (c.superclass ≡ None) × (c.is_final ≡ false)
  -- the fields of an entry have distinct names, and each class that a field's type names is seen
  pub fields : (c : SeenClass) → In c hier.classes → AreDistinct (map (λ f. f.0) c.fields)
  pub types : (c : SeenClass) (f : Word × Ty) (name : Word) → In c hier.classes → In f c.fields → Names f.1 name → IsSeen hier name
  -- no class is its own proper supertype, and none but itself is below a final one
  pub free : HasNoCycle hier
  pub final : (c : SeenClass) (a : Word) → In c hier.classes → c.is_final ≡ true → Ascends hier a c.name → a ≡ c.name

-- a universe that holds each entry of the hierarchy unchanged, and maybe others
pub record Extends (universe hier : Hier) : Type 0 where
  pub valid : IsUniverse universe
  pub keeps : (c : SeenClass) → In c hier.classes → In c universe.classes
