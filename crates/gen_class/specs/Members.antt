-- What is asked of the members of a class whose file is written.
use Rattle.std.specs.Prelude.{◌≡◌, ℕ, ◌≤◌, true, length, Some, slice_get}
use Rattle.std.specs.List.{list_all}
use Rattle.jp_pred.specs.declared.hier.Hier.{Hier}
use Rattle.iface_codec.specs.declared.iface.Iface.{Iface}
use Rattle.jp_meaning.specs.declared.unit.TypedMember.{TypedMember}
use Rattle.jp_meaning.specs.declared.unit.TypedClass.{TypedClass}
use Rattle.code_asm.specs.Written.{AreMeant}
use Rattle.gen_body.specs.Members.{member_code}
use Rattle.gen_body.specs.Correct.{slots_of}
use Rattle.gen_body.specs.Names.{are_nameable}
use Rattle.calls_fit.specs.Fitting.{method_fits}
use Rattle.gen_laws.specs.Compiled.{Name, name_of_part}

-- it is so if the member has statements
abbrev pub IfWritten : Iface → TypedMember → Type 0 → Type 0
IfWritten head m P = (name : Name) → name_of_part head m.part ≡ Some name → P

-- it is so of each member with statements
abbrev pub EachWritten : TypedClass → (TypedMember → Type 0) → Type 0
EachWritten c P = (i : ℕ) (m : TypedMember) → slice_get c.members i ≡ Some m → IfWritten c.head m (P m)

-- a member has a slot for each value that it starts with
abbrev pub HasSlots : Iface → TypedMember → Type 0
HasSlots head m = slots_of head m.part ≤ m.locals

-- the methods that a member calls are named with the signatures of their descriptors
abbrev pub CallsAreMeant : Hier → Iface → TypedMember → Type 0
CallsAreMeant hier head m = AreMeant (member_code hier head m).items

-- the descriptors of a class's methods and constructors can name their types
pub record HasPlainTypes (head : Iface) : Type 0 where
  pub methods : list_all method_fits head.methods ≡ true
  pub constructors : list_all are_nameable head.constructors ≡ true

-- a member's code has so many items at most
abbrev pub HasFewItems : Hier → Iface → ℕ → TypedMember → Type 0
HasFewItems hier head most m = length (member_code hier head m).items ≤ most

-- no two members with statements have one name and descriptor
abbrev pub AreApart : TypedClass → Type 0
AreApart c =
    (i j : ℕ) (a b : TypedMember) (name : Name) → slice_get c.members i ≡ Some a → slice_get c.members j ≡ Some b →
    name_of_part c.head a.part ≡ Some name → name_of_part c.head b.part ≡ Some name → i ≡ j
