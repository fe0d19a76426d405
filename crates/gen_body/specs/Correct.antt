-- The code of a member has the member's open traces.
use Rattle.std.specs.Prelude.{◌≡◌, ℕ, ◌+◌, ◌≤◌, length, Bool, true, false, not, ◌||◌, ◌==◌, Option, Some, None, slice_get}
use Rattle.std.specs.List.{list_all}
use Rattle.std.specs.Option.{option_map_or}
use Rattle.class_form.specs.declared.class_file.ClassFile.{ClassFile}
use Rattle.class_form.specs.declared.member.MemberInfo.{MemberInfo}
use Rattle.class_form.specs.declared.member.Code.{Code}
use Rattle.class_form.specs.Constants.{class_name_at}
use Rattle.jp_pred.specs.declared.hier.Hier.{Hier}
use Rattle.iface_codec.specs.declared.iface.Iface.{Iface}
use Rattle.jp_store.specs.declared.value.Kind.{Kind}
use Rattle.jp_meaning.specs.declared.unit.TypedMember.{TypedMember}
use Rattle.jp_meaning.specs.declared.unit.TypedPart.{TypedPart}
use Rattle.jp_meaning.specs.declared.unit.TypedPart.TheVariants as part
use Rattle.jp_meaning.specs.Descriptors.{internal_name, kind_of_type}
use Rattle.jvm_table.specs.declared.instr.Instr.{Instr}
use Rattle.jvm_table.specs.declared.instr.Instr.TheVariants.{Store, Increase}
use Rattle.jvm_table.specs.Act.{result_kind}
use Rattle.code_trace.specs.Given.{has_receiver}
use Rattle.code_trace.specs.OpenTraces.{HasOpenTraces}
use Rattle.code_asm.specs.Items.{Wanted, FamilyOf, Item, Plain, Uses, CallsInterface, Branch, Mark, Stands}
use Rattle.gen_body.specs.Members.{given_to, member_code}

-- what kind of value a member returns
abbrev pub result_of : Iface → TypedPart → Option Kind
result_of head (part.Field at) = None
result_of head (part.Method at) = option_map_or (λ method. kind_of_type method.result) (slice_get head.methods at) None
result_of head (part.Constructor at) = None

-- how many locals a member starts with: what it is given, and its aliases
abbrev pub slots_of : Iface → TypedPart → ℕ
slots_of head (part.Field at) = 0
slots_of head (part.Method at) = option_map_or (λ method. given_to method + length method.aliases) (slice_get head.methods at) 0
slots_of head (part.Constructor at) = option_map_or (λ params. 1 + length params) (slice_get head.constructors at) 0

-- the items of a member stand in a method of its class's file, which has places enough for them
pub record IsCodeOf (hier : Hier) (head : Iface) (m : TypedMember) (file : ClassFile) (method : MemberInfo) : Type 0 where
  pub code : Code
  pub has : method.code ≡ Some code
  pub this : class_name_at file file.this_class ≡ Some (internal_name head.name)
  pub result : result_kind file method ≡ Some (result_of head m.part)
  pub place : ℕ → ℕ
  pub to : ℕ
  pub stands : Stands file code.bytes place 0 (member_code hier head m).items to
  pub room : (member_code hier head m).need ≤ code.max_stack
  pub locals : code.max_locals ≡ m.locals
  pub slots : slots_of head m.part ≤ m.locals

-- the local in which an instruction stores, if it does
abbrev pub stores_in : Instr → Option ℕ
stores_in (Store kind slot) = Some slot
stores_in (Increase slot by) = Some slot
stores_in _ = None

-- whether a method is called that is found above the class
abbrev pub is_family : Wanted → Bool
is_family (FamilyOf key signature) = true
is_family _ = false

-- Whether an item of a member leaves its receiver alone, which is in local 0. One without a receiver calls no method that is
-- found above the class
abbrev pub keeps : Bool → Item → Bool
keeps received (Plain instr) = not received || option_map_or (λ slot. not (slot == 0)) (stores_in instr) true
keeps received (Uses use_ wanted) = received || not (is_family wanted)
keeps received (CallsInterface key signature) = true
keeps received (Branch jump label) = true
keeps received (Mark label) = true

-- the code of a member leaves its receiver alone
abbrev pub KeepsReceiver : Hier → Iface → TypedMember → Type 0
KeepsReceiver hier head m = list_all (keeps (has_receiver head m.part)) (member_code hier head m).items ≡ true

-- at most as many instructions for each turn of a loop, and at first, as there are items
abbrev pub CompiledHasOpenTraces : Type 0
CompiledHasOpenTraces =
    (hier : Hier) (head : Iface) (m : TypedMember) (file : ClassFile) (method : MemberInfo) (more : ℕ) → IsCodeOf hier head m file method →
    KeepsReceiver hier head m → length (member_code hier head m).items ≤ more → HasOpenTraces hier head m file method more
