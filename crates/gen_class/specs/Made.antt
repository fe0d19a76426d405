-- The methods of a class's file, as they are made from the members.
use Rattle.std.specs.Prelude.{◌≡◌, List, [], ◌∷◌, ◌++◌, length, Option, Some, None}
use Rattle.class_form.specs.declared.class_file.ClassFile.{ClassFile}
use Rattle.class_form.specs.declared.constant.Const.{Const}
use Rattle.class_form.specs.declared.member.MemberInfo.{MemberInfo}
use Rattle.class_form.specs.Constants.{class_name_at}
use Rattle.jp_pred.specs.declared.hier.Hier.{Hier}
use Rattle.iface_codec.specs.declared.iface.Iface.{Iface}
use Rattle.jp_meaning.specs.declared.unit.TypedMember.{TypedMember}
use Rattle.jp_meaning.specs.Descriptors.{internal_name}
use Rattle.code_asm.specs.Held.{InFiles}
use Rattle.gen_body.specs.Members.{member_code}
use Rattle.gen_laws.specs.Compiled.{Name, name_of_part, IsMethodOf}
use Rattle.gen_class.specs.declared.methods.MethodHead.{MethodHead}

-- what stands in front of a method's code, as its name
abbrev pub as_name : MethodHead → Name
as_name head = record { name = head.name; descriptor = head.descriptor }

-- it is so in each file of a class of this name with these constants and perhaps more behind them
abbrev pub InClass : Iface → List Const → (ClassFile → Type 0) → Type 0
InClass head list P = InFiles list (λ file. class_name_at file file.this_class ≡ Some (internal_name head.name) → P file)

-- a method is that of a member, of as many items as the member's code has
abbrev pub IsMade : Hier → Iface → TypedMember → ClassFile → MemberInfo → Type 0
IsMade hier head m file method = IsMethodOf hier head m file method (length (member_code hier head m).items)

-- where there is a name, the first is as it says, and then the rest; else all are the rest
abbrev pub FirstIs : {A N : Type 0} → (A → Type 0) → (List A → Type 0) → Option N → List A → Type 0
FirstIs Is Rest None xs = Rest xs
FirstIs Is Rest (Some name) [] = ⊥
FirstIs Is Rest (Some name) (x ∷ xs) = Is x × Rest xs

-- the methods are those of the members with statements, in their order
abbrev pub AreMade : Hier → Iface → ClassFile → List TypedMember → List MemberInfo → Type 0
AreMade hier head file [] [] = Unit {0}
AreMade hier head file [] (method ∷ methods) = ⊥
AreMade hier head file (m ∷ ms) methods =
    FirstIs (IsMade hier head m file) (AreMade hier head file ms) (name_of_part head m.part) methods

-- what was added to methods is those of a member
pub record Adds (hier : Hier) (head : Iface) (m : TypedMember) (old new : List MemberInfo) (file : ClassFile) : Type 0 where
  pub more : List MemberInfo
  pub added : new ≡ old ++ more
  pub made : AreMade hier head file (m ∷ []) more
