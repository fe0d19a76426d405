-- Class files that are compiled class by class.
use Rattle.std.specs.Prelude.{◌≡◌, ℕ, ◌≤◌, List, [], ◌∷◌, length, not, Option, Some, None, slice_get, option_and_then, codes}
use Rattle.std.specs.Option.{option_map}
use Rattle.class_form.specs.declared.class_file.ClassFile.{ClassFile}
use Rattle.class_form.specs.declared.member.MemberInfo.{MemberInfo}
use Rattle.jp_pred.specs.declared.hier.Hier.{Hier}
use Rattle.jp_pred.specs.declared.ty.Ty.TheVariants as ty
use Rattle.iface_codec.specs.declared.iface.Iface.{Iface}
use Rattle.iface_codec.specs.declared.iface.IfaceMethod.{IfaceMethod}
use Rattle.iface_codec.specs.declared.iface.MethodKind.{MethodKind}
use Rattle.iface_codec.specs.declared.iface.MethodKind.TheVariants as kind
use Rattle.jp_meaning.specs.declared.unit.TypedPart.{TypedPart}
use Rattle.jp_meaning.specs.declared.unit.TypedPart.TheVariants as part
use Rattle.jp_meaning.specs.declared.unit.TypedMember.{TypedMember}
use Rattle.jp_meaning.specs.declared.unit.TypedClass.{TypedClass}
use Rattle.jp_meaning.specs.Descriptors.{method_descriptor}
use Rattle.jp_meaning.specs.Classes.{class_of_head, hier_in}
use Rattle.jp_meaning.specs.Run.{Program}
use Rattle.jvm_load.specs.FileClasses.{text_at, is_static, class_of}
use Rattle.code_trace.specs.Given.{has_receiver}
use Rattle.gen_body.specs.Members.{member_code}
use Rattle.gen_body.specs.Correct.{IsCodeOf}

-- a method's name, and its descriptor
pub record Name : Type 0 where
  pub name : List ℕ
  pub descriptor : List ℕ

-- what a method with statements is called; an abstract one has none
abbrev pub name_of_method : MethodKind → IfaceMethod → Option Name
name_of_method kind.Abstract m = None
name_of_method kind.Body m = Some (record { name = m.name; descriptor = method_descriptor m.params m.result })
name_of_method kind.Static m = Some (record { name = m.name; descriptor = method_descriptor m.params m.result })
name_of_method kind.PrivateStatic m = Some (record { name = m.name; descriptor = method_descriptor m.params m.result })

-- what the method of a member with statements is called
abbrev pub name_of_part : Iface → TypedPart → Option Name
name_of_part head (part.Field at) = None
name_of_part head (part.Method at) = option_and_then (λ m. name_of_method m.kind m) (slice_get head.methods at)
name_of_part head (part.Constructor at) =
    option_map (λ params. record { name = codes "<init>"; descriptor = method_descriptor params ty.Void }) (slice_get head.constructors at)

-- what a method of a file is called
abbrev pub name_in : ClassFile → MemberInfo → Name
name_in file method = record { name = text_at file method.name; descriptor = text_at file method.descriptor }

-- A method of a class's file is that of a member: it has the member's name and descriptor, is static where the member has no
-- receiver, and its code is the member's, of so many items at most
pub record IsMethodOf (hier : Hier) (head : Iface) (m : TypedMember) (file : ClassFile) (method : MemberInfo) (most : ℕ) : Type 0 where
  pub named : name_of_part head m.part ≡ Some (name_in file method)
  pub role : is_static method ≡ not (has_receiver head m.part)
  pub code : IsCodeOf hier head m file method
  pub few : length (member_code hier head m).items ≤ most

-- a member has a method in its class's file
pub record HasMethod (hier : Hier) (head : Iface) (m : TypedMember) (file : ClassFile) (most : ℕ) : Type 0 where
  pub index : ℕ
  pub method : MemberInfo
  pub there : slice_get file.methods index ≡ Some method
  pub is : IsMethodOf hier head m file method most

-- a method of a file has the name and descriptor of a member of the class
pub record HasMember (c : TypedClass) (file : ClassFile) (method : MemberInfo) : Type 0 where
  pub index : ℕ
  pub member : TypedMember
  pub there : slice_get c.members index ≡ Some member
  pub named : name_of_part c.head member.part ≡ Some (name_in file method)

-- A class file is that of a class: it has the class's name, flags, supertypes and fields; each member with statements has its
-- method; there are no others; and no two methods have one name and descriptor
pub record IsFileOf (hier : Hier) (c : TypedClass) (file : ClassFile) (most : ℕ) : Type 0 where
  pub class : class_of file ≡ class_of_head c.head
  pub each : (i : ℕ) (m : TypedMember) (name : Name) → slice_get c.members i ≡ Some m → name_of_part c.head m.part ≡ Some name → HasMethod hier c.head m file most
  pub others : (j : ℕ) (method : MemberInfo) → slice_get file.methods j ≡ Some method → HasMember c file method
  pub once : (i j : ℕ) (a b : MemberInfo) → slice_get file.methods i ≡ Some a → slice_get file.methods j ≡ Some b → name_in file a ≡ name_in file b → i ≡ j

-- each file is that of the class at its position
abbrev pub AreFilesOf : Hier → List TypedClass → List ClassFile → ℕ → Type 0
AreFilesOf hier [] [] most = Unit {0}
AreFilesOf hier [] (file ∷ files) most = ⊥
AreFilesOf hier (c ∷ cs) [] most = ⊥
AreFilesOf hier (c ∷ cs) (file ∷ files) most = IsFileOf hier c file most × AreFilesOf hier cs files most

-- the files are those of a program's classes, compiled class by class
abbrev pub IsCompiled : Program → List ClassFile → ℕ → Type 0
IsCompiled p files most = AreFilesOf (hier_in p.classes) p.classes files most
