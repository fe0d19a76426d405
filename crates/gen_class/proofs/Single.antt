-- The method that is made of one member.
use Rattle.std.proofs.Common.{◌≡◌, ℕ, true, false, List, [], Option, Some, None, refl, sym, ap, ◌∙◌, subst, arith}
use Rattle.std.specs.Prelude.{not, slice_get, option_and_then, unwrap_or, codes}
use Rattle.std.specs.Option.{option_map, option_map_or}
use Rattle.class_form.specs.declared.class_file.ClassFile.{ClassFile}
use Rattle.class_form.specs.declared.constant.Const.{Const}
use Rattle.class_form.specs.declared.member.Code.{Code}
use Rattle.class_form.specs.declared.member.MemberInfo.{MemberInfo}
use Rattle.class_form.specs.Constants.{utf8_at}
use Rattle.jp_pred.specs.declared.hier.Hier.{Hier}
use Rattle.jp_pred.specs.declared.ty.Ty.{Ty}
use Rattle.jp_pred.specs.declared.ty.Ty.TheVariants as ty
use Rattle.iface_codec.specs.declared.iface.Iface.{Iface}
use Rattle.iface_codec.specs.declared.iface.IfaceMethod.{IfaceMethod}
use Rattle.iface_codec.specs.declared.iface.MethodKind.{MethodKind}
use Rattle.iface_codec.specs.declared.iface.MethodKind.TheVariants as kind
use Rattle.jp_store.specs.declared.value.Kind.{Kind}
use Rattle.jp_meaning.specs.declared.unit.TypedPart.{TypedPart}
use Rattle.jp_meaning.specs.declared.unit.TypedPart.TheVariants as part
use Rattle.jp_meaning.specs.declared.unit.TypedMember.{TypedMember}
use Rattle.jp_meaning.specs.Classes as classes
use Rattle.jp_meaning.specs.Descriptors.{method_descriptor, kind_of_type}
use Rattle.jvm_table.specs.Descriptors.{Signature, signature_of}
use Rattle.jvm_load.specs.FileClasses.{has_flag}
use Rattle.code_trace.specs.Given.{has_receiver}
use Rattle.code_asm.specs.Held.{Extends, InFiles}
use Rattle.code_asm.specs.Written.{AreMeant}
use Rattle.gen_body.specs.Members.{member_code}
use Rattle.gen_body.specs.Correct.{result_of}
use Rattle.gen_body.specs.Names.{are_nameable, is_result}
use Rattle.gen_body.proofs.Signatures.{signatures_read_back}
use Rattle.gen_code.specs.Compiled.{IsCompiled}
use Rattle.class_form.proofs.Facts.{both}
use Rattle.calls_fit.specs.Fitting.{method_fits}
use Rattle.gen_laws.specs.Compiled.{Name, name_of_method, name_of_part, name_in}
use Rattle.gen_laws.proofs.Lists.{one_there, not_there}
use Rattle.gen_laws.proofs.Names.{passes_at}
use Rattle.gen_laws.proofs.Methods.{same_name}
use Rattle.gen_class.specs.Flags.{flags_of_kind, flags_of_part}
use Rattle.gen_class.specs.Members.{HasPlainTypes}
use Rattle.gen_class.specs.Made.{InClass, IsMade}
use Rattle.gen_class.proofs.Growing.{longer}

-- a method is static where the member has no receiver
static_kind : (k : MethodKind) (flags : ℕ) → flags_of_kind k ≡ Some flags → has_flag 0x0008 flags ≡ not (not (classes.is_static k))
static_kind kind.Abstract flags e = not_there _ flags None refl e
static_kind kind.Body flags e = ap (has_flag 0x0008) (sym (one_there (Some 0x0001) 0x0001 flags refl e))
static_kind kind.Static flags e = ap (has_flag 0x0008) (sym (one_there (Some 0x0009) 0x0009 flags refl e))
static_kind kind.PrivateStatic flags e = ap (has_flag 0x0008) (sym (one_there (Some 0x000a) 0x000a flags refl e))

static_part : (head : Iface) (p : TypedPart) (flags : ℕ) → flags_of_part head p ≡ Some flags → has_flag 0x0008 flags ≡ not (has_receiver head p)
static_part head (part.Field at) flags e = not_there _ flags None refl e
static_part head (part.Method at) flags e = by_method (slice_get head.methods at) e where
  by_method : (o : Option IfaceMethod) → option_and_then (λ m. flags_of_kind m.kind) o ≡ Some flags → has_flag 0x0008 flags ≡ not (option_map_or (λ method. not (classes.is_static method.kind)) o false)
  by_method None e = not_there _ flags None refl e
  by_method (Some method) e = static_kind method.kind flags e
static_part head (part.Constructor at) flags e = by_params (slice_get head.constructors at) e where
  by_params : (o : Option (List Ty)) → option_map (λ params. 0x0001) o ≡ Some flags → has_flag 0x0008 flags ≡ false
  by_params None e = not_there _ flags None refl e
  by_params (Some params) e = ap (has_flag 0x0008) (sym (one_there (Some 0x0001) 0x0001 flags refl e))

-- the descriptor of a method says what the member returns
abbrev Says : List ℕ → Option Kind → Type 0
Says descriptor result = option_map (λ (s : Signature). s.result) (signature_of descriptor) ≡ Some result

says : (params : List Ty) (result : Ty) → are_nameable params ≡ true → is_result result ≡ true → Says (method_descriptor params result) (kind_of_type result)
says params result e f = ap (λ (o : Option Signature). option_map (λ (s : Signature). s.result) o) (signatures_read_back params result e f)

-- the name of a method
abbrev called : IfaceMethod → Name
called m = record { name = m.name; descriptor = method_descriptor m.params m.result }

method_says : (method : IfaceMethod) (k : MethodKind) (name : Name) → method_fits method ≡ true → name_of_method k method ≡ Some name → Says name.descriptor (kind_of_type method.result)
method_says method k name fits e = by_kind k e where
  named : Some (called method) ≡ Some name → Says name.descriptor (kind_of_type method.result)
  named e =
      let f = both (are_nameable method.params) (is_result method.result) fits in
      subst (λ (n : Name). Says n.descriptor (kind_of_type method.result)) (one_there (Some (called method)) (called method) name refl e) (says method.params method.result f.0 f.1)

  by_kind : (k : MethodKind) → name_of_method k method ≡ Some name → Says name.descriptor (kind_of_type method.result)
  by_kind kind.Abstract e = not_there _ name None refl e
  by_kind kind.Body e = named e
  by_kind kind.Static e = named e
  by_kind kind.PrivateStatic e = named e

part_says : (head : Iface) → HasPlainTypes head → (p : TypedPart) (name : Name) → name_of_part head p ≡ Some name → Says name.descriptor (result_of head p)
part_says head plain (part.Field at) name e = not_there _ name None refl e
part_says head plain (part.Method at) name e = by_method (slice_get head.methods at) refl e where
  by_method : (o : Option IfaceMethod) → slice_get head.methods at ≡ o → option_and_then (λ m. name_of_method m.kind m) o ≡ Some name → Says name.descriptor (option_map_or (λ method. kind_of_type method.result) o None)
  by_method None there e = not_there _ name None refl e
  by_method (Some method) there e = method_says method method.kind name (passes_at method_fits head.methods at method plain.methods there) e
part_says head plain (part.Constructor at) name e = by_params (slice_get head.constructors at) refl e where
  made : List Ty → Name
  made params = record { name = codes "<init>"; descriptor = method_descriptor params ty.Void }

  by_params : (o : Option (List Ty)) → slice_get head.constructors at ≡ o → option_map (λ params. record { name = codes "<init>"; descriptor = method_descriptor params ty.Void }) o ≡ Some name → Says name.descriptor None
  by_params None there e = not_there _ name None refl e
  by_params (Some params) there e =
      subst (λ (n : Name). Says n.descriptor None) (one_there (Some (made params)) (made params) name refl e)
      (says params ty.Void (passes_at are_nameable head.constructors at params plain.constructors there) refl)

-- a method with a member's name, descriptor, flags and code is made of the member
pub is_made : (hier : Hier) (head : Iface) (m : TypedMember) (name : Name) (method : MemberInfo) (code : Code) (first second last : List Const) (spelled described : List ℕ) → HasPlainTypes head → name_of_part head m.part ≡ Some name → flags_of_part head m.part ≡ Some method.flags
    → AreMeant (member_code hier head m).items → method.code ≡ Some code → Extends first second → Extends second last → spelled ≡ name.name → described ≡ name.descriptor
    → InFiles first (λ file. utf8_at file method.name ≡ Some spelled) → InFiles second (λ file. utf8_at file method.descriptor ≡ Some described)
    → IsCompiled hier head m last code → InClass head last (λ file. IsMade hier head m file method)
is_made hier head m name method code first second last spelled described plain named flagged meant has grows goes same_spelled same_described names describes compiled file more f this =
    let later : InFiles second (λ file. utf8_at file method.name ≡ Some spelled) = longer (λ (file : ClassFile). utf8_at file method.name ≡ Some spelled) first second grows names in
    let n : utf8_at file method.name ≡ Some name.name = longer (λ (file : ClassFile). utf8_at file method.name ≡ Some spelled) second last goes later file more f ∙ ap (λ (b : List ℕ). Some b) same_spelled in
    let d : utf8_at file method.descriptor ≡ Some name.descriptor = longer (λ (file : ClassFile). utf8_at file method.descriptor ≡ Some described) second last goes describes file more f ∙ ap (λ (b : List ℕ). Some b) same_described in
    let is : name ≡ name_in file method = sym (same_name (name_in file method) name (ap (λ (o : Option (List ℕ)). unwrap_or o []) n) (ap (λ (o : Option (List ℕ)). unwrap_or o []) d)) in
    let result = ap (λ (o : Option (List ℕ)). option_map (λ (s : Signature). s.result) (option_and_then signature_of o)) d ∙ part_says head plain m.part name named in
    record {
      named = named ∙ ap (λ (n : Name). Some n) is;
      role = static_part head m.part method.flags flagged;
      code = compiled file method more f has this result meant;
      few = omega arith;
    }
