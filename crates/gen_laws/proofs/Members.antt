-- The method of a member runs the member.
use Rattle.std.proofs.Common.{◌≡◌, ℕ, Bool, true, false, List, [], ◌∷◌, Option, Some, refl, ap, ◌∙◌, arith}
use Rattle.std.specs.Prelude.{not, unwrap_or, slice_get}
use Rattle.std.specs.Option.{option_map_or}
use Rattle.std.proofs.lemmas.Bool.{false≢true}
use Rattle.class_form.specs.declared.class_file.ClassFile.{ClassFile}
use Rattle.class_form.specs.declared.member.MemberInfo.{MemberInfo}
use Rattle.jp_pred.specs.declared.ty.Ty.{Ty}
use Rattle.jp_pred.specs.declared.ty.Ty.TheVariants as ty
use Rattle.iface_codec.specs.declared.iface.Iface.{Iface}
use Rattle.iface_codec.specs.declared.iface.IfaceMethod.{IfaceMethod}
use Rattle.iface_codec.specs.declared.iface.MethodKind.{MethodKind}
use Rattle.iface_codec.specs.declared.iface.MethodKind.TheVariants as kind
use Rattle.jp_store.specs.declared.heap.Thing.{Thing}
use Rattle.jp_meaning.specs.Does.{Method}
use Rattle.jp_meaning.specs.Descriptors.{method_descriptor}
use Rattle.jp_meaning.specs.Classes.{Placed, Candidate, is_body, is_static, hier_in}
use Rattle.jp_meaning.specs.Run.{Program}
use Rattle.jvm_table.specs.Act.{Call}
use Rattle.jvm_load.specs.FileClasses as file_of
use Rattle.code_trace.specs.Given.{has_receiver}
use Rattle.gen_body.specs.Correct.{KeepsReceiver}
use Rattle.gen_body.proofs.Members.{code_enters, open_traces}
use Rattle.whole_program.specs.Right.{Bounds, RunsAs, RunsMember}
use Rattle.gen_laws.specs.Compiled.{IsMethodOf}
use Rattle.gen_laws.specs.Laws.{CompiledRunsMember}
use Rattle.gen_laws.proofs.Methods.{Fits}

pub runs_as_found : (p : Program) (files : List ClassFile) (b : Bounds) (heap : List Thing) (call : Call) (q : Placed) (file : ClassFile) (method : MemberInfo) → IsMethodOf (hier_in p.classes) q.head q.member file method b.turn → KeepsReceiver (hier_in p.classes) q.head q.member → RunsAs files heap call file method → RunsMember p files b heap call q
runs_as_found p files b heap call q file method is kept runs = (file, method, runs, open_traces (hier_in p.classes) q.head q.member file method b.turn is.code kept is.few)

pub runs_member : CompiledRunsMember
runs_member p files b heap call q at file method found file_there method_there role descriptor is kept given =
    let f = code_enters (hier_in p.classes) q.head q.member file method is.code call.args given in
    runs_as_found p files b heap call q file method is kept (record { at = at; found = found; file_there = file_there; method_there = method_there; role = role; descriptor = descriptor; frame = f.0; enters = f.1 })

-- whether a method that fits has a receiver
fits_received : (of_kind : MethodKind → Bool) (m : Method) (head : Iface) (x : Candidate) → Fits of_kind m head x → has_receiver head x.member.part ≡ not (is_static x.method.kind)
fits_received of_kind m head x f = ap (has_receiver head) f.part_is ∙ ap (λ (o : Option IfaceMethod). option_map_or (λ method. not (is_static method.kind)) o false) f.method_there

body_role : (k : MethodKind) → is_body k ≡ true → not (not (is_static k)) ≡ false
body_role kind.Body e = refl
body_role kind.Abstract e = absurd (false≢true e)
body_role kind.Static e = absurd (false≢true e)
body_role kind.PrivateStatic e = absurd (false≢true e)

-- a body's method isn't static, and a static method's is
pub body_plain : (p : Program) (m : Method) (x : Candidate) (file : ClassFile) (method : MemberInfo) (most : ℕ) → Fits is_body m x.head x → IsMethodOf (hier_in p.classes) x.head x.member file method most → file_of.is_static method ≡ false
body_plain p m x file method most f is = is.role ∙ ap not (fits_received is_body m x.head x f) ∙ body_role x.method.kind f.kind

pub static_so : (p : Program) (m : Method) (x : Candidate) (file : ClassFile) (method : MemberInfo) (most : ℕ) → Fits is_static m x.head x → IsMethodOf (hier_in p.classes) x.head x.member file method most → file_of.is_static method ≡ true
static_so p m x file method most f is = is.role ∙ ap not (fits_received is_static m x.head x f) ∙ ap (λ b. not (not b)) f.kind

-- a descriptor without parameters
second_of : (t : Ty) (ts : List Ty) (result : Ty) → slice_get (method_descriptor (t ∷ ts) result) 1 ≡ Some 41 → ⊥
second_of ty.Void ts result e = absurd (omega (arith, ap (λ (o : Option ℕ). unwrap_or o 0) e))
second_of ty.Int ts result e = absurd (omega (arith, ap (λ (o : Option ℕ). unwrap_or o 0) e))
second_of ty.Boolean ts result e = absurd (omega (arith, ap (λ (o : Option ℕ). unwrap_or o 0) e))
second_of (ty.Class name) ts result e = absurd (omega (arith, ap (λ (o : Option ℕ). unwrap_or o 0) e))
second_of ty.IntArray ts result e = absurd (omega (arith, ap (λ (o : Option ℕ). unwrap_or o 0) e))
second_of ty.BooleanArray ts result e = absurd (omega (arith, ap (λ (o : Option ℕ). unwrap_or o 0) e))
second_of (ty.ClassArray name) ts result e = absurd (omega (arith, ap (λ (o : Option ℕ). unwrap_or o 0) e))

pub takes_nothing : (params : List Ty) (result : Ty) → method_descriptor params result ≡ method_descriptor [] ty.Void → params ≡ []
takes_nothing [] result e = refl
takes_nothing (t ∷ ts) result e = absurd (second_of t ts result (ap (λ (l : List ℕ). slice_get l 1) e))
