-- What code and class files do that are compiled class by class.
use Rattle.std.specs.Prelude.{◌≡◌, ℕ, List, Some, slice_get, true}
use Rattle.class_form.specs.declared.class_file.ClassFile.{ClassFile}
use Rattle.class_form.specs.declared.member.MemberInfo.{MemberInfo}
use Rattle.jp_pred.specs.declared.hier.Hier.{Hier}
use Rattle.jp_pred.specs.Universe.{IsUniverse}
use Rattle.iface_codec.specs.declared.iface.Iface.{Iface}
use Rattle.jp_store.specs.declared.heap.Thing.{Thing}
use Rattle.jp_meaning.specs.declared.unit.TypedMember.{TypedMember}
use Rattle.jp_meaning.specs.Classes.{Placed, hier_in}
use Rattle.jp_meaning.specs.Choice.{IsSelection}
use Rattle.jp_meaning.specs.Descriptors.{internal_name}
use Rattle.jp_meaning.specs.Run.{Program, run}
use Rattle.jvm_table.specs.Act.{Call}
use Rattle.jvm_load.specs.FileClasses.{text_at, is_static}
use Rattle.jvm_step.specs.Turn.{found_by, wants_static}
use Rattle.jvm_step.specs.Run.{machine_run}
use Rattle.code_trace.specs.Given.{are_for}
use Rattle.whole_program.specs.Right.{Bounds, Naming, descriptor_in, RunsMember, IsRight}
use Rattle.whole_program.specs.Laws.{fee, Matches}
use Rattle.gen_body.specs.Correct.{KeepsReceiver}
use Rattle.calls_fit.specs.Fitting.{member_fits, ProgramFits}
use Rattle.gen_laws.specs.Compiled.{IsMethodOf, IsCompiled}
use Rattle.gen_laws.specs.Plain.{IsNamed, NearestIsSelected, HasNoGuards}

-- a call that finds the method of a member, and gives what the member is declared with, runs the member
abbrev pub CompiledRunsMember : Type 0
CompiledRunsMember =
    (p : Program) (files : List ClassFile) (b : Bounds) (heap : List Thing) (call : Call) (q : Placed) (at : ℕ × ℕ) (file : ClassFile) (method : MemberInfo) →
    found_by files heap call.target call.args ≡ Some at → slice_get files at.0 ≡ Some file → slice_get file.methods at.1 ≡ Some method → is_static method ≡ wants_static call.target → text_at file method.descriptor ≡ descriptor_in call.target →
    IsMethodOf (hier_in p.classes) q.head q.member file method b.turn → KeepsReceiver (hier_in p.classes) q.head q.member → are_for q.head q.member.part call.args ≡ true → RunsMember p files b heap call q

-- the code of a member that fits leaves its receiver alone
abbrev pub FittingKeepsReceiver : Type 0
FittingKeepsReceiver = (p : Program) (hier : Hier) (head : Iface) (m : TypedMember) → member_fits p head m ≡ true → KeepsReceiver hier head m

-- where no body has a guard, the nearest is selected
abbrev pub UnguardedSelectsNearest : Type 0
UnguardedSelectsNearest = (p : Program) → IsUniverse (hier_in p.classes) → IsSelection (hier_in p.classes) p.select → HasNoGuards p → NearestIsSelected p

-- files that are compiled class by class are right for a program whose trees fit
abbrev pub CompiledIsRight : Type 0
CompiledIsRight =
    (p : Program) (files : List ClassFile) (naming : Naming) (b : Bounds) → ProgramFits p → IsNamed p → NearestIsSelected p → IsCompiled p files b.turn → IsRight p files naming b

-- and do what the program means
abbrev pub CompiledKeepsTheMeaning : Type 0
CompiledKeepsTheMeaning =
    (p : Program) (files : List ClassFile) (b : Bounds) → ProgramFits p → IsNamed p → NearestIsSelected p → IsCompiled p files b.turn → (input : List ℕ) (n : ℕ) →
    Matches (λ limit. machine_run files (internal_name p.main) limit input) (fee b) input n (run p input n) (run p input n).end
