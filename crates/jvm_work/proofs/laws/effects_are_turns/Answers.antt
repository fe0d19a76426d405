use Rattle.std.proofs.Common.{◌≡◌, Bool, true, false, List, Option, Some, None, refl}
use Rattle.std.specs.Option.{option_map}
use Rattle.class_form.specs.declared.class_file.ClassFile.{ClassFile}
use Rattle.class_form.specs.Constants.{class_name_at}
use Rattle.jp_store.specs.Outcome.{on_some}
use Rattle.jp_store.specs.Work.{Op, GetField as FieldRead, PutField as FieldWrite, GetStatic as StaticRead, PutStatic as StaticWrite, MakeObject as ObjectMade, MakeArray, InstanceOf as InstanceTest, Cast, ClassElements, work}
use Rattle.jvm_table.specs.declared.frame.Frame.{Frame}
use Rattle.jvm_table.specs.Constants.{field_in, member_named}
use Rattle.jvm_table.specs.Act.{Effects, on_found}
use Rattle.jvm_step.specs.declared.act.Effect.{Effect}
use Rattle.jvm_step.specs.declared.act.Effect.TheVariants.{GetField, PutField, GetStatic, PutStatic, MakeObject, MakeNumbers, MakeTruths, MakeReferences, GetElement, PutElement, ArrayLength, CheckCast, InstanceOf}
use Rattle.jvm_step.specs.declared.state.State.{State}
use Rattle.jvm_step.specs.Act.{done}
use Rattle.jvm_step.specs.Turn.{turn, worked, store_of}
use Rattle.jvm_work.specs.Effects.{effected}
use Rattle.jvm_work.specs.Laws.{pushes}
use Rattle.jvm_work.proofs.laws.effects_are_turns.Goals as goal

by_found : {A : Type 0} (files : List ClassFile) (state : State) (push : Bool) (f : Frame) (make : A → Op) (o : Option A) → turn files state (on_found o (λ a. Effects (make a) push f)) ≡ worked state push f (on_some (option_map make o) (λ op. work op (store_of files state)))
by_found files state push f make None = refl
by_found files state push f make (Some a) = refl

turns : (files : List ClassFile) (state : State) (file : ClassFile) (effect : Effect) (f : Frame) → turn files state (done file effect f) ≡ worked state (pushes effect) f (effected file effect (store_of files state))
turns files state file (GetField r index) f = by_found files state true f (FieldRead r) (member_named field_in file index)
turns files state file (PutField r index v) f = by_found files state false f (λ key. FieldWrite r key v) (member_named field_in file index)
turns files state file (GetStatic index) f = by_found files state true f StaticRead (member_named field_in file index)
turns files state file (PutStatic index v) f = by_found files state false f (λ key. StaticWrite key v) (member_named field_in file index)
turns files state file (MakeObject index) f = by_found files state true f ObjectMade (class_name_at file index)
turns files state file (MakeNumbers n) f = refl
turns files state file (MakeTruths n) f = refl
turns files state file (MakeReferences index n) f = by_found files state true f (λ name. MakeArray (ClassElements name) n) (class_name_at file index)
turns files state file (GetElement kind r index) f = refl
turns files state file (PutElement kind r index v) f = refl
turns files state file (ArrayLength r) f = refl
turns files state file (CheckCast index r) f = by_found files state true f (Cast r) (class_name_at file index)
turns files state file (InstanceOf index r) f = by_found files state true f (InstanceTest r) (class_name_at file index)

pub returns : goal.returns
returns c = turns
