-- What an effect comes to, as a step of the machine.
use Rattle.std.specs.Prelude.{◌≡◌, Bool, true, false, List}
use Rattle.class_form.specs.declared.class_file.ClassFile.{ClassFile}
use Rattle.jvm_table.specs.declared.frame.Frame.{Frame}
use Rattle.jvm_step.specs.declared.act.Effect.{Effect}
use Rattle.jvm_step.specs.declared.act.Effect.TheVariants.{GetField, PutField, GetStatic, PutStatic, MakeObject, MakeNumbers, MakeTruths, MakeReferences, GetElement, PutElement, ArrayLength, CheckCast, InstanceOf}
use Rattle.jvm_step.specs.declared.state.State.{State}
use Rattle.jvm_step.specs.Act.{done}
use Rattle.jvm_step.specs.Turn.{turn, worked, store_of}
use Rattle.jvm_work.specs.Effects.{effected}

-- whether the value that an effect comes to is pushed
abbrev pub pushes : Effect → Bool
pushes (GetField r index) = true
pushes (PutField r index v) = false
pushes (GetStatic index) = true
pushes (PutStatic index v) = false
pushes (MakeObject index) = true
pushes (MakeNumbers n) = true
pushes (MakeTruths n) = true
pushes (MakeReferences index n) = true
pushes (GetElement kind r index) = true
pushes (PutElement kind r index v) = false
pushes (ArrayLength r) = true
pushes (CheckCast index r) = true
pushes (InstanceOf index r) = true

-- a step that leaves an effect to be done goes on by what the effect comes to
abbrev pub EffectsAreTurns : Type 0
EffectsAreTurns = (files : List ClassFile) (state : State) (file : ClassFile) (effect : Effect) (f : Frame)
    → turn files state (done file effect f) ≡ worked state (pushes effect) f (effected file effect (store_of files state))
