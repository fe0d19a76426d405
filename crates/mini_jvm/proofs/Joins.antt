-- What is left to do after an instruction, as the turn of the state before it.
use Rattle.std.proofs.Common.{◌≡◌, ℕ, Bool, true, false, List, [], ◌∷◌, Option, Some, None, refl, sym, ap, ◌∙◌}
use Rattle.std.specs.Prelude.{slice_get}
use Rattle.class_form.specs.declared.class_file.ClassFile.{ClassFile}
use Rattle.class_form.specs.declared.member.MemberInfo.{MemberInfo}
use Rattle.jp_store.specs.declared.value.Value.{Value}
use Rattle.jp_store.specs.declared.value.TrapKind.{TrapKind}
use Rattle.jp_store.specs.declared.heap.Thing.{Thing}
use Rattle.jp_store.specs.declared.outcome.Outcome.{Outcome}
use Rattle.jp_store.specs.declared.outcome.Outcome.TheVariants.{Fine, Trap, Wrong}
use Rattle.jp_store.specs.Store.{Store}
use Rattle.jvm_table.specs.declared.frame.Frame.{Frame}
use Rattle.jvm_table.specs.Act.{Act, Moves, ShowsInt, ShowsText, Asks, Effects, Invokes, Leaves, Fails, NoRow, on_found, answered, acts}
use Rattle.jvm_load.specs.FileClasses.{classes_of}
use Rattle.jvm_step.specs.declared.act.Left.{Left}
use Rattle.jvm_step.specs.declared.act.Effect.{Effect}
use Rattle.jvm_step.specs.declared.state.State.{State}
use Rattle.jvm_step.specs.declared.state.Running.{Running}
use Rattle.jvm_step.specs.Act.{done, left_to_do}
use Rattle.jvm_step.specs.Turn.{Stops, turn, turn_of, no_row, worked, kept, called, left, returned}
use Rattle.jvm_step.specs.declared.value.Halt.TheVariants.{Trapped}
use Rattle.jvm_calls.specs.Passing.{at_place}
use Rattle.jvm_work.specs.Effects.{effected, store, left_with}
use Rattle.jvm_work.specs.Laws.{pushes, EffectsAreTurns}
use Rattle.mini_jvm.specs.declared.step.Step.{Step}
use Rattle.mini_jvm.specs.Steps.{row_turn}

-- of the state before an instruction a turn sees the place alone
abbrev here : State → State
here st = at_place st.current.frame.place st

row_place : (st : State) (o : Option Step) (now : State) → row_turn (here st) o now ≡ row_turn st o now
row_place st None now = refl
row_place st (Some step) now = refl

kept_place : (st : State) (s : Store) (o : Option Frame) → kept (here st) s o ≡ kept st s o
kept_place st s None = refl
kept_place st s (Some f) = refl

worked_place : (st : State) (push : Bool) (f : Frame) (o : Outcome (Value × Store)) → worked (here st) push f o ≡ worked st push f o
worked_place st push f Wrong = refl
worked_place st push f (Trap kind) = refl
worked_place st push f (Fine r) = kept_place st r.1 (answered push r.0 f)

called_place : (st : State) (null : Bool) (f : Frame) (o : Option Running) → called (here st) null f o ≡ called st null f o
called_place st null f None = refl
called_place st true f (Some running) = refl
called_place st false f (Some running) = refl

returned_place : (st : State) (caller : Running) (callers : List Running) (o : Option Frame) → returned (here st) caller callers o ≡ returned st caller callers o
returned_place st caller callers None = refl
returned_place st caller callers (Some f) = refl

left_place : (st : State) (v : Option Value) (callers : List Running) → left (here st) v callers ≡ left st v callers
left_place st None [] = refl
left_place st (Some v) [] = refl
left_place st None (caller ∷ callers) = refl
left_place st (Some v) (caller ∷ callers) = returned_place st caller callers (answered true v caller.frame)

turn_place : (files : List ClassFile) (st : State) (a : Act) → turn files (here st) a ≡ turn files st a
turn_place files st (Moves f) = refl
turn_place files st (ShowsInt n f) = refl
turn_place files st (ShowsText bytes f) = refl
turn_place files st (Asks f) = refl
turn_place files st (Effects op push f) = worked_place st push f _
turn_place files st (Invokes call push f) = called_place st _ f _
turn_place files st (Leaves v) = left_place st v st.callers
turn_place files st (Fails kind) = refl
turn_place files st NoRow = refl

-- the instruction that runs is found step by step
abbrev in_method : State → ClassFile → Act
in_method st file = on_found (slice_get file.methods st.current.method) (λ method. acts file method st.current.frame)

abbrev in_file : State → Option ClassFile → Act
in_file st o = on_found o (in_method st)

pub no_file : (files : List ClassFile) (st : State) → slice_get files st.current.file ≡ None → turn_of files st ≡ no_row st
no_file files st e = ap (λ o. turn files st (in_file st o)) e

pub no_method : (files : List ClassFile) (st : State) (file : ClassFile) → slice_get files st.current.file ≡ Some file → slice_get file.methods st.current.method ≡ None → turn_of files st ≡ no_row st
no_method files st file e m =
    ap (λ o. turn files st (in_file st o)) e ∙ ap (λ o. turn files st (on_found o (λ method. acts file method st.current.frame))) m

acts_turn : (files : List ClassFile) (st : State) (file : ClassFile) (method : MemberInfo) → slice_get files st.current.file ≡ Some file → slice_get file.methods st.current.method ≡ Some method → turn_of files st ≡ turn files st (acts file method st.current.frame)
acts_turn files st file method e m =
    ap (λ o. turn files st (in_file st o)) e ∙ ap (λ o. turn files st (on_found o (λ method. acts file method st.current.frame))) m

pub no_instruction : (files : List ClassFile) (st : State) (file : ClassFile) (method : MemberInfo) → slice_get files st.current.file ≡ Some file → slice_get file.methods st.current.method ≡ Some method → NoRow ≡ acts file method st.current.frame → turn_of files st ≡ no_row st
no_instruction files st file method e m a = acts_turn files st file method e m ∙ ap (turn files st) (sym a)

pub finished : (files : List ClassFile) (st : State) (file : ClassFile) (method : MemberInfo) (f : Frame) (rest : Left) (step : Option Step) (now : State) → slice_get files st.current.file ≡ Some file → slice_get file.methods st.current.method ≡ Some method → left_to_do file rest f ≡ acts file method st.current.frame → ((place : ℕ) → row_turn (at_place place st) step now ≡ turn files (at_place place st) (left_to_do file rest f)) → row_turn st step now ≡ turn_of files st
finished files st file method f rest step now e m a h =
    sym (row_place st step now) ∙ h st.current.frame.place ∙ turn_place files st (left_to_do file rest f) ∙ ap (turn files st) a ∙ sym (acts_turn files st file method e m)

-- what an effect comes to
effect_turn : EffectsAreTurns → (files : List ClassFile) (st : State) (file : ClassFile) (effect : Effect) (f : Frame) (outcome : Outcome Value) (heap : List Thing) (statics : List (List Value)) → left_with outcome (store (classes_of files) heap statics) ≡ effected file effect (store (classes_of files) st.heap st.statics) → turn files st (done file effect f) ≡ worked st (pushes effect) f (left_with outcome (store (classes_of files) heap statics))
effect_turn law files st file effect f outcome heap statics e =
    law files st file effect f ∙ ap (worked st (pushes effect) f) (sym e)

pub effect_fine : EffectsAreTurns → (files : List ClassFile) (st : State) (file : ClassFile) (effect : Effect) (f : Frame) (outcome : Outcome Value) (v : Value) (heap : List Thing) (statics : List (List Value)) (o : Option Frame) → left_with outcome (store (classes_of files) heap statics) ≡ effected file effect (store (classes_of files) st.heap st.statics) → outcome ≡ Fine v → answered (pushes effect) v f ≡ o → turn files st (done file effect f) ≡ kept st (store (classes_of files) heap statics) o
effect_fine law files st file effect f outcome v heap statics o e i a =
    effect_turn law files st file effect f outcome heap statics e
    ∙ ap (λ r. worked st (pushes effect) f (left_with r (store (classes_of files) heap statics))) i
    ∙ ap (kept st (store (classes_of files) heap statics)) a

pub effect_trap : EffectsAreTurns → (files : List ClassFile) (st : State) (file : ClassFile) (effect : Effect) (f : Frame) (outcome : Outcome Value) (kind : TrapKind) (heap : List Thing) (statics : List (List Value)) → left_with outcome (store (classes_of files) heap statics) ≡ effected file effect (store (classes_of files) st.heap st.statics) → outcome ≡ Trap kind → turn files st (done file effect f) ≡ Stops (Trapped kind)
effect_trap law files st file effect f outcome kind heap statics e i =
    effect_turn law files st file effect f outcome heap statics e ∙ ap (λ r. worked st (pushes effect) f (left_with r (store (classes_of files) heap statics))) i

pub effect_wrong : EffectsAreTurns → (files : List ClassFile) (st : State) (file : ClassFile) (effect : Effect) (f : Frame) (outcome : Outcome Value) (heap : List Thing) (statics : List (List Value)) → left_with outcome (store (classes_of files) heap statics) ≡ effected file effect (store (classes_of files) st.heap st.statics) → outcome ≡ Wrong → turn files st (done file effect f) ≡ no_row st
effect_wrong law files st file effect f outcome heap statics e i =
    effect_turn law files st file effect f outcome heap statics e ∙ ap (λ r. worked st (pushes effect) f (left_with r (store (classes_of files) heap statics))) i
