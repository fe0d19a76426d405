-- A state that reads has room for the number.
use Rattle.std.proofs.Common.{◌≡◌, ◌+◌, ℕ, pos, Bool, true, false, List, [], ◌∷◌, length, Option, Some, None, refl, subst}
use Rattle.std.specs.Prelude.{option_and_then, slice_get, nat_lt, nat_eq, if◌then◌else◌}
use Rattle.class_form.specs.declared.class_file.ClassFile.{ClassFile}
use Rattle.class_form.specs.declared.member.MemberInfo.{MemberInfo}
use Rattle.jp_store.specs.declared.value.Value.{Value}
use Rattle.jp_store.specs.declared.value.Value.TheVariants.{Int, Long, Null, Ref, Text}
use Rattle.jp_store.specs.declared.value.Kind.{Kind}
use Rattle.jp_store.specs.declared.value.Kind.TheVariants.{Reference}
use Rattle.jp_store.specs.declared.operator.BinaryOp.TheVariants.{Add}
use Rattle.jp_store.specs.Arith.{is_kind, binary}
use Rattle.jp_store.specs.Work.{GetField as GetFieldOp, PutField as PutFieldOp, GetStatic as GetStaticOp, PutStatic as PutStaticOp, MakeObject as MakeObjectOp, MakeArray, InstanceOf as InstanceOfOp, Cast, ClassElements}
use Rattle.jp_store.specs.declared.outcome.Outcome.{Outcome}
use Rattle.jp_store.specs.declared.outcome.Outcome.TheVariants.{Fine, Trap, Wrong}
use Rattle.jp_store.specs.Store.{Store}
use Rattle.jp_store.specs.Classes.{Key}
use Rattle.jvm_table.specs.declared.frame.Frame.{Frame}
use Rattle.jvm_table.specs.declared.instr.Instr.{Instr}
use Rattle.jvm_table.specs.declared.instr.Instr.TheVariants.{PushNull, PushInt, PushLong, Load, Store as StoreLocal, Increase, LoadElement, StoreElement, MakeNumbers, MakeTruths, ArrayLength, PopTop, Dup, DupBelow, DupTwo, Binary, Negate, Widen, AddLongs, MultiplyLongs, CompareLongs, JumpTo, ReturnValue, ReturnVoid, OnConstant, InvokeInterface}
use Rattle.jvm_table.specs.declared.instr.Jump.{Jump}
use Rattle.jvm_table.specs.declared.instr.Jump.TheVariants.{Always, IfZero, IfInts, IfSame, IfNull}
use Rattle.jvm_table.specs.declared.instr.ConstantUse.{ConstantUse}
use Rattle.jvm_table.specs.declared.instr.ConstantUse.TheVariants.{PushConstant, PushLongConstant, GetStatic, PutStatic, GetField, PutField, InvokeVirtual, InvokeSpecial, InvokeStatic, MakeObject, MakeReferences, CheckCast, InstanceOf}
use Rattle.jvm_table.specs.Descriptors.{Signature, signature_of, places_of}
use Rattle.jvm_table.specs.Decode.{row_at}
use Rattle.jvm_table.specs.Constants.{method_in, interface_method_in, member_named}
use Rattle.jvm_table.specs.Act as table
use Rattle.jvm_table.specs.Act.{Act, Moves, ShowsInt, ShowsText, Asks, Effects, Invokes, Leaves, Fails, NoRow, Target, has_room, on_found, on_pop, on_two, popped, acted, where_so, then_push, pushed, stored, landed, on_receiver, act, acts}
use Rattle.jvm_step.specs.declared.state.State.{State}
use Rattle.jvm_step.specs.declared.state.Running.{Running}
use Rattle.jvm_step.specs.Turn.{Turn, Goes, Shows, Wants, Stops, turn, turn_of, acts_of, worked, kept, called, left, returned}

-- there is room where a number is asked for
abbrev Roomy : Act → Type 0
Roomy (Asks f) = has_room (Int (pos 0)) f ≡ true
Roomy (Moves f) = Unit {0}
Roomy (ShowsInt n f) = Unit {0}
Roomy (ShowsText bytes f) = Unit {0}
Roomy (Effects op push f) = Unit {0}
Roomy (Invokes call push f) = Unit {0}
Roomy (Leaves v) = Unit {0}
Roomy (Fails kind) = Unit {0}
Roomy NoRow = Unit {0}

found : {A : Type 0} (o : Option A) (go : A → Act) → ((a : A) → Roomy (go a)) → Roomy (on_found o go)
found None go h = tt
found (Some a) go h = h a

pops : (f : Frame) (go : Value → Frame → Act) → ((v : Value) (g : Frame) → Roomy (go v g)) → Roomy (on_pop f go)
pops f go h = found (popped f.stack.values f) (λ r. go r.0 r.1) (λ r. h r.0 r.1)

two : (f : Frame) (go : Value → Value → Frame → Act) → ((x y : Value) (g : Frame) → Roomy (go x y g)) → Roomy (on_two f go)
two f go h = pops f (λ y g. on_pop g (λ x i. go x y i)) (λ y g. pops g (λ x i. go x y i) (λ x i. h x y i))

so : (b : Bool) (a : Act) → Roomy a → Roomy (where_so b a)
so true a h = h
so false a h = tt

either : (b : Bool) (x y : Act) → Roomy x → Roomy y → Roomy (if b then x else y)
either true x y h k = h
either false x y h k = k

outcome : {A : Type 0} (o : Outcome A) (go : A → Act) → ((a : A) → Roomy (go a)) → Roomy (acted o go)
outcome (Fine a) go h = h a
outcome (Trap kind) go h = tt
outcome Wrong go h = tt

puts : (v : Value) (f : Frame) (go : Frame → Act) → ((g : Frame) → Roomy (go g)) → Roomy (then_push v f go)
puts v f go h = either (has_room v f) (go (table.with_values (v ∷ f.stack.values) f)) NoRow (h (table.with_values (v ∷ f.stack.values) f)) tt

put : (v : Value) (f : Frame) → Roomy (pushed v f)
put v f = puts v f Moves (λ g. tt)

stores : (index : ℕ) (v : Value) (f : Frame) → Roomy (stored index v f)
stores index v f = so (nat_lt index (length f.locals)) _ tt

lands : (wanted : Bool) (to : ℕ) (f : Frame) (answer : Bool) → Roomy (landed wanted to f answer)
lands true to f true = tt
lands true to f false = tt
lands false to f true = tt
lands false to f false = tt

jumps : (j : Jump) (to : ℕ) (f : Frame) → Roomy (table.jump j to f)
jumps Always to f = tt
jumps (IfZero test) to f = pops f _ (λ x g. outcome _ (landed true to g) (lands true to g))
jumps (IfInts test) to f = two f _ (λ x y g. outcome _ (landed true to g) (lands true to g))
jumps (IfSame wanted) to f = two f _ (λ x y g. outcome _ (landed wanted to g) (lands wanted to g))
jumps (IfNull wanted) to f = pops f _ (λ x g. outcome _ (landed wanted to g) (lands wanted to g))

leaves : (wanted : Option (Option Kind)) (kind : Kind) (v : Value) → Roomy (table.leaves_with wanted kind v)
leaves (Some (Some result)) kind v = so _ (Leaves (Some v)) tt
leaves (Some None) kind v = tt
leaves None kind v = tt

leaves_none : (wanted : Option (Option Kind)) → Roomy (table.leaves_void wanted)
leaves_none (Some (Some result)) = tt
leaves_none (Some None) = tt
leaves_none None = tt

receives : (v : Value) (a : Act) → Roomy a → Roomy (on_receiver v a)
receives (Ref o) a h = h
receives Null a h = tt
receives (Int n) a h = tt
receives (Long n) a h = tt
receives (Text t) a h = tt

invokes : (d : List ℕ) (f : Frame) (go : Signature → List Value → Frame → Act) → ((s : Signature) (args : List Value) (g : Frame) → Roomy (go s args g)) → Roomy (table.invoked d f go)
invokes d f go h = found (signature_of d) (λ s. on_found (table.args_taken s.parameters f) (λ r. go s r.0 r.1)) (λ s. found (table.args_taken s.parameters f) (λ r. go s r.0 r.1) (λ r. h s r.0 r.1))

virtual : (key : Key) (f : Frame) → Roomy (table.calls_virtual key f)
virtual key f =
    invokes key.descriptor f (λ s args g. on_pop g (λ r h. on_receiver r (table.calls (table.VirtualMethod key.name key.descriptor) s (r ∷ args) h)))
    (λ s args g. pops g (λ r h. on_receiver r (table.calls (table.VirtualMethod key.name key.descriptor) s (r ∷ args) h)) (λ r h. receives r (table.calls (table.VirtualMethod key.name key.descriptor) s (r ∷ args) h) tt))

shows : (v : Value) (f : Frame) → Roomy (table.shows_int v f)
shows (Int n) f = tt
shows (Long n) f = tt
shows Null f = tt
shows (Ref o) f = tt
shows (Text t) f = tt

shows_bytes : (file : ClassFile) (v : Value) (f : Frame) → Roomy (table.shows_text file v f)
shows_bytes file (Text t) f = found _ (λ bytes. ShowsText bytes f) (λ bytes. tt)
shows_bytes file (Int n) f = tt
shows_bytes file (Long n) f = tt
shows_bytes file Null f = tt
shows_bytes file (Ref o) f = tt

asks : (f : Frame) (b : Bool) → has_room (Int (pos 0)) f ≡ b → Roomy (where_so b (Asks f))
asks f true e = e
asks f false e = tt

static : (file : ClassFile) (key : Key) (f : Frame) → Roomy (table.calls_static file key f)
static file key f =
    either (table.is_print key) _ _ (pops f table.shows_int shows)
    (either (table.is_text key) _ _ (pops f (table.shows_text file) (shows_bytes file))
    (either (table.is_read key) _ _ (asks f (has_room (Int (pos 0)) f) refl)
    (invokes key.descriptor f (table.calls (table.StaticMethod key)) (λ s args g. tt))))

abbrev above : Target → Signature → List Value → Frame → Act
above t s args g = on_pop g (λ r h. where_so (is_kind Reference r) (table.calls t s (r ∷ args) h))

special : (file : ClassFile) (key : Key) (f : Frame) → Roomy (table.calls_special file key f)
special file key f =
    either (table.is_object_init key) _ _ (pops f (λ r g. on_receiver r (Moves g)) (λ r g. receives r (Moves g) tt))
    (found (table.special_target file key) (λ t. table.invoked key.descriptor f (above t))
    (λ t. invokes key.descriptor f (above t) (λ s args g. pops g (λ r h. where_so (is_kind Reference r) (table.calls t s (r ∷ args) h)) (λ r h. so (is_kind Reference r) (table.calls t s (r ∷ args) h) tt))))

constant : (file : ClassFile) (use_ : ConstantUse) (index : ℕ) (f : Frame) → Roomy (table.on_constant file use_ index f)
constant file PushConstant index f = found _ (λ v. pushed v f) (λ v. put v f)
constant file PushLongConstant index f = found _ (λ v. pushed v f) (λ v. put v f)
constant file GetStatic index f = found _ (λ (key : Key). Effects (GetStaticOp key) true f) (λ key. tt)
constant file PutStatic index f = pops f _ (λ v g. found _ (λ (key : Key). Effects (PutStaticOp key v) false g) (λ key. tt))
constant file GetField index f = pops f _ (λ r g. found _ (λ (key : Key). Effects (GetFieldOp r key) true g) (λ key. tt))
constant file PutField index f = two f _ (λ r v g. found _ (λ (key : Key). Effects (PutFieldOp r key v) false g) (λ key. tt))
constant file InvokeVirtual index f = found (member_named method_in file index) (λ key. table.calls_virtual key f) (λ key. virtual key f)
constant file InvokeSpecial index f = found (member_named method_in file index) (λ key. table.calls_special file key f) (λ key. special file key f)
constant file InvokeStatic index f = found (member_named method_in file index) (λ key. table.calls_static file key f) (λ key. static file key f)
constant file MakeObject index f = found _ (λ (name : List ℕ). Effects (MakeObjectOp name) true f) (λ name. tt)
constant file MakeReferences index f = pops f _ (λ n g. found _ (λ (name : List ℕ). Effects (MakeArray (ClassElements name) n) true g) (λ name. tt))
constant file CheckCast index f = pops f _ (λ r g. found _ (λ (name : List ℕ). Effects (Cast r name) true g) (λ name. tt))
constant file InstanceOf index f = pops f _ (λ r g. found _ (λ (name : List ℕ). Effects (InstanceOfOp r name) true g) (λ name. tt))

interface : (count : ℕ) (key : Key) (f : Frame) → Roomy (table.calls_interface count key f)
interface count key f =
    found (signature_of key.descriptor) (λ s. where_so (nat_eq (1 + places_of s.parameters) count) (table.calls_virtual key f))
    (λ s. so (nat_eq (1 + places_of s.parameters) count) (table.calls_virtual key f) (virtual key f))

instruction : (file : ClassFile) (method : MemberInfo) (instr : Instr) (f : Frame) → Roomy (act file method instr f)
instruction file method PushNull f = put Null f
instruction file method (PushInt n) f = put (Int n) f
instruction file method (PushLong n) f = put (Long n) f
instruction file method (Load kind index) f = found _ (λ v. where_so (is_kind kind v) (pushed v f)) (λ v. so (is_kind kind v) (pushed v f) (put v f))
instruction file method (StoreLocal kind index) f = pops f _ (λ v g. so (is_kind kind v) (stored index v g) (stores index v g))
instruction file method (Increase index by) f = found _ (λ v. acted (binary Add v (Int by)) (λ w. stored index w f)) (λ v. outcome (binary Add v (Int by)) (λ w. stored index w f) (λ w. stores index w f))
instruction file method (LoadElement kind) f = two f _ (λ r index g. tt)
instruction file method (StoreElement kind) f = pops f _ (λ v g. two g _ (λ r index h. tt))
instruction file method MakeNumbers f = pops f _ (λ n g. tt)
instruction file method MakeTruths f = pops f _ (λ n g. tt)
instruction file method ArrayLength f = pops f _ (λ r g. tt)
instruction file method PopTop f = pops f _ (λ v g. so _ (Moves g) tt)
instruction file method Dup f = pops f _ (λ v g. so _ (then_push v g (pushed v)) (puts v g (pushed v) (put v)))
instruction file method DupBelow f = two f _ (λ x y g. so _ (then_push y g (λ h. then_push x h (pushed y))) (puts y g (λ h. then_push x h (pushed y)) (λ h. puts x h (pushed y) (put y))))
instruction file method DupTwo f =
    two f _ (λ x y g. so _ (then_push x g (λ h. then_push y h (λ i. then_push x i (pushed y)))) (puts x g (λ h. then_push y h (λ i. then_push x i (pushed y))) (λ h. puts y h (λ i. then_push x i (pushed y)) (λ i. puts x i (pushed y) (put y)))))
instruction file method (Binary op) f = two f _ (λ x y g. outcome _ (λ v. pushed v g) (λ v. put v g))
instruction file method Negate f = pops f _ (λ x g. outcome _ (λ v. pushed v g) (λ v. put v g))
instruction file method Widen f = pops f _ (λ x g. outcome _ (λ v. pushed v g) (λ v. put v g))
instruction file method AddLongs f = two f _ (λ x y g. outcome _ (λ v. pushed v g) (λ v. put v g))
instruction file method MultiplyLongs f = two f _ (λ x y g. outcome _ (λ v. pushed v g) (λ v. put v g))
instruction file method CompareLongs f = two f _ (λ x y g. outcome _ (λ v. pushed v g) (λ v. put v g))
instruction file method (JumpTo condition to) f = jumps condition to f
instruction file method (ReturnValue kind) f = pops f _ (λ v g. leaves (table.result_kind file method) kind v)
instruction file method ReturnVoid f = leaves_none (table.result_kind file method)
instruction file method (OnConstant use_ index) f = constant file use_ index f
instruction file method (InvokeInterface index count) f = found (member_named interface_method_in file index) (λ key. table.calls_interface count key f) (λ key. interface count key f)

of_method : (file : ClassFile) (method : MemberInfo) (f : Frame) → Roomy (acts file method f)
of_method file method f = found (option_and_then (λ code. row_at code.bytes f.place) method.code) (λ row. act file method row.instr (record f { place = row.next })) (λ row. instruction file method row.instr (record f { place = row.next }))

of_running : (files : List ClassFile) (running : Running) → Roomy (acts_of files running)
of_running files running =
    found (slice_get files running.file) (λ file. on_found (slice_get file.methods running.method) (λ method. acts file method running.frame))
    (λ file. found (slice_get file.methods running.method) (λ method. acts file method running.frame) (λ method. of_method file method running.frame))

-- and so in the state that a turn leads to
abbrev RoomyTurn : Turn → Type 0
RoomyTurn (Wants st) = has_room (Int (pos 0)) st.current.frame ≡ true
RoomyTurn (Goes st) = Unit {0}
RoomyTurn (Shows bytes st) = Unit {0}
RoomyTurn (Stops halt) = Unit {0}

keeps : (st : State) (store : Store) (o : Option Frame) → RoomyTurn (kept st store o)
keeps st store None = tt
keeps st store (Some f) = tt

works : (st : State) (push : Bool) (f : Frame) (o : Outcome (Value × Store)) → RoomyTurn (worked st push f o)
works st push f Wrong = tt
works st push f (Trap kind) = tt
works st push f (Fine r) = keeps st r.1 (table.answered push r.0 f)

calls : (st : State) (null : Bool) (f : Frame) (o : Option Running) → RoomyTurn (called st null f o)
calls st null f None = tt
calls st true f (Some running) = tt
calls st false f (Some running) = tt

returns : (st : State) (caller : Running) (callers : List Running) (o : Option Frame) → RoomyTurn (returned st caller callers o)
returns st caller callers None = tt
returns st caller callers (Some f) = tt

lefts : (st : State) (v : Option Value) (callers : List Running) → RoomyTurn (left st v callers)
lefts st None [] = tt
lefts st (Some v) [] = tt
lefts st None (caller ∷ callers) = tt
lefts st (Some v) (caller ∷ callers) = returns st caller callers (table.answered true v caller.frame)

turns : (files : List ClassFile) (st : State) (a : Act) → Roomy a → RoomyTurn (turn files st a)
turns files st (Moves f) h = tt
turns files st (ShowsInt n f) h = tt
turns files st (ShowsText bytes f) h = tt
turns files st (Asks f) h = h
turns files st (Effects op push f) h = works st push f _
turns files st (Invokes call push f) h = calls st _ f _
turns files st (Leaves v) h = lefts st v st.callers
turns files st (Fails kind) h = tt
turns files st NoRow h = tt

pub room_to_read : (files : List ClassFile) (st next : State) → turn_of files st ≡ Wants next → has_room (Int (pos 0)) next.current.frame ≡ true
room_to_read files st next e = subst RoomyTurn e (turns files st (acts_of files st.current) (of_running files st.current))
