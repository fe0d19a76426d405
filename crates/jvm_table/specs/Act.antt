-- What one instruction does on its own frame, and what is left to do, whoever does it.
use Rattle.std.specs.Prelude.{ℕ, ℤ, pos, ◌+◌, Bool, true, false, ◌&&◌, List, [], ◌∷◌, length, Option, Some, None, is_some, option_and_then, slice_get, slice_set, nat_lt, nat_le, nat_eq, if◌then◌else◌, codes}
use Rattle.std.specs.Option.{option_map}
use Rattle.std.specs.Str.{bytes_eq}
use Rattle.class_form.specs.declared.constant.Const.{Const}
use Rattle.class_form.specs.declared.constant.Const.TheVariants.{Unused, Utf8, Integer, Float, Long as LongConstant, Double, Class, Text as Literal, Fieldref, Methodref, InterfaceMethodref, NameAndType}
use Rattle.class_form.specs.declared.class_file.ClassFile.{ClassFile}
use Rattle.class_form.specs.declared.member.MemberInfo.{MemberInfo}
use Rattle.class_form.specs.Constants.{utf8_at, class_name_at}
use Rattle.jp_store.specs.declared.value.Value.{Value}
use Rattle.jp_store.specs.declared.value.Value.TheVariants.{Int, Long, Null, Ref, Text}
use Rattle.jp_store.specs.declared.value.TrapKind.{TrapKind}
use Rattle.jp_store.specs.declared.value.TrapKind.TheVariants.{NullReference}
use Rattle.jp_store.specs.declared.value.Kind.{Kind}
use Rattle.jp_store.specs.declared.value.Kind.TheVariants.{Number, LongNumber, Reference}
use Rattle.jp_store.specs.declared.operator.BinaryOp.TheVariants.{Add}
use Rattle.jp_store.specs.declared.outcome.Outcome.{Outcome}
use Rattle.jp_store.specs.declared.outcome.Outcome.TheVariants.{Fine, Trap, Wrong}
use Rattle.jp_store.specs.Arith.{binary, negated, widened, long_sums, long_products, long_orders, compares, sames, is_kind, width_of}
use Rattle.jp_store.specs.Classes.{Key, object_name}
use Rattle.jp_store.specs.Work.{Op, GetField as FieldRead, PutField as FieldWrite, GetStatic as StaticRead, PutStatic as StaticWrite, MakeObject as ObjectMade, MakeArray, GetElem, PutElem, Length, InstanceOf as InstanceTest, Cast, IntElements, BooleanElements, ClassElements}
use Rattle.jvm_table.specs.declared.instr.Instr.{Instr}
use Rattle.jvm_table.specs.declared.instr.Instr.TheVariants.{PushNull, PushInt, PushLong, Load, Store, Increase, LoadElement, StoreElement, MakeNumbers, MakeTruths, ArrayLength, PopTop, Dup, DupBelow, DupTwo, Binary, Negate, Widen, AddLongs, MultiplyLongs, CompareLongs, JumpTo, ReturnValue, ReturnVoid, OnConstant, InvokeInterface}
use Rattle.jvm_table.specs.declared.instr.Jump.{Jump}
use Rattle.jvm_table.specs.declared.instr.Jump.TheVariants.{Always, IfZero, IfInts, IfSame, IfNull}
use Rattle.jvm_table.specs.declared.instr.ConstantUse.{ConstantUse}
use Rattle.jvm_table.specs.declared.instr.ConstantUse.TheVariants.{PushConstant, PushLongConstant, GetStatic, PutStatic, GetField, PutField, InvokeVirtual, InvokeSpecial, InvokeStatic, MakeObject, MakeReferences, CheckCast, InstanceOf}
use Rattle.jvm_table.specs.declared.frame.Frame.{Frame}
use Rattle.jvm_table.specs.Stack.{depth_of}
use Rattle.jvm_table.specs.Decode.{row_at}
use Rattle.jvm_table.specs.Descriptors.{Signature, signature_of, places_of}
use Rattle.jvm_table.specs.Constants.{field_in, method_in, interface_method_in, member_named, literal_at}

-- which method is called
pub data Target : Type 0 where
  -- found from the named class upwards
  StaticMethod : Key → Target
  -- of this name and descriptor, found from the receiver's class upwards
  VirtualMethod : List ℕ → List ℕ → Target
  -- the named class's own
  Constructor : Key → Target
  -- of this name and descriptor, found from the super class of this class upwards
  MethodAbove : List ℕ → List ℕ → List ℕ → Target

-- a call. The receiver, if there is one, is the first argument
pub record Call : Type 0 where
  pub target : Target
  pub args : List Value

-- what is left to do after an instruction. An answer is pushed where the flag says so; a number that is read is pushed
pub data Act : Type 0 where
  Moves : Frame → Act
  ShowsInt : ℤ → Frame → Act
  ShowsText : List ℕ → Frame → Act
  Asks : Frame → Act
  Effects : Op → Bool → Frame → Act
  Invokes : Call → Bool → Frame → Act
  Leaves : Option Value → Act
  Fails : TrapKind → Act
  NoRow : Act

-- where the frame holds these values
abbrev pub with_values : List Value → Frame → Frame
with_values vs f = record f { stack = record f.stack { values = vs } }

-- whether there is room for a value more
abbrev pub has_room : Value → Frame → Bool
has_room v f = nat_le (width_of v + depth_of f.stack.values) f.stack.room

-- goes on with a value more, if there is room
abbrev pub then_push : Value → Frame → (Frame → Act) → Act
then_push v f go = if has_room v f then go (with_values (v ∷ f.stack.values) f) else NoRow

abbrev pub pushed : Value → Frame → Act
pushed v f = then_push v f Moves

-- a frame that gets an answer: it is pushed, if there is room, or dropped
abbrev pub answered : Bool → Value → Frame → Option Frame
answered false v f = Some f
answered true v f = if has_room v f then Some (with_values (v ∷ f.stack.values) f) else None

-- the value on top, and the frame without it
abbrev pub popped : List Value → Frame → Option (Value × Frame)
popped [] f = None
popped (v ∷ vs) f = Some (v, with_values vs f)

-- what is done with what is found; there is no row without it
abbrev pub on_found : {A : Type 0} → Option A → (A → Act) → Act
on_found None go = NoRow
on_found (Some a) go = go a

abbrev pub on_pop : Frame → (Value → Frame → Act) → Act
on_pop f go = on_found (popped f.stack.values f) (λ r. go r.0 r.1)

-- the second value from the top, and the one on top
abbrev pub on_two : Frame → (Value → Value → Frame → Act) → Act
on_two f go = on_pop f (λ y g. on_pop g (λ x h. go x y h))

-- what an operation on values comes to
abbrev pub acted : {A : Type 0} → Outcome A → (A → Act) → Act
acted (Fine a) go = go a
acted (Trap kind) go = Fails kind
acted Wrong go = NoRow

-- a condition without which there is no row
abbrev pub where_so : Bool → Act → Act
where_so true act = act
where_so false act = NoRow

-- a local variable, if something is stored in it
abbrev pub variable : Frame → ℕ → Option Value
variable f index = option_and_then (λ v. v) (slice_get f.locals index)

-- a frame with a value in a local variable, if there is such a variable
abbrev pub stored : ℕ → Value → Frame → Act
stored index v f = where_so (nat_lt index (length f.locals)) (Moves (record f { locals = slice_set f.locals index (Some v) }))

-- whether a value takes one place
abbrev pub is_single : Value → Bool
is_single v = nat_eq (width_of v) 1

-- there where the answer is the wanted one, and else on
abbrev pub landed : Bool → ℕ → Frame → Bool → Act
landed true to f true = Moves (record f { place = to })
landed true to f false = Moves f
landed false to f true = Moves f
landed false to f false = Moves (record f { place = to })

abbrev pub jump : Jump → ℕ → Frame → Act
jump Always to f = Moves (record f { place = to })
jump (IfZero test) to f = on_pop f (λ x g. acted (compares test x (Int (pos 0))) (landed true to g))
jump (IfInts test) to f = on_two f (λ x y g. acted (compares test x y) (landed true to g))
jump (IfSame wanted) to f = on_two f (λ x y g. acted (sames x y) (landed wanted to g))
jump (IfNull wanted) to f = on_pop f (λ x g. acted (sames x Null) (landed wanted to g))

abbrev pub is_same_kind : Kind → Kind → Bool
is_same_kind Number Number = true
is_same_kind Number LongNumber = false
is_same_kind Number Reference = false
is_same_kind LongNumber Number = false
is_same_kind LongNumber LongNumber = true
is_same_kind LongNumber Reference = false
is_same_kind Reference Number = false
is_same_kind Reference LongNumber = false
is_same_kind Reference Reference = true

-- what a method's own descriptor says of its result, if it is one
abbrev pub result_kind : ClassFile → MemberInfo → Option (Option Kind)
result_kind file method = option_map (λ s. s.result) (option_and_then signature_of (utf8_at file method.descriptor))

-- leaves with a value of a kind, where the method has such a result
abbrev pub leaves_with : Option (Option Kind) → Kind → Value → Act
leaves_with (Some (Some result)) kind v = where_so (is_same_kind kind result && is_kind kind v) (Leaves (Some v))
leaves_with (Some None) kind v = NoRow
leaves_with None kind v = NoRow

-- leaves a method without a result
abbrev pub leaves_void : Option (Option Kind) → Act
leaves_void (Some None) = Leaves None
leaves_void (Some (Some result)) = NoRow
leaves_void None = NoRow

-- the value of the constant that `ldc` names: an int, or a string literal that has a text
abbrev pub constant_value : ClassFile → ℕ → Const → Option Value
constant_value file index (Integer n) = Some (Int n)
constant_value file index (Literal text) = option_map (λ bytes. Text index) (utf8_at file text)
constant_value file index Unused = None
constant_value file index (Utf8 bytes) = None
constant_value file index (Float bits) = None
constant_value file index (LongConstant n) = None
constant_value file index (Double bits) = None
constant_value file index (Class name) = None
constant_value file index (Fieldref class name) = None
constant_value file index (Methodref class name) = None
constant_value file index (InterfaceMethodref class name) = None
constant_value file index (NameAndType name descriptor) = None

-- the value of the constant that `ldc2_w` names: a long
abbrev pub long_value : Const → Option Value
long_value (LongConstant n) = Some (Long n)
long_value (Integer n) = None
long_value (Literal text) = None
long_value Unused = None
long_value (Utf8 bytes) = None
long_value (Float bits) = None
long_value (Double bits) = None
long_value (Class name) = None
long_value (Fieldref class name) = None
long_value (Methodref class name) = None
long_value (InterfaceMethodref class name) = None
long_value (NameAndType name descriptor) = None

-- arguments of these kinds from the stack, the last one on top, and the frame without them
abbrev pub args_taken : List Kind → Frame → Option (List Value × Frame)
args_taken [] f = Some ([], f)
args_taken (kind ∷ kinds) f =
    option_and_then (λ r. option_and_then (λ p. if is_kind kind p.0 then Some (p.0 ∷ r.0, p.1) else None) (popped r.1.stack.values r.1)) (args_taken kinds f)

-- calls a method with the arguments that its descriptor asks for, and what is below them
abbrev pub invoked : List ℕ → Frame → (Signature → List Value → Frame → Act) → Act
invoked descriptor f go = on_found (signature_of descriptor) (λ s. on_found (args_taken s.parameters f) (λ r. go s r.0 r.1))

-- calls a target with these arguments
abbrev pub calls : Target → Signature → List Value → Frame → Act
calls target s args f = Invokes (record { target = target; args = args }) (is_some s.result) f

-- a receiver is a reference, and null is a trap
abbrev pub on_receiver : Value → Act → Act
on_receiver (Ref o) act = act
on_receiver Null act = Fails NullReference
on_receiver (Int n) act = NoRow
on_receiver (Long n) act = NoRow
on_receiver (Text t) act = NoRow

-- calls the method that is found by the receiver
abbrev pub calls_virtual : Key → Frame → Act
calls_virtual key f = invoked key.descriptor f (λ s args g. on_pop g (λ r h. on_receiver r (calls (VirtualMethod key.name key.descriptor) s (r ∷ args) h)))

-- `invokeinterface`, with how many places its arguments take
abbrev pub calls_interface : ℕ → Key → Frame → Act
calls_interface count key f =
    on_found (signature_of key.descriptor) (λ s. where_so (nat_eq (1 + places_of s.parameters) count) (calls_virtual key f))

-- whether a constant names this member
abbrev pub names : List ℕ → List ℕ → List ℕ → Key → Bool
names class name descriptor key = bytes_eq key.class class && (bytes_eq key.name name && bytes_eq key.descriptor descriptor)

-- the built-in `Io.print` of an int, `Io.text` of a string literal, and `Io.read`
abbrev pub is_print : Key → Bool
is_print = names (codes "Io") (codes "print") (codes "(I)V")

abbrev pub is_text : Key → Bool
is_text = names (codes "Io") (codes "text") (codes "(Ljava/lang/String;)V")

abbrev pub is_read : Key → Bool
is_read = names (codes "Io") (codes "read") (codes "()I")

-- the built-in constructor of Object
abbrev pub is_object_init : Key → Bool
is_object_init = names object_name (codes "<init>") (codes "()V")

abbrev pub shows_int : Value → Frame → Act
shows_int (Int n) f = ShowsInt n f
shows_int (Long n) f = NoRow
shows_int Null f = NoRow
shows_int (Ref o) f = NoRow
shows_int (Text t) f = NoRow

abbrev pub shows_text : ClassFile → Value → Frame → Act
shows_text file (Text t) f = on_found (literal_at file t) (λ bytes. ShowsText bytes f)
shows_text file (Int n) f = NoRow
shows_text file (Long n) f = NoRow
shows_text file Null f = NoRow
shows_text file (Ref o) f = NoRow

-- calls a static method
abbrev pub calls_static : ClassFile → Key → Frame → Act
calls_static file key f =
    if is_print key then on_pop f shows_int
    else (if is_text key then on_pop f (shows_text file)
    else (if is_read key then where_so (has_room (Int (pos 0)) f) (Asks f)
    else invoked key.descriptor f (calls (StaticMethod key))))

-- which method `invokespecial` calls: a constructor of the named class, or a method above the class whose code this is
abbrev pub special_target : ClassFile → Key → Option Target
special_target file key =
    if bytes_eq key.name (codes "<init>") then Some (Constructor key)
    else option_map (λ current. MethodAbove current key.name key.descriptor) (class_name_at file file.this_class)

-- calls a method without a look at the receiver's class. Whether null is a trap is seen when the method is found
abbrev pub calls_special : ClassFile → Key → Frame → Act
calls_special file key f =
    if is_object_init key then on_pop f (λ r g. on_receiver r (Moves g))
    else on_found (special_target file key) (λ target. invoked key.descriptor f (λ s args g. on_pop g (λ r h.
    where_so (is_kind Reference r) (calls target s (r ∷ args) h))))

-- an instruction with the constant at an index
abbrev pub on_constant : ClassFile → ConstantUse → ℕ → Frame → Act
on_constant file PushConstant index f = on_found (option_and_then (constant_value file index) (slice_get file.constants index)) (λ v. pushed v f)
on_constant file PushLongConstant index f = on_found (option_and_then long_value (slice_get file.constants index)) (λ v. pushed v f)
on_constant file GetStatic index f = on_found (member_named field_in file index) (λ key. Effects (StaticRead key) true f)
on_constant file PutStatic index f = on_pop f (λ v g. on_found (member_named field_in file index) (λ key. Effects (StaticWrite key v) false g))
on_constant file GetField index f = on_pop f (λ r g. on_found (member_named field_in file index) (λ key. Effects (FieldRead r key) true g))
on_constant file PutField index f = on_two f (λ r v g. on_found (member_named field_in file index) (λ key. Effects (FieldWrite r key v) false g))
on_constant file InvokeVirtual index f = on_found (member_named method_in file index) (λ key. calls_virtual key f)
on_constant file InvokeSpecial index f = on_found (member_named method_in file index) (λ key. calls_special file key f)
on_constant file InvokeStatic index f = on_found (member_named method_in file index) (λ key. calls_static file key f)
on_constant file MakeObject index f = on_found (class_name_at file index) (λ name. Effects (ObjectMade name) true f)
on_constant file MakeReferences index f = on_pop f (λ n g. on_found (class_name_at file index) (λ name. Effects (MakeArray (ClassElements name) n) true g))
on_constant file CheckCast index f = on_pop f (λ r g. on_found (class_name_at file index) (λ name. Effects (Cast r name) true g))
on_constant file InstanceOf index f = on_pop f (λ r g. on_found (class_name_at file index) (λ name. Effects (InstanceTest r name) true g))

-- one instruction of a method of a file, the place already behind it
abbrev pub act : ClassFile → MemberInfo → Instr → Frame → Act
act file method PushNull f = pushed Null f
act file method (PushInt n) f = pushed (Int n) f
act file method (PushLong n) f = pushed (Long n) f
act file method (Load kind index) f = on_found (variable f index) (λ v. where_so (is_kind kind v) (pushed v f))
act file method (Store kind index) f = on_pop f (λ v g. where_so (is_kind kind v) (stored index v g))
act file method (Increase index by) f = on_found (variable f index) (λ v. acted (binary Add v (Int by)) (λ w. stored index w f))
act file method (LoadElement kind) f = on_two f (λ r index g. Effects (GetElem kind r index) true g)
act file method (StoreElement kind) f = on_pop f (λ v g. on_two g (λ r index h. Effects (PutElem kind r index v) false h))
act file method MakeNumbers f = on_pop f (λ n g. Effects (MakeArray IntElements n) true g)
act file method MakeTruths f = on_pop f (λ n g. Effects (MakeArray BooleanElements n) true g)
act file method ArrayLength f = on_pop f (λ r g. Effects (Length r) true g)
act file method PopTop f = on_pop f (λ v g. where_so (is_single v) (Moves g))
act file method Dup f = on_pop f (λ v g. where_so (is_single v) (then_push v g (pushed v)))
act file method DupBelow f = on_two f (λ x y g. where_so (is_single x && is_single y) (then_push y g (λ h. then_push x h (pushed y))))
act file method DupTwo f =
    on_two f (λ x y g. where_so (is_single x && is_single y) (then_push x g (λ h. then_push y h (λ i. then_push x i (pushed y)))))
act file method (Binary op) f = on_two f (λ x y g. acted (binary op x y) (λ v. pushed v g))
act file method Negate f = on_pop f (λ x g. acted (negated x) (λ v. pushed v g))
act file method Widen f = on_pop f (λ x g. acted (widened x) (λ v. pushed v g))
act file method AddLongs f = on_two f (λ x y g. acted (long_sums x y) (λ v. pushed v g))
act file method MultiplyLongs f = on_two f (λ x y g. acted (long_products x y) (λ v. pushed v g))
act file method CompareLongs f = on_two f (λ x y g. acted (long_orders x y) (λ v. pushed v g))
act file method (JumpTo condition to) f = jump condition to f
act file method (ReturnValue kind) f = on_pop f (λ v g. leaves_with (result_kind file method) kind v)
act file method ReturnVoid f = leaves_void (result_kind file method)
act file method (OnConstant use_ index) f = on_constant file use_ index f
act file method (InvokeInterface index count) f = on_found (member_named interface_method_in file index) (λ key. calls_interface count key f)

-- the instruction at the frame's place in a method's code, if the method has code
abbrev pub acts : ClassFile → MemberInfo → Frame → Act
acts file method f =
    on_found (option_and_then (λ code. row_at code.bytes f.place) method.code) (λ row. act file method row.instr (record f { place = row.next }))
