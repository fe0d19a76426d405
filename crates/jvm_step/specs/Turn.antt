-- One step of a run.
use Rattle.std.specs.Prelude.{ℕ, ◌-◌, Bool, true, false, List, [], ◌∷◌, ◌++◌, length, replicate, Option, Some, None, option_and_then, slice_get, nat_le, if◌then◌else◌}
use Rattle.std.specs.Option.{option_map}
use Rattle.std.specs.Fmt.{signed_decimal}
use Rattle.class_form.specs.declared.class_file.ClassFile.{ClassFile}
use Rattle.class_form.specs.declared.member.MemberInfo.{MemberInfo}
use Rattle.class_form.specs.declared.member.Code.{Code}
use Rattle.jp_store.specs.declared.value.Value.{Value}
use Rattle.jp_store.specs.declared.value.Value.TheVariants.{Int, Long, Null, Ref, Text}
use Rattle.jp_store.specs.declared.value.TrapKind.TheVariants.{NullReference}
use Rattle.jp_store.specs.declared.value.ClassAt.TheVariants.{Root, Listed}
use Rattle.jp_store.specs.declared.heap.Thing.{Thing}
use Rattle.jp_store.specs.declared.heap.Thing.TheVariants.{Object, Array}
use Rattle.jp_store.specs.declared.outcome.Outcome.{Outcome}
use Rattle.jp_store.specs.declared.outcome.Outcome.TheVariants.{Fine, Trap, Wrong}
use Rattle.jp_store.specs.Classes.{place_of, super_of}
use Rattle.jp_store.specs.Store.{Store}
use Rattle.jp_store.specs.Work.{work}
use Rattle.jvm_table.specs.declared.frame.Frame.{Frame}
use Rattle.jvm_table.specs.Act.{Act, Moves, ShowsInt, ShowsText, Asks, Effects, Invokes, Leaves, Fails, NoRow, Target, StaticMethod, VirtualMethod, Constructor, MethodAbove, acts, answered, on_found, is_single}
use Rattle.jvm_load.specs.FileClasses.{classes_of, is_static}
use Rattle.jvm_load.specs.Methods.{own_method, find_method}
use Rattle.jvm_step.specs.declared.value.Halt.{Halt}
use Rattle.jvm_step.specs.declared.value.Halt.TheVariants.{Done, Trapped, NoRow as NoRowAt}
use Rattle.jvm_step.specs.declared.state.Running.{Running}
use Rattle.jvm_step.specs.declared.state.State.{State}

-- what a step leads to
pub data Turn : Type 0 where
  Goes : State → Turn
  Shows : List ℕ → State → Turn
  Wants : State → Turn
  Stops : Halt → Turn

-- the store of a state
abbrev pub store_of : List ClassFile → State → Store
store_of files state = record { classes = classes_of files; heap = state.heap; statics = state.statics }

-- with another frame of the method that runs
abbrev pub with_frame : Frame → State → State
with_frame f state = record state { current = record state.current { frame = f } }

-- there is no row for the instruction that runs
abbrev pub no_row : State → Turn
no_row state = Stops (NoRowAt state.current.file state.current.method state.current.frame.place)

-- with the store that an operation leaves, where there is room for its answer
abbrev pub kept : State → Store → Option Frame → Turn
kept state store None = no_row state
kept state store (Some f) = Goes (record state { current = record state.current { frame = f }; heap = store.heap; statics = store.statics })

-- a state that gets an answer of the store
abbrev pub worked : State → Bool → Frame → Outcome (Value × Store) → Turn
worked state push f Wrong = no_row state
worked state push f (Trap kind) = Stops (Trapped kind)
worked state push f (Fine r) = kept state r.1 (answered push r.0 f)

-- the class of the object that a call's receiver names, if it is one that has a file
abbrev pub class_of_thing : Thing → Option ℕ
class_of_thing (Object Root fields) = None
class_of_thing (Object (Listed at) fields) = Some at
class_of_thing (Array element values) = None

abbrev pub receiver_class : List Thing → List Value → Option ℕ
receiver_class heap [] = None
receiver_class heap (Ref o ∷ more) = option_and_then class_of_thing (slice_get heap o)
receiver_class heap (Null ∷ more) = None
receiver_class heap (Int n ∷ more) = None
receiver_class heap (Long n ∷ more) = None
receiver_class heap (Text t ∷ more) = None

-- the positions of the method that a call finds
abbrev pub found_by : List ClassFile → List Thing → Target → List Value → Option (ℕ × ℕ)
found_by files heap (StaticMethod key) args =
    option_and_then (λ at. find_method files at key.name key.descriptor) (place_of (classes_of files) key.class)
found_by files heap (VirtualMethod name descriptor) args = option_and_then (λ at. find_method files at name descriptor) (receiver_class heap args)
found_by files heap (Constructor key) args =
    option_and_then (λ at. option_map (λ i. (at, i)) (own_method files key.name key.descriptor at)) (place_of (classes_of files) key.class)
found_by files heap (MethodAbove class name descriptor) args =
    option_and_then (λ at. find_method files at name descriptor) (option_and_then (super_of (classes_of files)) (place_of (classes_of files) class))

-- whether the method that a target names is to be static
abbrev pub wants_static : Target → Bool
wants_static (StaticMethod key) = true
wants_static (VirtualMethod name descriptor) = false
wants_static (Constructor key) = false
wants_static (MethodAbove class name descriptor) = false

-- arguments as local variables: a long takes two
abbrev pub placed : List Value → List (Option Value)
placed [] = []
placed (v ∷ vs) = if is_single v then Some v ∷ placed vs else Some v ∷ None ∷ placed vs

-- so many local variables, the first of which are these, if there are not more of them
abbrev pub variables : ℕ → List (Option Value) → Option (List (Option Value))
variables count first = if nat_le (length first) count then Some (first ++ replicate (count - length first) None) else None

-- a method before its first instruction
abbrev pub entered : ℕ → ℕ → Code → List (Option Value) → Running
entered file method code locals =
    record { file = file; method = method; frame = record { place = 0; locals = locals; stack = record { room = code.max_stack; values = [] } } }

abbrev pub same_truth : Bool → Bool → Bool
same_truth true b = b
same_truth false true = false
same_truth false false = true

-- the code of a method that is static as wanted
abbrev pub code_where : Bool → MemberInfo → Option Code
code_where static method = if same_truth static (is_static method) then method.code else None

-- the method at these positions with its arguments, if it can be called
abbrev pub entry : List ClassFile → Bool → List Value → ℕ × ℕ → Option Running
entry files static args at =
    option_and_then (λ file. option_and_then (λ method. option_and_then (λ code. option_map (entered at.0 at.1 code) (variables code.max_locals (placed args)))
    (code_where static method)) (slice_get file.methods at.1)) (slice_get files at.0)

-- whether a receiver is null
abbrev pub is_on_null : Target → List Value → Bool
is_on_null target [] = false
is_on_null target (Int n ∷ more) = false
is_on_null target (Long n ∷ more) = false
is_on_null target (Ref o ∷ more) = false
is_on_null target (Text t ∷ more) = false
is_on_null (StaticMethod key) (Null ∷ more) = false
is_on_null (VirtualMethod name descriptor) (Null ∷ more) = true
is_on_null (Constructor key) (Null ∷ more) = true
is_on_null (MethodAbove class name descriptor) (Null ∷ more) = true

-- a call of what was found: the frame that calls waits, without its arguments
abbrev pub called : State → Bool → Frame → Option Running → Turn
called state null f None = no_row state
called state true f (Some running) = Stops (Trapped NullReference)
called state false f (Some running) =
    Goes (record state { current = running; callers = record state.current { frame = f } ∷ state.callers })

-- to a caller, where there is room for the value
abbrev pub returned : State → Running → List Running → Option Frame → Turn
returned state caller callers None = no_row state
returned state caller callers (Some f) = Goes (record state { current = record caller { frame = f }; callers = callers })

-- the return of a method: to its caller, which gets the value, or to the end
abbrev pub left : State → Option Value → List Running → Turn
left state v [] = Stops Done
left state None (caller ∷ callers) = Goes (record state { current = caller; callers = callers })
left state (Some v) (caller ∷ callers) = returned state caller callers (answered true v caller.frame)

-- a step, by what its instruction does on its frame
abbrev pub turn : List ClassFile → State → Act → Turn
turn files state (Moves f) = Goes (with_frame f state)
turn files state (ShowsInt n f) = Shows (signed_decimal n) (with_frame f state)
turn files state (ShowsText bytes f) = Shows bytes (with_frame f state)
turn files state (Asks f) = Wants (with_frame f state)
turn files state (Effects op push f) = worked state push f (work op (store_of files state))
turn files state (Invokes call push f) =
    called state (is_on_null call.target call.args) f (option_and_then (entry files (wants_static call.target) call.args) (found_by files state.heap call.target call.args))
turn files state (Leaves v) = left state v state.callers
turn files state (Fails kind) = Stops (Trapped kind)
turn files state NoRow = no_row state

-- what the instruction that runs does on its frame
abbrev pub acts_of : List ClassFile → Running → Act
acts_of files running =
    on_found (slice_get files running.file) (λ file. on_found (slice_get file.methods running.method) (λ method. acts file method running.frame))

-- the step that a state makes
abbrev pub turn_of : List ClassFile → State → Turn
turn_of files state = turn files state (acts_of files state.current)
