-- The open trace of a method's code: what it does alone. Each call is an event, whatever its receiver.
use Rattle.std.specs.Prelude.{ℕ, zero, suc, ℤ, List, ◌∷◌, Option, Some, None}
use Rattle.class_form.specs.declared.class_file.ClassFile.{ClassFile}
use Rattle.class_form.specs.declared.member.MemberInfo.{MemberInfo}
use Rattle.jp_store.specs.declared.value.Value.{Value}
use Rattle.jp_store.specs.declared.value.Value.TheVariants.{Int, Null}
use Rattle.jp_store.specs.Store.{Store}
use Rattle.jp_does.specs.Does.{Does, Gives, Traps, Ticks, Prints, Shows, Reads, Works, Calls, Limit, Stuck}
use Rattle.jp_does.specs.OpenTrace.{Answer, Trace, open_trace}
use Rattle.jp_meaning.specs.Run.{End}
use Rattle.jvm_table.specs.declared.frame.Frame.{Frame}
use Rattle.jvm_table.specs.Act.{Call, Act, Moves, ShowsInt, ShowsText, Asks, Effects, Invokes, Leaves, Fails, NoRow, with_values, answered, acts}
use Rattle.code_trace.specs.Entry.{entry}

-- a frame with a number that was read
abbrev pub with_read : ℤ → Frame → Frame
with_read n f = with_values (Int n ∷ f.stack.values) f

-- the value that a method returns; one without a result returns null
abbrev pub value_left : Option Value → Value
value_left None = Null
value_left (Some v) = v

-- goes on with a frame, without which there is no row
abbrev pub on_frame : Option Frame → (Frame → Does Call Value) → Does Call Value
on_frame None go = Stuck
on_frame (Some f) go = go f

-- What is left to do after an instruction, which is a tick. For an answer there has to be room
abbrev pub act_does : (Frame → Does Call Value) → Act → Does Call Value
act_does go (Moves f) = Ticks (go f)
act_does go (ShowsInt n f) = Ticks (Prints n (go f))
act_does go (ShowsText bytes f) = Ticks (Shows bytes (go f))
act_does go (Asks f) = Ticks (Reads (λ n. go (with_read n f)))
act_does go (Effects op push f) = Ticks (Works op (λ v. on_frame (answered push v f) go))
act_does go (Invokes call push f) = Ticks (Calls call (λ v. on_frame (answered push v f) go))
act_does go (Leaves v) = Ticks (Gives (value_left v))
act_does go (Fails kind) = Ticks (Traps kind)
act_does go NoRow = Ticks Stuck

-- at most n instructions from a frame on
abbrev pub code_does : (Frame → Act) → ℕ → Frame → Does Call Value
code_does run zero f = Limit
code_does run (suc n) f = act_does (code_does run n) (run f)

-- at most n instructions of code alone, from a frame on
abbrev pub trace_from : (Frame → Act) → Frame → ℕ → List (Answer End) → Store → List ℕ → Trace Call End
trace_from run f n answers s i = open_trace n answers s i (code_does run n f)

-- at most n instructions of a method of a file alone, with these arguments
abbrev pub code_trace : ClassFile → MemberInfo → List Value → ℕ → List (Answer End) → Store → List ℕ → Trace Call End
code_trace file method args n answers s i = open_trace n answers s i (on_frame (entry method args) (code_does (acts file method) n))
