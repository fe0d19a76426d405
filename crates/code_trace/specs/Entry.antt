-- How a method's code begins.
use Rattle.std.specs.Prelude.{ℕ, ◌-◌, List, [], ◌∷◌, ◌++◌, length, replicate, Option, Some, None, option_and_then, nat_le, if◌then◌else◌}
use Rattle.std.specs.Option.{option_map}
use Rattle.class_form.specs.declared.member.MemberInfo.{MemberInfo}
use Rattle.class_form.specs.declared.member.Code.{Code}
use Rattle.jp_store.specs.declared.value.Value.{Value}
use Rattle.jvm_table.specs.declared.frame.Frame.{Frame}
use Rattle.jvm_table.specs.Act.{is_single}

-- arguments as local variables: a long takes two
abbrev pub placed : List Value → List (Option Value)
placed [] = []
placed (v ∷ vs) = if is_single v then Some v ∷ placed vs else Some v ∷ None ∷ placed vs

-- so many local variables, the first of which are these, if there are not more of them
abbrev pub variables : ℕ → List (Option Value) → Option (List (Option Value))
variables count first = if nat_le (length first) count then Some (first ++ replicate (count - length first) None) else None

-- code before its first instruction
abbrev pub entered : Code → List (Option Value) → Frame
entered code locals = record { place = 0; locals = locals; stack = record { room = code.max_stack; values = [] } }

-- a method with its arguments before its first instruction, if it has code, and room for them
abbrev pub entry : MemberInfo → List Value → Option Frame
entry method args = option_and_then (λ code. option_map (entered code) (variables code.max_locals (placed args))) method.code
