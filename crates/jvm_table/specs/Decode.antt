-- Which instruction stands at a place of a method's code (JVM specification, second edition, chapter 6).
use Rattle.std.specs.Prelude.{ℕ, ℤ, pos, ◌+◌, ◌-◌, ◌*◌, ◌^◌, ◌-ℤ◌, List, Option, Some, None, ◌==◌, nat_lt, nat_le, if◌then◌else◌, slice_get, option_and_then}
use Rattle.jvm_table.specs.declared.opcode.Form.{Form}
use Rattle.jvm_table.specs.declared.opcode.Form.TheVariants.{Plain, PushByte, PushShort, ShortConstant, Indexed, LoadLocal, StoreLocal, IncreaseLocal, ShortJump, WideJump, InterfaceCall, MakeArray}
use Rattle.jvm_table.specs.declared.instr.Instr.{Instr}
use Rattle.jvm_table.specs.declared.instr.Instr.TheVariants.{PushInt, Load, Store, Increase, MakeNumbers, MakeTruths, JumpTo, OnConstant, InvokeInterface}
use Rattle.jvm_table.specs.declared.instr.Jump.TheVariants.{Always}
use Rattle.jvm_table.specs.declared.instr.ConstantUse.TheVariants.{PushConstant}
use Rattle.jvm_table.specs.declared.decode.Row.{Row}
use Rattle.jvm_table.specs.Opcodes.{form_in, rows}

-- two bytes, as a number
abbrev pub two_at : List ℕ → ℕ → Option ℕ
two_at code place =
    option_and_then (λ high. option_and_then (λ low. Some (256 * high + low)) (slice_get code (place + 1))) (slice_get code place)

-- four bytes, as a number
abbrev pub four_at : List ℕ → ℕ → Option ℕ
four_at code place =
    option_and_then (λ high. option_and_then (λ low. Some (65536 * high + low)) (two_at code (place + 2))) (two_at code place)

-- a number below `whole` as a signed one of as many bits
abbrev pub signed : ℕ → ℕ → ℤ
signed whole n = pos n -ℤ pos (if nat_lt (n + n) whole then 0 else whole)

-- where a jump leads from its opcode, by a distance below `whole` that is signed. None leads before the code, or to 2^32
abbrev pub target_of : ℕ → ℕ → ℕ → Option ℕ
target_of whole place by =
    if nat_lt (by + by) whole
    then (if nat_lt (place + by) (2 ^ 32) then Some (place + by) else None)
    else (if nat_le whole (place + by) then Some (place + by - whole) else None)

-- an instruction that is this many bytes long
abbrev pub sized : ℕ → ℕ → Instr → Option Row
sized place bytes instr = Some (record { instr = instr; next = place + bytes })

-- `newarray` by the number of its elements' type
abbrev pub array_instr : ℕ → Option Instr
array_instr type = if type == 4 then Some MakeTruths else (if type == 10 then Some MakeNumbers else None)

-- the instruction of a form with its operands
abbrev pub row_of : List ℕ → ℕ → Form → Option Row
row_of code place (Plain instr) = sized place 1 instr
row_of code place PushByte = option_and_then (λ b. sized place 2 (PushInt (signed 256 b))) (slice_get code (place + 1))
row_of code place PushShort = option_and_then (λ n. sized place 3 (PushInt (signed 65536 n))) (two_at code (place + 1))
row_of code place ShortConstant = option_and_then (λ index. sized place 2 (OnConstant PushConstant index)) (slice_get code (place + 1))
row_of code place (Indexed use_) = option_and_then (λ index. sized place 3 (OnConstant use_ index)) (two_at code (place + 1))
row_of code place (LoadLocal kind) = option_and_then (λ index. sized place 2 (Load kind index)) (slice_get code (place + 1))
row_of code place (StoreLocal kind) = option_and_then (λ index. sized place 2 (Store kind index)) (slice_get code (place + 1))
row_of code place IncreaseLocal =
    option_and_then (λ index. option_and_then (λ by. sized place 3 (Increase index (signed 256 by))) (slice_get code (place + 2))) (slice_get code (place + 1))
row_of code place (ShortJump jump) =
    option_and_then (λ by. option_and_then (λ to. sized place 3 (JumpTo jump to)) (target_of (2 ^ 16) place by)) (two_at code (place + 1))
row_of code place WideJump =
    option_and_then (λ by. option_and_then (λ to. sized place 5 (JumpTo Always to)) (target_of (2 ^ 32) place by)) (four_at code (place + 1))
row_of code place InterfaceCall =
    option_and_then (λ index. option_and_then (λ count. option_and_then (λ last. if last == 0 then sized place 5 (InvokeInterface index count) else None)
    (slice_get code (place + 4))) (slice_get code (place + 3))) (two_at code (place + 1))
row_of code place MakeArray =
    option_and_then (λ type. option_and_then (sized place 2) (array_instr type)) (slice_get code (place + 1))

-- the instruction at a place, if there is one whole
abbrev pub row_at : List ℕ → ℕ → Option Row
row_at code place = option_and_then (λ opcode. option_and_then (row_of code place) (form_in rows opcode)) (slice_get code place)
