-- The machine's opcodes (JVM specification, second edition, chapter 6).
use Rattle.std.specs.Prelude.{ℕ, pos, negsuc, true, false, List, [], ◌∷◌, Option, Some, None, ◌==◌, if◌then◌else◌}
use Rattle.jp_store.specs.declared.value.Kind.TheVariants.{Number, Reference}
use Rattle.jp_store.specs.declared.value.ElementKind.TheVariants.{NumberElement, TruthElement, ReferenceElement}
use Rattle.jp_store.specs.declared.operator.BinaryOp.TheVariants.{Add, Subtract, Multiply, Divide, Remainder, ShiftLeft, ShiftRight, ShiftRightUnsigned, And, Or, Xor}
use Rattle.jp_store.specs.declared.operator.Test.TheVariants.{Equal, NotEqual, Less, GreaterOrEqual, Greater, LessOrEqual}
use Rattle.jvm_table.specs.declared.instr.Instr.TheVariants.{PushNull, PushInt, PushLong, Load, LoadElement, StoreElement, ArrayLength, PopTop, Dup, DupBelow, DupTwo, Binary, Negate, Widen, AddLongs, MultiplyLongs, CompareLongs, ReturnValue, ReturnVoid}
use Rattle.jvm_table.specs.declared.instr.Jump.TheVariants.{Always, IfZero, IfInts, IfSame, IfNull}
use Rattle.jvm_table.specs.declared.instr.ConstantUse.TheVariants.{PushConstant, PushLongConstant, GetStatic, PutStatic, GetField, PutField, InvokeVirtual, InvokeSpecial, InvokeStatic, MakeObject, MakeReferences, CheckCast, InstanceOf}
use Rattle.jvm_table.specs.declared.opcode.Form.{Form}
use Rattle.jvm_table.specs.declared.opcode.Form.TheVariants.{Plain, PushByte, PushShort, ShortConstant, Indexed, LoadLocal, StoreLocal, IncreaseLocal, ShortJump, WideJump, InterfaceCall, MakeArray}

-- the opcodes, each with what follows it
abbrev pub rows : List (ℕ × Form)
rows =
    (0x01, Plain PushNull) ∷
    (0x02, Plain (PushInt (negsuc 0))) ∷
    (0x03, Plain (PushInt (pos 0))) ∷
    (0x04, Plain (PushInt (pos 1))) ∷
    (0x05, Plain (PushInt (pos 2))) ∷
    (0x06, Plain (PushInt (pos 3))) ∷
    (0x07, Plain (PushInt (pos 4))) ∷
    (0x08, Plain (PushInt (pos 5))) ∷
    (0x09, Plain (PushLong (pos 0))) ∷
    (0x0a, Plain (PushLong (pos 1))) ∷
    (0x10, PushByte) ∷
    (0x11, PushShort) ∷
    (0x12, ShortConstant) ∷
    (0x13, Indexed PushConstant) ∷
    (0x14, Indexed PushLongConstant) ∷
    (0x15, LoadLocal Number) ∷
    (0x19, LoadLocal Reference) ∷
    (0x1a, Plain (Load Number 0)) ∷
    (0x1b, Plain (Load Number 1)) ∷
    (0x1c, Plain (Load Number 2)) ∷
    (0x1d, Plain (Load Number 3)) ∷
    (0x2a, Plain (Load Reference 0)) ∷
    (0x2b, Plain (Load Reference 1)) ∷
    (0x2c, Plain (Load Reference 2)) ∷
    (0x2d, Plain (Load Reference 3)) ∷
    (0x2e, Plain (LoadElement NumberElement)) ∷
    (0x32, Plain (LoadElement ReferenceElement)) ∷
    (0x33, Plain (LoadElement TruthElement)) ∷
    (0x36, StoreLocal Number) ∷
    (0x3a, StoreLocal Reference) ∷
    (0x4f, Plain (StoreElement NumberElement)) ∷
    (0x53, Plain (StoreElement ReferenceElement)) ∷
    (0x54, Plain (StoreElement TruthElement)) ∷
    (0x57, Plain PopTop) ∷
    (0x59, Plain Dup) ∷
    (0x5a, Plain DupBelow) ∷
    (0x5c, Plain DupTwo) ∷
    (0x60, Plain (Binary Add)) ∷
    (0x61, Plain AddLongs) ∷
    (0x64, Plain (Binary Subtract)) ∷
    (0x68, Plain (Binary Multiply)) ∷
    (0x69, Plain MultiplyLongs) ∷
    (0x6c, Plain (Binary Divide)) ∷
    (0x70, Plain (Binary Remainder)) ∷
    (0x74, Plain Negate) ∷
    (0x78, Plain (Binary ShiftLeft)) ∷
    (0x7a, Plain (Binary ShiftRight)) ∷
    (0x7c, Plain (Binary ShiftRightUnsigned)) ∷
    (0x7e, Plain (Binary And)) ∷
    (0x80, Plain (Binary Or)) ∷
    (0x82, Plain (Binary Xor)) ∷
    (0x84, IncreaseLocal) ∷
    (0x85, Plain Widen) ∷
    (0x94, Plain CompareLongs) ∷
    (0x99, ShortJump (IfZero Equal)) ∷
    (0x9a, ShortJump (IfZero NotEqual)) ∷
    (0x9b, ShortJump (IfZero Less)) ∷
    (0x9c, ShortJump (IfZero GreaterOrEqual)) ∷
    (0x9d, ShortJump (IfZero Greater)) ∷
    (0x9e, ShortJump (IfZero LessOrEqual)) ∷
    (0x9f, ShortJump (IfInts Equal)) ∷
    (0xa0, ShortJump (IfInts NotEqual)) ∷
    (0xa1, ShortJump (IfInts Less)) ∷
    (0xa2, ShortJump (IfInts GreaterOrEqual)) ∷
    (0xa3, ShortJump (IfInts Greater)) ∷
    (0xa4, ShortJump (IfInts LessOrEqual)) ∷
    (0xa5, ShortJump (IfSame true)) ∷
    (0xa6, ShortJump (IfSame false)) ∷
    (0xa7, ShortJump Always) ∷
    (0xac, Plain (ReturnValue Number)) ∷
    (0xb0, Plain (ReturnValue Reference)) ∷
    (0xb1, Plain ReturnVoid) ∷
    (0xb2, Indexed GetStatic) ∷
    (0xb3, Indexed PutStatic) ∷
    (0xb4, Indexed GetField) ∷
    (0xb5, Indexed PutField) ∷
    (0xb6, Indexed InvokeVirtual) ∷
    (0xb7, Indexed InvokeSpecial) ∷
    (0xb8, Indexed InvokeStatic) ∷
    (0xb9, InterfaceCall) ∷
    (0xbb, Indexed MakeObject) ∷
    (0xbc, MakeArray) ∷
    (0xbd, Indexed MakeReferences) ∷
    (0xbe, Plain ArrayLength) ∷
    (0xc0, Indexed CheckCast) ∷
    (0xc1, Indexed InstanceOf) ∷
    (0xc6, ShortJump (IfNull true)) ∷
    (0xc7, ShortJump (IfNull false)) ∷
    (0xc8, WideJump) ∷
    []

-- the form of an opcode in a list of rows, if it has one
abbrev pub form_in : List (ℕ × Form) → ℕ → Option Form
form_in [] opcode = None
form_in (row ∷ more) opcode = if opcode == row.0 then Some row.1 else form_in more opcode
