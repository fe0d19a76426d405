-- The bytes of instructions, by their shortest opcodes (JVM specification, second edition, chapter 6).
use Rattle.std.specs.Prelude.{ℕ, ◌+◌, ℤ, pos, negsuc, int_lt, Bool, false, not, ◌&&◌, nat_lt, ◌==◌, if◌then◌else◌, List, [], ◌∷◌, ◌++◌, Option, Some, None}
use Rattle.std.specs.Int.{w8, w16, cast_unsigned}
use Rattle.class_form.specs.Layout.{u2}
use Rattle.jp_store.specs.declared.value.Kind.{Kind}
use Rattle.jp_store.specs.declared.value.Kind.TheVariants.{Number, LongNumber, Reference}
use Rattle.jp_store.specs.declared.value.ElementKind.{ElementKind}
use Rattle.jp_store.specs.declared.value.ElementKind.TheVariants.{NumberElement, TruthElement, ReferenceElement}
use Rattle.jp_store.specs.declared.operator.BinaryOp.{BinaryOp}
use Rattle.jp_store.specs.declared.operator.BinaryOp.TheVariants.{Add, Subtract, Multiply, Divide, Remainder, ShiftLeft, ShiftRight, ShiftRightUnsigned, And, Or, Xor}
use Rattle.jp_store.specs.declared.operator.Test.{Test}
use Rattle.jp_store.specs.declared.operator.Test.TheVariants.{Equal, NotEqual, Less, GreaterOrEqual, Greater, LessOrEqual}
use Rattle.jvm_table.specs.declared.instr.Instr.{Instr}
use Rattle.jvm_table.specs.declared.instr.Instr.TheVariants.{PushNull, PushInt, PushLong, Load, Store, Increase, LoadElement, StoreElement, MakeNumbers, MakeTruths, ArrayLength, PopTop, Dup, DupBelow, DupTwo, Binary, Negate, Widen, AddLongs, MultiplyLongs, CompareLongs, JumpTo, ReturnValue, ReturnVoid, OnConstant, InvokeInterface}
use Rattle.jvm_table.specs.declared.instr.Jump.{Jump}
use Rattle.jvm_table.specs.declared.instr.Jump.TheVariants.{Always, IfZero, IfInts, IfSame, IfNull}
use Rattle.jvm_table.specs.declared.instr.ConstantUse.{ConstantUse}
use Rattle.jvm_table.specs.declared.instr.ConstantUse.TheVariants.{PushConstant, PushLongConstant, GetStatic, PutStatic, GetField, PutField, InvokeVirtual, InvokeSpecial, InvokeStatic, MakeObject, MakeReferences, CheckCast, InstanceOf}
use Rattle.code_asm.specs.Pieces.{is_short}

-- whether one signed byte holds a number
abbrev pub is_byte : ℤ → Bool
is_byte n = not (int_lt n (negsuc 127)) && int_lt n (pos 128)

-- `iconst_m1` to `iconst_5`, of a number from -1 to 5
abbrev pub is_small : ℤ → Bool
is_small n = not (int_lt n (negsuc 0)) && int_lt n (pos 6)

abbrev pub small_opcode : ℤ → ℕ
small_opcode (pos n) = 0x03 + n
small_opcode (negsuc n) = 0x02

-- an int that is pushed: by an opcode of its own, by `bipush`, or by `sipush`
abbrev pub int_bytes : ℤ → Option (List ℕ)
int_bytes n =
    if is_small n then Some (small_opcode n ∷ [])
    else (if is_byte n then Some (0x10 ∷ cast_unsigned w8 n ∷ [])
    else (if is_short n then Some (0x11 ∷ u2 (cast_unsigned w16 n)) else None))

-- `lconst_0` and `lconst_1`
abbrev pub long_bytes : ℤ → Option (List ℕ)
long_bytes (pos n) = if n == 0 then Some (0x09 ∷ []) else (if n == 1 then Some (0x0a ∷ []) else None)
long_bytes (negsuc n) = None

-- an opcode with a local behind it, of which there are 256
abbrev pub with_local : ℕ → ℕ → Option (List ℕ)
with_local opcode slot = if nat_lt slot 256 then Some (opcode ∷ slot ∷ []) else None

-- the first four locals have opcodes of their own
abbrev pub local_bytes : ℕ → ℕ → ℕ → Option (List ℕ)
local_bytes first opcode slot = if nat_lt slot 4 then Some ((first + slot) ∷ []) else with_local opcode slot

-- `iload` and `aload`
abbrev pub load_bytes : Kind → ℕ → Option (List ℕ)
load_bytes Number slot = local_bytes 0x1a 0x15 slot
load_bytes LongNumber slot = None
load_bytes Reference slot = local_bytes 0x2a 0x19 slot

-- `istore` and `astore`
abbrev pub store_bytes : Kind → ℕ → Option (List ℕ)
store_bytes Number slot = with_local 0x36 slot
store_bytes LongNumber slot = None
store_bytes Reference slot = with_local 0x3a slot

-- `iinc`
abbrev pub increase_bytes : ℕ → ℤ → Option (List ℕ)
increase_bytes slot by = if nat_lt slot 256 && is_byte by then Some (0x84 ∷ slot ∷ cast_unsigned w8 by ∷ []) else None

-- `iaload`, `aaload` and `baload`
abbrev pub load_element_opcode : ElementKind → ℕ
load_element_opcode NumberElement = 0x2e
load_element_opcode ReferenceElement = 0x32
load_element_opcode TruthElement = 0x33

-- `iastore`, `aastore` and `bastore`
abbrev pub store_element_opcode : ElementKind → ℕ
store_element_opcode NumberElement = 0x4f
store_element_opcode ReferenceElement = 0x53
store_element_opcode TruthElement = 0x54

-- `iadd` and its kin
abbrev pub binary_opcode : BinaryOp → ℕ
binary_opcode Add = 0x60
binary_opcode Subtract = 0x64
binary_opcode Multiply = 0x68
binary_opcode Divide = 0x6c
binary_opcode Remainder = 0x70
binary_opcode ShiftLeft = 0x78
binary_opcode ShiftRight = 0x7a
binary_opcode ShiftRightUnsigned = 0x7c
binary_opcode And = 0x7e
binary_opcode Or = 0x80
binary_opcode Xor = 0x82

-- `ireturn` and `areturn`
abbrev pub return_bytes : Kind → Option (List ℕ)
return_bytes Number = Some (0xac ∷ [])
return_bytes LongNumber = None
return_bytes Reference = Some (0xb0 ∷ [])

-- the bytes of an instruction without a jump and without a constant, if there is an opcode for it
abbrev pub bytes_of : Instr → Option (List ℕ)
bytes_of PushNull = Some (0x01 ∷ [])
bytes_of (PushInt n) = int_bytes n
bytes_of (PushLong n) = long_bytes n
bytes_of (Load kind slot) = load_bytes kind slot
bytes_of (Store kind slot) = store_bytes kind slot
bytes_of (Increase slot by) = increase_bytes slot by
bytes_of (LoadElement kind) = Some (load_element_opcode kind ∷ [])
bytes_of (StoreElement kind) = Some (store_element_opcode kind ∷ [])
bytes_of MakeNumbers = Some (0xbc ∷ 10 ∷ [])
bytes_of MakeTruths = Some (0xbc ∷ 4 ∷ [])
bytes_of ArrayLength = Some (0xbe ∷ [])
bytes_of PopTop = Some (0x57 ∷ [])
bytes_of Dup = Some (0x59 ∷ [])
bytes_of DupBelow = Some (0x5a ∷ [])
bytes_of DupTwo = Some (0x5c ∷ [])
bytes_of (Binary op) = Some (binary_opcode op ∷ [])
bytes_of Negate = Some (0x74 ∷ [])
bytes_of Widen = Some (0x85 ∷ [])
bytes_of AddLongs = Some (0x61 ∷ [])
bytes_of MultiplyLongs = Some (0x69 ∷ [])
bytes_of CompareLongs = Some (0x94 ∷ [])
bytes_of (JumpTo jump place) = None
bytes_of (ReturnValue kind) = return_bytes kind
bytes_of ReturnVoid = Some (0xb1 ∷ [])
bytes_of (OnConstant use_ index) = None
bytes_of (InvokeInterface index count) = None

-- `ifeq` and its kin
abbrev pub zero_opcode : Test → ℕ
zero_opcode Equal = 0x99
zero_opcode NotEqual = 0x9a
zero_opcode Less = 0x9b
zero_opcode GreaterOrEqual = 0x9c
zero_opcode Greater = 0x9d
zero_opcode LessOrEqual = 0x9e

-- `if_icmpeq` and its kin
abbrev pub ints_opcode : Test → ℕ
ints_opcode Equal = 0x9f
ints_opcode NotEqual = 0xa0
ints_opcode Less = 0xa1
ints_opcode GreaterOrEqual = 0xa2
ints_opcode Greater = 0xa3
ints_opcode LessOrEqual = 0xa4

-- the opcode of a jump whose distance has two bytes
abbrev pub jump_opcode : Jump → ℕ
jump_opcode Always = 0xa7
jump_opcode (IfZero test) = zero_opcode test
jump_opcode (IfInts test) = ints_opcode test
jump_opcode (IfSame so) = if so then 0xa5 else 0xa6
jump_opcode (IfNull so) = if so then 0xc6 else 0xc7

-- the opcode of a use of a constant whose index has two bytes
abbrev pub use_opcode : ConstantUse → ℕ
use_opcode PushConstant = 0x13
use_opcode PushLongConstant = 0x14
use_opcode GetStatic = 0xb2
use_opcode PutStatic = 0xb3
use_opcode GetField = 0xb4
use_opcode PutField = 0xb5
use_opcode InvokeVirtual = 0xb6
use_opcode InvokeSpecial = 0xb7
use_opcode InvokeStatic = 0xb8
use_opcode MakeObject = 0xbb
use_opcode MakeReferences = 0xbd
use_opcode CheckCast = 0xc0
use_opcode InstanceOf = 0xc1

-- `ldc` has an index of one byte
abbrev pub pushes_short : ConstantUse → ℕ → Bool
pushes_short PushConstant index = nat_lt index 256
pushes_short _ index = false

-- a use of the constant at an index
abbrev pub use_bytes : ConstantUse → ℕ → List ℕ
use_bytes use_ index = if pushes_short use_ index then 0x12 ∷ index ∷ [] else use_opcode use_ ∷ u2 index

-- `invokeinterface`, with how many places its arguments take
abbrev pub interface_bytes : ℕ → ℕ → List ℕ
interface_bytes index count = (0xb9 ∷ u2 index) ++ count ∷ 0 ∷ []
