-- The bytes of an instruction are read back as the instruction.
use Rattle.std.proofs.Common.{◌≡◌, ℕ, zero, suc, ◌+◌, ◌-◌, ◌*◌, ◌/◌, ◌%◌, ◌^◌, ◌<◌, ◌≤◌, ℤ, pos, negsuc, ◌-ℤ◌, Bool, true, false, not, ◌&&◌, cond, if◌then◌else◌, List, [], ◌∷◌, ◌++◌, length, length-append, append_assoc, Option, Some, None, refl, sym, ap, ◌∙◌, subst, arith, lt-ltb, le-ltb, ltb, leb, le-leb, w8, w16}
use Rattle.std.proofs.lemmas.Int.{ints}
use Rattle.std.proofs.lemmas.Bool.{ltb-true, ltb-false, eqb-true, false≢true}
use Rattle.std.specs.Prelude.{slice_get, nat_lt, ◌==◌}
use Rattle.std.specs.Option.{option_and_then}
use Rattle.std.specs.Int.{cast_unsigned}
use Rattle.class_form.specs.Layout.{u2}
use Rattle.jp_store.specs.declared.value.Kind.{Kind}
use Rattle.jp_store.specs.declared.value.Kind.TheVariants.{Number, LongNumber, Reference}
use Rattle.jvm_table.specs.declared.instr.Instr.{Instr}
use Rattle.jp_store.specs.declared.value.ElementKind.{ElementKind}
use Rattle.jp_store.specs.declared.value.ElementKind.TheVariants.{NumberElement, TruthElement, ReferenceElement}
use Rattle.jp_store.specs.declared.operator.BinaryOp.{BinaryOp}
use Rattle.jp_store.specs.declared.operator.BinaryOp.TheVariants.{Add, Subtract, Multiply, Divide, Remainder, ShiftLeft, ShiftRight, ShiftRightUnsigned, And, Or, Xor}
use Rattle.jvm_table.specs.declared.instr.Instr.TheVariants.{PushNull, PushInt, PushLong, Load, Store, Increase, LoadElement, StoreElement, MakeNumbers, MakeTruths, ArrayLength, PopTop, Dup, DupBelow, DupTwo, Binary, Negate, Widen, AddLongs, MultiplyLongs, CompareLongs, JumpTo, ReturnValue, ReturnVoid, OnConstant, InvokeInterface}
use Rattle.jp_store.specs.declared.operator.Test.{Test}
use Rattle.jp_store.specs.declared.operator.Test.TheVariants.{Equal, NotEqual, Less, GreaterOrEqual, Greater, LessOrEqual}
use Rattle.jvm_table.specs.declared.instr.Jump.{Jump}
use Rattle.jvm_table.specs.declared.instr.Jump.TheVariants.{Always, IfZero, IfInts, IfSame, IfNull}
use Rattle.jvm_table.specs.declared.instr.ConstantUse.{ConstantUse}
use Rattle.jvm_table.specs.declared.instr.ConstantUse.TheVariants.{PushConstant, PushLongConstant, GetStatic, PutStatic, GetField, PutField, InvokeVirtual, InvokeSpecial, InvokeStatic, MakeObject, MakeReferences, CheckCast, InstanceOf}
use Rattle.jvm_table.specs.declared.opcode.Form.{Form}
use Rattle.jvm_table.specs.declared.opcode.Form.TheVariants as form
use Rattle.jvm_table.specs.Decode.{two_at, signed, target_of, sized, array_instr, row_of, row_at}
use Rattle.jvm_table.specs.Opcodes.{form_in, rows}
use Rattle.code_asm.specs.Pieces.{is_short, distance}
use Rattle.code_asm.specs.Encoding.{is_byte, is_small, small_opcode, int_bytes, long_bytes, with_local, load_bytes, store_bytes, increase_bytes, load_element_opcode, store_element_opcode, binary_opcode, return_bytes, bytes_of, zero_opcode, ints_opcode, jump_opcode, use_opcode, pushes_short, use_bytes, interface_bytes}

-- these bytes stand at a place
abbrev pub BytesAt : List ℕ → ℕ → List ℕ → Type 0
BytesAt code at [] = Unit {0}
BytesAt code at (b ∷ bytes) = (slice_get code at ≡ Some b) × BytesAt code (at + 1) bytes

pub front_at : (code : List ℕ) (at : ℕ) (a b : List ℕ) → BytesAt code at (a ++ b) → BytesAt code at a
front_at code at [] b h = tt
front_at code at (x ∷ a) b h = (h.0, front_at code (at + 1) a b h.1)

pub back_at : (code : List ℕ) (at : ℕ) (a b : List ℕ) → BytesAt code at (a ++ b) → BytesAt code (at + length a) b
back_at code at [] b h = let e : at ≡ at + 0 = omega arith in subst (λ n. BytesAt code n b) e h
back_at code at (x ∷ a) b h =
    let e : at + 1 + length a ≡ at + length (x ∷ a) = omega arith in
    subst (λ n. BytesAt code n b) e (back_at code (at + 1) a b h.1)

-- a whole code stands at its start
whole_at : (front bytes : List ℕ) → BytesAt (front ++ bytes) (length front) bytes
whole_at front [] = tt
whole_at front (b ∷ bytes) =
    let e : length (front ++ b ∷ []) ≡ length front + 1 = omega (arith, length-append front (b ∷ [])) in
    (first front b bytes, subst (λ n. BytesAt (front ++ b ∷ bytes) n bytes) e (subst (λ c. BytesAt c (length (front ++ b ∷ [])) bytes) (append_assoc front (b ∷ []) bytes) (whole_at (front ++ b ∷ []) bytes)))
  where
    first : (xs : List ℕ) (b : ℕ) (bytes : List ℕ) → slice_get (xs ++ b ∷ bytes) (length xs) ≡ Some b
    first [] b bytes = refl
    first (x ∷ xs) b bytes = first xs b bytes

pub all_at : (bytes : List ℕ) → BytesAt bytes 0 bytes
all_at bytes = whole_at [] bytes

-- an opcode's form says what is read
module _ (code : List ℕ) (at opcode : ℕ) (f : Form) (here : slice_get code at ≡ Some opcode) (formed : form_in rows opcode ≡ Some f) where
  pub read_by : row_at code at ≡ row_of code at f
  read_by = ap (option_and_then (λ n. option_and_then (row_of code at) (form_in rows n))) here ∙ ap (option_and_then (row_of code at)) formed

pub two_read : (code : List ℕ) (at a b : ℕ) → slice_get code at ≡ Some a → slice_get code (at + 1) ≡ Some b → two_at code at ≡ Some (256 * a + b)
two_read code at a b h l = rw (h, l) refl

-- a number's two bytes
pub two_of : (n : ℕ) → n < 65536 → (high : ℕ) × (low : ℕ) × (u2 n ≡ high ∷ low ∷ []) × (256 * high + low ≡ n)
unfolding u2
two_of n h =
    let small : n / 256 < 256 = omega arith in
    (n / 256 % 256, n % 256, refl, omega arith)

pub length-u2 : (n : ℕ) → length (u2 n) ≡ 2
unfolding u2
length-u2 n = refl

-- a number in two bytes is read
pub index_read : (code : List ℕ) (at n : ℕ) → n < 65536 → BytesAt code at (u2 n) → two_at code at ≡ Some n
index_read code at n lt h =
    let t = two_of n lt in
    let g = subst (BytesAt code at) t.2 h in
    two_read code at t.0 t.1 g.0 g.1.0 ∙ ap Some t.3

lower : (b : Bool) → (not b && true) ≡ true → b ≡ false
lower true h = absurd (false≢true h)
lower false h = refl

both_right : (a b : Bool) → (a && b) ≡ true → b ≡ true
both_right true b h = h
both_right false b h = absurd (false≢true h)

-- a signed number of so many bits, by half and all of their range
signed_back : (half whole n m : ℕ) → half + half ≡ whole → n < half → m + suc n ≡ whole → signed whole m ≡ negsuc n
signed_back half whole n m e lt s =
    let high : ltb (m + m) whole ≡ false = le-ltb (m + m) whole (omega arith) in
    ap (λ b. pos m -ℤ pos (cond b 0 whole)) high ∙ omega (arith, ints)

positive_back : (half whole n : ℕ) → half + half ≡ whole → n < half → signed whole n ≡ pos n
positive_back half whole n e lt =
    let low : ltb (n + n) whole ≡ true = lt-ltb (n + n) whole (omega arith) in
    ap (λ b. pos n -ℤ pos (cond b 0 whole)) low ∙ omega (arith, ints)

-- a signed number in one byte, and in two
pub byte_back : (n : ℤ) → is_byte n ≡ true → signed 256 (cast_unsigned w8 n) ≡ n
byte_back (pos n) h = positive_back 128 256 n refl (ltb-true n 128 h)
byte_back (negsuc n) h = let le : n ≤ 127 = ltb-false 127 n (lower (ltb 127 n) h) in signed_back 128 256 n (256 - suc n) refl (omega arith) (omega arith)

pub short_unsigned : (n : ℤ) → is_short n ≡ true → cast_unsigned w16 n < 65536
short_unsigned (pos n) h = let lt : n < 32768 = ltb-true n 32768 h in omega arith
short_unsigned (negsuc n) h = omega arith

pub short_back : (n : ℤ) → is_short n ≡ true → signed 65536 (cast_unsigned w16 n) ≡ n
short_back (pos n) h = positive_back 32768 65536 n refl (ltb-true n 32768 h)
short_back (negsuc n) h = let le : n ≤ 32767 = ltb-false 32767 n (lower (ltb 32767 n) h) in signed_back 32768 65536 n (65536 - suc n) refl (omega arith) (omega arith)

-- wherever these bytes stand, they are read as the instruction
abbrev pub ReadsBack : Instr → Option (List ℕ) → Type 0
ReadsBack instr None = Unit {0}
ReadsBack instr (Some bytes) = (code : List ℕ) (at : ℕ) → BytesAt code at bytes → row_at code at ≡ Some (record { instr = instr; next = at + length bytes })

one_byte : (instr : Instr) (opcode : ℕ) → form_in rows opcode ≡ Some (form.Plain instr) → ReadsBack instr (Some (opcode ∷ []))
one_byte instr opcode f code at h = read_by code at opcode (form.Plain instr) h.0 f

-- a choice between bytes
by_test : (instr : Instr) (t : Bool) (a b : Option (List ℕ)) → (t ≡ true → ReadsBack instr a) → ReadsBack instr b → ReadsBack instr (if t then a else b)
by_test instr true a b f g = f refl
by_test instr false a b f g = g

small_int : (n : ℤ) → is_small n ≡ true → form_in rows (small_opcode n) ≡ Some (form.Plain (PushInt n))
small_int (pos zero) h = refl
small_int (pos (suc zero)) h = refl
small_int (pos (suc (suc zero))) h = refl
small_int (pos (suc (suc (suc zero)))) h = refl
small_int (pos (suc (suc (suc (suc zero))))) h = refl
small_int (pos (suc (suc (suc (suc (suc zero)))))) h = refl
small_int (pos (suc (suc (suc (suc (suc (suc n))))))) h = let lt : suc (suc (suc (suc (suc (suc n))))) < 6 = ltb-true (suc (suc (suc (suc (suc (suc n)))))) 6 h in absurd (omega arith)
small_int (negsuc zero) h = refl
small_int (negsuc (suc n)) h = let le : suc n ≤ 0 = ltb-false 0 (suc n) (lower (ltb 0 (suc n)) h) in absurd (omega arith)

int_read : (n : ℤ) → ReadsBack (PushInt n) (int_bytes n)
int_read n =
    by_test (PushInt n) (is_small n) (Some (small_opcode n ∷ [])) _ (λ t. one_byte (PushInt n) (small_opcode n) (small_int n t))
    (by_test (PushInt n) (is_byte n) (Some (0x10 ∷ cast_unsigned w8 n ∷ [])) _ (λ t code at h.
    read_by code at 0x10 form.PushByte h.0 refl ∙ ap (option_and_then (λ b. sized at 2 (PushInt (signed 256 b)))) h.1.0 ∙ ap (λ k. sized at 2 (PushInt k)) (byte_back n t))
    (by_test (PushInt n) (is_short n) (Some (0x11 ∷ u2 (cast_unsigned w16 n))) None (λ t code at h.
    let m : ℕ = cast_unsigned w16 n in
    read_by code at 0x11 form.PushShort h.0 refl ∙ ap (option_and_then (λ b. sized at 3 (PushInt (signed 65536 b)))) (index_read code (at + 1) m (short_unsigned n t) h.1)
    ∙ ap (λ k. sized at 3 (PushInt k)) (short_back n t) ∙ ap (λ k. Some (record { instr = PushInt n; next = at + suc k })) (sym (length-u2 m))) tt))

long_read : (n : ℤ) → ReadsBack (PushLong n) (long_bytes n)
long_read (pos n) =
    by_test (PushLong (pos n)) (n == 0) (Some (0x09 ∷ [])) _ (λ t. one_byte (PushLong (pos n)) 0x09 (ap (λ k. Some (form.Plain (PushLong (pos k)))) (sym (eqb-true n 0 t))))
    (by_test (PushLong (pos n)) (n == 1) (Some (0x0a ∷ [])) None (λ t. one_byte (PushLong (pos n)) 0x0a (ap (λ k. Some (form.Plain (PushLong (pos k)))) (sym (eqb-true n 1 t)))) tt)
long_read (negsuc n) = tt

-- an opcode with a local behind it
local_read : (instr : Instr) (opcode : ℕ) (f : Form) (slot : ℕ) → form_in rows opcode ≡ Some f
    → ((code : List ℕ) (at : ℕ) → slice_get code (at + 1) ≡ Some slot → row_of code at f ≡ sized at 2 instr) → ReadsBack instr (with_local opcode slot)
local_read instr opcode f slot formed read =
    by_test instr (nat_lt slot 256) (Some (opcode ∷ slot ∷ [])) None (λ t code at h. read_by code at opcode f h.0 formed ∙ read code at h.1.0) tt

number_opcode : (slot : ℕ) → slot < 4 → form_in rows (0x1a + slot) ≡ Some (form.Plain (Load Number slot))
number_opcode zero h = refl
number_opcode (suc zero) h = refl
number_opcode (suc (suc zero)) h = refl
number_opcode (suc (suc (suc zero))) h = refl
number_opcode (suc (suc (suc (suc n)))) h = absurd (omega arith)

reference_opcode : (slot : ℕ) → slot < 4 → form_in rows (0x2a + slot) ≡ Some (form.Plain (Load Reference slot))
reference_opcode zero h = refl
reference_opcode (suc zero) h = refl
reference_opcode (suc (suc zero)) h = refl
reference_opcode (suc (suc (suc zero))) h = refl
reference_opcode (suc (suc (suc (suc n)))) h = absurd (omega arith)

load_read : (kind : Kind) (slot : ℕ) → ReadsBack (Load kind slot) (load_bytes kind slot)
load_read Number slot =
    by_test (Load Number slot) (nat_lt slot 4) (Some ((0x1a + slot) ∷ [])) _ (λ t. one_byte (Load Number slot) (0x1a + slot) (number_opcode slot (ltb-true slot 4 t)))
    (local_read (Load Number slot) 0x15 (form.LoadLocal Number) slot refl (λ code at h. ap (option_and_then (λ index. sized at 2 (Load Number index))) h))
load_read LongNumber slot = tt
load_read Reference slot =
    by_test (Load Reference slot) (nat_lt slot 4) (Some ((0x2a + slot) ∷ [])) _ (λ t. one_byte (Load Reference slot) (0x2a + slot) (reference_opcode slot (ltb-true slot 4 t)))
    (local_read (Load Reference slot) 0x19 (form.LoadLocal Reference) slot refl (λ code at h. ap (option_and_then (λ index. sized at 2 (Load Reference index))) h))

store_read : (kind : Kind) (slot : ℕ) → ReadsBack (Store kind slot) (store_bytes kind slot)
store_read Number slot = local_read (Store Number slot) 0x36 (form.StoreLocal Number) slot refl (λ code at h. ap (option_and_then (λ index. sized at 2 (Store Number index))) h)
store_read LongNumber slot = tt
store_read Reference slot = local_read (Store Reference slot) 0x3a (form.StoreLocal Reference) slot refl (λ code at h. ap (option_and_then (λ index. sized at 2 (Store Reference index))) h)

increase_read : (slot : ℕ) (by : ℤ) → ReadsBack (Increase slot by) (increase_bytes slot by)
increase_read slot by =
    by_test (Increase slot by) (nat_lt slot 256 && is_byte by) (Some (0x84 ∷ slot ∷ cast_unsigned w8 by ∷ [])) None (λ t code at h.
    let second : slice_get code (at + 2) ≡ Some (cast_unsigned w8 by) = let e : at + 2 ≡ at + 1 + 1 = omega arith in ap (slice_get code) e ∙ h.1.1.0 in
    read_by code at 0x84 form.IncreaseLocal h.0 refl ∙ rw (h.1.0, second, byte_back by (both_right (nat_lt slot 256) (is_byte by) t)) refl) tt

return_read : (kind : Kind) → ReadsBack (ReturnValue kind) (return_bytes kind)
return_read Number = one_byte (ReturnValue Number) 0xac refl
return_read LongNumber = tt
return_read Reference = one_byte (ReturnValue Reference) 0xb0 refl

load_element_read : (kind : ElementKind) → ReadsBack (LoadElement kind) (Some (load_element_opcode kind ∷ []))
load_element_read NumberElement = one_byte (LoadElement NumberElement) 0x2e refl
load_element_read ReferenceElement = one_byte (LoadElement ReferenceElement) 0x32 refl
load_element_read TruthElement = one_byte (LoadElement TruthElement) 0x33 refl

store_element_read : (kind : ElementKind) → ReadsBack (StoreElement kind) (Some (store_element_opcode kind ∷ []))
store_element_read NumberElement = one_byte (StoreElement NumberElement) 0x4f refl
store_element_read ReferenceElement = one_byte (StoreElement ReferenceElement) 0x53 refl
store_element_read TruthElement = one_byte (StoreElement TruthElement) 0x54 refl

binary_formed : (op : BinaryOp) → form_in rows (binary_opcode op) ≡ Some (form.Plain (Binary op))
binary_formed Add = refl
binary_formed Subtract = refl
binary_formed Multiply = refl
binary_formed Divide = refl
binary_formed Remainder = refl
binary_formed ShiftLeft = refl
binary_formed ShiftRight = refl
binary_formed ShiftRightUnsigned = refl
binary_formed And = refl
binary_formed Or = refl
binary_formed Xor = refl

array_read : (instr : Instr) (type : ℕ) → array_instr type ≡ Some instr → ReadsBack instr (Some (0xbc ∷ type ∷ []))
array_read instr type e code at h =
    read_by code at 0xbc form.MakeArray h.0 refl ∙ ap (option_and_then (λ t. option_and_then (sized at 2) (array_instr t))) h.1.0 ∙ ap (option_and_then (sized at 2)) e

-- an instruction's bytes are read as the instruction
pub plain_read : (instr : Instr) → ReadsBack instr (bytes_of instr)
plain_read PushNull = one_byte PushNull 0x01 refl
plain_read (PushInt n) = int_read n
plain_read (PushLong n) = long_read n
plain_read (Load kind slot) = load_read kind slot
plain_read (Store kind slot) = store_read kind slot
plain_read (Increase slot by) = increase_read slot by
plain_read (LoadElement kind) = load_element_read kind
plain_read (StoreElement kind) = store_element_read kind
plain_read MakeNumbers = array_read MakeNumbers 10 refl
plain_read MakeTruths = array_read MakeTruths 4 refl
plain_read ArrayLength = one_byte ArrayLength 0xbe refl
plain_read PopTop = one_byte PopTop 0x57 refl
plain_read Dup = one_byte Dup 0x59 refl
plain_read DupBelow = one_byte DupBelow 0x5a refl
plain_read DupTwo = one_byte DupTwo 0x5c refl
plain_read (Binary op) = one_byte (Binary op) (binary_opcode op) (binary_formed op)
plain_read Negate = one_byte Negate 0x74 refl
plain_read Widen = one_byte Widen 0x85 refl
plain_read AddLongs = one_byte AddLongs 0x61 refl
plain_read MultiplyLongs = one_byte MultiplyLongs 0x69 refl
plain_read CompareLongs = one_byte CompareLongs 0x94 refl
plain_read (JumpTo jump place) = tt
plain_read (ReturnValue kind) = return_read kind
plain_read ReturnVoid = one_byte ReturnVoid 0xb1 refl
plain_read (OnConstant use_ index) = tt
plain_read (InvokeInterface index count) = tt

use_formed : (use_ : ConstantUse) → form_in rows (use_opcode use_) ≡ Some (form.Indexed use_)
use_formed PushConstant = refl
use_formed PushLongConstant = refl
use_formed GetStatic = refl
use_formed PutStatic = refl
use_formed GetField = refl
use_formed PutField = refl
use_formed InvokeVirtual = refl
use_formed InvokeSpecial = refl
use_formed InvokeStatic = refl
use_formed MakeObject = refl
use_formed MakeReferences = refl
use_formed CheckCast = refl
use_formed InstanceOf = refl

short_use : (use_ : ConstantUse) (index : ℕ) → pushes_short use_ index ≡ true → use_ ≡ PushConstant
short_use PushConstant index h = refl
short_use PushLongConstant index h = absurd (false≢true h)
short_use GetStatic index h = absurd (false≢true h)
short_use PutStatic index h = absurd (false≢true h)
short_use GetField index h = absurd (false≢true h)
short_use PutField index h = absurd (false≢true h)
short_use InvokeVirtual index h = absurd (false≢true h)
short_use InvokeSpecial index h = absurd (false≢true h)
short_use InvokeStatic index h = absurd (false≢true h)
short_use MakeObject index h = absurd (false≢true h)
short_use MakeReferences index h = absurd (false≢true h)
short_use CheckCast index h = absurd (false≢true h)
short_use InstanceOf index h = absurd (false≢true h)

-- a use of a constant is read as such
pub use_read : (use_ : ConstantUse) (index : ℕ) → index < 65536 → ReadsBack (OnConstant use_ index) (Some (use_bytes use_ index))
use_read use_ index lt = by_length (pushes_short use_ index) refl
  where
    by_length : (t : Bool) → pushes_short use_ index ≡ t → ReadsBack (OnConstant use_ index) (Some (if t then 0x12 ∷ index ∷ [] else use_opcode use_ ∷ u2 index))
    by_length true t code at h =
        read_by code at 0x12 form.ShortConstant h.0 refl ∙ ap (option_and_then (λ i. sized at 2 (OnConstant PushConstant i))) h.1.0
        ∙ ap (λ u. sized at 2 (OnConstant u index)) (sym (short_use use_ index t))
    by_length false t code at h =
        read_by code at (use_opcode use_) (form.Indexed use_) h.0 (use_formed use_) ∙ ap (option_and_then (λ i. sized at 3 (OnConstant use_ i))) (index_read code (at + 1) index lt h.1)
        ∙ ap (λ k. Some (record { instr = OnConstant use_ index; next = at + suc k })) (sym (length-u2 index))

-- a call of an interface's method is read as such
pub interface_read : (index count : ℕ) → index < 65536 → ReadsBack (InvokeInterface index count) (Some (interface_bytes index count))
interface_read index count lt code at h =
    let two : BytesAt code (at + 1) (u2 index) = front_at code (at + 1) (u2 index) (count ∷ 0 ∷ []) h.1 in
    let e3 : at + 1 + 2 ≡ at + 3 = omega arith in
    let e4 : at + 3 + 1 ≡ at + 4 = omega arith in
    let rest : BytesAt code (at + 3) (count ∷ 0 ∷ []) = subst (λ n. BytesAt code n (count ∷ 0 ∷ [])) (ap (λ k. at + 1 + k) (length-u2 index) ∙ e3) (back_at code (at + 1) (u2 index) (count ∷ 0 ∷ []) h.1) in
    let last : slice_get code (at + 4) ≡ Some 0 = ap (slice_get code) (sym e4) ∙ rest.1.0 in
    let size : 5 ≡ suc (length (u2 index ++ count ∷ 0 ∷ [])) = omega (arith, length-append (u2 index) (count ∷ 0 ∷ []), length-u2 index) in
    read_by code at 0xb9 form.InterfaceCall h.0 refl ∙ rw (index_read code (at + 1) index lt two, rest.0, last) refl ∙ ap (λ k. Some (record { instr = InvokeInterface index count; next = at + k })) size

zero_formed : (test : Test) → form_in rows (zero_opcode test) ≡ Some (form.ShortJump (IfZero test))
zero_formed Equal = refl
zero_formed NotEqual = refl
zero_formed Less = refl
zero_formed GreaterOrEqual = refl
zero_formed Greater = refl
zero_formed LessOrEqual = refl

ints_formed : (test : Test) → form_in rows (ints_opcode test) ≡ Some (form.ShortJump (IfInts test))
ints_formed Equal = refl
ints_formed NotEqual = refl
ints_formed Less = refl
ints_formed GreaterOrEqual = refl
ints_formed Greater = refl
ints_formed LessOrEqual = refl

jump_formed : (jump : Jump) → form_in rows (jump_opcode jump) ≡ Some (form.ShortJump jump)
jump_formed Always = refl
jump_formed (IfZero test) = zero_formed test
jump_formed (IfInts test) = ints_formed test
jump_formed (IfSame true) = refl
jump_formed (IfSame false) = refl
jump_formed (IfNull true) = refl
jump_formed (IfNull false) = refl

-- a distance leads from its opcode to the place
target_at : (at to : ℕ) (by : ℤ) → at < 65536 → to < 65536 → by ≡ pos to -ℤ pos at → is_short by ≡ true → target_of 65536 at (cast_unsigned w16 by) ≡ Some to
target_at at to (pos n) lt lt2 e h =
    let small : n < 32768 = ltb-true n 32768 h in
    let there : at + n ≡ to = omega (arith, ints) in
    let low : ltb (n + n) 65536 ≡ true = lt-ltb (n + n) 65536 (omega arith) in
    let within : ltb (at + n) (2 ^ 32) ≡ true = lt-ltb (at + n) (2 ^ 32) (omega arith) in
    rw (low, within) (ap Some there)
target_at at to (negsuc n) lt lt2 e h =
    let small : n ≤ 32767 = ltb-false 32767 n (lower (ltb 32767 n) h) in
    let back : to + suc n ≡ at = omega (arith, ints) in
    let m : ℕ = 65536 - suc n in
    let high : ltb (m + m) 65536 ≡ false = le-ltb (m + m) 65536 (omega arith) in
    let within : leb 65536 (at + m) ≡ true = le-leb 65536 (at + m) (omega arith) in
    rw (high, within) (ap Some (omega arith))

-- a jump is read as one to the place
pub jump_read : (jump : Jump) (code : List ℕ) (at to : ℕ) → at < 65536 → to < 65536 → is_short (distance at to) ≡ true
    → BytesAt code at (jump_opcode jump ∷ u2 (cast_unsigned w16 (distance at to))) → row_at code at ≡ Some (record { instr = JumpTo jump to; next = at + 3 })
jump_read jump code at to lt lt2 short h =
    read_by code at (jump_opcode jump) (form.ShortJump jump) h.0 (jump_formed jump)
    ∙ ap (option_and_then (λ by. option_and_then (λ t. sized at 3 (JumpTo jump t)) (target_of 65536 at by))) (index_read code (at + 1) (cast_unsigned w16 (distance at to)) (short_unsigned (distance at to) short) h.1)
    ∙ ap (option_and_then (λ t. sized at 3 (JumpTo jump t))) (target_at at to (distance at to) lt lt2 refl short)
