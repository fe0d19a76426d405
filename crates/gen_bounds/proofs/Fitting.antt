-- Items that take few bytes are laid out neither too long nor with a jump that leads too far.
use Rattle.std.proofs.Common.{◌≡◌, ℕ, ◌+◌, ◌≤◌, Bool, true, false, not, ◌&&◌, if◌then◌else◌, List, [], ◌∷◌, length, length-append, Option, Some, None, refl, ap, ◌∙◌, subst, arith, lt-ltb, le-ltb}
use Rattle.std.specs.Prelude.{ℤ, pos, negsuc, ◌-ℤ◌, ◌==◌, nat_lt, option_and_then, Ok, Err}
use Rattle.std.proofs.lemmas.Int.{ints}
use Rattle.std.specs.Int.{w8, w16, cast_unsigned}
use Rattle.class_form.specs.declared.constant.Const.{Const}
use Rattle.class_form.specs.declared.member.Code.{Code}
use Rattle.class_form.specs.Layout.{u2}
use Rattle.class_form.proofs.Sizes.{length-u2}
use Rattle.jp_store.specs.declared.value.Kind.{Kind}
use Rattle.jp_store.specs.declared.value.Kind.TheVariants.{Number, LongNumber, Reference}
use Rattle.jvm_table.specs.declared.instr.Instr.{Instr}
use Rattle.jvm_table.specs.declared.instr.Instr.TheVariants.{PushNull, PushInt, PushLong, Load, Store, Increase, LoadElement, StoreElement, MakeNumbers, MakeTruths, ArrayLength, PopTop, Dup, DupBelow, DupTwo, Binary, Negate, Widen, AddLongs, MultiplyLongs, CompareLongs, JumpTo, ReturnValue, ReturnVoid, OnConstant, InvokeInterface}
use Rattle.jvm_table.specs.declared.instr.ConstantUse.{ConstantUse}
use Rattle.jvm_table.specs.Descriptors.{places_of}
use Rattle.code_asm.specs.declared.fault.AsmFault.{AsmFault}
use Rattle.code_asm.specs.declared.fault.AsmFault.TheVariants.{TooLong, FarJump}
use Rattle.code_asm.specs.Items.{Item, Plain, Uses, CallsInterface, Branch, Mark}
use Rattle.code_asm.specs.Lines.{name_of, named_of, line_of, lines_of}
use Rattle.code_asm.specs.Encoding.{is_byte, is_small, small_opcode, int_bytes, long_bytes, with_local, local_bytes, load_bytes, store_bytes, increase_bytes, return_bytes, bytes_of, jump_opcode, use_opcode, pushes_short, use_bytes, interface_bytes}
use Rattle.code_asm.specs.Pieces.{Piece, OpPiece, JumpPiece, MarkPiece, size_of, size_of_all, marks, place_in, distance, is_short, far_jump, bytes_of_all, unless_far, finished}
use Rattle.code_asm.specs.Written.{hold_named, hold_name, op_piece, piece_of, AreOf}
use Rattle.code_asm.specs.Assembled.{IsWritten}
use Rattle.class_form.specs.declared.constant.Const.TheVariants.{InterfaceMethodref}
use Rattle.gen_bounds.specs.Sizes.{most_bytes, most_bytes_of}
use Rattle.gen_bounds.specs.Laws.{HasRoom}

-- bytes, if there are any, are so many at most
abbrev AtMost : ℕ → Option (List ℕ) → Type 0
AtMost most None = Unit {0}
AtMost most (Some bytes) = length bytes ≤ most

-- a choice between bytes
chosen : (most : ℕ) (t : Bool) (x y : Option (List ℕ)) → AtMost most x → AtMost most y → AtMost most (if t then x else y)
chosen most true x y h k = h
chosen most false x y h k = k

int_few : (n : ℤ) → AtMost 3 (int_bytes n)
int_few n =
    let long : length (0x11 ∷ u2 (cast_unsigned w16 n)) ≤ 3 = omega (arith, length-u2 (cast_unsigned w16 n)) in
    chosen 3 (is_small n) (Some (small_opcode n ∷ [])) _ (omega arith)
    (chosen 3 (is_byte n) (Some (0x10 ∷ cast_unsigned w8 n ∷ [])) _ (omega arith)
    (chosen 3 (is_short n) (Some (0x11 ∷ u2 (cast_unsigned w16 n))) None long tt))

long_few : (n : ℤ) → AtMost 3 (long_bytes n)
long_few (pos n) = chosen 3 (n == 0) (Some (0x09 ∷ [])) _ (omega arith) (chosen 3 (n == 1) (Some (0x0a ∷ [])) None (omega arith) tt)
long_few (negsuc n) = tt

with_local_few : (opcode slot : ℕ) → AtMost 3 (with_local opcode slot)
with_local_few opcode slot = chosen 3 (nat_lt slot 256) (Some (opcode ∷ slot ∷ [])) None (omega arith) tt

local_few : (first opcode slot : ℕ) → AtMost 3 (local_bytes first opcode slot)
local_few first opcode slot = chosen 3 (nat_lt slot 4) (Some ((first + slot) ∷ [])) _ (omega arith) (with_local_few opcode slot)

load_few : (kind : Kind) (slot : ℕ) → AtMost 3 (load_bytes kind slot)
load_few Number slot = local_few 0x1a 0x15 slot
load_few LongNumber slot = tt
load_few Reference slot = local_few 0x2a 0x19 slot

store_few : (kind : Kind) (slot : ℕ) → AtMost 3 (store_bytes kind slot)
store_few Number slot = with_local_few 0x36 slot
store_few LongNumber slot = tt
store_few Reference slot = with_local_few 0x3a slot

increase_few : (slot : ℕ) (by : ℤ) → AtMost 3 (increase_bytes slot by)
increase_few slot by = chosen 3 (nat_lt slot 256 && is_byte by) (Some (0x84 ∷ slot ∷ cast_unsigned w8 by ∷ [])) None (omega arith) tt

return_few : (kind : Kind) → AtMost 3 (return_bytes kind)
return_few Number = omega arith
return_few LongNumber = tt
return_few Reference = omega arith

bytes_few : (instr : Instr) → AtMost 3 (bytes_of instr)
bytes_few PushNull = omega arith
bytes_few (PushInt n) = int_few n
bytes_few (PushLong n) = long_few n
bytes_few (Load kind slot) = load_few kind slot
bytes_few (Store kind slot) = store_few kind slot
bytes_few (Increase slot by) = increase_few slot by
bytes_few (LoadElement kind) = omega arith
bytes_few (StoreElement kind) = omega arith
bytes_few MakeNumbers = omega arith
bytes_few MakeTruths = omega arith
bytes_few ArrayLength = omega arith
bytes_few PopTop = omega arith
bytes_few Dup = omega arith
bytes_few DupBelow = omega arith
bytes_few DupTwo = omega arith
bytes_few (Binary op) = omega arith
bytes_few Negate = omega arith
bytes_few Widen = omega arith
bytes_few AddLongs = omega arith
bytes_few MultiplyLongs = omega arith
bytes_few CompareLongs = omega arith
bytes_few (JumpTo jump place) = tt
bytes_few (ReturnValue kind) = return_few kind
bytes_few ReturnVoid = omega arith
bytes_few (OnConstant use_ index) = tt
bytes_few (InvokeInterface index count) = tt

use_few : (use_ : ConstantUse) (index : ℕ) → length (use_bytes use_ index) ≤ 3
use_few use_ index = by_test (pushes_short use_ index) where
  by_test : (t : Bool) → length (if t then 0x12 ∷ index ∷ [] else use_opcode use_ ∷ u2 index) ≤ 3
  by_test true = omega arith
  by_test false = omega (arith, length-u2 index)

interface_few : (index count : ℕ) → length (interface_bytes index count) ≤ 5
interface_few index count = omega (arith, length-append (u2 index) (count ∷ 0 ∷ []), length-u2 index)

-- the piece of bytes has their size
op_size : (most : ℕ) (bytes : List ℕ) (piece : Piece) → length bytes ≤ most → op_piece bytes ≡ Some piece → size_of piece ≤ most
op_size most [] piece h e = absurd cc
op_size most (opcode ∷ operands) piece h e =
    let is : OpPiece opcode operands ≡ piece = cc in
    let few : 1 + length operands ≤ most = omega arith in
    subst (λ p. size_of p ≤ most) is few

maybe_size : (most : ℕ) (bytes : Option (List ℕ)) (piece : Piece) → AtMost most bytes → option_and_then op_piece bytes ≡ Some piece → size_of piece ≤ most
maybe_size most None piece h e = absurd cc
maybe_size most (Some bytes) piece h e = op_size most bytes piece h e

tested_size : (most : ℕ) (t : Bool) (bytes : List ℕ) (piece : Piece) → length bytes ≤ most → (if t then op_piece bytes else None) ≡ Some piece → size_of piece ≤ most
tested_size most true bytes piece h e = op_size most bytes piece h e
tested_size most false bytes piece h e = absurd cc

-- a piece takes at most as many bytes as its item may
piece_size : (list : List Const) (item : Item) (piece : Piece) → piece_of list (line_of item) ≡ Some piece → size_of piece ≤ most_bytes item
piece_size list (Plain instr) piece e = maybe_size 3 (bytes_of instr) piece (bytes_few instr) e
piece_size list (Uses use_ wanted) piece e =
    let index = (hold_named list (named_of wanted)).index in tested_size 3 (nat_lt index 65536) (use_bytes use_ index) piece (use_few use_ index) e
piece_size list (CallsInterface key signature) piece e =
    let index = (hold_name InterfaceMethodref list (name_of key)).index in
    let count = 1 + places_of signature.parameters in
    tested_size 5 (nat_lt index 65536 && nat_lt count 256) (interface_bytes index count) piece (interface_few index count) e
piece_size list (Branch jump label) piece e =
    let is : JumpPiece (jump_opcode jump) label ≡ piece = cc in
    let few : 3 ≤ 3 = omega arith in subst (λ p. size_of p ≤ 3) is few
piece_size list (Mark label) piece e =
    let is : MarkPiece label ≡ piece = cc in
    let few : 0 ≤ 0 = omega arith in subst (λ p. size_of p ≤ 0) is few

pieces_size : (list : List Const) (items : List Item) (pieces : List Piece) → AreOf list (lines_of items) pieces → size_of_all pieces ≤ most_bytes_of items
pieces_size list [] [] h = omega arith
pieces_size list [] (piece ∷ pieces) h = absurd h
pieces_size list (item ∷ items) [] h = absurd h
pieces_size list (item ∷ items) (piece ∷ pieces) h =
    let e = piece_size list item piece h.1 in let f = pieces_size list items pieces h.2 in omega arith

-- no label stands behind the last byte
place_within : (pieces : List Piece) (label : ℕ) → place_in pieces label ≤ size_of_all pieces
place_within [] label = omega arith
place_within (piece ∷ pieces) label = by_test (marks label piece) (place_within pieces label) where
  by_test : (t : Bool) → place_in pieces label ≤ size_of_all pieces → (if t then 0 else size_of piece + place_in pieces label) ≤ size_of piece + size_of_all pieces
  by_test true h = omega arith
  by_test false h = omega arith

-- the distance of two places in short code
near : (d : ℤ) (at to : ℕ) → d ≡ pos to -ℤ pos at → at ≤ 32767 → to ≤ 32767 → is_short d ≡ true
near (pos n) at to e h k = lt-ltb n 32768 (omega (arith, ints))
near (negsuc n) at to e h k = ap (λ b. not b && true) (le-ltb 32767 n (omega (arith, ints)))

none_far : (place : ℕ → ℕ) → ((label : ℕ) → place label ≤ 32767) → (at : ℕ) (pieces : List Piece) → at + size_of_all pieces ≤ 32767 → far_jump place at pieces ≡ None
none_far place small at [] h = refl
none_far place small at (OpPiece opcode operands ∷ pieces) h = none_far place small (at + (1 + length operands)) pieces (omega arith)
none_far place small at (JumpPiece opcode label ∷ pieces) h =
    let by : ℤ = distance at (place label) in
    let d : is_short by ≡ true = near by at (place label) refl (omega arith) (small label) in
    ap (λ t. if t then far_jump place (at + 3) pieces else Some by) d ∙ none_far place small (at + 3) pieces (omega arith)
none_far place small at (MarkPiece label ∷ pieces) h = none_far place small at pieces (omega arith)

-- short code is finished
finishes : (pieces : List Piece) (stack locals : ℕ) → size_of_all pieces ≤ 32767 → (code : Code) × (finished pieces stack locals ≡ Ok code)
finishes pieces stack locals h =
    let code : Code = record { max_stack = stack; max_locals = locals; bytes = bytes_of_all pieces; attributes = [] } in
    let fits : nat_lt 65535 (size_of_all pieces) ≡ false = le-ltb 65535 (size_of_all pieces) (omega arith) in
    let far : far_jump (place_in pieces) 0 pieces ≡ None = none_far (place_in pieces) (λ label. let p = place_within pieces label in omega arith) 0 pieces (omega arith) in
    (code, ap (λ t. if t then Err (TooLong (size_of_all pieces)) else unless_far (far_jump (place_in pieces) 0 pieces) code) fits ∙ ap (λ f. unless_far f code) far)

never_fails : (items : List Item) → most_bytes_of items ≤ 32767 → (old new : List Const) (stack locals : ℕ) (fault : AsmFault) → IsWritten (lines_of items) old new stack locals (Err fault) → ⊥
never_fails items few old new stack locals fault h =
    let size = pieces_size new items h.1.0 h.1.1 in
    let done = finishes h.1.0 stack locals (omega arith) in
    let e : Err fault ≡ Ok done.0 = h.1.2 ∙ done.1 in
    absurd cc

pub room_for : (items : List Item) → most_bytes_of items ≤ 32767 → HasRoom items
room_for items few = record {
  long = λ old new stack locals bytes h. never_fails items few old new stack locals (TooLong bytes) h;
  far = λ old new stack locals by h. never_fails items few old new stack locals (FarJump by) h;
}
