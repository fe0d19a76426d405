-- Code in pieces, and its bytes (JVM specification, second edition, 4.7.3 and chapter 6).
use Rattle.std.specs.Prelude.{ℕ, ◌+◌, ℤ, pos, negsuc, ◌-ℤ◌, int_lt, Bool, true, false, not, ◌&&◌, ◌==◌, nat_lt, if◌then◌else◌, List, [], ◌∷◌, ◌++◌, length, Option, Some, None, Result, Ok, Err}
use Rattle.std.specs.List.{list_any, list_all}
use Rattle.std.specs.Int.{w16, cast_unsigned}
use Rattle.class_form.specs.declared.member.Code.{Code}
use Rattle.class_form.specs.Layout.{u2}
use Rattle.code_asm.specs.declared.fault.AsmFault.{AsmFault}
use Rattle.code_asm.specs.declared.fault.AsmFault.TheVariants.{TooLong, FarJump}

-- an opcode with its operands; a jump, by its opcode, to a label; or a label
pub data Piece : Type 0 where
  OpPiece : ℕ → List ℕ → Piece
  JumpPiece : ℕ → ℕ → Piece
  MarkPiece : ℕ → Piece

-- code that is being written: its pieces, and how many labels there are, which are the numbers from 0 on
pub record Draft : Type 0 where
  pub pieces : List Piece
  pub labels : ℕ

abbrev pub with_piece : Draft → Piece → Draft
with_piece draft piece = record { pieces = draft.pieces ++ piece ∷ []; labels = draft.labels }

abbrev pub with_label : Draft → Draft
with_label draft = record { pieces = draft.pieces; labels = draft.labels + 1 }

-- how many bytes a piece takes: a jump has its distance in two
abbrev pub size_of : Piece → ℕ
size_of (OpPiece opcode operands) = 1 + length operands
size_of (JumpPiece opcode label) = 3
size_of (MarkPiece label) = 0

abbrev pub size_of_all : List Piece → ℕ
size_of_all [] = 0
size_of_all (piece ∷ pieces) = size_of piece + size_of_all pieces

-- whether a piece is a label's mark
abbrev pub marks : ℕ → Piece → Bool
marks label (OpPiece opcode operands) = false
marks label (JumpPiece opcode to) = false
marks label (MarkPiece marked) = label == marked

abbrev pub is_marked : List Piece → ℕ → Bool
is_marked pieces label = list_any (marks label) pieces

-- a label's place: the size of what stands in front of its mark
abbrev pub place_in : List Piece → ℕ → ℕ
place_in [] label = 0
place_in (piece ∷ pieces) label = if marks label piece then 0 else size_of piece + place_in pieces label

-- whether a jump's label is marked
abbrev pub lands_in : List Piece → Piece → Bool
lands_in all (OpPiece opcode operands) = true
lands_in all (JumpPiece opcode label) = is_marked all label
lands_in all (MarkPiece label) = true

abbrev pub all_land : List Piece → Bool
all_land pieces = list_all (lands_in pieces) pieces

-- how far a place is from a jump's opcode
abbrev pub distance : ℕ → ℕ → ℤ
distance at to = pos to -ℤ pos at

-- whether two signed bytes hold a number
abbrev pub is_short : ℤ → Bool
is_short n = not (int_lt n (negsuc 32767)) && int_lt n (pos 32768)

-- the first distance, of pieces from a place on, that two signed bytes don't hold
abbrev pub far_jump : (ℕ → ℕ) → ℕ → List Piece → Option ℤ
far_jump place at [] = None
far_jump place at (OpPiece opcode operands ∷ pieces) = far_jump place (at + (1 + length operands)) pieces
far_jump place at (JumpPiece opcode label ∷ pieces) =
    if is_short (distance at (place label)) then far_jump place (at + 3) pieces else Some (distance at (place label))
far_jump place at (MarkPiece label ∷ pieces) = far_jump place at pieces

-- the bytes of pieces from a place on, where the labels have these places
abbrev pub laid : (ℕ → ℕ) → ℕ → List Piece → List ℕ
laid place at [] = []
laid place at (OpPiece opcode operands ∷ pieces) = (opcode ∷ operands) ++ laid place (at + (1 + length operands)) pieces
laid place at (JumpPiece opcode label ∷ pieces) =
    (opcode ∷ u2 (cast_unsigned w16 (distance at (place label)))) ++ laid place (at + 3) pieces
laid place at (MarkPiece label ∷ pieces) = laid place at pieces

-- the bytes of a whole code
abbrev pub bytes_of_all : List Piece → List ℕ
bytes_of_all pieces = laid (place_in pieces) 0 pieces

-- code, unless some jump leads too far
abbrev pub unless_far : Option ℤ → Code → Result Code AsmFault
unless_far None code = Ok code
unless_far (Some by) code = Err (FarJump by)

-- code as it stands in a class file, if it has at most 65,535 bytes and each of its jumps a distance of two bytes
abbrev pub finished : List Piece → ℕ → ℕ → Result Code AsmFault
finished pieces stack locals =
    if nat_lt 65535 (size_of_all pieces) then Err (TooLong (size_of_all pieces))
    else unless_far (far_jump (place_in pieces) 0 pieces)
    (record { max_stack = stack; max_locals = locals; bytes = bytes_of_all pieces; attributes = [] })
