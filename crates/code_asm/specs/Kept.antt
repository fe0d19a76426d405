-- How code that is being written is kept: its bytes, with zeros where distances will stand, and what the bytes are.
use Rattle.std.specs.Prelude.{◌≡◌, ℕ, ◌+◌, ℤ, if◌then◌else◌, Result, Ok, Err, List, [], ◌∷◌, length, take, drop, slice_index, slice_index_or, Option, Some, None, is_none, count_by}
use Rattle.code_asm.specs.declared.asm.Part.{Part}
use Rattle.code_asm.specs.declared.asm.Part.TheVariants.{Op, Jump, Mark}
use Rattle.code_asm.specs.Pieces.{Piece, OpPiece, JumpPiece, MarkPiece, is_marked, is_short, place_in, far_jump, bytes_of_all}
use Rattle.code_asm.specs.declared.fault.AsmFault.{AsmFault}
use Rattle.code_asm.specs.declared.fault.AsmFault.TheVariants.{FarJump}

-- how many bytes a part takes
abbrev pub part_size : Part → ℕ
part_size (Op operands) = 1 + operands
part_size (Jump label) = 3
part_size (Mark label) = 0

abbrev pub parts_size : List Part → ℕ
parts_size [] = 0
parts_size (part ∷ parts) = part_size part + parts_size parts

-- the pieces that parts are, with their bytes
abbrev pub pieces_in : List Part → List ℕ → List Piece
pieces_in [] bytes = []
pieces_in (Op operands ∷ parts) bytes =
    let rest = drop 1 bytes in OpPiece (slice_index bytes 0) (take operands rest) ∷ pieces_in parts (drop operands rest)
pieces_in (Jump label ∷ parts) bytes = JumpPiece (slice_index bytes 0) label ∷ pieces_in parts (drop 3 bytes)
pieces_in (Mark label ∷ parts) bytes = MarkPiece label ∷ pieces_in parts bytes

-- where a label is marked, if it is
abbrev pub spot_in : List Piece → ℕ → Option ℕ
spot_in pieces label = if is_marked pieces label then Some (place_in pieces label) else None

-- the bytes are those of the parts, and the places those of the labels
pub record AreKept (bytes : List ℕ) (parts : List Part) (places : List (Option ℕ)) : Type 0 where
  pub sized : parts_size parts ≡ length bytes
  pub spots : (label : ℕ) → slice_index_or places label None ≡ spot_in (pieces_in parts bytes) label

-- a distance, if two signed bytes hold it
abbrev pub short_of : ℤ → Result ℤ AsmFault
short_of by = if is_short by then Ok by else Err (FarJump by)

-- the bytes are those of the pieces, if no jump leads too far; else the fault tells of the first that does
abbrev pub IsLaid : List Piece → List ℕ → Result (Unit {0}) AsmFault → Type 0
IsLaid pieces bytes (Ok done) = (bytes ≡ bytes_of_all pieces) × (far_jump (place_in pieces) 0 pieces ≡ None)
IsLaid pieces bytes (Err fault) = (by : ℤ) × (fault ≡ FarJump by) × (far_jump (place_in pieces) 0 pieces ≡ Some by)

-- how many labels aren't marked yet
abbrev pub unmarked : List (Option ℕ) → ℕ
unmarked places = count_by is_none places
