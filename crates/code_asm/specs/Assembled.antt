-- Lines that are written as code.
use Rattle.std.specs.Prelude.{◌≡◌, ℕ, ◌+◌, ◌<◌, List, length, slice_index, Option, Some, option_and_then, Result, Ok, Err}
use Rattle.class_form.specs.declared.constant.Const.{Const}
use Rattle.class_form.specs.declared.member.Code.{Code}
use Rattle.code_asm.specs.declared.fault.AsmFault.{AsmFault}
use Rattle.code_asm.specs.declared.fault.AsmFault.TheVariants.{Full, TooLong, FarJump, OutOfMemory}
use Rattle.code_asm.specs.declared.line.Line.{Line}
use Rattle.code_asm.specs.Held.{Fails}
use Rattle.code_asm.specs.Pieces.{Piece, Draft, with_piece, finished}
use Rattle.code_asm.specs.Written.{with_line, with_lines, op_piece, piece_of, AreOf}

-- constants with what the lines name, and what comes of the pieces that the lines are among them
abbrev pub IsWritten : List Line → List Const → List Const → ℕ → ℕ → Result Code AsmFault → Type 0
IsWritten lines old new stack locals result =
    (new ≡ with_lines old lines) × ((pieces : List Piece) × AreOf new lines pieces × (result ≡ finished pieces stack locals))

-- What comes of lines, where the constants can be had; else why they can't
abbrev pub Assembles : List Line → List Const → List Const → ℕ → ℕ → Result Code AsmFault → Type 0
Assembles lines old new stack locals (Ok code) = IsWritten lines old new stack locals (Ok code)
Assembles lines old new stack locals (Err Full) = 65535 < 1 + length (with_lines old lines)
Assembles lines old new stack locals (Err (TooLong bytes)) = IsWritten lines old new stack locals (Err (TooLong bytes))
Assembles lines old new stack locals (Err (FarJump by)) = IsWritten lines old new stack locals (Err (FarJump by))
Assembles lines old new stack locals (Err OutOfMemory) = Unit {0}

-- the labels with the numbers from 0 on
abbrev pub AreNumbered : List ℕ → Type 0
AreNumbered labels = (k : ℕ) → k < length labels → slice_index labels k ≡ k

-- bytes of an instruction were written as the last piece
abbrev pub PutsBytes : Option (List ℕ) → Draft → Draft → Type 0
PutsBytes bytes old new = (piece : Piece) × (option_and_then op_piece bytes ≡ Some piece) × (new ≡ with_piece old piece)

-- a line was written as the last piece
pub record PutsPiece (line : Line) (list : List Const) (old new : Draft) : Type 0 where
  pub piece : Piece
  pub is : piece_of list line ≡ Some piece
  pub put : new ≡ with_piece old piece

-- a line was written, or its constants can't be had
abbrev pub PutsLine : Line → List Const → List Const → Draft → Draft → Result (Unit {0}) AsmFault → Type 0
PutsLine line old new from to (Ok done) =
    (new ≡ with_line old line) × (1 + length old < 65536 → 1 + length new < 65536) × PutsPiece line new from to
PutsLine line old new from to (Err fault) = Fails fault (with_line old line)
