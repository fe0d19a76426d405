-- What is known of code that is written by items.
use Rattle.std.specs.Prelude.{◌≡◌, ℕ, List, ◌∷◌, ◌++◌, length, Ok}
use Rattle.class_form.specs.declared.constant.Const.{Const}
use Rattle.class_form.specs.declared.constant.Const.TheVariants.{Unused}
use Rattle.class_form.specs.declared.class_file.ClassFile.{ClassFile}
use Rattle.class_form.specs.declared.member.Code.{Code}
use Rattle.code_asm.specs.Items.{Item, Stands}
use Rattle.code_asm.specs.Lines.{lines_of, MarkOnce}
use Rattle.code_asm.specs.Pieces.{Piece, place_in, finished}
use Rattle.code_asm.specs.Written.{AreOf, AreMeant}

-- Where pieces are those of items, the items stand in the code that is finished, in a class file with their constants
abbrev pub ItemsStand : Type 0
ItemsStand =
    (file : ClassFile) (list more : List Const) (items : List Item) (pieces : List Piece) (stack locals : ℕ) (code : Code) →
    file.constants ≡ Unused ∷ (list ++ more) → AreOf list (lines_of items) pieces → AreMeant items → MarkOnce (lines_of items) →
    finished pieces stack locals ≡ Ok code → Stands file code.bytes (place_in pieces) 0 items (length code.bytes)
