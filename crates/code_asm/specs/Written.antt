-- The pieces that lines of code are, by the indices of constants.
use Rattle.std.specs.Prelude.{◌≡◌, ℕ, false, ◌&&◌, nat_lt, if◌then◌else◌, List, [], ◌∷◌, Option, Some, None, option_and_then, codes}
use Rattle.std.specs.Str.{bytes_eq}
use Rattle.class_form.specs.declared.constant.Const.{Const}
use Rattle.class_form.specs.declared.constant.Const.TheVariants.{Integer, Fieldref, Methodref, InterfaceMethodref}
use Rattle.jvm_table.specs.declared.instr.ConstantUse.{ConstantUse}
use Rattle.jvm_table.specs.Descriptors.{signature_of}
use Rattle.code_asm.specs.declared.line.MemberName.{MemberName}
use Rattle.code_asm.specs.declared.line.Named.{Named}
use Rattle.code_asm.specs.declared.line.Named.TheVariants as named
use Rattle.code_asm.specs.declared.line.Line.{Line}
use Rattle.code_asm.specs.declared.line.Line.TheVariants as line
use Rattle.code_asm.specs.Held.{Held, hold, hold_class, hold_text, hold_member}
use Rattle.code_asm.specs.Items.{Wanted, IntOf, TextOf, FieldOf, ClassOf, MethodOf, FamilyOf, BuiltIn, Item, Plain, Uses, CallsInterface, Branch, Mark, is_built_in}
use Rattle.code_asm.specs.Pieces.{Piece, OpPiece, JumpPiece, MarkPiece}
use Rattle.code_asm.specs.Encoding.{bytes_of, jump_opcode, use_bytes, interface_bytes}

-- constants with what is named, and its index
abbrev pub hold_name : (ℕ → ℕ → Const) → List Const → MemberName → Held
hold_name kind list m = hold_member kind list m.class m.name m.descriptor

abbrev pub hold_named : List Const → Named → Held
hold_named list (named.Int n) = hold list (Integer n)
hold_named list (named.Text bytes) = hold_text list bytes
hold_named list (named.Class name) = hold_class list name
hold_named list (named.Field m) = hold_name Fieldref list m
hold_named list (named.Method m) = hold_name Methodref list m

-- constants with what a line names, and what lines name
abbrev pub with_line : List Const → Line → List Const
with_line list (line.Plain instr) = list
with_line list (line.Uses use_ wanted) = (hold_named list wanted).constants
with_line list (line.CallsInterface m count) = (hold_name InterfaceMethodref list m).constants
with_line list (line.Branch jump label) = list
with_line list (line.Mark label) = list

abbrev pub with_lines : List Const → List Line → List Const
with_lines list [] = list
with_lines list (l ∷ lines) = with_lines (with_line list l) lines

-- an opcode with what is behind it
abbrev pub op_piece : List ℕ → Option Piece
op_piece [] = None
op_piece (opcode ∷ operands) = Some (OpPiece opcode operands)

-- an index has two bytes at most, and the number of an interface call's places one
abbrev pub use_piece : ConstantUse → ℕ → Option Piece
use_piece use_ index = if nat_lt index 65536 then op_piece (use_bytes use_ index) else None

abbrev pub interface_piece : ℕ → ℕ → Option Piece
interface_piece index count = if nat_lt index 65536 && nat_lt count 256 then op_piece (interface_bytes index count) else None

-- the piece that a line is among constants, if there is an opcode for it
abbrev pub piece_of : List Const → Line → Option Piece
piece_of list (line.Plain instr) = option_and_then op_piece (bytes_of instr)
piece_of list (line.Uses use_ wanted) = use_piece use_ (hold_named list wanted).index
piece_of list (line.CallsInterface m count) = interface_piece (hold_name InterfaceMethodref list m).index count
piece_of list (line.Branch jump label) = Some (JumpPiece (jump_opcode jump) label)
piece_of list (line.Mark label) = Some (MarkPiece label)

-- the pieces are those of the lines, which name nothing that isn't there
abbrev pub AreOf : List Const → List Line → List Piece → Type 0
AreOf list [] [] = Unit {0}
AreOf list [] (piece ∷ pieces) = ⊥
AreOf list (l ∷ lines) [] = ⊥
AreOf list (l ∷ lines) (piece ∷ pieces) = (with_line list l ≡ list) × (piece_of list l ≡ Some piece) × AreOf list lines pieces

-- a method is named with its descriptor's signature
abbrev pub IsMeant : Wanted → Type 0
IsMeant (IntOf n) = Unit {0}
IsMeant (TextOf bytes) = Unit {0}
IsMeant (FieldOf key) = Unit {0}
IsMeant (ClassOf name) = Unit {0}
IsMeant (MethodOf key signature) = (signature_of key.descriptor ≡ Some signature) × (is_built_in key ≡ false)
IsMeant (FamilyOf key signature) = (signature_of key.descriptor ≡ Some signature) × (is_built_in key ≡ false) × (bytes_eq key.name (codes "<init>") ≡ false)
IsMeant (BuiltIn key) = Unit {0}

abbrev pub AreMeant : List Item → Type 0
AreMeant [] = Unit {0}
AreMeant (Plain instr ∷ items) = AreMeant items
AreMeant (Uses use_ wanted ∷ items) = IsMeant wanted × AreMeant items
AreMeant (CallsInterface key signature ∷ items) = (signature_of key.descriptor ≡ Some signature) × AreMeant items
AreMeant (Branch jump label ∷ items) = AreMeant items
AreMeant (Mark label ∷ items) = AreMeant items
