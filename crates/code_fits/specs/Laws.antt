-- The code of members is as the writer of class files asks.
use Rattle.std.specs.Prelude.{◌≡◌, true}
use Rattle.std.specs.List.{list_all}
use Rattle.jp_pred.specs.declared.hier.Hier.{Hier}
use Rattle.iface_codec.specs.declared.iface.Iface.{Iface}
use Rattle.jp_meaning.specs.declared.unit.TypedMember.{TypedMember}
use Rattle.jp_meaning.specs.Run.{Program}
use Rattle.code_asm.specs.Lines.{lines_of, is_labelled, line_lands, has_opcode}
use Rattle.code_asm.specs.Written.{AreMeant}
use Rattle.gen_body.specs.Members.{member_code}
use Rattle.gen_code.specs.Compiled.{marks_once, are_written}
use Rattle.calls_fit.specs.Fitting.{member_fits}
use Rattle.code_fits.specs.Encodable.{stays_in, member_is_encodable}
use Rattle.code_fits.specs.Ordinary.{member_calls_ordinary}

-- the code of a member that fits, and calls ordinary methods, names each method with the signature of its descriptor
abbrev pub FittingIsMeant : Type 0
FittingIsMeant =
    (p : Program) (hier : Hier) (head : Iface) (m : TypedMember) → member_fits p head m ≡ true → member_calls_ordinary head m ≡ true → AreMeant (member_code hier head m).items

-- the labels of each member are below its number of labels
abbrev pub CodeIsLabelled : Type 0
CodeIsLabelled =
    (hier : Hier) (head : Iface) (m : TypedMember) → list_all (is_labelled (member_code hier head m).next) (lines_of (member_code hier head m).items) ≡ true

-- and each is marked once at most
abbrev pub CodeMarksOnce : Type 0
CodeMarksOnce = (hier : Hier) (head : Iface) (m : TypedMember) → marks_once (lines_of (member_code hier head m).items) ≡ true

-- each line has an opcode
abbrev pub CodeHasOpcodes : Type 0
CodeHasOpcodes =
    (hier : Hier) (head : Iface) (m : TypedMember) → member_is_encodable head m ≡ true → list_all has_opcode (lines_of (member_code hier head m).items) ≡ true

-- where each `break` and `continue` stands in a loop, the label of each jump is marked
abbrev pub CodeLands : Type 0
CodeLands =
    (hier : Hier) (head : Iface) (m : TypedMember) → stays_in m ≡ true →
    list_all (line_lands (lines_of (member_code hier head m).items)) (lines_of (member_code hier head m).items) ≡ true

-- so the writer can always lay out the lines of such a member
abbrev pub FittingIsWritten : Type 0
FittingIsWritten =
    (hier : Hier) (head : Iface) (m : TypedMember) → member_is_encodable head m ≡ true →
    are_written (member_code hier head m).next (lines_of (member_code hier head m).items) ≡ true
