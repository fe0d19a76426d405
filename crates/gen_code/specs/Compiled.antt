-- The code of a member that was written and laid out.
use Rattle.std.specs.Prelude.{◌≡◌, ℕ, ◌≤◌, List, [], ◌∷◌, ◌++◌, Bool, true, false, not, ◌&&◌, Some, Result, Ok, Err}
use Rattle.std.specs.List.{list_all}
use Rattle.class_form.specs.declared.constant.Const.{Const}
use Rattle.class_form.specs.declared.constant.Const.TheVariants.{Unused}
use Rattle.class_form.specs.declared.class_file.ClassFile.{ClassFile}
use Rattle.class_form.specs.declared.member.MemberInfo.{MemberInfo}
use Rattle.class_form.specs.declared.member.Code.{Code}
use Rattle.class_form.specs.Constants.{class_name_at}
use Rattle.jp_pred.specs.declared.hier.Hier.{Hier}
use Rattle.iface_codec.specs.declared.iface.Iface.{Iface}
use Rattle.jp_meaning.specs.declared.unit.TypedMember.{TypedMember}
use Rattle.jp_meaning.specs.Descriptors.{internal_name}
use Rattle.jvm_table.specs.Act.{result_kind}
use Rattle.code_asm.specs.declared.line.Line.{Line}
use Rattle.code_asm.specs.declared.line.Line.TheVariants as line
use Rattle.code_asm.specs.Lines.{lines_of, is_marked_in, is_labelled, line_lands, has_opcode}
use Rattle.code_asm.specs.Written.{AreMeant}
use Rattle.code_asm.specs.Assembled.{Assembles, IsWritten}
use Rattle.gen_body.specs.Members.{member_code}
use Rattle.gen_body.specs.Correct.{result_of, slots_of, IsCodeOf}
use Rattle.gen_code.specs.declared.fault.BodyFault.{BodyFault}
use Rattle.gen_code.specs.declared.fault.BodyFault.TheVariants.{Unfit, Asm}

-- a line marks nothing that lines mark
abbrev pub is_new_in : List Line → Line → Bool
is_new_in lines (line.Plain instr) = true
is_new_in lines (line.Uses use_ wanted) = true
is_new_in lines (line.CallsInterface m count) = true
is_new_in lines (line.Branch jump label) = true
is_new_in lines (line.Mark label) = not (is_marked_in lines label)

-- each label is marked once at most
abbrev pub marks_once : List Line → Bool
marks_once [] = true
marks_once (l ∷ lines) = is_new_in lines l && marks_once lines

-- lines can be laid out, with so many labels
abbrev pub are_written : ℕ → List Line → Bool
are_written n lines = list_all has_opcode lines && list_all (is_labelled n) lines && marks_once lines && list_all (line_lands lines) lines

-- In a file with the constants the code is that of the member, if its methods are named with the signatures of their
-- descriptors
abbrev pub IsCompiled : Hier → Iface → TypedMember → List Const → Code → Type 0
IsCompiled hier head m list code =
    (file : ClassFile) (method : MemberInfo) (more : List Const) → file.constants ≡ Unused ∷ (list ++ more) → method.code ≡ Some code →
    class_name_at file file.this_class ≡ Some (internal_name head.name) → result_kind file method ≡ Some (result_of head m.part) →
    AreMeant (member_code hier head m).items → IsCodeOf hier head m file method

-- What comes of lines with so many labels, which are laid out with as many places of the stack as they need
abbrev pub Lays : ℕ → List Line → List Const → List Const → ℕ → ℕ → Result Code BodyFault → Type 0
Lays labels lines old new need locals (Ok code) = IsWritten lines old new need locals (Ok code)
Lays labels lines old new need locals (Err Unfit) = are_written labels lines ≡ false
Lays labels lines old new need locals (Err (Asm fault)) = (stack : ℕ) × Assembles lines old new stack locals (Err fault)

-- Code of lines is the code of each member whose lines they are
abbrev pub LaysMembers : ℕ → List Line → List Const → ℕ → ℕ → Result Code BodyFault → Type 0
LaysMembers labels lines new need locals (Ok code) =
    (hier : Hier) (head : Iface) (m : TypedMember) → lines ≡ lines_of (member_code hier head m).items → labels ≡ (member_code hier head m).next →
    need ≡ (member_code hier head m).need → locals ≡ m.locals → slots_of head m.part ≤ m.locals → IsCompiled hier head m new code
LaysMembers labels lines new need locals (Err fault) = Unit {0}
