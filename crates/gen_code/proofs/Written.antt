-- Lines that are looked through can be laid out, and what is laid out is the member's code.
use Rattle.std.proofs.Common.{◌≡◌, ℕ, ◌≤◌, Bool, true, false, ◌&&◌, if◌then◌else◌, List, [], ◌∷◌, length, Option, Some, None, Ok, Err, refl, sym, ap, subst, arith}
use Rattle.std.specs.Prelude.{not, ℤ, nat_lt}
use Rattle.std.specs.List.{list_all}
use Rattle.class_form.specs.declared.constant.Const.{Const}
use Rattle.class_form.specs.declared.member.Code.{Code}
use Rattle.jp_pred.specs.declared.hier.Hier.{Hier}
use Rattle.iface_codec.specs.declared.iface.Iface.{Iface}
use Rattle.jp_meaning.specs.declared.unit.TypedMember.{TypedMember}
use Rattle.code_asm.specs.declared.fault.AsmFault.TheVariants.{TooLong}
use Rattle.code_asm.specs.declared.line.Line.{Line}
use Rattle.code_asm.specs.declared.line.Line.TheVariants as line
use Rattle.code_asm.specs.Laws.{ItemsStand}
use Rattle.code_asm.specs.Lines.{lines_of, is_marked_in, MarkOnce, is_labelled, line_lands, AreLabelled, has_opcode}
use Rattle.code_asm.specs.Pieces.{place_in, size_of_all, far_jump, bytes_of_all, unless_far}
use Rattle.code_asm.specs.Assembled.{IsWritten}
use Rattle.gen_body.specs.Members.{member_code}
use Rattle.gen_body.specs.Correct.{slots_of}
use Rattle.gen_code.specs.Compiled.{marks_once, are_written, IsCompiled, LaysMembers}

both : (a b : Bool) → (a && b) ≡ true → (a ≡ true) × (b ≡ true)
both true b h = (refl, h)
both false b h = absurd cc

denied : (a : Bool) → not a ≡ true → a ≡ false
denied true h = absurd cc
denied false h = refl

once_from : (lines : List Line) → marks_once lines ≡ true → MarkOnce lines
once_from [] h = tt
once_from (line.Plain instr ∷ lines) h = once_from lines h
once_from (line.Uses use_ wanted ∷ lines) h = once_from lines h
once_from (line.CallsInterface m count ∷ lines) h = once_from lines h
once_from (line.Branch jump label ∷ lines) h = once_from lines h
once_from (line.Mark label ∷ lines) h =
    let b = both (not (is_marked_in lines label)) (marks_once lines) h in (denied (is_marked_in lines label) b.0, once_from lines b.1)

-- what is needed for lines to be laid out
pub opcodes_from : (n : ℕ) (lines : List Line) → are_written n lines ≡ true → list_all has_opcode lines ≡ true
opcodes_from n lines h =
    let a = both (list_all has_opcode lines && list_all (is_labelled n) lines && marks_once lines) (list_all (line_lands lines) lines) h in
    let b = both (list_all has_opcode lines && list_all (is_labelled n) lines) (marks_once lines) a.0 in
    (both (list_all has_opcode lines) (list_all (is_labelled n) lines) b.0).0

pub labels_from : (n : ℕ) (lines : List Line) → are_written n lines ≡ true → AreLabelled n lines
labels_from n lines h =
    let a = both (list_all has_opcode lines && list_all (is_labelled n) lines && marks_once lines) (list_all (line_lands lines) lines) h in
    let b = both (list_all has_opcode lines && list_all (is_labelled n) lines) (marks_once lines) a.0 in
    record { below = (both (list_all has_opcode lines) (list_all (is_labelled n) lines) b.0).1; once = once_from lines b.1; land = a.1 }

code_is : (b : Bool) (size : ℕ) (far : Option ℤ) (made code : Code) → (if b then Err (TooLong size) else unless_far far made) ≡ Ok code → made ≡ code
code_is true size far made code e = absurd cc
code_is false size None made code e = cc
code_is false size (Some by) made code e = absurd cc

-- lines of a member that were laid out are its code
pub compiled_is : ItemsStand → (hier : Hier) (head : Iface) (m : TypedMember) (old new : List Const) (code : Code) → slots_of head m.part ≤ m.locals
    → are_written (member_code hier head m).next (lines_of (member_code hier head m).items) ≡ true
    → IsWritten (lines_of (member_code hier head m).items) old new (member_code hier head m).need m.locals (Ok code) → IsCompiled hier head m new code
compiled_is stand hier head m old new code slots fit w =
    let part = member_code hier head m in
    let pieces = w.1.0 in
    let once = (labels_from part.next (lines_of part.items) fit).once in
    let same = code_is (nat_lt 65535 (size_of_all pieces)) (size_of_all pieces) (far_jump (place_in pieces) 0 pieces) (record { max_stack = part.need; max_locals = m.locals; bytes = bytes_of_all pieces; attributes = [] }) code (sym w.1.2) in
    λ file method more constants has this result meant. record {
      code = code;
      has = has;
      this = this;
      result = result;
      place = place_in pieces;
      to = length code.bytes;
      stands = stand file new more part.items pieces part.need m.locals code constants w.1.1 meant once (sym w.1.2);
      room = let e : code.max_stack ≡ part.need = sym (ap (λ c. c.max_stack) same) in omega (arith, e);
      locals = sym (ap (λ c. c.max_locals) same);
      slots = slots;
    }

-- lines that were laid out are the code of each member whose lines they are
pub laid_is : ItemsStand → (labels : ℕ) (lines : List Line) (old new : List Const) (need locals : ℕ) (code : Code) → are_written labels lines ≡ true
    → IsWritten lines old new need locals (Ok code) → LaysMembers labels lines new need locals (Ok code)
laid_is stand labels lines old new need locals code fit w = λ hier head m el en ed ek slots.
    compiled_is stand hier head m old new code slots
    (subst (λ (n : ℕ). are_written n (lines_of (member_code hier head m).items) ≡ true) en (subst (λ (ls : List Line). are_written labels ls ≡ true) el fit))
    (subst (λ (ls : List Line). IsWritten ls old new (member_code hier head m).need m.locals (Ok code)) el
    (subst (λ (n : ℕ). IsWritten lines old new n m.locals (Ok code)) ed (subst (λ (n : ℕ). IsWritten lines old new need n (Ok code)) ek w)))
