-- What comes of a member's lines is what comes of its code.
use Rattle.std.proofs.Common.{◌≡◌, ℕ, ◌≤◌, List, [], ◌++◌, false, Result, Ok, Err, refl, sym, ap, ◌∙◌, subst}
use Rattle.std.specs.Result.{IsErrAnd}
use Rattle.class_form.specs.declared.constant.Const.{Const}
use Rattle.class_form.specs.declared.member.Code.{Code}
use Rattle.jp_pred.specs.declared.hier.Hier.{Hier}
use Rattle.iface_codec.specs.declared.iface.Iface.{Iface}
use Rattle.jp_meaning.specs.declared.unit.TypedMember.{TypedMember}
use Rattle.code_asm.specs.declared.line.Line.{Line}
use Rattle.code_asm.specs.declared.fault.AsmFault.TheVariants.{OutOfMemory}
use Rattle.code_asm.specs.Lines.{lines_of}
use Rattle.code_asm.specs.Assembled.{Assembles}
use Rattle.gen_body.specs.Members.{member_code}
use Rattle.gen_body.specs.Correct.{slots_of}
use Rattle.gen_code.specs.Compiled.{are_written, Lays, LaysMembers}
use Rattle.gen_code.specs.declared.fault.BodyFault.{BodyFault}
use Rattle.gen_code.specs.declared.fault.BodyFault.TheVariants.{Unfit, Asm}
use Rattle.gen_code.specs.declared.body.Body.{Body}
use Rattle.gen_parts.specs.Emits.{Puts}
use Rattle.gen_member.specs.Laid.{CompilesMember}

module _ (hier : Hier) (head : Iface) (m : TypedMember) (old new : List Const) where
  -- too little memory is told anyway
  pub without_memory : (res : Result Code BodyFault) → IsErrAnd res (λ (fault : BodyFault). fault ≡ Asm OutOfMemory) → CompilesMember hier head m old new res
  without_memory (Ok code) h = absurd h
  without_memory (Err fault) h = subst (λ (f : BodyFault). CompilesMember hier head m old new (Err f)) (sym h) (0, tt)

  of_lines : (labels : ℕ) (lines : List Line) (need locals : ℕ) (res : Result Code BodyFault) → lines ≡ lines_of (member_code hier head m).items → labels ≡ (member_code hier head m).next →
      need ≡ (member_code hier head m).need → locals ≡ m.locals → slots_of head m.part ≤ m.locals → Lays labels lines old new need locals res → LaysMembers labels lines new need locals res → CompilesMember hier head m old new res
  of_lines labels lines need locals (Ok code) el en ed ek slots laid members = members hier head m el en ed ek slots
  of_lines labels lines need locals (Err Unfit) el en ed ek slots laid members =
      subst (λ (n : ℕ). are_written n (lines_of (member_code hier head m).items) ≡ false) en (subst (λ (ls : List Line). are_written labels ls ≡ false) el laid)
  of_lines labels lines need locals (Err (Asm fault)) el en ed ek slots laid members =
      (laid.0, subst (λ (k : ℕ). Assembles (lines_of (member_code hier head m).items) old new laid.0 k (Err fault)) ek (subst (λ (ls : List Line). Assembles ls old new laid.0 locals (Err fault)) el laid.1))

  -- the member's lines were written behind none, and laid out
  pub compiles : (a b : Body) (need : ℕ) (res : Result Code BodyFault) → a.lines.items ≡ [] → Puts a b need (member_code hier head m) → slots_of head m.part ≤ m.locals →
      Lays b.labels b.lines.items old new need m.locals res → LaysMembers b.labels b.lines.items new need m.locals res → CompilesMember hier head m old new res
  compiles a b need res e h slots laid members =
      of_lines b.labels b.lines.items need m.locals res (h.lines ∙ ap (λ (ls : List Line). ls ++ lines_of (member_code hier head m).items) e) h.labels h.need refl slots laid members
