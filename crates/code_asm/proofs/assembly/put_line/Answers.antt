use Rattle.std.proofs.Common.{◌≡◌, ◌<◌, ℕ, true, length, refl, sym, ◌∙◌, subst}
use Rattle.std.proofs.lemmas.List.{get_or_read}
use Rattle.std.proofs.lemmas.Bool.{ltb-true, eq-eqb}
use Rattle.code_asm.specs.Lines.{has_opcode, is_labelled, line_marks}
use Rattle.code_asm.specs.declared.line.Line.{Line}
use Rattle.code_asm.proofs.Growing.{use_put, call_put}
use Rattle.code_asm.proofs.assembly.put_line.Goals as goal

pub mark-requires-clause-first : goal.mark-requires-clause-first
mark-requires-clause-first c =
    let label = c.in-Mark.label in
    let known = subst (λ (l : Line). is_labelled c.args.asm.now.labels l ≡ true) c.in-Mark.is c.requires.known in
    let lt : label < length c.args.labels.now = subst (λ (n : ℕ). label < n) (sym c.requires.all) (ltb-true label c.args.asm.now.labels known) in
    let is : c.index-labels-label-in-Mark.result ≡ label = get_or_read c.args.labels.now label _ lt c.index-labels-label-in-Mark.is 0 ∙ c.requires.numbered label lt in
    rw is (c.requires.first label (subst (λ (l : Line). line_marks label l ≡ true) (sym c.in-Mark.is) (eq-eqb label label refl)))

pub returns-in_ok-put_use-in-Uses-clause-put : goal.returns-in_ok-put_use-in-Uses-clause-put
returns-in_ok-put_use-in-Uses-clause-put c =
    rw c.in-Uses.is (use_put c.in-Uses.constant_use c.in-Uses.named _ _ c.in_ok-index-in-Uses.index _ _ c.in_ok-index-in-Uses.ensures.held c.put_use.ensures.fits c.in_ok-put_use-in-Uses.ensures.put)

pub returns-in_ok-put_interface_call-in-CallsInterface-clause-put : goal.returns-in_ok-put_interface_call-in-CallsInterface-clause-put
returns-in_ok-put_interface_call-in-CallsInterface-clause-put c =
    let short = subst (λ (l : Line). has_opcode l ≡ true) c.in-CallsInterface.is c.requires.opcode in
    let held = rw (c.bytes.ensures, c.bytes-in-CallsInterface.ensures, c.bytes-in-CallsInterface-2.ensures) at c.in_ok-index-in-CallsInterface.ensures.held in
    rw c.in-CallsInterface.is
    (call_put c.in-CallsInterface.member c.in-CallsInterface.count _ _ c.in_ok-index-in-CallsInterface.index _ _ held c.put_interface_call.ensures.fits short c.in_ok-put_interface_call-in-CallsInterface.ensures.put)
