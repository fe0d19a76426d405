use Rattle.std.proofs.Common.{◌≡◌, List, Some, sym, ap, ◌∙◌, subst}
use Rattle.std.specs.Prelude.{IfOk}
use Rattle.class_form.specs.declared.class_file.ClassFile.{ClassFile}
use Rattle.jvm_quick.specs.Rows.{AreDecoded}
use Rattle.jvm_step.specs.Run.{start}
use Rattle.mini_jvm.proofs.Steps.{OnInput, nothing_written, no_main, wants_first, WantsOn, at_error}
use Rattle.mini_jvm.proofs.machine.run.Goals as goal

pub returns-in_err-linked-clause-stopped : goal.returns-in_err-linked-clause-stopped
returns-in_err-linked-clause-stopped g c = nothing_written c.args.program.now c.args.main.now c.args.limit (g.I.Source.left c.args.input.now) (g.O.Sink.taken c.args.out.now)

pub returns-in_err-state-clause-stopped : goal.returns-in_err-state-clause-stopped
returns-in_err-state-clause-stopped g c = nothing_written c.args.program.now c.args.main.now c.args.limit (g.I.Source.left c.args.input.now) (g.O.Sink.taken c.args.out.now)

pub returns-in_err-from_bytes-in-None-clause-stopped : goal.returns-in_err-from_bytes-in-None-clause-stopped
returns-in_err-from_bytes-in-None-clause-stopped g c = nothing_written c.args.program.now c.args.main.now c.args.limit (g.I.Source.left c.args.input.now) (g.O.Sink.taken c.args.out.now)

pub returns-in_err-from_bytes-in-None-2-clause-stopped : goal.returns-in_err-from_bytes-in-None-2-clause-stopped
returns-in_err-from_bytes-in-None-2-clause-stopped g c = nothing_written c.args.program.now c.args.main.now c.args.limit (g.I.Source.left c.args.input.now) (g.O.Sink.taken c.args.out.now)

pub returns-clause-ran : goal.returns-clause-ran
returns-clause-ran g c =
    no_main c.args.program.now c.args.main.now c.args.limit (g.I.Source.left c.args.input.now) (g.O.Sink.taken c.args.out.now) c.in_ok-from_bytes-in-None.field-0 c.in_ok-from_bytes-in-None-2.field-0
    (ap (start c.args.program.now) (sym c.bytes.ensures) ∙ sym c.in_ok-state.ensures ∙ c.in-None.is) (c.in_ok-from_bytes-in-None.ensures ∙ c.bytes-in-None.ensures) c.in_ok-from_bytes-in-None-2.ensures

pub returns-clause-stopped : goal.returns-clause-stopped
returns-clause-stopped g c = nothing_written c.args.program.now c.args.main.now c.args.limit (g.I.Source.left c.args.input.now) (g.O.Sink.taken c.args.out.now)

pub returns-in_err-linked-clause-wanting : goal.returns-in_err-linked-clause-wanting
returns-in_err-linked-clause-wanting g c =
    at_error c.from_residual.result (WantsOn c.args.program.now c.args.main.now c.args.limit (g.I.Source.left c.args.input.now) (g.I.Source.left c.args.input.now) (g.O.Sink.taken c.args.out.now) (g.O.Sink.taken c.args.out.now))
    (wants_first c.args.program.now c.args.main.now c.args.limit (g.I.Source.left c.args.input.now) (g.O.Sink.taken c.args.out.now))

pub returns-in_err-state-clause-wanting : goal.returns-in_err-state-clause-wanting
returns-in_err-state-clause-wanting g c =
    at_error c.from_residual-in_err-state.result (WantsOn c.args.program.now c.args.main.now c.args.limit (g.I.Source.left c.args.input.now) (g.I.Source.left c.args.input.now) (g.O.Sink.taken c.args.out.now) (g.O.Sink.taken c.args.out.now))
    (wants_first c.args.program.now c.args.main.now c.args.limit (g.I.Source.left c.args.input.now) (g.O.Sink.taken c.args.out.now))

pub returns-in_err-from_bytes-in-None-clause-wanting : goal.returns-in_err-from_bytes-in-None-clause-wanting
returns-in_err-from_bytes-in-None-clause-wanting g c =
    at_error c.from_residual-in_err-from_bytes-in-None.result (WantsOn c.args.program.now c.args.main.now c.args.limit (g.I.Source.left c.args.input.now) (g.I.Source.left c.args.input.now) (g.O.Sink.taken c.args.out.now) (g.O.Sink.taken c.args.out.now))
    (wants_first c.args.program.now c.args.main.now c.args.limit (g.I.Source.left c.args.input.now) (g.O.Sink.taken c.args.out.now))

pub returns-in_err-from_bytes-in-None-2-clause-wanting : goal.returns-in_err-from_bytes-in-None-2-clause-wanting
returns-in_err-from_bytes-in-None-2-clause-wanting g c =
    at_error c.from_residual-in_err-from_bytes-in-None-2.result (WantsOn c.args.program.now c.args.main.now c.args.limit (g.I.Source.left c.args.input.now) (g.I.Source.left c.args.input.now) (g.O.Sink.taken c.args.out.now) (g.O.Sink.taken c.args.out.now))
    (wants_first c.args.program.now c.args.main.now c.args.limit (g.I.Source.left c.args.input.now) (g.O.Sink.taken c.args.out.now))

pub returns-in_err-decoded-clause-stopped : goal.returns-in_err-decoded-clause-stopped
returns-in_err-decoded-clause-stopped g c = nothing_written c.args.program.now c.args.main.now c.args.limit (g.I.Source.left c.args.input.now) (g.O.Sink.taken c.args.out.now)

pub returns-in_err-decoded-clause-wanting : goal.returns-in_err-decoded-clause-wanting
returns-in_err-decoded-clause-wanting g c =
    at_error c.from_residual-in_err-decoded.result (WantsOn c.args.program.now c.args.main.now c.args.limit (g.I.Source.left c.args.input.now) (g.I.Source.left c.args.input.now) (g.O.Sink.taken c.args.out.now) (g.O.Sink.taken c.args.out.now))
    (wants_first c.args.program.now c.args.main.now c.args.limit (g.I.Source.left c.args.input.now) (g.O.Sink.taken c.args.out.now))

pub execute-requires : goal.execute-requires
execute-requires g c = subst (λ (files : List ClassFile). AreDecoded files c.in_ok-decoded.decoded) (sym c.in_ok-linked.ensures) c.in_ok-decoded.ensures

pub returns-in-Some-clause-ran : goal.returns-in-Some-clause-ran
returns-in-Some-clause-ran g c =
    let main = c.args.main.now in
    let started : start c.args.program.now main ≡ Some c.in-Some.state = ap (start c.args.program.now) (sym c.bytes.ensures) ∙ sym c.in_ok-state.ensures ∙ c.in-Some.is in
    (subst (λ (files : List ClassFile). start files main ≡ Some c.in-Some.state → IfOk c.execute.result (λ end. OnInput files main c.args.limit end (g.I.Source.left c.args.input.now) (g.I.Source.left c.execute.new.input) (g.O.Sink.taken c.args.out.now) (g.O.Sink.taken c.execute.new.out)))
    c.in_ok-linked.ensures (c.execute.ensures.ran main)) started
