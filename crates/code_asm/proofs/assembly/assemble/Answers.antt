use Rattle.std.proofs.Common.{◌≡◌, take, ap, ◌∙◌, subst, arith}
use Rattle.std.proofs.lemmas.List.{take_all}
use Rattle.std.proofs.lemmas.Result.{err_from_is_err_and}
use Rattle.code_asm.specs.Pieces.{Draft}
use Rattle.code_asm.specs.Written.{AreOf}
use Rattle.code_asm.proofs.Naming.{extends_more}
use Rattle.code_asm.proofs.Growing.{pieces_marked, pieces_land, goes_on, first_mark, faults_are}
use Rattle.code_asm.proofs.assembly.assemble.Goals as goal

pub put_line-requires-clause-first : goal.put_line-requires-clause-first
put_line-requires-clause-first c =
    λ label m. pieces_marked _ _ _ label c.loop-line.invariant.going.of
    ∙ first_mark c.args.lines.now c.loop-line.line-index label c.line-item.result c.requires.labelled.once c.loop-line-test.true c.line-item.is m

pub returns-in_err-put_line-clause-code : goal.returns-in_err-put_line-clause-code
returns-in_err-put_line-clause-code c =
    let e = err_from_is_err_and c.from_residual-in_err-put_line.result c.from_residual-in_err-put_line.ensures.1 in
    rw (e.1, e.2)
    (faults_are c.args.lines.now c.args.pool.now c.loop-line.pool _ c.loop-line.line-index c.line-item.result c.args.max_stack c.args.max_locals c.in_err-put_line.field-0.0 c.loop-line-test.true c.line-item.is
    c.loop-line.invariant.going.constants c.in_err-put_line.ensures.put)

pub loop-line-preserved : goal.loop-line-preserved
loop-line-preserved c = record {
  going = goes_on c.args.lines.now c.args.pool.now c.loop-line.pool _ c.loop-line.asm _ c.loop-line.line-index c.line-item.result c.loop-line-test.true c.line-item.is c.loop-line.invariant.going c.in_ok-put_line.ensures.put;
  labels = ap (λ (d : Draft). d.labels) c.in_ok-put_line.ensures.put.2.put ∙ c.loop-line.invariant.labels;
  kept = extends_more _ _ _ c.loop-line.invariant.kept c.in_ok-put_line.ensures.kept;
}

pub finish-requires : goal.finish-requires
finish-requires c =
    let all : take c.loop-line.line-index c.args.lines.now ≡ c.args.lines.now = take_all c.loop-line.line-index c.args.lines.now (omega (arith, c.loop-line-test.false)) in
    pieces_land _ c.args.lines.now c.loop-line.asm.pieces (subst (λ (ls : _). AreOf c.loop-line.pool ls c.loop-line.asm.pieces) all c.loop-line.invariant.going.of) c.requires.labelled.land
