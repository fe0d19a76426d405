use Rattle.std.proofs.Common.{◌≡◌, ◌+◌, length, drop, sym, ◌∙◌, ap, arith}
use Rattle.std.specs.Prelude.{◌||◌}
use Rattle.type_rules.specs.Assigning.{some_misfit}
use Rattle.type_heads.proofs.Misfits.{no_type, one_part, no_part}
use Rattle.type_heads.proofs.assigning.some_misfit.Goals as goal

pub returns-in_default : goal.returns-in_default
returns-in_default c = no_type c.args.heads.now c.args.parts.now c.args.types.now c.loop-i.i c.index-parts-i.result c.loop-i-test.true c.index-parts-i.is c.in_default.ensures ∙ c.loop-i.invariant

pub returns-then-misfit : goal.returns-then-misfit
returns-then-misfit c =
    let heads = c.args.heads.now in
    let i = c.loop-i.i in
    ap (λ b. b || some_misfit heads (drop (i + 1) c.args.parts.now) (drop (i + 1) c.args.types.now)) c.if-misfit.ensures
    ∙ (one_part heads c.args.parts.now c.args.types.now i c.index-parts-i.result c.in-Some.to.now c.loop-i-test.true c.index-parts-i.is c.in-Some.ensures ∙ c.loop-i.invariant)

pub loop-i-preserved : goal.loop-i-preserved
loop-i-preserved c =
    let heads = c.args.heads.now in
    let i = c.loop-i.i in
    ap (λ b. b || some_misfit heads (drop (i + 1) c.args.parts.now) (drop (i + 1) c.args.types.now)) c.if-misfit.ensures
    ∙ (one_part heads c.args.parts.now c.args.types.now i c.index-parts-i.result c.in-Some.to.now c.loop-i-test.true c.index-parts-i.is c.in-Some.ensures ∙ c.loop-i.invariant)

pub returns : goal.returns
returns c =
    let last : c.loop-i.i ≡ length c.args.parts.now = omega arith in
    no_part c.args.heads.now c.args.parts.now (drop c.loop-i.i c.args.types.now) c.loop-i.i last ∙ c.loop-i.invariant
