use Rattle.std.proofs.Common.{arith}
use Rattle.std.proofs.lemmas.Result.{err_from_is_err_and}
use Rattle.std.proofs.lemmas.Grind.{common_steps}
use Rattle.jp_grammar.specs.declared.kind.Kind.TheVariants as k
use Rattle.jp_grammar.specs.Kinds.{Is}
use Rattle.jp_parse_decl.proofs.HeadFacts.{super_none, super_fails, super_found}
use Rattle.jp_parse_decl.proofs.heads.superclass.Goals as goal

pub returns-then-ne-clause-gives : goal.returns-then-ne-clause-gives
returns-then-ne-clause-gives c =
    let other : Is k.Extends c.front.result.0.now → ⊥ = grind (arith, common_steps) in
    (super_none c.front.result.0.now c.front.result.1.now c.args.tokens.now c.front.ensures.split other, tt)

pub returns-in_err-label-clause-gives : goal.returns-in_err-label-clause-gives
returns-in_err-label-clause-gives c =
    let h : Is k.Extends c.front.result.0.now = grind (arith, common_steps) in
    let p = err_from_is_err_and c.from_residual.result c.from_residual.ensures.1 in
    rw (p.1, p.2) (super_fails c.front.result.0.now c.front.result.1.now c.args.tokens.now c.front.ensures.split c.in_err-label.field-0.0 h c.in_err-label.ensures.gives)

pub returns-clause-gives : goal.returns-clause-gives
returns-clause-gives c =
    let h : Is k.Extends c.front.result.0.now = grind (arith, common_steps) in
    (super_found c.front.result.0.now c.front.result.1.now c.args.tokens.now c.front.ensures.split c.in_ok-label.label c.in_ok-label.behind.now h c.in_ok-label.ensures.gives.0, tt)
