use Rattle.std.proofs.Common.{arith}
use Rattle.std.proofs.lemmas.Grind.{common_steps}
use Rattle.jp_grammar.specs.declared.kind.Kind.TheVariants as k
use Rattle.jp_grammar.specs.Kinds.{Is}
use Rattle.jp_parse_decl.proofs.ParamFacts.{void_found, type_result}
use Rattle.jp_parse_decl.proofs.lower.result_of.Goals as goal

pub returns-then-eq-clause-gives : goal.returns-then-eq-clause-gives
returns-then-eq-clause-gives c =
    let h : Is k.Void c.front.result.0.now = grind (arith, common_steps) in
    (void_found c.front.result.0.now c.front.result.1.now c.args.tokens.now c.front.ensures.split h, tt)

pub returns-clause-gives : goal.returns-clause-gives
returns-clause-gives c =
    let other : Is k.Void c.front.result.0.now → ⊥ = grind (arith, common_steps) in
    type_result c.front.result.0.now c.front.result.1.now c.args.tokens.now c.front.ensures.split c.type_of.result other c.type_of.ensures.gives
