use Rattle.std.proofs.Common.{arith}
use Rattle.std.proofs.lemmas.Grind.{common_steps}
use Rattle.jp_grammar.specs.declared.kind.Kind.TheVariants as k
use Rattle.jp_grammar.specs.Kinds.{Is}
use Rattle.jp_parse_decl.proofs.ConstructorFacts.{bare_gives}
use Rattle.jp_parse_decl.proofs.body.constructor_body.Goals as goal

pub returns-clause-gives : goal.returns-clause-gives
returns-clause-gives c =
    let other : Is k.Super c.front.result.0.now → ⊥ = grind (arith, common_steps) in
    bare_gives c.front.result.0.now c.front.result.1.now c.args.tokens.now c.front.ensures.split c.bare.result other c.bare.ensures.gives
