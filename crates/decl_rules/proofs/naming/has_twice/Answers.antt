use Rattle.std.proofs.Common.{◌≡◌, ◌+◌, true, false, length, drop, ◌∙◌, ap, arith}
use Rattle.std.specs.Prelude.{◌||◌}
use Rattle.type_rules.specs.Types.{is_among}
use Rattle.type_rules.specs.RulesOfDeclarations.{has_twice}
use Rattle.decl_rules.proofs.Places.{tail_is, one_name, no_name}
use Rattle.decl_rules.proofs.naming.has_twice.Goals as goal

pub returns-then-is_among : goal.returns-then-is_among
returns-then-is_among c =
    let names = c.args.names.now in
    let i = c.loop-i.i in
    let name = c.index-names-i.result in
    let one : true ≡ is_among name (drop (i + 1) names) = c.if-is_among.ensures ∙ ap (is_among name) (tail_is names (i + 1)) in
    ap (λ b. b || has_twice (drop (i + 1) names)) one ∙ (one_name names i name c.loop-i-test.true c.index-names-i.is ∙ c.loop-i.invariant)

pub loop-i-preserved : goal.loop-i-preserved
loop-i-preserved c =
    let names = c.args.names.now in
    let i = c.loop-i.i in
    let name = c.index-names-i.result in
    let one : false ≡ is_among name (drop (i + 1) names) = c.if-is_among.ensures ∙ ap (is_among name) (tail_is names (i + 1)) in
    ap (λ b. b || has_twice (drop (i + 1) names)) one ∙ (one_name names i name c.loop-i-test.true c.index-names-i.is ∙ c.loop-i.invariant)

pub returns : goal.returns
returns c =
    let last : c.loop-i.i ≡ length c.args.names.now = omega arith in
    no_name c.args.names.now c.loop-i.i last ∙ c.loop-i.invariant
