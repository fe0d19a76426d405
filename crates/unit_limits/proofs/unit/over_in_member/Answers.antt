use Rattle.std.proofs.Common.{length, sym, arith}
use Rattle.unit_limits.specs.declared.limits.Limit.TheVariants as limits
use Rattle.unit_limits.specs.Counting.{counted}
use Rattle.unit_limits.specs.Members.{aliases, locals, written_nodes, texts}
use Rattle.unit_limits.proofs.Shapes.{then_four}
use Rattle.unit_limits.proofs.unit.over_in_member.Goals as goal

pub returns : goal.returns
returns c =
    let m = c.args.member.now in
    then_four (texts m.part) (counted limits.Parameters (length m.params)) (counted limits.Aliases (aliases m.part)) (counted limits.Locals (locals m)) (counted limits.BodyNodes (written_nodes m.part))
    c.long_text.result c.over.result c.over-2.result c.over-3.result c.over-4.result c.or.result c.or-2.result c.or-3.result c.or-4.result
    c.long_text.ensures (c.over.ensures (length m.params) (omega (arith, c.len.ensures))) (c.over-2.ensures (aliases m.part) (sym c.aliases.ensures)) (c.over-3.ensures (locals m) (sym c.locals.ensures))
    (c.over-4.ensures (written_nodes m.part) (sym c.written_nodes.ensures)) c.or.ensures c.or-2.ensures c.or-3.ensures c.or-4.ensures
