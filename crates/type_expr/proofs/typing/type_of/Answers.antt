use Rattle.type_expr.proofs.Ending.{fault_is_first, typed_is, never_else}
use Rattle.type_expr.proofs.typing.type_of.Goals as goal

pub returns-in-Some : goal.returns-in-Some
returns-in-Some c =
    fault_is_first c.args.scope.now c.args.expr.now c.none-first.result.fault c.see.new.first.fault c.in_ok-seen.seen c.in-Some.fault c.none-first.ensures c.in_ok-seen.ensures c.in-Some.is

pub returns : goal.returns
returns c =
    typed_is c.args.scope.now c.args.expr.now c.none-first.result.fault c.see.new.first.fault c.in_ok-seen.seen c.in-Value.known c.into_inner.result
    c.none-first.ensures c.in_ok-seen.ensures c.in_default.is c.in-Value.is c.into_inner.ensures

pub unreachable-requires : goal.unreachable-requires
unreachable-requires c =
    never_else c.args.scope.now c.args.expr.now c.none-first.result.fault c.see.new.first.fault c.in_ok-seen.seen c.none-first.ensures c.in_ok-seen.ensures c.in_default.is c.in_default-seen.not-Value
