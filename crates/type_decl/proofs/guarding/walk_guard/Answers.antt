use Rattle.std.proofs.Common.{sym}
use Rattle.type_rules.specs.Units.{guard_part}
use Rattle.type_decl.proofs.Opens.{guard_none, guard_some}
use Rattle.type_decl.proofs.guarding.walk_guard.Goals as goal

pub returns-in_default : goal.returns-in_default
returns-in_default c = guard_none (guard_part c.args.part.now) c.args.scope.now c.args.first.now.fault (sym c.in_default.ensures)

pub returns : goal.returns
returns c =
    guard_some (guard_part c.args.part.now) c.in-Some.guard.now c.args.scope.now c.guarded.new.scope c.args.first.now.fault c.guarded.new.first.fault c.in_ok-made.made c.unboxed.result
    (sym c.in-Some.ensures) c.in_ok-made.ensures.walks c.in_ok-made.ensures.keeps c.unboxed.ensures
