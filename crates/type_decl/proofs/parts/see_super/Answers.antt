use Rattle.std.proofs.Common.{sym}
use Rattle.type_rules.specs.Units.{super_part}
use Rattle.type_decl.proofs.Opens.{super_none, super_some}
use Rattle.type_decl.proofs.parts.see_super.Goals as goal

pub returns-in_default : goal.returns-in_default
returns-in_default c = super_none c.args.scope.now (super_part c.args.part.now) c.args.first.now.fault (sym c.in_default.ensures)

pub returns : goal.returns
returns c =
    super_some c.args.scope.now (super_part c.args.part.now) c.in-Some.args.now c.args.first.now.fault c.see_all.new.first.fault c.in_ok-found.found.items c.from_vec.result
    (sym c.in-Some.ensures) c.in_ok-found.ensures c.from_vec.ensures
