use Rattle.gen_expr.proofs.Arms.{nothing_put}
use Rattle.gen_member.proofs.Bare.{bare_spot}
use Rattle.gen_member.proofs.Alone.{field_spot, element_spot}
use Rattle.gen_member.proofs.places.put_spot.Goals as goal

pub returns-in-Field : goal.returns-in-Field
returns-in-Field c = field_spot c.args.left.now c.args.code.now _ c.put_value.result _ _ _ _ c.in-Field.is c.get.ensures c.put_value.ensures

pub returns-in_ok-above-in-Index : goal.returns-in_ok-above-in-Index
returns-in_ok-above-in-Index c = element_spot c.args.left.now c.args.code.now _ _ _ _ _ _ _ _ _ _ c.in-Index.is c.get-in-Index.ensures c.get-in-Index-2.ensures c.in_ok-first-in-Index.ensures c.in_ok-second-in-Index.ensures c.in_ok-above-in-Index.ensures c.greater.ensures

pub returns-in_default : goal.returns-in_default
returns-in_default c = nothing_put c.args.code.now _ (bare_spot c.args.left.now c.args.code.now.labels c.in_default.not-Field c.in_default.not-Index)
