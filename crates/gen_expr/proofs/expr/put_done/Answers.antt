use Rattle.gen_expr.proofs.Wholes.{dropped_value}
use Rattle.gen_expr.proofs.expr.put_done.Goals as goal

pub returns : goal.returns
returns c = dropped_value c.code_has_its_shape.ensures c.args.e.now c.args.code.now _ _ _ c.is_void.result c.is_void.ensures c.in_ok-need.ensures c.in_ok-drop_value.ensures
