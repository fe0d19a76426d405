use Rattle.std.proofs.Common.{Some, ap, ◌∙◌}
use Rattle.gen_member.proofs.Doing.{do_becomes, do_changes, do_no_change}
use Rattle.gen_member.proofs.places.put_assign.Goals as goal

pub returns-in-None : goal.returns-in-None
returns-in-None c = do_no_change c.args.left.now c.args.right.now c.args.change c.args.code.now c.in-None.is

pub returns-in-Becomes : goal.returns-in-Becomes
returns-in-Becomes c = do_becomes c.code_has_its_shape.ensures c.args.left.now c.args.right.now c.args.change c.args.code.now _ c.put_becomes.result (c.in-Some.is ∙ ap Some c.in-Becomes.is) c.put_becomes.ensures

pub returns-in-Changes : goal.returns-in-Changes
returns-in-Changes c = do_changes c.code_has_its_shape.ensures c.args.left.now c.args.right.now c.args.change c.args.code.now _ c.put_changed.result _ (c.in-Some.is ∙ ap Some c.in-Changes.is) c.put_changed.ensures
