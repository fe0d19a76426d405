use Rattle.type_guards.proofs.Walked.{compares_sides}
use Rattle.type_guards.proofs.guards.comparison.Goals as goal

pub returns : goal.returns
returns c =
    compares_sides c.args.scope.now c.args.place c.args.left.now c.args.sign c.args.right.now c.args.first.now.fault c.summands.new.first.fault c.summands-2.new.first.fault
    c.in_ok-left.left c.in_ok-right.right c.in_ok-made.made c.in_ok-left.ensures c.in_ok-right.ensures c.in_ok-made.ensures
