use Rattle.whole_classes.proofs.Wholeness.{AreWholeBefore}
use Rattle.whole_classes.proofs.whole.first_without_body.Given as goal

abbrev pub invariant-loop-at : goal.invariant-loop-at
invariant-loop-at l = AreWholeBefore l.classes l.at
