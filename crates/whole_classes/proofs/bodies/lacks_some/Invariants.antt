use Rattle.std.proofs.Common.{◌≡◌, drop}
use Rattle.whole_classes.specs.Bodies.{typed_at, lacks_some}
use Rattle.whole_classes.proofs.bodies.lacks_some.Given as goal

abbrev pub invariant-loop-method : goal.invariant-loop-method
invariant-loop-method l = lacks_some (typed_at l.line) l.methods ≡ lacks_some (typed_at l.line) (drop l.method-index l.methods)
