use Rattle.std.proofs.Common.{◌≡◌, drop}
use Rattle.std.specs.List.{list_any}
use Rattle.whole_classes.specs.Bodies.{typed_at, called, gives_body}
use Rattle.whole_classes.proofs.bodies.one_gives_body.Given as goal

abbrev pub invariant-loop-class : goal.invariant-loop-class
invariant-loop-class l =
    list_any (gives_body (called l.name l.descriptor)) (typed_at l.line) ≡ list_any (gives_body (called l.name l.descriptor)) (typed_at (drop l.class-index l.line))
