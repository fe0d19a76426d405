use Rattle.std.proofs.Common.{◌≡◌, drop}
use Rattle.std.specs.List.{list_any}
use Rattle.whole_classes.specs.Bodies.{called, is_body_of, gives_body}
use Rattle.whole_classes.proofs.bodies.gives_body.Given as goal

abbrev pub invariant-loop-member : goal.invariant-loop-member
invariant-loop-member l = gives_body (called l.name l.descriptor) l.class ≡ list_any (is_body_of (called l.name l.descriptor) l.class.head) (drop l.member-index l.class.members)
