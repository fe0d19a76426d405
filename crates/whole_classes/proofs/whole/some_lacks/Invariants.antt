use Rattle.std.proofs.Common.{◌≡◌, drop}
use Rattle.std.specs.List.{list_any}
use Rattle.type_heads.specs.Supertypes.{words_at}
use Rattle.whole_classes.specs.Bodies.{typed_at, lacks_of}
use Rattle.whole_classes.proofs.whole.some_lacks.Given as goal

abbrev pub invariant-loop-class : goal.invariant-loop-class
invariant-loop-class l =
    list_any (lacks_of (words_at l.above) (typed_at l.line)) l.classes ≡ list_any (lacks_of (words_at l.above) (typed_at l.line)) (drop l.class-index l.classes)
