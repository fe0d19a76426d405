use Rattle.std.proofs.Common.{◌≡◌, drop}
use Rattle.jp_pred.specs.Hierarchy.{class_named}
use Rattle.jp_pred.proofs.supertypes.class_named.Given as goal

abbrev pub invariant-loop-class : goal.invariant-loop-class
invariant-loop-class l = class_named l.name l.classes ≡ class_named l.name (drop l.class-index l.classes)
