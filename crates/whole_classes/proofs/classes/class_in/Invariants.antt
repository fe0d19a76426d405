use Rattle.std.proofs.Common.{◌≡◌, drop}
use Rattle.jp_meaning.specs.Classes.{class_in}
use Rattle.whole_classes.proofs.classes.class_in.Given as goal

abbrev pub invariant-loop-class : goal.invariant-loop-class
invariant-loop-class l = class_in l.classes l.name ≡ class_in (drop l.class-index l.classes) l.name
