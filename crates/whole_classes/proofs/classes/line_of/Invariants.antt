use Rattle.std.proofs.Common.{◌≡◌, ◌-◌, ◌++◌, length}
use Rattle.jp_meaning.specs.Classes.{upwards}
use Rattle.whole_classes.specs.Bodies.{typed_at}
use Rattle.whole_classes.proofs.classes.line_of.Given as goal

-- with those that are still to come
abbrev pub invariant-loop-i : goal.invariant-loop-i
invariant-loop-i l = typed_at l.line.items ++ upwards (length l.classes - l._i) l.classes l.name ≡ upwards (length l.classes) l.classes l.fn.name
