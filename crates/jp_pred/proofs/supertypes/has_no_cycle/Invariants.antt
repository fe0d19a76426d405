use Rattle.std.proofs.Common.{take}
use Rattle.jp_pred.specs.declared.hier.SeenClass.{SeenClass}
use Rattle.jp_pred.specs.Names.{In}
use Rattle.jp_pred.specs.Hierarchy.{IsAboveItself}
use Rattle.jp_pred.proofs.supertypes.has_no_cycle.Given as goal

abbrev pub invariant-loop-class : goal.invariant-loop-class
invariant-loop-class l = (c : SeenClass) → In c (take l.class-index l.hier.classes) → IsAboveItself l.hier c.name → ⊥
