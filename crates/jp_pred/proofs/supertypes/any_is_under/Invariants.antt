use Rattle.std.proofs.Common.{take}
use Rattle.jp_pred.specs.Hierarchy.{SomeAscends}
use Rattle.jp_pred.proofs.supertypes.any_is_under.Given as goal

abbrev pub invariant-loop-name : goal.invariant-loop-name
invariant-loop-name l = SomeAscends l.hier (take l.name-index l.names) l.upper → ⊥
