use Rattle.std.proofs.Common.{◌≡◌, drop}
use Rattle.type_rules.specs.Lookups.{method_among}
use Rattle.type_heads.specs.Supertypes.{classes_at}
use Rattle.type_heads.proofs.methods.method_among.Given as goal

abbrev pub invariant-loop-class : goal.invariant-loop-class
invariant-loop-class l = method_among l.own l.name l.count (classes_at l.classes) ≡ method_among l.own l.name l.count (classes_at (drop l.class-index l.classes))
