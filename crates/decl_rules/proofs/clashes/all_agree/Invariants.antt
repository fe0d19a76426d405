use Rattle.std.proofs.Common.{◌≡◌, drop}
use Rattle.type_rules.specs.Types.{all_agree}
use Rattle.decl_rules.specs.Signatures.{types_in}
use Rattle.decl_rules.proofs.clashes.all_agree.Given as goal

abbrev pub invariant-loop-i : goal.invariant-loop-i
invariant-loop-i l = all_agree (drop l.i (types_in l.first)) (drop l.i (types_in l.second)) ≡ all_agree (types_in l.first) (types_in l.second)
