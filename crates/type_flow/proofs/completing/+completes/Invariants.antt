use Rattle.std.proofs.Common.{◌≡◌, drop}
use Rattle.std.specs.List.{list_all}
use Rattle.type_rules.specs.Completing.{leaves}
use Rattle.type_flow.proofs.completing.+completes.Given as goal

abbrev pub invariant-all_complete-loop-stmt : goal.invariant-all_complete-loop-stmt
invariant-all_complete-loop-stmt l = list_all (λ x. (leaves x).completes) l.block ≡ list_all (λ x. (leaves x).completes) (drop l.stmt-index l.block)
