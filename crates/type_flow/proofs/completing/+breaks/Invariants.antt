use Rattle.std.proofs.Common.{◌≡◌, drop}
use Rattle.std.specs.List.{list_any}
use Rattle.type_rules.specs.Completing.{leaves}
use Rattle.type_flow.proofs.completing.+breaks.Given as goal

abbrev pub invariant-any_breaks-loop-stmt : goal.invariant-any_breaks-loop-stmt
invariant-any_breaks-loop-stmt l = list_any (λ x. (leaves x).breaks) l.block ≡ list_any (λ x. (leaves x).breaks) (drop l.stmt-index l.block)
