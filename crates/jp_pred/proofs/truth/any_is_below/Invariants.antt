use Rattle.std.proofs.Common.{◌≡◌, drop}
use Rattle.std.specs.List.{list_any}
use Rattle.jp_pred.specs.Hierarchy.{is_below}
use Rattle.jp_pred.proofs.truth.any_is_below.Given as goal

abbrev pub invariant-loop-name : goal.invariant-loop-name
invariant-loop-name l = list_any (λ n. is_below l.hier n l.upper) l.names ≡ list_any (λ n. is_below l.hier n l.upper) (drop l.name-index l.names)
