use Rattle.std.proofs.Common.{◌≡◌, ◌*◌, ◌+◌, drop}
use Rattle.std.specs.List.{list_any}
use Rattle.iface_codec.specs.Hierarchy.{hier_of}
use Rattle.jp_pred.specs.Hierarchy.{reaches}
use Rattle.type_heads.proofs.under.+within.Given as goal

abbrev pub decreases-within : goal.decreases-within
decreases-within l = 2 * l.rounds

abbrev pub decreases-any_within : goal.decreases-any_within
decreases-any_within l = 2 * l.rounds + 1

abbrev pub invariant-any_within-loop-name : goal.invariant-any_within-loop-name
invariant-any_within-loop-name l =
    list_any (λ p. reaches l.rounds (hier_of l.heads) p l.upper) l.names ≡ list_any (λ p. reaches l.rounds (hier_of l.heads) p l.upper) (drop l.name-index l.names)
