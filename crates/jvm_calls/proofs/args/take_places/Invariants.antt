use Rattle.std.proofs.Common.{◌≡◌, ◌+◌, ◌≤◌, drop}
use Rattle.jvm_table.specs.Descriptors.{places_of}
use Rattle.jvm_calls.proofs.args.take_places.Given as goal

-- the places of the kinds so far
abbrev pub invariant-loop-kind : goal.invariant-loop-kind
invariant-loop-kind l = record {
  sum : l.places + places_of (drop l.kind-index l.kinds) ≡ 1 + places_of l.kinds;
  few : l.places ≤ 257;
}
