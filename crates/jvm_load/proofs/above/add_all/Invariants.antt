use Rattle.std.proofs.Common.{List, ℕ, take}
use Rattle.jvm_load.specs.Above.{IsJoined}
use Rattle.jvm_load.proofs.above.add_all.Given as goal

-- the positions so far
abbrev pub invariant-loop-at : goal.invariant-loop-at
invariant-loop-at l = record {
  met : IsJoined l.met.items l.initial.met.items (take l.at-index l.supers);
  fresh : (base : List ℕ) → IsJoined l.initial.met.items base l.initial.fresh.items → IsJoined l.met.items base l.fresh.items;
}
