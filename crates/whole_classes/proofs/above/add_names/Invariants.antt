use Rattle.std.proofs.Common.{take}
use Rattle.type_heads.specs.Supertypes.{words_at}
use Rattle.whole_classes.specs.Above.{IsJoined, StaysJoined}
use Rattle.whole_classes.proofs.above.add_names.Given as goal

-- the names so far
abbrev pub invariant-loop-name : goal.invariant-loop-name
invariant-loop-name l = record {
  met : IsJoined (words_at l.met.items) (words_at l.initial.met.items) (take l.name-index l.names);
  fresh : StaysJoined (words_at l.initial.met.items) (words_at l.initial.fresh.items) (words_at l.met.items) (words_at l.fresh.items);
}
