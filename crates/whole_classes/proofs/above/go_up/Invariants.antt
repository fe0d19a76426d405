use Rattle.std.proofs.Common.{take, flat_map}
use Rattle.jp_pred.specs.Hierarchy.{parents}
use Rattle.jp_meaning.specs.Classes.{hier_in}
use Rattle.type_heads.specs.Supertypes.{words_at}
use Rattle.whole_classes.specs.Above.{IsJoined}
use Rattle.whole_classes.proofs.above.go_up.Given as goal

-- the supertypes so far
abbrev pub invariant-loop-name : goal.invariant-loop-name
invariant-loop-name l = record {
  met : IsJoined (words_at l.met.items) (words_at l.initial.met.items) (flat_map (parents (hier_in l.classes)) (words_at (take l.name-index l.frontier)));
  fresh : IsJoined (words_at l.met.items) (words_at l.initial.met.items) (words_at l.fresh.items);
}
