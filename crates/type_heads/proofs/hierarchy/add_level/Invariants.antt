use Rattle.std.proofs.Common.{◌≡◌, ◌++◌, List, drop}
use Rattle.std.specs.List.{flat_map, filter_map}
use Rattle.jp_pred.specs.Names.{Word}
use Rattle.type_rules.specs.Heads.{head_of}
use Rattle.type_rules.specs.Lookups.{unmet, interfaces_of}
use Rattle.type_heads.specs.Supertypes.{classes_at, words_at}
use Rattle.type_heads.proofs.hierarchy.add_level.Given as goal

-- with those that are still to come
abbrev pub invariant-loop-at : goal.invariant-loop-at
invariant-loop-at l = record {
  front : (more : List Word) × (words_at l.met.items ≡ words_at l.initial.met.items ++ more);
  met : words_at l.met.items ++ unmet (words_at l.met.items) (flat_map (interfaces_of l.heads) (drop l.at (words_at l.initial.met.items)))
      ≡ words_at l.initial.met.items ++ unmet (words_at l.initial.met.items) (flat_map (interfaces_of l.heads) (drop l.begin (words_at l.initial.met.items)));
  above : classes_at l.above.items ++ filter_map (head_of l.heads) (drop l.at (words_at l.initial.met.items))
      ≡ classes_at l.initial.above.items ++ filter_map (head_of l.heads) (drop l.begin (words_at l.initial.met.items));
}
