use Rattle.std.proofs.Common.{◌≡◌, ◌≤◌, ◌-◌, ◌++◌, length, take, drop}
use Rattle.std.specs.List.{filter_map}
use Rattle.type_rules.specs.Heads.{head_of}
use Rattle.type_rules.specs.Lookups.{breadth_first, interfaces_above}
use Rattle.type_heads.specs.Supertypes.{classes_at, words_at}
use Rattle.type_heads.proofs.hierarchy.interfaces_above.Given as goal

-- with the levels that are still to come
abbrev pub invariant-loop-i : goal.invariant-loop-i
invariant-loop-i l = record {
  begin : l.begin ≤ length l.met.items;
  above : classes_at l.above.items ++ filter_map (head_of l.heads) (breadth_first (length l.heads - l._i) l.heads (take l.begin (words_at l.met.items)) (drop l.begin (words_at l.met.items)))
      ≡ interfaces_above l.heads (classes_at l.classes);
}
