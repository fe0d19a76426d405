use Rattle.std.proofs.Common.{◌≡◌, ◌++◌, drop}
use Rattle.type_rules.specs.Lookups.{unmet}
use Rattle.type_heads.specs.Supertypes.{words_at}
use Rattle.type_heads.proofs.hierarchy.add_unmet.Given as goal

-- with those that are still to come
abbrev pub invariant-loop-name : goal.invariant-loop-name
invariant-loop-name l =
    words_at l.met.items ++ unmet (words_at l.met.items) (drop l.name-index l.names) ≡ words_at l.initial.met.items ++ unmet (words_at l.initial.met.items) l.names
