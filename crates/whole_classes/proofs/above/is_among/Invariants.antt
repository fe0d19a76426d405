use Rattle.std.proofs.Common.{◌≡◌, drop}
use Rattle.type_rules.specs.Types.{is_among}
use Rattle.type_heads.specs.Supertypes.{words_at}
use Rattle.whole_classes.proofs.above.is_among.Given as goal

abbrev pub invariant-loop-other : goal.invariant-loop-other
invariant-loop-other l = is_among l.name (words_at l.names) ≡ is_among l.name (words_at (drop l.other-index l.names))
