use Rattle.jp_meaning.specs.Classes.{hier_in}
use Rattle.type_heads.specs.Supertypes.{words_at}
use Rattle.whole_classes.proofs.Reach.{IsRound}
use Rattle.whole_classes.proofs.above.names_above.Given as goal

-- the rounds so far
abbrev pub invariant-loop-i : goal.invariant-loop-i
invariant-loop-i l = IsRound (hier_in l.classes) l._i l.name (words_at l.met.items) (words_at l.frontier.items)
