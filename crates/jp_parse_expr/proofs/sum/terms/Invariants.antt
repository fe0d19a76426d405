use Rattle.std.proofs.Common.{◌≡◌, ℕ, List, length}
use Rattle.jp_grammar.specs.Guards.{Terms}
use Rattle.jp_grammar.specs.Reading.{IsRest}
use Rattle.jp_parse_expr.specs.BehindGuards.{ends_sum}
use Rattle.jp_parse_expr.specs.GuardParts.{GivesAll}
use Rattle.jp_parse_expr.proofs.GuardSums.{ReadSum}
use Rattle.jp_parse_expr.proofs.sum.terms.Given as goal

-- whatever is given for what is left is given for the whole
abbrev pub invariant-list : goal.invariant-list
invariant-list l = record {
  rest : IsRest l.initial.tokens l.tokens;
  whole : (r : ReadSum) → GivesAll (Terms l.summands) ends_sum l.tokens r → GivesAll (Terms l.initial.summands) ends_sum l.initial.tokens r;
}

abbrev pub decreases-list : goal.decreases-list
decreases-list l = length l.tokens
