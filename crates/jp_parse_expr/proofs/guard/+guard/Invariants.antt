use Rattle.std.proofs.Common.{◌≡◌, ℕ, suc, ◌+◌, ◌*◌, ◌≤◌, List, length, drop}
use Rattle.jp_grammar.specs.Kinds.{Tokens}
use Rattle.jp_grammar.specs.Guards.{Level, Chain, Gun}
use Rattle.jp_grammar.specs.Reading.{Found, Gives, IsRest}
use Rattle.jp_grammar.specs.Depth.{guard_depth as depth_of}
use Rattle.jp_parse_expr.specs.BehindGuards.{ends_join}
use Rattle.jp_parse_expr.specs.GuardParts.{ReadGuard}
use Rattle.jp_parse_expr.proofs.guard.+guard.Given as goal

-- Each call has a smaller budget, or goes to a function of a lower number: so calls stand at most 8 * 201 deep.
abbrev pub decreases-chain : goal.decreases-chain
decreases-chain l = 8 * l.most

abbrev pub decreases-single : goal.decreases-single
decreases-single l = 8 * l.most

abbrev pub decreases-climb : goal.decreases-climb
decreases-climb l = 8 * l.most + 1

abbrev pub decreases-operand : goal.decreases-operand
decreases-operand l = 8 * l.most + 2

abbrev pub decreases-level_of : goal.decreases-level_of
decreases-level_of l = 8 * l.most + 3

-- behind the parentheses that are still open: what is read so far
abbrev pub invariant-operand-closings : goal.invariant-operand-closings
invariant-operand-closings l = record {
  pending : l.pending ≤ l.run;
  rest : IsRest l.tokens l.rest;
  depth : l.depth ≡ depth_of l.left;
  most : l.depth ≤ l.most;
  read : Found Gun (λ _. ends_join 0) (drop l.pending l.tokens) l.left l.rest;
}

abbrev pub decreases-operand-closings : goal.decreases-operand-closings
decreases-operand-closings l = l.pending

-- what is read so far, from where it begins
abbrev pub invariant-climb-levels : goal.invariant-climb-levels
invariant-climb-levels l = record {
  rest : IsRest l.initial.tokens l.tokens;
  depth : l.depth ≡ depth_of l.left;
  most : l.depth ≤ l.most;
  read : Found (Level l.n) (λ _. ends_join l.n) l.begin l.left l.tokens;
}

-- whatever is given for what is left is given for the whole
abbrev pub invariant-chain-signs : goal.invariant-chain-signs
invariant-chain-signs l = record {
  rest : IsRest l.initial.tokens l.tokens;
  depth : l.depth ≡ depth_of l.left;
  most : l.depth ≤ l.most;
  whole : (r : ReadGuard) → Gives (Chain l.place l.level l.left) depth_of (ends_join (suc l.level)) l.most l.tokens r → Gives (Chain l.place l.level l.initial.left) depth_of (ends_join (suc l.level)) l.most l.initial.tokens r;
}

abbrev pub decreases-chain-signs : goal.decreases-chain-signs
decreases-chain-signs l = length l.tokens
