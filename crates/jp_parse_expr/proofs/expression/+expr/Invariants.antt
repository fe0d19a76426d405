use Rattle.std.proofs.Common.{◌≡◌, ℕ, suc, ◌+◌, ◌*◌, ◌≤◌, List, length, drop}
use Rattle.jp_ast.specs.declared.expr.Expr.{Expr}
use Rattle.jp_grammar.specs.Kinds.{Tokens}
use Rattle.jp_grammar.specs.Expressions.{Unary, Level, Chain, Steps, MoreArgs}
use Rattle.jp_grammar.specs.Reading.{Found, Gives, IsRest}
use Rattle.jp_grammar.specs.Behind.{ends_level, ends_primary}
use Rattle.jp_grammar.specs.Depth.{depth as depth_of, depth_of_all}
use Rattle.jp_grammar.proofs.Names.{ReadAll}
use Rattle.jp_parse_expr.specs.Parts.{Read}
use Rattle.jp_parse_expr.proofs.expression.+expr.Given as goal

-- Each call has a smaller budget, or goes to a function of a lower number: so calls stand at most 16 * 201 deep.
abbrev pub decreases-joined : goal.decreases-joined
decreases-joined l = 16 * l.most

abbrev pub decreases-alternative : goal.decreases-alternative
decreases-alternative l = 16 * l.most

abbrev pub decreases-named : goal.decreases-named
decreases-named l = 16 * l.most

abbrev pub decreases-super_call : goal.decreases-super_call
decreases-super_call l = 16 * l.most

abbrev pub decreases-prefixed : goal.decreases-prefixed
decreases-prefixed l = 16 * l.most

abbrev pub decreases-cast : goal.decreases-cast
decreases-cast l = 16 * l.most

abbrev pub decreases-step : goal.decreases-step
decreases-step l = 16 * l.most + 1

abbrev pub decreases-chain : goal.decreases-chain
decreases-chain l = 16 * l.most + 1

abbrev pub decreases-choices : goal.decreases-choices
decreases-choices l = 16 * l.most + 1

abbrev pub decreases-primary : goal.decreases-primary
decreases-primary l = 16 * l.most + 1

abbrev pub decreases-steps : goal.decreases-steps
decreases-steps l = 16 * l.most + 2

abbrev pub decreases-climb : goal.decreases-climb
decreases-climb l = 16 * l.most + 2

abbrev pub decreases-created_array : goal.decreases-created_array
decreases-created_array l = 16 * l.most + 3

abbrev pub decreases-rest_of : goal.decreases-rest_of
decreases-rest_of l = 16 * l.most + 3

abbrev pub decreases-created_of_class : goal.decreases-created_of_class
decreases-created_of_class l = 16 * l.most + 4

abbrev pub decreases-created_simply : goal.decreases-created_simply
decreases-created_simply l = 16 * l.most + 4

abbrev pub decreases-created : goal.decreases-created
decreases-created l = 16 * l.most + 5

abbrev pub decreases-postfix : goal.decreases-postfix
decreases-postfix l = 16 * l.most + 6

abbrev pub decreases-single : goal.decreases-single
decreases-single l = 16 * l.most + 7

abbrev pub decreases-operand : goal.decreases-operand
decreases-operand l = 16 * l.most + 8

abbrev pub decreases-level_of : goal.decreases-level_of
decreases-level_of l = 16 * l.most + 9

abbrev pub decreases-full : goal.decreases-full
decreases-full l = 16 * l.most + 9

abbrev pub decreases-bracketed : goal.decreases-bracketed
decreases-bracketed l = 16 * l.most + 10

abbrev pub decreases-more_args : goal.decreases-more_args
decreases-more_args l = 16 * l.most + 10

abbrev pub decreases-args : goal.decreases-args
decreases-args l = 16 * l.most + 11

-- behind the parentheses that are still open: what is read so far
abbrev pub invariant-operand-closings : goal.invariant-operand-closings
invariant-operand-closings l = record {
  pending : l.pending ≤ l.run;
  rest : IsRest l.tokens l.rest;
  depth : l.depth ≡ depth_of l.left;
  most : l.depth ≤ l.most;
  read : Found Unary (λ _. ends_level 0) (drop l.pending l.tokens) l.left l.rest;
}

abbrev pub decreases-operand-closings : goal.decreases-operand-closings
decreases-operand-closings l = l.pending

-- what is read so far, from where it begins
abbrev pub invariant-climb-levels : goal.invariant-climb-levels
invariant-climb-levels l = record {
  rest : IsRest l.initial.tokens l.tokens;
  depth : l.depth ≡ depth_of l.left;
  most : l.depth ≤ l.most;
  read : Found (Level l.n) (λ _. ends_level l.n) l.begin l.left l.tokens;
}

-- whatever is given for what is left is given for the whole
abbrev pub invariant-chain-signs : goal.invariant-chain-signs
invariant-chain-signs l = record {
  rest : IsRest l.initial.tokens l.tokens;
  depth : l.depth ≡ depth_of l.left;
  most : l.depth ≤ l.most;
  whole : (r : Read) → Gives (Chain l.place l.level l.left) depth_of (ends_level (suc l.level)) l.most l.tokens r → Gives (Chain l.place l.level l.initial.left) depth_of (ends_level (suc l.level)) l.most l.initial.tokens r;
}

abbrev pub decreases-chain-signs : goal.decreases-chain-signs
decreases-chain-signs l = length l.tokens

-- whatever is given for what is left is given for the whole
abbrev pub invariant-steps-all : goal.invariant-steps-all
invariant-steps-all l = record {
  rest : IsRest l.initial.tokens l.tokens;
  depth : l.depth ≡ depth_of l.left;
  most : l.depth ≤ l.most;
  whole : (r : Read) → Gives (Steps l.place l.left) depth_of (ends_level 0) l.most l.tokens r → Gives (Steps l.place l.initial.left) depth_of (ends_level 0) l.most l.initial.tokens r;
}

abbrev pub decreases-steps-all : goal.decreases-steps-all
decreases-steps-all l = length l.tokens

-- whatever is given for what is left is given for the whole
abbrev pub invariant-more_args-list : goal.invariant-more_args-list
invariant-more_args-list l = record {
  rest : IsRest l.initial.tokens l.tokens;
  depth : l.depth ≡ depth_of_all l.args;
  most : l.depth ≤ l.most;
  whole : (r : ReadAll) → Gives (MoreArgs l.args) depth_of_all ends_primary l.most l.tokens r → Gives (MoreArgs l.initial.args) depth_of_all ends_primary l.most l.initial.tokens r;
}

abbrev pub decreases-more_args-list : goal.decreases-more_args-list
decreases-more_args-list l = length l.tokens
