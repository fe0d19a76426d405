use Rattle.std.proofs.Common.{◌≡◌, ℕ, List, length}
use Rattle.jp_grammar.specs.Guards.{PathSteps}
use Rattle.jp_grammar.specs.Reading.{IsRest}
use Rattle.jp_parse_expr.specs.BehindGuards.{ends_path}
use Rattle.jp_parse_expr.specs.GuardParts.{GivesAll}
use Rattle.jp_parse_expr.proofs.GuardPaths.{ReadPath}
use Rattle.jp_parse_expr.proofs.path.path_steps.Given as goal

-- whatever is given for what is left is given for the whole
abbrev pub invariant-steps : goal.invariant-steps
invariant-steps l = record {
  rest : IsRest l.initial.tokens l.tokens;
  whole : (r : ReadPath) → GivesAll (PathSteps l.path) ends_path l.tokens r → GivesAll (PathSteps l.initial.path) ends_path l.initial.tokens r;
}

abbrev pub decreases-steps : goal.decreases-steps
decreases-steps l = length l.tokens
