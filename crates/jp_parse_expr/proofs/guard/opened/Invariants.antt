use Rattle.std.proofs.Common.{◌≡◌, ℕ, ◌+◌, ◌<◌, length, drop}
use Rattle.jp_grammar.specs.Reading.{IsText}
use Rattle.jp_parse_expr.specs.GuardParts.{OpensGuard}
use Rattle.jp_parse_expr.proofs.guard.opened.Given as goal

-- each token that was gone over is a parenthesis
abbrev pub invariant-run : goal.invariant-run
invariant-run l = record {
  text : IsText l.left;
  behind : l.left ≡ drop l.count l.tokens;
  most : l.count + length l.left ≡ length l.tokens;
  opens : (i : ℕ) → i < l.count → OpensGuard (drop i l.tokens);
}

abbrev pub decreases-run : goal.decreases-run
decreases-run l = length l.left
