-- How many aliases a guard makes.
use Rattle.std.specs.Prelude.{ℕ, ◌+◌}
use Rattle.jp_ast.specs.declared.guard.GuardExpr.{GuardExpr, fold-GuardExpr}
use Rattle.jp_ast.specs.declared.guard.GuardKind.{GuardKind-F}
use Rattle.jp_ast.specs.declared.guard.GuardKind.TheOpen as g
use Rattle.jp_ast.specs.Counts.{of_option}

abbrev pub alias_step : GuardKind-F ℕ ℕ → ℕ
alias_step (g.Not right) = right
alias_step (g.And left right) = left + right
alias_step (g.Or left right) = left + right
alias_step (g.Is path class alias) = of_option (λ name. 1) alias
alias_step (g.Alias path name) = 1
alias_step _ = 0

-- those of `path as name` and of class tests
abbrev pub guard_aliases : GuardExpr → ℕ
guard_aliases = fold-GuardExpr ℕ ℕ alias_step (λ x. x.kind)
