use Rattle.std.proofs.Common.{◌≡◌, Some, drop}
use Rattle.type_rules.specs.GuardPaths.{steps_of}
use Rattle.type_guards.proofs.paths.steps_of.Given as goal

-- what the other steps lead to
abbrev pub invariant-loop-name : goal.invariant-loop-name
invariant-loop-name l = steps_of l.scope (Some l.before) (drop l.name-index l.steps) ≡ steps_of l.scope (Some l.fn.root) l.steps
