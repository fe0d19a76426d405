use Rattle.std.proofs.Common.{◌≡◌, [], Some}
use Rattle.type_rules.specs.Expressions.{arguments}
use Rattle.type_decl.proofs.arguments.arguments.Given as goal

abbrev pub invariant-loop-part : goal.invariant-loop-part
invariant-loop-part l = l.done ≡ arguments (Some []) l.yielded
