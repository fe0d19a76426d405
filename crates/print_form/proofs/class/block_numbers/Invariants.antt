use Rattle.std.proofs.Common.{◌≡◌, List, map, take, length, ◌≤◌}
use Rattle.print_form.specs.declared.literal.Literal.{Literal}
use Rattle.print_form.specs.Form.{PrintEach, value_of}
use Rattle.print_form.proofs.class.block_numbers.Given as goal

abbrev pub invariant-loop-statement : goal.invariant-loop-statement
invariant-loop-statement l = (literals : List Literal) × PrintEach literals (take l.statement-index l.block) × (l.numbers.items ≡ map value_of literals) × (length literals ≤ 200)
