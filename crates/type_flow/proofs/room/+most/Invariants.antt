use Rattle.std.proofs.Common.{◌≡◌, drop}
use Rattle.type_rules.specs.declared.scope.Scope.{Scope}
use Rattle.type_rules.specs.Statements.{count}
use Rattle.type_flow.specs.Room.{up_to}
use Rattle.type_flow.proofs.Counts.{Counting}
use Rattle.type_flow.proofs.room.+most.Given as goal

-- some statements are counted
abbrev pub invariant-most_of_all-loop-stmt : goal.invariant-most_of_all-loop-stmt
invariant-most_of_all-loop-stmt l = (c : Scope) → up_to (count c) ≡ l.begin → Counting c l.block (drop l.stmt-index l.block) l.most l.now
