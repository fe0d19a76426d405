use Rattle.type_decl.proofs.Declarations.{Checking}
use Rattle.type_decl.proofs.units.check_decls.Given as goal

-- some declarations are checked
abbrev pub invariant-loop-at : goal.invariant-loop-at
invariant-loop-at l = Checking l.initial.heads l.heads l.decls l.at l.initial.first.fault l.first.fault l.done
