use Rattle.std.proofs.Common.{length}
use Rattle.type_decl.proofs.Settles.{Settling}
use Rattle.type_decl.proofs.settling.settle_members.Given as goal

-- some members are settled
abbrev pub invariant-loop-one : goal.invariant-loop-one
invariant-loop-one l = Settling l.heads l.decl l.members l.initial.first.fault l.first.fault l.at (length l.yielded) l.made l.methods l.places
