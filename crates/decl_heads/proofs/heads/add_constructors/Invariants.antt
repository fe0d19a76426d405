use Rattle.std.proofs.Common.{◌≡◌, ◌++◌, take}
use Rattle.std.specs.List.{filter_map}
use Rattle.type_rules.specs.Heads.{as_constructor}
use Rattle.decl_heads.proofs.heads.add_constructors.Given as goal

abbrev pub invariant-loop-member : goal.invariant-loop-member
invariant-loop-member l = l.constructors ≡ l.initial.constructors ++ filter_map as_constructor (take l.member-index l.members)
