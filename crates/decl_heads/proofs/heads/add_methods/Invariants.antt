use Rattle.std.proofs.Common.{◌≡◌, ◌++◌, take}
use Rattle.std.specs.List.{filter_map}
use Rattle.type_rules.specs.Heads.{as_method}
use Rattle.decl_heads.proofs.heads.add_methods.Given as goal

abbrev pub invariant-loop-member : goal.invariant-loop-member
invariant-loop-member l = l.methods ≡ l.initial.methods ++ filter_map as_method (take l.member-index l.members)
