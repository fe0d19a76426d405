use Rattle.std.proofs.Common.{◌≡◌, ◌++◌, take}
use Rattle.std.specs.List.{filter_map}
use Rattle.type_rules.specs.Heads.{as_field}
use Rattle.decl_heads.proofs.heads.add_fields.Given as goal

abbrev pub invariant-loop-member : goal.invariant-loop-member
invariant-loop-member l = l.fields ≡ l.initial.fields ++ filter_map as_field (take l.member-index l.members)
