use Rattle.std.proofs.Common.{◌≡◌, drop, not}
use Rattle.std.specs.List.{list_all}
use Rattle.std.specs.Option.{is_some}
use Rattle.type_rules.specs.Heads.{as_constructor}
use Rattle.type_decl.proofs.classes.has_no_constructor.Given as goal

abbrev pub invariant-loop-member : goal.invariant-loop-member
invariant-loop-member l = list_all (λ m. not (is_some (as_constructor m))) l.members ≡ list_all (λ m. not (is_some (as_constructor m))) (drop l.member-index l.members)
