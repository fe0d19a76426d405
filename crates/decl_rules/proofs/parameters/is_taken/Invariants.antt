use Rattle.std.proofs.Common.{◌≡◌, map, drop}
use Rattle.type_rules.specs.Types.{is_among}
use Rattle.decl_rules.proofs.parameters.is_taken.Given as goal

abbrev pub invariant-loop-param : goal.invariant-loop-param
invariant-loop-param l = is_among l.name (map (λ q. q.name) l.params) ≡ is_among l.name (map (λ q. q.name) (drop l.param-index l.params))
