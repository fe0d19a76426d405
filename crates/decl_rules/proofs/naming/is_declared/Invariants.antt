use Rattle.std.proofs.Common.{◌≡◌, map, drop}
use Rattle.type_rules.specs.Types.{is_among}
use Rattle.decl_rules.proofs.naming.is_declared.Given as goal

abbrev pub invariant-loop-decl : goal.invariant-loop-decl
invariant-loop-decl l = is_among l.name (map (λ x. x.name) l.decls) ≡ is_among l.name (map (λ x. x.name) (drop l.decl-index l.decls))
