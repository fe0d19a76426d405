use Rattle.std.proofs.Common.{◌≡◌, drop}
use Rattle.type_rules.specs.Types.{is_among}
use Rattle.type_guards.specs.Atoms.{alias_names}
use Rattle.type_guards.proofs.atoms.names_alias.Given as goal

abbrev pub invariant-loop-alias : goal.invariant-loop-alias
invariant-loop-alias l = is_among l.name (alias_names l.scope.aliases) ≡ is_among l.name (alias_names (drop l.alias-index l.scope.aliases))
