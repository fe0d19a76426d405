use Rattle.std.proofs.Common.{◌≡◌, ◌++◌, map, take}
use Rattle.type_decl.specs.Parts.{alias_variable}
use Rattle.type_decl.proofs.scopes.add_aliases.Given as goal

abbrev pub invariant-loop-alias : goal.invariant-loop-alias
invariant-loop-alias l = l.variables ≡ l.initial.variables ++ map alias_variable (take l.alias-index l.aliases)
