use Rattle.std.proofs.Common.{◌≡◌, map, take}
use Rattle.type_decl.specs.Parts.{alias_entry}
use Rattle.type_decl.proofs.scopes.entry_of.Given as goal

abbrev pub invariant-loop-alias : goal.invariant-loop-alias
invariant-loop-alias l = l.all ≡ map alias_entry (take l.alias-index l.aliases)
