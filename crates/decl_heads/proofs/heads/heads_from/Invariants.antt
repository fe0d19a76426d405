use Rattle.std.proofs.Common.{◌≡◌, map, take}
use Rattle.type_rules.specs.Heads.{head}
use Rattle.decl_heads.proofs.heads.heads_from.Given as goal

abbrev pub invariant-loop-decl : goal.invariant-loop-decl
invariant-loop-decl l = l.heads ≡ map head (take l.decl-index l.decls)
