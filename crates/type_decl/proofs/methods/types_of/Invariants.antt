use Rattle.std.proofs.Common.{◌≡◌, map, take}
use Rattle.type_decl.proofs.methods.types_of.Given as goal

abbrev pub invariant-loop-param : goal.invariant-loop-param
invariant-loop-param l = l.types ≡ map (λ p. p.ty) (take l.param-index l.params)
