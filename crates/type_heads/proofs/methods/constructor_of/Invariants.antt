use Rattle.std.proofs.Common.{◌≡◌, drop, length}
use Rattle.std.specs.Prelude.{◌==◌}
use Rattle.std.specs.List.{find}
use Rattle.type_heads.proofs.methods.constructor_of.Given as goal

abbrev pub invariant-loop-params : goal.invariant-loop-params
invariant-loop-params l =
    find (λ params. length params == l.count) l.class.constructors ≡ find (λ params. length params == l.count) (drop l.params-index l.class.constructors)
