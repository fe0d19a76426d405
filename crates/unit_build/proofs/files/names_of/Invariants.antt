use Rattle.std.proofs.Common.{◌≡◌, map, take}
use Rattle.std.specs.Prelude.{string_bytes}
use Rattle.unit_build.proofs.files.names_of.Given as goal

-- the names so far
abbrev pub invariant-loop-class : goal.invariant-loop-class
invariant-loop-class l = map string_bytes l.names ≡ map (λ c. c.head.name) (take l.class-index l.classes)
