use Rattle.std.proofs.Common.{◌≡◌, ◌+◌, drop}
use Rattle.std.specs.List.{filter_map}
use Rattle.jp_meaning.specs.Descriptors.{kind_of_type}
use Rattle.jvm_table.specs.Descriptors.{places_of}
use Rattle.gen_code.proofs.calls.places_with_receiver.Given as goal

-- the parameters that are left
abbrev pub invariant-loop-ty : goal.invariant-loop-ty
invariant-loop-ty l = 1 + places_of (filter_map kind_of_type l.params) ≡ l.places + places_of (filter_map kind_of_type (drop l.ty-index l.params))
