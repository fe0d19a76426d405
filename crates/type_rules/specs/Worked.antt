-- What is said of a worked example.
use Rattle.std.specs.Prelude.{◌≡◌, ℕ, List, [], Some, None, IsSome}
use Rattle.type_rules.specs.Samples.{Sample, at, unit}
use Rattle.type_rules.specs.Typing.{first_fault}
use Rattle.type_rules.specs.Units.{made_unit}

-- its first fault is of that rule, at that column
abbrev pub Breaks : List Sample → ℕ → ℕ → Type 0
Breaks ds col rule = first_fault (unit ds) [] ≡ Some (record { place = at col; rule = rule })

-- it has no fault, and a resolved tree
abbrev pub Passes : List Sample → Type 0
Passes ds = (first_fault (unit ds) [] ≡ None) × IsSome (made_unit (unit ds) [])
