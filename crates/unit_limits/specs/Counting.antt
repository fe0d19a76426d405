-- Counts that are held to limits, and the first of them that passes its limit.
use Rattle.std.specs.Prelude.{ℕ, ◌-◌, ◌^◌, min, nat_lt, Bool, List, Option}
use Rattle.std.specs.List.{find}
use Rattle.std.specs.Option.{option_map}
use Rattle.unit_limits.specs.declared.limits.Limit.{Limit}
use Rattle.unit_limits.specs.declared.limits.Limit.TheVariants as limits
use Rattle.unit_limits.specs.declared.limits.TooLarge.{TooLarge}

-- how much there is of what a limit is on
pub record Count : Type 0 where
  pub limit : Limit
  pub number : ℕ

abbrev pub counted : Limit → ℕ → Count
counted l n = record { limit = l; number = n }

-- the greatest number within the limit
abbrev pub most : Limit → ℕ
most limits.UnitBytes = 4194304
most limits.Text = 1000
most limits.Parameters = 8
most limits.Aliases = 8
most limits.Locals = 200
most limits.BodyNodes = 1200
most limits.ClassNodes = 8000

abbrev pub is_over : Count → Bool
is_over c = nat_lt (most c.limit) c.number

-- a count as it is told: one above the greatest `u64` as that number
abbrev pub told : Count → TooLarge
told c = record { limit = c.limit; count = min c.number (2 ^ 64 - 1) }

-- the first count that passes its limit
abbrev pub first_told : List Count → Option TooLarge
first_told counts = option_map told (find is_over counts)
