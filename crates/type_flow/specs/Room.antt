-- How many variables are in scope.
use Rattle.std.specs.Prelude.{◌≡◌, ℕ, ◌<◌, min, Option, Some, None}

-- a number, where more than 256 count as so many
abbrev pub up_to : ℕ → ℕ
up_to n = min 256 n

-- the number, where it is at most 255
abbrev pub IsMost : ℕ → Option ℕ → Type 0
IsMost n (Some m) = m ≡ n
IsMost n None = 255 < n
