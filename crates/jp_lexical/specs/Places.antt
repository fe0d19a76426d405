-- Lines and columns.
use Rattle.std.specs.Prelude.{ℕ, ◌+◌, ◌==◌, if◌then◌else◌, min, List, [], ◌∷◌}
use Rattle.jp_ast.specs.declared.token.Place.{Place}

-- one more, up to the greatest 32-bit number, at which lines and columns stand still
unfoldable pub one_further : ℕ → ℕ
one_further n = min (n + 1) 4294967295

-- where the first byte of a text stands
abbrev pub first_place : Place
first_place = record { line = 1; col = 1 }

-- the place behind this byte, which is on the next line where the byte is a line feed
abbrev pub behind_byte : Place → ℕ → Place
behind_byte place b =
    if b == 10 then record { line = one_further place.line; col = 1 } else record { line = place.line; col = one_further place.col }

-- the place behind these bytes
abbrev pub behind : Place → List ℕ → Place
behind place [] = place
behind place (b ∷ bytes) = behind (behind_byte place b) bytes
