-- Numbers that a program reads.
use Rattle.std.specs.Prelude.{◌≡◌, ℕ, ℤ, pos, negsuc, Bool, true, false, List, Option, Some, None, is_none}
use Rattle.jp_outside.specs.Bytes.{ReadsFirst}

-- a byte, or -1 at the end
abbrev pub number_of : Option ℕ → ℤ
number_of None = negsuc 0
number_of (Some byte) = pos byte

-- a read, where the source has ended before or not: it gives a number, and the source has ended now or not
abbrev pub ReadsNumber : Bool → Option (List ℕ) → ℤ → Bool → Option (List ℕ) → Type 0
ReadsNumber true old n ended new = (n ≡ negsuc 0) × (ended ≡ true) × (new ≡ old)
ReadsNumber false old n ended new = (byte : Option ℕ) × ReadsFirst old byte new × (n ≡ number_of byte) × (ended ≡ is_none byte)
