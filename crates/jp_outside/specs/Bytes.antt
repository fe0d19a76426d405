-- What a source gives and what a sink takes, where they tell it.
use Rattle.std.specs.Prelude.{◌≡◌, ℕ, ◌<◌, ◌≤◌, List, [], ◌∷◌, ◌++◌, length, Option, Some, None}
use Rattle.std.specs.Io.KnownBytes.{append_known}

-- a read gives the first of the bytes to come, or no byte at their end
abbrev pub ReadsFirst : Option (List ℕ) → Option ℕ → Option (List ℕ) → Type 0
ReadsFirst None byte new = new ≡ None
ReadsFirst (Some []) byte new = (byte ≡ None) × (new ≡ Some [])
ReadsFirst (Some (first ∷ rest)) byte new = (byte ≡ Some first) × (new ≡ Some rest)

-- how many bytes of a piece a sink may take: at least one, where there is one
abbrev pub IsCountOf : ℕ → List ℕ → Type 0
IsCountOf n piece = (n ≤ length piece) × (0 < length piece → 0 < n)

-- a front part of the bytes was added
abbrev pub AppendsFront : Option (List ℕ) → Option (List ℕ) → List ℕ → Type 0
AppendsFront old new bytes = (front : List ℕ) × (rest : List ℕ) × (front ++ rest ≡ bytes) × (new ≡ append_known old front)
