-- The files of a store, a finite map from names to contents, where the store tells them.
use Rattle.std.specs.Prelude.{◌≡◌, ◌≢◌, ℕ, List, [], ◌∷◌, Option, Some, None}
use Rattle.std.specs.Cmp.Lexicographic.{slice_cmp}
use Rattle.std.specs.Ordering.{nat_cmp}
use Rattle.std.specs.FinMap as finite
use Rattle.std.specs.Option.{option_map}

-- names and contents, both as bytes
abbrev pub Files : Type 0
Files = finite.FinMap (slice_cmp nat_cmp) (List ℕ)

-- what a store finds under a name
abbrev pub Finds : Option Files → List ℕ → Option (List ℕ) → Type 0
Finds None name found = Unit {0}
Finds (Some files) name found = finite.get files name ≡ found

-- the files with this content under this name
abbrev pub put_known : Option Files → List ℕ → List ℕ → Option Files
put_known known name bytes = option_map (λ files. finite.insert files name bytes) known

-- every other name keeps its file
abbrev pub OthersStay : Option Files → Option Files → List ℕ → Type 0
OthersStay None new name = new ≡ None
OthersStay (Some files) None name = ⊥
OthersStay (Some files) (Some files') name = (other : List ℕ) → other ≢ name → finite.get files' other ≡ finite.get files other

-- the files of a list of names and contents
abbrev pub listed_files : List (List ℕ × List ℕ) → Option Files
listed_files entries = Some (finite.from_entries entries)

-- no name stands twice
abbrev pub AreDistinct : List (List ℕ × List ℕ) → Type 0
AreDistinct [] = Unit {0}
AreDistinct (entry ∷ entries) = (finite.find (slice_cmp nat_cmp) entry.0 entries ≡ None) × AreDistinct entries
