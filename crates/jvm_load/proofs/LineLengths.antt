-- How long lines are, and those of positions where no class stands.
use Rattle.std.proofs.Common.{◌≡◌, ◌≢◌, ℕ, zero, suc, ◌<◌, ◌≤◌, Bool, true, false, List, [], ◌∷◌, ◌++◌, length, reverse, Option, Some, None, refl, ap, arith}
use Rattle.std.specs.Prelude.{option_and_then, if◌then◌else◌}
use Rattle.std.specs.Option.{option_map_or}
use Rattle.std.proofs.lemmas.Bool.{ne_eqb}
use Rattle.std.proofs.lemmas.Option.{slice_get_past}
use Rattle.jp_store.specs.Classes.{Class, is_among, super_of, line_from, line, offset_in, place_of}

upwards : (n : ℕ) (go : ℕ → List ℕ) (o : Option ℕ) → ((m : ℕ) → length (go m) ≤ n) → length (option_map_or go o []) ≤ n
upwards n go None h = omega arith
upwards n go (Some m) h = h m

step_length : (n at : ℕ) (b : Bool) (more : List ℕ) → length more ≤ n → length (if b then [] else at ∷ more) ≤ suc n
step_length n at true more h = omega arith
step_length n at false more h = omega arith

pub line_from_length : (n : ℕ) (classes : List Class) (met : List ℕ) (at : ℕ) → length (line_from n classes met at) ≤ n
unfolding line_from
line_from_length zero classes met at = omega arith
line_from_length (suc n) classes met at =
    step_length n at (is_among at met) (option_map_or (line_from n classes (met ++ at ∷ [])) (super_of classes at) [])
    (upwards n (line_from n classes (met ++ at ∷ [])) (super_of classes at) (λ m. line_from_length n classes (met ++ at ∷ []) m))

alone : (n : ℕ) (classes : List Class) (class at : ℕ) → at ≢ class → super_of classes at ≡ None → offset_in classes class (reverse (line_from n classes [] at)) ≡ None
unfolding line_from
alone zero classes class at ne h = refl
alone (suc n) classes class at ne h = rw (h, ne_eqb at class ne) refl

pub no_offset : (classes : List Class) (class at : ℕ) → length classes ≤ at → class < length classes → offset_in classes class (reverse (line classes at)) ≡ None
no_offset classes class at h k =
    let ne : at ≢ class = omega arith in
    alone (length classes) classes class at ne (ap (λ o. option_and_then (λ (c : Class). option_and_then (place_of classes) c.superclass) o) (slice_get_past classes at h))
