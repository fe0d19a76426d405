-- How many places the values of a stack take.
use Rattle.std.proofs.Common.{◌≡◌, ℕ, ◌+◌, ◌<◌, ◌≤◌, List, [], ◌∷◌, length, reverse, take, get_or, ap, ◌∙◌, arith}
use Rattle.std.proofs.lemmas.List.{take_more, reverse-append, length-reverse, length-take-le}
use Rattle.jp_store.specs.declared.value.Value.{Value}
use Rattle.jp_store.specs.declared.value.Value.TheVariants.{Int, Long, Null, Ref, Text}
use Rattle.jp_store.specs.Arith.{width_of}
use Rattle.jvm_table.specs.Stack.{depth_of}

one_at_least : (v : Value) → 1 ≤ width_of v
one_at_least (Int n) = omega arith
one_at_least (Long n) = omega arith
one_at_least Null = omega arith
one_at_least (Ref o) = omega arith
one_at_least (Text t) = omega arith

-- each value takes a place
count_le_depth : (vs : List Value) → length vs ≤ depth_of vs
count_le_depth [] = omega arith
count_le_depth (v ∷ vs) = omega (arith, one_at_least v, count_le_depth vs)

-- the values above the bottom n take their places
pub depth_more : (n : ℕ) (xs : List Value) (d : Value) → n < length xs → depth_of (reverse (take (n + 1) xs)) ≡ width_of (get_or xs n d) + depth_of (reverse (take n xs))
depth_more n xs d h = ap (λ l. depth_of (reverse l)) (take_more xs n d h) ∙ ap depth_of (reverse-append (take n xs) (get_or xs n d ∷ []))

pub count_in_depth : (n : ℕ) (xs : List Value) → n ≤ length xs → n ≤ depth_of (reverse (take n xs))
count_in_depth n xs h = omega (arith, count_le_depth (reverse (take n xs)), length-reverse (take n xs), length-take-le n xs h)
