-- The code of `main`, number by number.
use Rattle.std.proofs.Common.{◌≡◌, ℕ, ◌+◌, ◌<◌, ℤ, pos, List, [], ◌∷◌, ◌++◌, length, drop, get_or, refl, sym, ap, ◌∙◌, arith, add-one, append_assoc, drop-cons}
use Rattle.jpred_cli.specs.Built.{code_from}

-- the code of the numbers from i on is that of the one at i, and then that of the rest
code_at : (index i : ℕ) (numbers : List ℤ) → i < length numbers → code_from index (drop i numbers) ≡ (0x12 ∷ index ∷ 0xb8 ∷ 0 ∷ 13 ∷ []) ++ code_from (index + 1) (drop (i + 1) numbers)
code_at index i numbers h =
    let e : drop i numbers ≡ get_or numbers i (pos 0) ∷ drop (i + 1) numbers = rw (add-one, drop-cons numbers i (pos 0)) refl in
    ap (code_from index) e

-- one number more
pub code_more : (old new piece : List ℕ) (i : ℕ) (numbers : List ℤ) → i < length numbers → new ≡ old ++ piece → piece ≡ 0x12 ∷ (14 + i) ∷ 0xb8 ∷ 0 ∷ 13 ∷ [] → old ++ code_from (14 + i) (drop i numbers) ≡ code_from 14 numbers → new ++ code_from (14 + (i + 1)) (drop (i + 1) numbers) ≡ code_from 14 numbers
code_more old new piece i numbers h added is so_far =
    let next : 14 + i + 1 ≡ 14 + (i + 1) = omega arith in
    let rest = code_from (14 + (i + 1)) (drop (i + 1) numbers) in
    let step : code_from (14 + i) (drop i numbers) ≡ piece ++ rest = code_at (14 + i) i numbers h ∙ ap (λ k. (0x12 ∷ (14 + i) ∷ 0xb8 ∷ 0 ∷ 13 ∷ []) ++ code_from k (drop (i + 1) numbers)) next ∙ ap (λ p. p ++ rest) (sym is) in
    ap (λ l. l ++ rest) added ∙ append_assoc old piece rest ∙ ap (λ l. old ++ l) (sym step) ∙ so_far
