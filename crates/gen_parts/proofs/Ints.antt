-- The int of a number as it is written.
use Rattle.std.proofs.Common.{◌≡◌, ℕ, ◌<◌, ◌^◌, ◌%◌, ℤ, pos, to_z, of_z, zero-add, sym, ap, ◌∙◌}
use Rattle.std.specs.Int.{w32, int_wrap, cast_signed}
use Rattle.std.proofs.lemmas.Int.{of_z-to_z}
use Rattle.std.proofs.lemmas.Nat.{mod_low}

pub int_is : (n : ℕ) (r : ℤ) → n < 2 ^ 32 → r ≡ cast_signed w32 n → to_z w32 (of_z w32 r) ≡ int_wrap w32 (pos n)
unfolding int_wrap
int_is n r lt e =
    let rest : n % 2 ^ 32 ≡ n = ap (λ z. z % 2 ^ 32) (sym (zero-add n)) ∙ mod_low 0 32 n lt in
    ap (λ z. to_z w32 (of_z w32 z)) e ∙ (ap (to_z w32) (of_z-to_z w32 n lt) ∙ ap (to_z w32) (sym rest))
