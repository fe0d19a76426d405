-- The number that 32 bits mean.
use Rattle.std.proofs.Common.{◌≡◌, ℕ, ◌<◌, ◌^◌, ℤ, pos, neg_ℤ, w32, sym, ap, ◌∙◌}
use Rattle.std.specs.Int.{int_wrap, cast_signed, int_wrapping_neg}
use Rattle.std.proofs.Math.Nat.{mod-eq_of_lt}
use Rattle.std.proofs.Math.IntN.{+ℤ_idl}
use Rattle.std.proofs.lemmas.Int.{wrapping_neg_is, int_wrap-sub_right, SFits-int_wrap}

pub signed_is : (n : ℕ) → n < 2 ^ 32 → cast_signed w32 n ≡ int_wrap w32 (pos n)
unfolding int_wrap
signed_is n h = sym (ap (cast_signed w32) (mod-eq_of_lt h))

pub negated_is : (n : ℕ) (z : ℤ) → z ≡ int_wrap w32 (pos n) → int_wrapping_neg w32 z ≡ int_wrap w32 (neg_ℤ (pos n))
negated_is n z e =
    ap (int_wrapping_neg w32) e ∙ wrapping_neg_is w32 (int_wrap w32 (pos n)) (SFits-int_wrap w32 (pos n))
    ∙ ap (int_wrap w32) (sym (+ℤ_idl (neg_ℤ (int_wrap w32 (pos n))))) ∙ int_wrap-sub_right w32 (pos 0) (pos n) ∙ ap (int_wrap w32) (+ℤ_idl (neg_ℤ (pos n)))
