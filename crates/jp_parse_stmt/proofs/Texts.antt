-- What is left of a text.
use Rattle.std.proofs.Common.{ℕ, zero, suc, ◌≤◌, [], ◌∷◌, length, drop, arith}
use Rattle.jp_grammar.specs.Kinds.{Tokens}

-- what is left is no longer than what was there
pub drop_short : (n : ℕ) (xs : Tokens) → length (drop n xs) ≤ length xs
drop_short zero xs = omega arith
drop_short (suc n) [] = omega arith
drop_short (suc n) (x ∷ xs) = let h = drop_short n xs in omega (arith, h)
