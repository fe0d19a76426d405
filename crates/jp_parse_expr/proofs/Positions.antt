-- The position of what is left.
use Rattle.std.proofs.Common.{◌≡◌, ℕ, ◌+◌, ◌-◌, ◌<◌, ◌≤◌, List, [], ◌∷◌, ◌++◌, length, drop, take, refl, sym, ap, ◌∙◌, subst, append_assoc, arith}
use Rattle.std.proofs.Math.Seq.{drop-append_seam}
use Rattle.std.proofs.lemmas.List.{take-append-drop, length-append}
use Rattle.jp_grammar.specs.Kinds.{Tokens}
use Rattle.jp_grammar.specs.Reading.{IsText}

whole : (at : ℕ) (tokens front rest : Tokens) → drop at tokens ≡ front ++ rest → (take at tokens ++ front) ++ rest ≡ tokens
whole at tokens front rest split = append_assoc (take at tokens) front rest ∙ ap (λ (x : Tokens). take at tokens ++ x) (sym split) ∙ take-append-drop at tokens

-- what is left begins as far from the end as it is long
pub rest_at : (at : ℕ) (tokens front rest : Tokens) → drop at tokens ≡ front ++ rest → drop (length tokens - length rest) tokens ≡ rest
rest_at at tokens front rest split =
    let all = whole at tokens front rest split in
    let before : Tokens = take at tokens ++ front in
    let long : length tokens ≡ length before + length rest = sym (ap length all) ∙ length-append before rest in
    let far : length tokens - length rest ≡ length before = omega (arith, long) in
    ap (λ (n : ℕ). drop n tokens) far ∙ sym (ap (λ (x : Tokens). drop (length before) x) all) ∙ drop-append_seam before rest

pub text_long : (xs : Tokens) → IsText xs → 1 ≤ length xs
text_long [] text = absurd text
text_long (s ∷ xs) text = omega arith
