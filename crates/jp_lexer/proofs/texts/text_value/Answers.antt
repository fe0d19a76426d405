use Rattle.std.proofs.Common.{◌≡◌, ◌∙◌, Result, Ok, Err, ℕ, ◌-◌, List, [], ◌∷◌, length, take, drop, eqb, false, refl, sym, ap, arith}
use Rattle.std.specs.Prelude.{IfOk}
use Rattle.std.specs.List.{list_any}
use Rattle.std.proofs.lemmas.Bool.{or_parts}
use Rattle.jp_lexer.specs.Scanning.{text_value, letters_of}
use Rattle.jp_lexer.proofs.texts.text_value.Goals as goal

-- letters without a backslash stand for themselves
letters_same : (xs : List ℕ) → list_any (λ y. eqb y 92) xs ≡ false → letters_of false xs ≡ xs
letters_same [] f = refl
letters_same (b ∷ bs) f =
    let p = or_parts (eqb b 92) (list_any (λ y. eqb y 92) bs) f in
    let e : eqb b 92 ≡ false = p.0 in rw e (ap (λ (x : List ℕ). b ∷ x) (letters_same bs p.1))

if_same : {E : Type 0} (r : Result (List ℕ) E) (x y : List ℕ) → x ≡ y → IfOk r (λ value. value ≡ x) → IfOk r (λ value. value ≡ y)
if_same (Ok v) x y e h = h ∙ e
if_same (Err f) x y e h = h

pub returns-else-contains : goal.returns-else-contains
unfolding text_value
returns-else-contains c =
    let literal = c.args.literal.now in
    let inside = take (length literal - 1 - 1) (drop 1 literal) in
    let plain : letters_of false inside ≡ inside = letters_same inside (sym c.contains.ensures.value ∙ c.if-contains.false) in
    let same : inside ≡ take (length literal - 2) (drop 1 literal) = ap (λ (n : ℕ). take n (drop 1 literal)) (omega arith) in
    if_same c.from_bytes-else-contains.result inside _ (sym plain ∙ ap (letters_of false) same) c.from_bytes-else-contains.ensures
