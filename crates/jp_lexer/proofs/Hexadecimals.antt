-- Numbers of both kinds, and what is read of them.
use Rattle.std.proofs.Common.{◌≡◌, ℕ, ◌<◌, ◌≤◌, Bool, true, false, eqb, ltb, leb, List, [], ◌∷◌, length, get_or, drop, Option, Some, None, refl, sym, ap, subst, ◌∙◌, arith, inl, inr}
use Rattle.std.specs.Prelude.{◌&&◌, ◌||◌, option_map}
use Rattle.std.specs.List.{list_all}
use Rattle.std.specs.Char.{digit_value}
use Rattle.std.specs.Str.Parse.{AllDigits, digits_value}
use Rattle.std.proofs.lemmas.Bool.{cond-true, cond-false, cases_Bool, and_parts, and_from, eqb-true, ltb-true, lt-ltb, leb-true, le-leb, false_from_ne_true}
use Rattle.std.proofs.lemmas.Option.{same_Some}
use Rattle.jp_lexical.specs.Tokens.{IsNumber}
use Rattle.jp_lexer.specs.Scanning.{decimal_of, is_hexadecimal, hexadecimal_of, is_marked, number_value}
use Rattle.jp_lexer.proofs.Decimals.{decimal-decimal_of, decimal_of-decimal, plain}

pub AllDigits-from_test : (digits : List ℕ) → list_all (λ b. ltb (digit_value b) 16) digits ≡ true → AllDigits 16 digits
AllDigits-from_test [] t = tt
AllDigits-from_test (b ∷ bs) t = let p = and_parts (ltb (digit_value b) 16) (list_all (λ b. ltb (digit_value b) 16) bs) t in (ltb-true _ _ p.0, AllDigits-from_test bs p.1)

pub test-AllDigits : (digits : List ℕ) → AllDigits 16 digits → list_all (λ b. ltb (digit_value b) 16) digits ≡ true
test-AllDigits [] all = refl
test-AllDigits (b ∷ bs) all = and_from _ _ (lt-ltb _ _ all.0) (test-AllDigits bs all.1)

pub hexadecimal_of-digits : (digits : List ℕ) → AllDigits 16 digits → 0 < length digits → length digits ≤ 8 → hexadecimal_of digits ≡ Some (digits_value 16 digits)
unfolding hexadecimal_of is_hexadecimal
hexadecimal_of-digits digits all some short =
    cond-true _ _ _ (and_from _ _ (and_from _ _ (lt-ltb 0 (length digits) some) (le-leb (length digits) 8 short)) (test-AllDigits digits all))

pub digits-hexadecimal_of : (digits : List ℕ) (n : ℕ) → hexadecimal_of digits ≡ Some n → AllDigits 16 digits × (0 < length digits) × (length digits ≤ 8) × (n ≡ digits_value 16 digits)
unfolding hexadecimal_of is_hexadecimal
digits-hexadecimal_of digits n e = elim (cases_Bool (is_hexadecimal digits)) [
  | inl holds ↦
      let p = and_parts (ltb 0 (length digits) && leb (length digits) 8) (list_all (λ b. ltb (digit_value b) 16) digits) holds in
      let q = and_parts (ltb 0 (length digits)) (leb (length digits) 8) p.0 in
      (AllDigits-from_test digits p.1, ltb-true _ _ q.0, leb-true _ _ q.1, same_Some _ _ (sym e ∙ cond-true _ (Some (digits_value 16 digits)) None holds))
  | inr fails ↦ let bad : None ≡ Some n = sym (cond-false _ (Some (digits_value 16 digits)) None fails) ∙ e in absurd cc
]

pub hexadecimal_of-none : (digits : List ℕ) → (AllDigits 16 digits → 0 < length digits → length digits ≤ 8 → ⊥) → hexadecimal_of digits ≡ None
hexadecimal_of-none digits none = elim (hexadecimal_of digits) as (λ o. hexadecimal_of digits ≡ o → o ≡ None) [
  | None ↦ λ e. refl
  | Some n ↦ λ e. let d = digits-hexadecimal_of digits n e in absurd (none d.0 d.1 d.2)
] refl

-- what a number's value and kind are
abbrev pub Found : List ℕ → Option (ℕ × Bool) → Type 0
Found run None = Unit {0}
Found run (Some found) = IsNumber run found.0 found.1

found_decimal : (run : List ℕ) (o : Option ℕ) → decimal_of run ≡ o → Found run (option_map (λ value. (value, false)) o)
found_decimal run None e = tt
found_decimal run (Some n) e = let d = decimal-decimal_of run n e in record { digits = d.0; fits = d.1 }

found_hexadecimal : (x : ℕ) (digits : List ℕ) → (eqb x 120 || eqb x 88) ≡ true → (o : Option ℕ) → hexadecimal_of digits ≡ o → Found (48 ∷ x ∷ digits) (option_map (λ value. (value, true)) o)
found_hexadecimal x digits marked None e = tt
found_hexadecimal x digits marked (Some n) e =
    let d = digits-hexadecimal_of digits n e in
    record { x = x; digits = digits; parts = refl; marked = marked; each = d.0; some = d.1; short = d.2; means = d.3 }

marked_number : (run : List ℕ) → is_marked run ≡ true → Found run (option_map (λ value. (value, true)) (hexadecimal_of (drop 2 run)))
unfolding is_marked
marked_number [] t = absurd cc
marked_number (a ∷ []) t = let p = and_parts (eqb a 48) false t in absurd cc
marked_number (a ∷ x ∷ digits) t =
    let p = and_parts (eqb a 48) (eqb x 120 || eqb x 88) t in
    subst (λ (c : ℕ). Found (c ∷ x ∷ digits) (option_map (λ value. (value, true)) (hexadecimal_of digits))) (sym (eqb-true a 48 p.0))
    (found_hexadecimal x digits p.1 (hexadecimal_of digits) refl)

pub number_sound : (run : List ℕ) → Found run (number_value run)
unfolding number_value
number_sound run = elim (cases_Bool (is_marked run)) [
  | inl marked ↦ rw marked (marked_number run marked)
  | inr unmarked ↦ rw unmarked (found_decimal run (decimal_of run) refl)
]

unmarked_plain : (run : List ℕ) → (get_or run 0 0 ≡ 48 → length run ≤ 1) → is_marked run ≡ false
unfolding is_marked
unmarked_plain [] leads = refl
unmarked_plain (a ∷ []) leads = false_from_ne_true _ (λ t. let p = and_parts (eqb a 48) false t in absurd cc)
unmarked_plain (a ∷ x ∷ digits) leads = false_from_ne_true _ (λ t. let p = and_parts (eqb a 48) (eqb x 120 || eqb x 88) t in omega (arith, leads (eqb-true a 48 p.0)))

hexadecimal_complete : (x : ℕ) (digits : List ℕ) (value : ℕ) → (eqb x 120 || eqb x 88) ≡ true → AllDigits 16 digits → 0 < length digits → length digits ≤ 8 → value ≡ digits_value 16 digits → number_value (48 ∷ x ∷ digits) ≡ Some (value, true)
unfolding number_value is_marked
hexadecimal_complete x digits value marked each some short means =
    rw (marked, hexadecimal_of-digits digits each some short) (ap (λ (v : ℕ). Some (v, true)) (sym means))

pub number_complete : (run : List ℕ) (value : ℕ) (hex : Bool) → IsNumber run value hex → number_value run ≡ Some (value, hex)
unfolding number_value
number_complete run value false n =
    let unmarked = unmarked_plain run (plain run value n.fits n.digits).leads in
    cond-false (is_marked run) _ _ unmarked ∙ ap (λ (o : Option ℕ). option_map (λ value. (value, false)) o) (decimal_of-decimal run value n.fits n.digits)
number_complete run value true n = subst (λ (r : List ℕ). number_value r ≡ Some (value, true)) (sym n.parts) (hexadecimal_complete n.x n.digits value n.marked n.each n.some n.short n.means)
