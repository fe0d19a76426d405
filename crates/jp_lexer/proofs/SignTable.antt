-- Signs and their numbers.
use Rattle.std.proofs.Common.{◌≡◌, ℕ, zero, suc, ◌+◌, ◌<◌, ◌≤◌, Bool, true, false, cond, eqb, List, [], ◌∷◌, ◌++◌, length, get_or, Option, Some, None, refl, sym, ap, subst, ◌∙◌, arith, inl, inr}
use Rattle.std.specs.Prelude.{◌&&◌, option_map, slice_get}
use Rattle.std.proofs.lemmas.Bool.{cond-true, cond-false, cases_Bool, and_parts, and_from, eqb-true, eq-eqb, false_from_ne_true}
use Rattle.std.proofs.lemmas.Option.{same_Some, none-some}
use Rattle.jp_lexical.specs.Characters.{is_white, begins_word, is_word_byte}
use Rattle.jp_lexical.specs.Signs.{signs}
use Rattle.jp_lexical.specs.Tokens.{IsLongest}
use Rattle.jp_lexer.specs.Scanning.{or_else, single_sign, pair_sign, sign_at}
use Rattle.jp_lexer.proofs.Quotes.{step}

-- the number is that of the sign with these bytes
abbrev pub IsListed : ℕ → List ℕ → Type 0
IsListed sign [] = ⊥
IsListed sign (b ∷ []) = single_sign b ≡ Some sign
IsListed sign (a ∷ b ∷ []) = pair_sign a b ≡ Some sign
IsListed sign (a ∷ b ∷ c ∷ []) = (a ≡ 62) × (b ≡ 62) × (c ≡ 62) × (sign ≡ 33)
IsListed sign (a ∷ b ∷ c ∷ d ∷ bytes) = ⊥

-- nothing else begins with this byte
abbrev pub IsApart : ℕ → Type 0
IsApart b = (is_white b ≡ false) × (begins_word b ≡ false) × (is_word_byte b ≡ false) × (eqb b 34 ≡ false)

abbrev AllListed : ℕ → List (List ℕ) → Type 0
AllListed k [] = Unit {0}
AllListed k (bytes ∷ more) = (IsApart (get_or bytes 0 0) × IsListed k bytes) × AllListed (suc k) more

all_listed : AllListed 0 signs
unfolding signs single_sign pair_sign is_white begins_word is_word_byte
all_listed = (((refl, refl, refl, refl), refl), (((refl, refl, refl, refl), refl), (((refl, refl, refl, refl), refl), (((refl, refl, refl, refl), refl), (((refl, refl, refl, refl), refl), (((refl, refl, refl, refl), refl), (((refl, refl, refl, refl), refl), (((refl, refl, refl, refl), refl), (((refl, refl, refl, refl), refl), (((refl, refl, refl, refl), refl), (((refl, refl, refl, refl), refl), (((refl, refl, refl, refl), refl), (((refl, refl, refl, refl), refl), (((refl, refl, refl, refl), refl), (((refl, refl, refl, refl), refl), (((refl, refl, refl, refl), refl), (((refl, refl, refl, refl), refl), (((refl, refl, refl, refl), refl), (((refl, refl, refl, refl), refl), (((refl, refl, refl, refl), refl), (((refl, refl, refl, refl), refl), (((refl, refl, refl, refl), refl), (((refl, refl, refl, refl), refl), (((refl, refl, refl, refl), refl), (((refl, refl, refl, refl), refl), (((refl, refl, refl, refl), refl), (((refl, refl, refl, refl), refl), (((refl, refl, refl, refl), refl), (((refl, refl, refl, refl), refl), (((refl, refl, refl, refl), refl), (((refl, refl, refl, refl), refl), (((refl, refl, refl, refl), refl), (((refl, refl, refl, refl), refl), (((refl, refl, refl, refl), (refl, refl, refl, refl)), (((refl, refl, refl, refl), refl), (((refl, refl, refl, refl), refl), (((refl, refl, refl, refl), refl), (((refl, refl, refl, refl), refl), tt))))))))))))))))))))))))))))))))))))))

at_index : (k : ℕ) (table : List (List ℕ)) (i : ℕ) (bytes : List ℕ) → AllListed k table → slice_get table i ≡ Some bytes → IsApart (get_or bytes 0 0) × IsListed (k + i) bytes
at_index k [] i bytes all e = absurd (none-some bytes e)
at_index k (x ∷ xs) zero bytes all e =
    let same = same_Some x bytes e in
    let z : k ≡ k + 0 = omega arith in
    subst (λ (j : ℕ). IsApart (get_or bytes 0 0) × IsListed j bytes) z (subst (λ (y : List ℕ). IsApart (get_or y 0 0) × IsListed k y) same all.0)
at_index k (x ∷ xs) (suc i) bytes all e =
    let z : suc k + i ≡ k + suc i = omega arith in
    subst (λ (j : ℕ). IsApart (get_or bytes 0 0) × IsListed j bytes) z (at_index (suc k) xs i bytes all.1 e)

pub listed : (sign : ℕ) (bytes : List ℕ) → slice_get signs sign ≡ Some bytes → IsApart (get_or bytes 0 0) × IsListed sign bytes
listed sign bytes e =
    let z : 0 + sign ≡ sign = omega arith in
    subst (λ (j : ℕ). IsApart (get_or bytes 0 0) × IsListed j bytes) z (at_index 0 signs sign bytes all_listed e)

abbrev SingleAt : ℕ → ℕ → Type 0
SingleAt b s = Some (b ∷ []) ≡ slice_get signs s

abbrev PairAt : ℕ → ℕ → ℕ → Type 0
PairAt a b s = Some (a ∷ b ∷ []) ≡ slice_get signs s

pair_at : (a b m n s : ℕ) → (eqb a m && eqb b n) ≡ true → Some (m ∷ n ∷ []) ≡ slice_get signs s → PairAt a b s
pair_at a b m n s t e =
    let p = and_parts (eqb a m) (eqb b n) t in
    ap (λ (x : ℕ). Some (x ∷ b ∷ [])) (eqb-true a m p.0) ∙ ap (λ (x : ℕ). Some (m ∷ x ∷ [])) (eqb-true b n p.1) ∙ e

single_found : (b s : ℕ) → single_sign b ≡ Some s → SingleAt b s
unfolding single_sign signs
single_found b s =
    (step (eqb b 123) 0 s _ (SingleAt b) (λ t. ap (λ (x : ℕ). Some (x ∷ [])) (eqb-true b 123 t))
    (step (eqb b 125) 1 s _ (SingleAt b) (λ t. ap (λ (x : ℕ). Some (x ∷ [])) (eqb-true b 125 t))
    (step (eqb b 40) 2 s _ (SingleAt b) (λ t. ap (λ (x : ℕ). Some (x ∷ [])) (eqb-true b 40 t))
    (step (eqb b 41) 3 s _ (SingleAt b) (λ t. ap (λ (x : ℕ). Some (x ∷ [])) (eqb-true b 41 t))
    (step (eqb b 91) 4 s _ (SingleAt b) (λ t. ap (λ (x : ℕ). Some (x ∷ [])) (eqb-true b 91 t))
    (step (eqb b 93) 5 s _ (SingleAt b) (λ t. ap (λ (x : ℕ). Some (x ∷ [])) (eqb-true b 93 t))
    (step (eqb b 59) 6 s _ (SingleAt b) (λ t. ap (λ (x : ℕ). Some (x ∷ [])) (eqb-true b 59 t))
    (step (eqb b 44) 7 s _ (SingleAt b) (λ t. ap (λ (x : ℕ). Some (x ∷ [])) (eqb-true b 44 t))
    (step (eqb b 46) 8 s _ (SingleAt b) (λ t. ap (λ (x : ℕ). Some (x ∷ [])) (eqb-true b 46 t))
    (step (eqb b 61) 9 s _ (SingleAt b) (λ t. ap (λ (x : ℕ). Some (x ∷ [])) (eqb-true b 61 t))
    (step (eqb b 60) 10 s _ (SingleAt b) (λ t. ap (λ (x : ℕ). Some (x ∷ [])) (eqb-true b 60 t))
    (step (eqb b 62) 11 s _ (SingleAt b) (λ t. ap (λ (x : ℕ). Some (x ∷ [])) (eqb-true b 62 t))
    (step (eqb b 33) 12 s _ (SingleAt b) (λ t. ap (λ (x : ℕ). Some (x ∷ [])) (eqb-true b 33 t))
    (step (eqb b 126) 13 s _ (SingleAt b) (λ t. ap (λ (x : ℕ). Some (x ∷ [])) (eqb-true b 126 t))
    (step (eqb b 63) 14 s _ (SingleAt b) (λ t. ap (λ (x : ℕ). Some (x ∷ [])) (eqb-true b 63 t))
    (step (eqb b 58) 15 s _ (SingleAt b) (λ t. ap (λ (x : ℕ). Some (x ∷ [])) (eqb-true b 58 t))
    (step (eqb b 43) 16 s _ (SingleAt b) (λ t. ap (λ (x : ℕ). Some (x ∷ [])) (eqb-true b 43 t))
    (step (eqb b 45) 17 s _ (SingleAt b) (λ t. ap (λ (x : ℕ). Some (x ∷ [])) (eqb-true b 45 t))
    (step (eqb b 42) 18 s _ (SingleAt b) (λ t. ap (λ (x : ℕ). Some (x ∷ [])) (eqb-true b 42 t))
    (step (eqb b 47) 19 s _ (SingleAt b) (λ t. ap (λ (x : ℕ). Some (x ∷ [])) (eqb-true b 47 t))
    (step (eqb b 37) 20 s _ (SingleAt b) (λ t. ap (λ (x : ℕ). Some (x ∷ [])) (eqb-true b 37 t))
    (step (eqb b 38) 21 s _ (SingleAt b) (λ t. ap (λ (x : ℕ). Some (x ∷ [])) (eqb-true b 38 t))
    (step (eqb b 124) 22 s _ (SingleAt b) (λ t. ap (λ (x : ℕ). Some (x ∷ [])) (eqb-true b 124 t))
    (step (eqb b 94) 23 s _ (SingleAt b) (λ t. ap (λ (x : ℕ). Some (x ∷ [])) (eqb-true b 94 t))
    (step (eqb b 64) 24 s _ (SingleAt b) (λ t. ap (λ (x : ℕ). Some (x ∷ [])) (eqb-true b 64 t))
    (λ (e : None ≡ Some s). absurd (none-some s e)))))))))))))))))))))))))))

pair_found : (a b s : ℕ) → pair_sign a b ≡ Some s → PairAt a b s
unfolding pair_sign signs
pair_found a b s =
    (step (eqb a 61 && eqb b 61) 25 s _ (PairAt a b) (λ t. pair_at a b 61 61 25 t refl)
    (step (eqb a 33 && eqb b 61) 26 s _ (PairAt a b) (λ t. pair_at a b 33 61 26 t refl)
    (step (eqb a 60 && eqb b 61) 27 s _ (PairAt a b) (λ t. pair_at a b 60 61 27 t refl)
    (step (eqb a 62 && eqb b 61) 28 s _ (PairAt a b) (λ t. pair_at a b 62 61 28 t refl)
    (step (eqb a 38 && eqb b 38) 29 s _ (PairAt a b) (λ t. pair_at a b 38 38 29 t refl)
    (step (eqb a 124 && eqb b 124) 30 s _ (PairAt a b) (λ t. pair_at a b 124 124 30 t refl)
    (step (eqb a 60 && eqb b 60) 31 s _ (PairAt a b) (λ t. pair_at a b 60 60 31 t refl)
    (step (eqb a 62 && eqb b 62) 32 s _ (PairAt a b) (λ t. pair_at a b 62 62 32 t refl)
    (step (eqb a 43 && eqb b 61) 34 s _ (PairAt a b) (λ t. pair_at a b 43 61 34 t refl)
    (step (eqb a 45 && eqb b 61) 35 s _ (PairAt a b) (λ t. pair_at a b 45 61 35 t refl)
    (step (eqb a 43 && eqb b 43) 36 s _ (PairAt a b) (λ t. pair_at a b 43 43 36 t refl)
    (step (eqb a 45 && eqb b 45) 37 s _ (PairAt a b) (λ t. pair_at a b 45 45 37 t refl)
    (λ (e : None ≡ Some s). absurd (none-some s e))))))))))))))

triple_found : Some (62 ∷ 62 ∷ 62 ∷ []) ≡ slice_get signs 33
unfolding signs
triple_found = refl

second_some : (a b m n : ℕ) → (eqb a m && eqb b n) ≡ true → 0 < n → 0 < b
second_some a b m n t some = let p = and_parts (eqb a m) (eqb b n) t in omega (arith, some, eqb-true b n p.1)

-- the second byte of a sign isn't 0
pair_known : (a b s : ℕ) → pair_sign a b ≡ Some s → 0 < b
unfolding pair_sign
pair_known a b s =
    (step (eqb a 61 && eqb b 61) 25 s _ (λ _. 0 < b) (λ t. second_some a b 61 61 t (omega arith))
    (step (eqb a 33 && eqb b 61) 26 s _ (λ _. 0 < b) (λ t. second_some a b 33 61 t (omega arith))
    (step (eqb a 60 && eqb b 61) 27 s _ (λ _. 0 < b) (λ t. second_some a b 60 61 t (omega arith))
    (step (eqb a 62 && eqb b 61) 28 s _ (λ _. 0 < b) (λ t. second_some a b 62 61 t (omega arith))
    (step (eqb a 38 && eqb b 38) 29 s _ (λ _. 0 < b) (λ t. second_some a b 38 38 t (omega arith))
    (step (eqb a 124 && eqb b 124) 30 s _ (λ _. 0 < b) (λ t. second_some a b 124 124 t (omega arith))
    (step (eqb a 60 && eqb b 60) 31 s _ (λ _. 0 < b) (λ t. second_some a b 60 60 t (omega arith))
    (step (eqb a 62 && eqb b 62) 32 s _ (λ _. 0 < b) (λ t. second_some a b 62 62 t (omega arith))
    (step (eqb a 43 && eqb b 61) 34 s _ (λ _. 0 < b) (λ t. second_some a b 43 61 t (omega arith))
    (step (eqb a 45 && eqb b 61) 35 s _ (λ _. 0 < b) (λ t. second_some a b 45 61 t (omega arith))
    (step (eqb a 43 && eqb b 43) 36 s _ (λ _. 0 < b) (λ t. second_some a b 43 43 t (omega arith))
    (step (eqb a 45 && eqb b 45) 37 s _ (λ _. 0 < b) (λ t. second_some a b 45 45 t (omega arith))
    (λ (e : None ≡ Some s). absurd (none-some s e))))))))))))))

no_pair_end : (a : ℕ) → pair_sign a 0 ≡ None
no_pair_end a = elim (pair_sign a 0) as (λ o. pair_sign a 0 ≡ o → o ≡ None) [
  | None ↦ λ e. refl
  | Some s ↦ λ e. let known = pair_known a 0 s e in absurd (omega (arith, known))
] refl

-- ---- the longest sign at the front

abbrev is_triple : ℕ → ℕ → ℕ → Bool
is_triple a b c = eqb a 62 && eqb b 62 && eqb c 62

triple_parts : (a b c : ℕ) → is_triple a b c ≡ true → (a ≡ 62) × (b ≡ 62) × (c ≡ 62)
triple_parts a b c t =
    let p = and_parts (eqb a 62 && eqb b 62) (eqb c 62) t in
    let q = and_parts (eqb a 62) (eqb b 62) p.0 in
    (eqb-true a 62 q.0, eqb-true b 62 q.1, eqb-true c 62 p.1)

triple_rest : (a : ℕ) (rest : List ℕ) → is_triple a (get_or rest 0 0) (get_or rest 1 0) ≡ true → (more : List ℕ) × (a ∷ rest ≡ (62 ∷ 62 ∷ 62 ∷ []) ++ more)
triple_rest a [] t = absurd (omega (arith, (triple_parts a 0 0 t).1))
triple_rest a (b ∷ []) t = absurd (omega (arith, (triple_parts a b 0 t).2))
triple_rest a (b ∷ c ∷ more) t =
    let p = triple_parts a b c t in (more, cc)

-- one byte, with nothing longer
abbrev with_one : Option ℕ → Option (ℕ × ℕ)
with_one o = option_map (λ sign. (sign, 1)) o

abbrev with_two : Option ℕ → Option (ℕ × ℕ)
with_two o = option_map (λ sign. (sign, 2)) o

abbrev ByOne : ℕ → Option (ℕ × ℕ)
ByOne a = with_one (single_sign a)

abbrev ByTwo : ℕ → ℕ → Option (ℕ × ℕ)
ByTwo a b = with_two (pair_sign a b)

sign_at-is : (a : ℕ) (rest : List ℕ) → sign_at (a ∷ rest) ≡ cond (is_triple a (get_or rest 0 0) (get_or rest 1 0)) (Some (33, 3)) (or_else (ByTwo a (get_or rest 0 0)) (ByOne a))
unfolding sign_at
sign_at-is a rest = refl

by_three : (a : ℕ) (rest : List ℕ) → is_triple a (get_or rest 0 0) (get_or rest 1 0) ≡ true → sign_at (a ∷ rest) ≡ Some (33, 3)
by_three a rest t = sign_at-is a rest ∙ cond-true _ _ _ t

by_two : (a : ℕ) (rest : List ℕ) (s : ℕ) → is_triple a (get_or rest 0 0) (get_or rest 1 0) ≡ false → pair_sign a (get_or rest 0 0) ≡ Some s → sign_at (a ∷ rest) ≡ Some (s, 2)
by_two a rest s f e = sign_at-is a rest ∙ cond-false _ _ _ f ∙ ap (λ (o : Option ℕ). or_else (with_two o) (ByOne a)) e

by_one : (a : ℕ) (rest : List ℕ) → is_triple a (get_or rest 0 0) (get_or rest 1 0) ≡ false → pair_sign a (get_or rest 0 0) ≡ None → sign_at (a ∷ rest) ≡ ByOne a
by_one a rest f e = sign_at-is a rest ∙ cond-false _ _ _ f ∙ ap (λ (o : Option ℕ). or_else (with_two o) (ByOne a)) e

-- a sign's number and length, with what they come from
data Kind (a : ℕ) (rest : List ℕ) (s n : ℕ) : Type 0 where
  three : is_triple a (get_or rest 0 0) (get_or rest 1 0) ≡ true → s ≡ 33 → n ≡ 3 → Kind a rest s n
  two : pair_sign a (get_or rest 0 0) ≡ Some s → n ≡ 2 → Kind a rest s n
  one : single_sign a ≡ Some s → n ≡ 1 → Kind a rest s n

one_of : (a : ℕ) (rest : List ℕ) (s n : ℕ) (o : Option ℕ) → single_sign a ≡ o → with_one o ≡ Some (s, n) → Kind a rest s n
one_of a rest s n None e h = absurd (none-some (s, n) h)
one_of a rest s n (Some k) e h =
    let p = same_Some (k, 1) (s, n) h in
    one (e ∙ ap (λ (x : ℕ × ℕ). Some x.0) p) (sym (ap (λ (x : ℕ × ℕ). x.1) p))

two_of : (a : ℕ) (rest : List ℕ) (s n : ℕ) (o : Option ℕ) → is_triple a (get_or rest 0 0) (get_or rest 1 0) ≡ false → pair_sign a (get_or rest 0 0) ≡ o → sign_at (a ∷ rest) ≡ Some (s, n) → Kind a rest s n
two_of a rest s n None f e h = one_of a rest s n (single_sign a) refl (sym (by_one a rest f e) ∙ h)
two_of a rest s n (Some k) f e h =
    let p = same_Some (k, 2) (s, n) (sym (by_two a rest k f e) ∙ h) in
    two (e ∙ ap (λ (x : ℕ × ℕ). Some x.0) p) (sym (ap (λ (x : ℕ × ℕ). x.1) p))

kind_at : (a : ℕ) (rest : List ℕ) (s n : ℕ) → sign_at (a ∷ rest) ≡ Some (s, n) → Kind a rest s n
kind_at a rest s n h = elim (cases_Bool (is_triple a (get_or rest 0 0) (get_or rest 1 0))) [
  | inl t ↦
      let p = same_Some (33, 3) (s, n) (sym (by_three a rest t) ∙ h) in
      three t (sym (ap (λ (x : ℕ × ℕ). x.0) p)) (sym (ap (λ (x : ℕ × ℕ). x.1) p))
  | inr f ↦ two_of a rest s n (pair_sign a (get_or rest 0 0)) f refl h
]

kind_some : (a : ℕ) (rest : List ℕ) (s n : ℕ) → Kind a rest s n → 0 < n
kind_some a rest s n (three t e k) = omega (arith, k)
kind_some a rest s n (two e k) = omega (arith, k)
kind_some a rest s n (one e k) = omega (arith, k)

longest_in : (longer more : List ℕ) (j s n : ℕ) → IsListed j longer → sign_at (longer ++ more) ≡ Some (s, n) → length longer ≤ n
longest_in [] more j s n l e = absurd l
longest_in (a ∷ []) more j s n l e = let some = kind_some a more s n (kind_at a more s n e) in omega arith
longest_in (a ∷ b ∷ []) more j s n l e = elim (cases_Bool (is_triple a b (get_or more 0 0))) [
  | inl t ↦ let k = ap (λ (x : ℕ × ℕ). x.1) (same_Some (33, 3) (s, n) (sym (by_three a (b ∷ more) t) ∙ e)) in omega (arith, k)
  | inr f ↦ let k = ap (λ (x : ℕ × ℕ). x.1) (same_Some (j, 2) (s, n) (sym (by_two a (b ∷ more) j f l) ∙ e)) in omega (arith, k)
]
longest_in (a ∷ b ∷ c ∷ []) more j s n l e =
    let t : is_triple a b c ≡ true = and_from _ _ (and_from _ _ (eq-eqb a 62 l.0) (eq-eqb b 62 l.1)) (eq-eqb c 62 l.2) in
    let k = ap (λ (x : ℕ × ℕ). x.1) (same_Some (33, 3) (s, n) (sym (by_three a (b ∷ c ∷ more) t) ∙ e)) in omega (arith, k)
longest_in (a ∷ b ∷ c ∷ d ∷ longer) more j s n l e = absurd l

longest_at : (bytes rest : List ℕ) (s n : ℕ) → length bytes ≡ n → sign_at (bytes ++ rest) ≡ Some (s, n) → IsLongest bytes rest
longest_at bytes rest s n long e sign longer more is parts =
    let le = longest_in longer more sign s n (listed sign longer is).1 (ap sign_at (sym parts) ∙ e) in omega (arith, le, long)

pub record SignFound (text : List ℕ) (s n : ℕ) : Type 0 where
  pub bytes : List ℕ
  pub rest : List ℕ
  pub parts : text ≡ bytes ++ rest
  pub long : length bytes ≡ n
  pub some : 0 < n
  pub is : slice_get signs s ≡ Some bytes
  pub longest : IsLongest bytes rest

found_at : (text bytes rest : List ℕ) (s n : ℕ) → text ≡ bytes ++ rest → length bytes ≡ n → 0 < n → slice_get signs s ≡ Some bytes → sign_at text ≡ Some (s, n) → SignFound text s n
found_at text bytes rest s n parts long some is e =
    record { bytes = bytes; rest = rest; parts = parts; long = long; some = some; is = is; longest = longest_at bytes rest s n long (ap sign_at (sym parts) ∙ e) }

two_found : (a : ℕ) (rest : List ℕ) (s n : ℕ) → pair_sign a (get_or rest 0 0) ≡ Some s → n ≡ 2 → sign_at (a ∷ rest) ≡ Some (s, n) → SignFound (a ∷ rest) s n
two_found a [] s n k is e = absurd (none-some s (sym (no_pair_end a) ∙ k))
two_found a (b ∷ rest) s n k is e = found_at (a ∷ b ∷ rest) (a ∷ b ∷ []) rest s n refl (sym is) (omega (arith, is)) (sym (pair_found a b s k)) e

of_kind : (a : ℕ) (rest : List ℕ) (s n : ℕ) → Kind a rest s n → sign_at (a ∷ rest) ≡ Some (s, n) → SignFound (a ∷ rest) s n
of_kind a rest s n (three t is k) e =
    let r = triple_rest a rest t in
    found_at (a ∷ rest) (62 ∷ 62 ∷ 62 ∷ []) r.0 s n r.1 (sym k) (omega (arith, k)) (ap (slice_get signs) is ∙ sym triple_found) e
of_kind a rest s n (two k is) e = two_found a rest s n k is e
of_kind a rest s n (one k is) e = found_at (a ∷ rest) (a ∷ []) rest s n refl (sym is) (omega (arith, is)) (sym (single_found a s k)) e

pub sign_sound : (a : ℕ) (rest : List ℕ) (s n : ℕ) → sign_at (a ∷ rest) ≡ Some (s, n) → SignFound (a ∷ rest) s n
sign_sound a rest s n e = of_kind a rest s n (kind_at a rest s n e) e

no_triple : (a : ℕ) (rest bytes behind : List ℕ) → a ∷ rest ≡ bytes ++ behind → length bytes ≤ 2 → IsLongest bytes behind → is_triple a (get_or rest 0 0) (get_or rest 1 0) ≡ false
no_triple a rest bytes behind parts short longest = false_from_ne_true _ (λ t.
    let r = triple_rest a rest t in
    let le = longest 33 (62 ∷ 62 ∷ 62 ∷ []) r.0 (sym triple_found) (sym parts ∙ r.1) in
    omega (arith, le))

no_pair : (a : ℕ) (rest : List ℕ) → IsLongest (a ∷ []) rest → pair_sign a (get_or rest 0 0) ≡ None
no_pair a [] longest = no_pair_end a
no_pair a (b ∷ rest) longest = elim (pair_sign a b) as (λ o. pair_sign a b ≡ o → o ≡ None) [
  | None ↦ λ e. refl
  | Some s ↦ λ e. let le = longest s (a ∷ b ∷ []) rest (sym (pair_found a b s e)) refl in absurd (omega (arith, le))
] refl

complete_of : (s : ℕ) (bytes rest : List ℕ) → IsListed s bytes → IsLongest bytes rest → sign_at (bytes ++ rest) ≡ Some (s, length bytes)
complete_of s [] rest l longest = absurd l
complete_of s (a ∷ []) rest l longest =
    by_one a rest (no_triple a rest (a ∷ []) rest refl (omega arith) longest) (no_pair a rest longest) ∙ ap with_one l
complete_of s (a ∷ b ∷ []) rest l longest = by_two a (b ∷ rest) s (no_triple a (b ∷ rest) (a ∷ b ∷ []) rest refl (omega arith) longest) l
complete_of s (a ∷ b ∷ c ∷ []) rest l longest =
    let t : is_triple a b c ≡ true = and_from _ _ (and_from _ _ (eq-eqb a 62 l.0) (eq-eqb b 62 l.1)) (eq-eqb c 62 l.2) in
    by_three a (b ∷ c ∷ rest) t ∙ ap (λ (x : ℕ). Some (x, 3)) (sym l.3)
complete_of s (a ∷ b ∷ c ∷ d ∷ bytes) rest l longest = absurd l

pub sign_complete : (s : ℕ) (bytes rest : List ℕ) → slice_get signs s ≡ Some bytes → IsLongest bytes rest → sign_at (bytes ++ rest) ≡ Some (s, length bytes)
sign_complete s bytes rest is longest = complete_of s bytes rest (listed s bytes is).1 longest

-- `/` is a sign
pub slash_found : (rest : List ℕ) → sign_at (47 ∷ rest) ≡ None → ⊥
unfolding sign_at pair_sign single_sign
slash_found rest e = cc
