-- Where names stand in lists.
use Rattle.std.proofs.Common.{◌≡◌, ℕ, zero, suc, ◌+◌, Bool, true, false, List, [], ◌∷◌, length, map, Option, Some, None, refl, sym, ap, ◌∙◌, subst, arith}
use Rattle.std.specs.Prelude.{not, cond, nat_lt, position, slice_get, if◌then◌else◌}
use Rattle.std.specs.List.{prefix_len, position_or_len}
use Rattle.std.proofs.lemmas.Bool.{false≢true, lt-ltb, false_from_ne_true}
use Rattle.std.proofs.lemmas.Option.{none-some, same_Some, slice_get_within}
use Rattle.jp_pred.specs.declared.hier.SeenClass.{SeenClass}
use Rattle.jp_pred.specs.Names.{Word, same, In, here, there, AreDistinct}
use Rattle.jp_pred.specs.Hierarchy.{class_named}
use Rattle.jp_pred.proofs.Ascents.{same_true, same_refl}

module _ {A : Type 0} (p : A → Bool) where
  -- the only one that passes
  only_at : (xs : List A) (a : ℕ) (x : A) → slice_get xs a ≡ Some x → p x ≡ true → ((i : ℕ) (y : A) → slice_get xs i ≡ Some y → p y ≡ true → i ≡ a) → position_or_len p xs ≡ a
  only_at [] a x e h one = absurd (none-some x e)
  only_at (z ∷ zs) zero x e h one = ap (λ b. cond (not b) (1 + prefix_len (λ y. not (p y)) zs) 0) (ap p (same_Some z x e) ∙ h)
  only_at (z ∷ zs) (suc a) x e h one = by_first (p z) refl (only_at zs a x e h (λ i y there passes. omega (arith, one (suc i) y there passes))) where
    by_first : (b : Bool) → p z ≡ b → position_or_len p zs ≡ a → position_or_len p (z ∷ zs) ≡ suc a
    by_first true k rest = absurd (omega (arith, one zero z refl k))
    by_first false k rest =
        let e : 1 + a ≡ suc a = omega arith in
        ap (λ b. cond (not b) (1 + prefix_len (λ y. not (p y)) zs) 0) k ∙ ap (λ n. 1 + n) rest ∙ e

  pub only_position : (xs : List A) (a : ℕ) (x : A) → slice_get xs a ≡ Some x → p x ≡ true → ((i : ℕ) (y : A) → slice_get xs i ≡ Some y → p y ≡ true → i ≡ a) → position p xs ≡ Some a
  only_position xs a x e h one =
      ap (λ n. if nat_lt n (length xs) then Some n else None) (only_at xs a x e h one)
      ∙ ap (λ b. if b then Some a else None) (lt-ltb a (length xs) (slice_get_within xs a x e))

  none_before : (xs : List A) → ((i : ℕ) (y : A) → slice_get xs i ≡ Some y → p y ≡ false) → position_or_len p xs ≡ length xs
  none_before [] none = refl
  none_before (z ∷ zs) none =
      let e : 1 + length zs ≡ suc (length zs) = omega arith in
      ap (λ b. cond (not b) (1 + prefix_len (λ y. not (p y)) zs) 0) (none zero z refl) ∙ ap (λ n. 1 + n) (none_before zs (λ i y e. none (suc i) y e)) ∙ e

  -- none that passes
  pub no_position : (xs : List A) → ((i : ℕ) (y : A) → slice_get xs i ≡ Some y → p y ≡ false) → position p xs ≡ None
  no_position xs none = ap (λ n. if nat_lt n (length xs) then Some n else None) (none_before xs none) ∙ ap (λ b. if b then Some (length xs) else None) (self (length xs)) where
    self : (n : ℕ) → nat_lt n n ≡ false
    self n = search arith

pub in_there : {A : Type 0} (xs : List A) (i : ℕ) (x : A) → slice_get xs i ≡ Some x → In x xs
in_there [] i x e = absurd (none-some x e)
in_there (z ∷ xs) zero x e = subst (λ y. In y (z ∷ xs)) (same_Some z x e) here
in_there (z ∷ xs) (suc i) x e = there (in_there xs i x e)

-- what stands in a list once stands at one place
pub one_place : {A : Type 0} (xs : List A) (i j : ℕ) (x : A) → AreDistinct xs → slice_get xs i ≡ Some x → slice_get xs j ≡ Some x → i ≡ j
one_place [] i j x apart e f = absurd (none-some x e)
one_place (z ∷ xs) zero zero x apart e f = refl
one_place (z ∷ xs) zero (suc j) x apart e f = absurd (apart.0 (subst (λ y. In y xs) (sym (same_Some z x e)) (in_there xs j x f)))
one_place (z ∷ xs) (suc i) zero x apart e f = absurd (apart.0 (subst (λ y. In y xs) (sym (same_Some z x f)) (in_there xs i x e)))
one_place (z ∷ xs) (suc i) (suc j) x apart e f = ap suc (one_place xs i j x apart.1 e f)

pub in_mapped : {A B : Type 0} (f : A → B) (xs : List A) (i : ℕ) (x : A) → slice_get xs i ≡ Some x → In (f x) (map f xs)
in_mapped f [] i x e = absurd (none-some x e)
in_mapped f (z ∷ xs) zero x e = subst (λ y. In y (f z ∷ map f xs)) (ap f (same_Some z x e)) here
in_mapped f (z ∷ xs) (suc i) x e = there (in_mapped f xs i x e)

abbrev name_of : SeenClass → Word
name_of c = c.name

-- an entry is found by its name
pub named_first : (cs : List SeenClass) (i : ℕ) (c : SeenClass) → AreDistinct (map (λ c. c.name) cs) → slice_get cs i ≡ Some c → class_named c.name cs ≡ Some c
named_first [] i c apart e = absurd (none-some c e)
named_first (z ∷ cs) zero c apart e =
    let is = same_Some z c e in
    ap (λ b. cond b (Some z) (class_named c.name cs)) (ap (λ (x : SeenClass). same x.name c.name) is ∙ same_refl c.name) ∙ ap Some is
named_first (z ∷ cs) (suc i) c apart e =
    ap (λ b. cond b (Some z) (class_named c.name cs)) (false_from_ne_true (same z.name c.name) (λ k.
    apart.0 (subst (λ (y : Word). In y (map (λ c. c.name) cs)) (sym (same_true z.name c.name k)) (in_mapped name_of cs i c e))))
    ∙ named_first cs i c apart.1 e

-- an entry that is found stands there
pub found_at : (name : Word) (cs : List SeenClass) (c : SeenClass) → class_named name cs ≡ Some c → (i : ℕ) × (slice_get cs i ≡ Some c) × (c.name ≡ name)
found_at name [] c e = absurd (none-some c e)
found_at name (z ∷ cs) c e = by_first (same z.name name) refl e (found_at name cs c) where
  by_first : (b : Bool) → same z.name name ≡ b → cond b (Some z) (class_named name cs) ≡ Some c → (class_named name cs ≡ Some c → (i : ℕ) × (slice_get cs i ≡ Some c) × (c.name ≡ name)) →
      (i : ℕ) × (slice_get (z ∷ cs) i ≡ Some c) × (c.name ≡ name)
  by_first true k e rec = (zero, e, subst (λ (x : SeenClass). x.name ≡ name) (same_Some z c e) (same_true z.name name k))
  by_first false k e rec = let r = rec e in (suc r.0, r.1, r.2)

-- a name that no entry has
pub none_named : (name : Word) (cs : List SeenClass) → (In name (map (λ c. c.name) cs) → ⊥) → class_named name cs ≡ None
none_named name [] h = refl
none_named name (z ∷ cs) h =
    ap (λ b. cond b (Some z) (class_named name cs)) (false_from_ne_true (same z.name name) (λ k.
    h (subst (λ (y : Word). In y (z.name ∷ map (λ c. c.name) cs)) (same_true z.name name k) here)))
    ∙ none_named name cs (λ i. h (there i))
