-- Beating is an order, so at most one body is selected, and one is where each two true bodies are settled.
use Rattle.std.proofs.Common.{◌≡◌, ◌≢◌, ℕ, zero, suc, ◌+◌, ◌<◌, List, [], ◌∷◌, length, true, eqb, Some, None, ◌⊎◌, inl, inr, refl, sym, ◌∙◌, ap, subst, arith}
use Rattle.std.specs.Prelude.{slice_get}
use Rattle.std.proofs.lemmas.Bool.Decides.{Decides-eqb}
use Rattle.jp_pred.specs.declared.hier.Hier.{Hier}
use Rattle.jp_pred.specs.declared.ty.Ty.{Ty}
use Rattle.jp_pred.specs.declared.shape.Shape.{Shape}
use Rattle.jp_pred.specs.Truth.{is_true}
use Rattle.jp_pred.specs.Shapes.{AreTyped}
use Rattle.jp_pred.specs.Implication.{paths_of, root_types}
use Rattle.jp_pred.specs.Selection.{Body, whole_guard, Beats, Applies, Selected, Settles, AreTypedBodies}
use Rattle.jp_pred.proofs.Visits.{some_same, true_or_false}
use Rattle.jp_pred.proofs.Implied.{implies_trans}

pub equal_or_other : (i j : ℕ) → (i ≡ j) ⊎ (i ≢ j)
equal_or_other i j = elim (true_or_false (eqb i j)) [
  | inl t ↦ inl ((Decides-eqb i j).0 t)
  | inr f ↦ inr (λ e. let t : eqb i j ≡ true = (Decides-eqb i j).1 e in cc)
]

pub never_both_ways : (hier : Hier) (parameters : List Ty) (a b : Body) → Beats hier parameters a b → Beats hier parameters b a → ⊥
never_both_ways hier parameters a b x y = x.strictly y.implies

pub beats_trans : (hier : Hier) (parameters : List Ty) (a b c : Body) → AreTyped hier (root_types parameters) (paths_of (whole_guard a)) → AreTyped hier (root_types parameters) (paths_of (whole_guard b)) →
    Beats hier parameters a b → Beats hier parameters b c → Beats hier parameters a c
beats_trans hier parameters a b c typed_a typed_b x y = record {
  implies = implies_trans hier parameters (whole_guard a) (whole_guard b) (whole_guard c) typed_b x.implies y.implies;
  strictly = λ back. y.strictly (implies_trans hier parameters (whole_guard c) (whole_guard a) (whole_guard b) typed_a back x.implies);
}

pub one_selected : (hier : Hier) (parameters : List Ty) (universe : Hier) (shape : Shape) (chain : List Body) (i j : ℕ) →
    Selected hier parameters universe shape chain i → Selected hier parameters universe shape chain j → i ≡ j
one_selected hier parameters universe shape chain i j x y = elim (equal_or_other i j) [
  | inl e ↦ e
  | inr ne ↦ absurd (never_both_ways hier parameters x.applies.body y.applies.body (x.beats j y.applies (λ e. ne (sym e))) (y.beats i x.applies ne))
]

pub greatest_selected : (hier : Hier) (parameters : List Ty) (universe : Hier) (shape : Shape) (chain : List Body) (i : ℕ) (body : Applies universe shape chain i) →
    ((j : ℕ) (other : Applies universe shape chain j) → j ≢ i → Beats hier parameters body.body other.body) →
    Selected hier parameters universe shape chain i × ((j : ℕ) → Selected hier parameters universe shape chain j → j ≡ i)
greatest_selected hier parameters universe shape chain i body over =
    let s : Selected hier parameters universe shape chain i = record { applies = body; beats = over } in
    (s, λ j t. one_selected hier parameters universe shape chain j i t s)

module _ (hier : Hier) (parameters : List Ty) (universe : Hier) (shape : Shape) (chain : List Body) where
  same_body : (i : ℕ) (a b : Applies universe shape chain i) → a.body ≡ b.body
  same_body i a b = some_same a.body b.body (sym a.at ∙ b.at)

  applies_or_not : (i : ℕ) → Applies universe shape chain i ⊎ (Applies universe shape chain i → ⊥)
  applies_or_not i = elim (slice_get chain i) as (λ o. slice_get chain i ≡ o → Applies universe shape chain i ⊎ (Applies universe shape chain i → ⊥)) [
    | None ↦ λ e. inr (λ a. let k : None ≡ Some a.body = sym e ∙ a.at in cc)
    | Some b ↦ λ e. elim (true_or_false (is_true universe shape b.1)) [
      | inl t ↦ inl (record { body = b; at = e; true_there = t })
      | inr f ↦ inr (λ a.
          let q : a.body ≡ b = some_same a.body b (sym a.at ∙ e) in
          let t : is_true universe shape b.1 ≡ true = subst (λ (x : Body). is_true universe shape x.1 ≡ true) q a.true_there in
          cc)
    ]
  ] refl

  -- a true body that beats each other true one of the first n
  record Best (n : ℕ) : Type 0 where
    index : ℕ
    applies : Applies universe shape chain index
    beats : (j : ℕ) (other : Applies universe shape chain j) → j < n → j ≢ index → Beats hier parameters applies.body other.body

  module _ (typed : AreTypedBodies hier parameters chain) (settled : (i j : ℕ) (a : Applies universe shape chain i) (b : Applies universe shape chain j) → i ≢ j → Settles hier parameters universe shape chain a.body b.body) where
    through : {i j k : ℕ} (a : Applies universe shape chain i) (b : Applies universe shape chain j) (c : Applies universe shape chain k) →
        Beats hier parameters a.body b.body → Beats hier parameters b.body c.body → Beats hier parameters a.body c.body
    through {i} {j} {k} a b c x y = beats_trans hier parameters a.body b.body c.body (typed i a.body a.at) (typed j b.body b.at) x y

    -- one that beats the best so far and the next one is the best then
    takes_over : (n m : ℕ) (best : Best n) (new : Applies universe shape chain n) (a : Applies universe shape chain m) →
        (best.index ≡ m → ⊥) → Beats hier parameters a.body best.applies.body → ((m ≡ n → ⊥) → Beats hier parameters a.body new.body) → Best (n + 1)
    takes_over n m best new a apart over_best over_new = record {
      index = m;
      applies = a;
      beats = λ j other l ne. elim (equal_or_other j n) [
        | inl e ↦ subst (λ (x : Body). Beats hier parameters a.body x)
            (some_same new.body other.body (sym new.at ∙ (ap (λ k. slice_get chain k) (sym e) ∙ other.at)))
            (over_new (λ q. ne (e ∙ sym q)))
        | inr other_n ↦ elim (equal_or_other j best.index) [
          | inl e ↦ subst (λ (x : Body). Beats hier parameters a.body x)
              (some_same best.applies.body other.body (sym best.applies.at ∙ (ap (λ k. slice_get chain k) (sym e) ∙ other.at))) over_best
          | inr other_b ↦ through a best.applies other over_best (best.beats j other (omega arith) other_b)
        ]
      ];
    }

    stays : (n : ℕ) (best : Best n) → ((new : Applies universe shape chain n) → n ≢ best.index → Beats hier parameters best.applies.body new.body) → Best (n + 1)
    stays n best over = record {
      index = best.index;
      applies = best.applies;
      beats = λ j other l ne. elim (equal_or_other j n) [
        | inl e ↦ over' j other e ne
        | inr other_n ↦ best.beats j other (omega arith) ne
      ];
    }
      where
        over' : (j : ℕ) (other : Applies universe shape chain j) → j ≡ n → j ≢ best.index → Beats hier parameters best.applies.body other.body
        over' j other e ne =
            let new : Applies universe shape chain n = record { body = other.body; at = ap (λ k. slice_get chain k) (sym e) ∙ other.at; true_there = other.true_there } in
            over new (λ q. ne (e ∙ q))

    step : (n : ℕ) → Best n → Best (n + 1)
    step n best = elim (applies_or_not n) [
      | inr never ↦ stays n best (λ new. absurd (never new))
      | inl new ↦ elim (equal_or_other n best.index) [
        | inl e ↦ stays n best (λ other ne. absurd (ne e))
        | inr ne ↦ elim (settled best.index n best.applies new (λ e. ne (sym e))) [
          | inl first ↦ stays n best (λ other _. subst (λ (x : Body). Beats hier parameters best.applies.body x) (same_body n new other) first)
          | inr rest ↦ elim rest [
            | inl second ↦ takes_over n n best new new (λ e. ne (sym e)) second (λ q. absurd (q refl))
            | inr third ↦ takes_over n third.index best new third.applies
                (λ e. never_both_ways hier parameters third.applies.body third.applies.body
                (self third.index best e third.applies third.over_first) (self third.index best e third.applies third.over_first))
                third.over_first (λ q. third.over_second)
          ]
        ]
      ]
    ]
      where
        self : (m : ℕ) (b : Best n) → b.index ≡ m → (a : Applies universe shape chain m) → Beats hier parameters a.body b.applies.body → Beats hier parameters a.body a.body
        self m b e a x = subst (λ (y : Body). Beats hier parameters a.body y)
            (some_same b.applies.body a.body (sym b.applies.at ∙ (ap (λ k. slice_get chain k) e ∙ a.at))) x

    best_of : (n : ℕ) (i : ℕ) → Applies universe shape chain i → Best n
    best_of zero i a = record { index = i; applies = a; beats = λ j other l. absurd (omega arith) }
    best_of (suc n) i a = subst (λ (m : ℕ). Best m) (let e : n + 1 ≡ suc n = omega arith in e) (step n (best_of n i a))

    within : (j : ℕ) → Applies universe shape chain j → j < length chain
    within j a = there_is chain j a.body a.at
      where
        there_is : (bodies : List Body) (k : ℕ) (b : Body) → slice_get bodies k ≡ Some b → k < length bodies
        there_is [] k b e = absurd cc
        there_is (x ∷ xs) zero b e = omega arith
        there_is (x ∷ xs) (suc k) b e = let l = there_is xs k b e in omega arith

    pub greatest : (i : ℕ) → Applies universe shape chain i → (m : ℕ) × Selected hier parameters universe shape chain m
    greatest i a =
        let b = best_of (length chain) i a in
        (b.index, record { applies = b.applies; beats = λ j other ne. b.beats j other (within j other) ne })
