-- Beating and selection are stable; and beating is decided, so pairs that a checker lets through are settled.
use Rattle.std.proofs.Common.{◌≡◌, ◌≢◌, ℕ, zero, suc, List, [], ◌∷◌, map, flat_map, Some, ◌⊎◌, inl, inr, sym, subst}
use Rattle.std.specs.Prelude.{slice_get, ◌↔◌}
use Rattle.jp_pred.specs.declared.hier.Hier.{Hier}
use Rattle.jp_pred.specs.declared.ty.Ty.{Ty}
use Rattle.jp_pred.specs.declared.shape.Shape.{Shape}
use Rattle.jp_pred.specs.declared.guard.Guard.{Guard}
use Rattle.jp_pred.specs.Names.{Word, In, here, there}
use Rattle.jp_pred.specs.Universe.{IsUniverse, Extends}
use Rattle.jp_pred.specs.Implication.{root_types}
use Rattle.jp_pred.specs.Seen.{type_names, names_of, AreSeen}
use Rattle.jp_pred.specs.Selection.{Body, whole_guard, Beats, Applies, Selected, BeatsBoth, AreTypedBodies}
use Rattle.jp_pred.proofs.Visits.{some_same, in_right}
use Rattle.jp_pred.proofs.Entries.{split_in, in_left, in_append, in_map}
use Rattle.jp_pred.proofs.Searches.{Decided}
use Rattle.jp_pred.proofs.Stability.{implies_stable}
use Rattle.jp_pred.proofs.Refutations.{implication_decided, refuted_not}
use Rattle.jp_pred.proofs.Selections.{greatest}

named_among : (g : Guard) (gs : List Guard) (n : Word) → In g gs → In n (names_of g) → In n (flat_map names_of gs)
named_among g [] n i j = elim i [ ]
named_among g (x ∷ xs) n i j = elim (split_in x g xs i) [
  | inl e ↦ in_left (flat_map names_of xs) (subst (λ (y : Guard). In n (names_of y)) (sym e) j)
  | inr k ↦ in_right (names_of x) (named_among g xs n k j)
]

-- fewer guards name fewer classes
seen_fewer : (hier : Hier) (parameters : List Ty) (gs hs : List Guard) → ((g : Guard) → In g gs → In g hs) → AreSeen hier parameters hs → AreSeen hier parameters gs
seen_fewer hier parameters gs hs among seen n i = elim (in_append n (flat_map type_names (root_types parameters)) (flat_map names_of gs) i) [
  | inl j ↦ seen n (in_left (flat_map names_of hs) j)
  | inr j ↦ let w = named_by gs n j in seen n (in_right (flat_map type_names (root_types parameters)) (named_among w.0 hs n (among w.0 w.1) w.2))
]
  where
    named_by : (ks : List Guard) (m : Word) → In m (flat_map names_of ks) → (g : Guard) × In g ks × In m (names_of g)
    named_by [] m k = elim k [ ]
    named_by (x ∷ xs) m k = elim (in_append m (names_of x) (flat_map names_of xs) k) [
      | inl l ↦ (x, here, l)
      | inr l ↦ let w = named_by xs m l in (w.0, there w.1, w.2)
    ]

only_two : (a b g : Guard) → In g (a ∷ b ∷ []) → (a ≡ g) ⊎ (b ≡ g)
only_two a b g i = elim (split_in a g (b ∷ []) i) [
  | inl e ↦ inl e
  | inr j ↦ elim (split_in b g [] j) [ inl e ↦ inr e | inr k ↦ elim k [ ] ]
]

got_in : {X : Type 0} (xs : List X) (i : ℕ) (x : X) → slice_get xs i ≡ Some x → In x xs
got_in [] i x e = absurd cc
got_in (y ∷ ys) zero x e = subst (λ z. In z (y ∷ ys)) (some_same y x e) here
got_in (y ∷ ys) (suc i) x e = there (got_in ys i x e)

module _ (hier : Hier) (parameters : List Ty) where
  seen_two : (a b : Guard) (gs : List Guard) → In a gs → In b gs → AreSeen hier parameters gs → AreSeen hier parameters (a ∷ b ∷ [])
  seen_two a b gs i j = seen_fewer hier parameters (a ∷ b ∷ []) gs (λ g k. elim (only_two a b g k) [
    | inl e ↦ subst (λ (x : Guard). In x gs) e i
    | inr e ↦ subst (λ (x : Guard). In x gs) e j
  ])

  seen_bodies : (chain : List Body) (i j : ℕ) (a b : Body) → slice_get chain i ≡ Some a → slice_get chain j ≡ Some b → AreSeen hier parameters (map whole_guard chain) →
      AreSeen hier parameters (whole_guard a ∷ whole_guard b ∷ [])
  seen_bodies chain i j a b p q = seen_two (whole_guard a) (whole_guard b) (map whole_guard chain) (in_map whole_guard (got_in chain i a p)) (in_map whole_guard (got_in chain j b q))

  seen_back : (a b : Body) → AreSeen hier parameters (whole_guard a ∷ whole_guard b ∷ []) → AreSeen hier parameters (whole_guard b ∷ whole_guard a ∷ [])
  seen_back a b = seen_two (whole_guard b) (whole_guard a) (whole_guard a ∷ whole_guard b ∷ []) (there here) here

pub beats_stable : (universe hier : Hier) (parameters : List Ty) (a b : Body) → IsUniverse hier → AreSeen hier parameters (whole_guard a ∷ whole_guard b ∷ []) → Extends universe hier →
    Beats hier parameters a b ↔ Beats universe parameters a b
beats_stable universe hier parameters a b valid seen e =
    let s = implies_stable universe hier parameters (whole_guard a) (whole_guard b) valid seen e in
    let t = implies_stable universe hier parameters (whole_guard b) (whole_guard a) valid (seen_back hier parameters a b seen) e in (
      (λ x. record { implies = s.0 x.implies; strictly = λ i. x.strictly (t.1 i) }),
      (λ x. record { implies = s.1 x.implies; strictly = λ i. x.strictly (t.0 i) }),
    )

pub selection_stable : (larger hier : Hier) (parameters : List Ty) (universe : Hier) (shape : Shape) (chain : List Body) (i : ℕ) → IsUniverse hier → AreSeen hier parameters (map whole_guard chain) → Extends larger hier →
    Selected hier parameters universe shape chain i ↔ Selected larger parameters universe shape chain i
selection_stable larger hier parameters universe shape chain i valid seen e = (
  (λ x. record { applies = x.applies; beats = λ j other ne. (pair j x.applies other).0 (x.beats j other ne) }),
  (λ x. record { applies = x.applies; beats = λ j other ne. (pair j x.applies other).1 (x.beats j other ne) }),
)
  where
    pair : (j : ℕ) (a : Applies universe shape chain i) (b : Applies universe shape chain j) → Beats hier parameters a.body b.body ↔ Beats larger parameters a.body b.body
    pair j a b = beats_stable larger hier parameters a.body b.body valid (seen_bodies hier parameters chain i j a.body b.body a.at b.at seen) e

beats_decided : (hier : Hier) (parameters : List Ty) (a b : Body) → IsUniverse hier → AreSeen hier parameters (whole_guard a ∷ whole_guard b ∷ []) → Decided (Beats hier parameters a b)
beats_decided hier parameters a b valid seen = elim (implication_decided hier parameters (whole_guard a) (whole_guard b) valid seen) [
  | inr r ↦ inr (λ x. refuted_not hier parameters (whole_guard a) (whole_guard b) valid r x.implies)
  | inl i ↦ elim (implication_decided hier parameters (whole_guard b) (whole_guard a) valid (seen_back hier parameters a b seen)) [
    | inl j ↦ inr (λ x. x.strictly j)
    | inr r ↦ inl (record { implies = i; strictly = refuted_not hier parameters (whole_guard b) (whole_guard a) valid r })
  ]
]

pub checked_select : (hier : Hier) (parameters : List Ty) (universe : Hier) (shape : Shape) (chain : List Body) → IsUniverse hier → AreSeen hier parameters (map whole_guard chain) → AreTypedBodies hier parameters chain →
    ((i j : ℕ) (a : Applies universe shape chain i) (b : Applies universe shape chain j) → i ≢ j → (Beats hier parameters a.body b.body → ⊥) → (Beats hier parameters b.body a.body → ⊥) →
    BeatsBoth hier parameters universe shape chain a.body b.body) →
    (i : ℕ) → Applies universe shape chain i → (m : ℕ) × Selected hier parameters universe shape chain m
checked_select hier parameters universe shape chain valid seen typed checked = greatest hier parameters universe shape chain typed (λ i j a b ne.
    let here' = seen_bodies hier parameters chain i j a.body b.body a.at b.at seen in
    elim (beats_decided hier parameters a.body b.body valid here') [
      | inl x ↦ inl x
      | inr nx ↦ elim (beats_decided hier parameters b.body a.body valid (seen_back hier parameters a.body b.body here')) [
        | inl y ↦ inr (inl y)
        | inr ny ↦ inr (inr (checked i j a b ne nx ny))
      ]
    ])
