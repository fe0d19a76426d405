-- The walk upwards, step by step, that meets the classes above one.
use Rattle.std.proofs.Common.{◌≡◌, ℕ, zero, suc, ◌+◌, ◌<◌, ◌≤◌, Bool, true, false, ◌||◌, List, [], ◌∷◌, ◌++◌, length, map, take, get_or, flat_map, filter_map, Option, Some, None, ◌⊎◌, inl, inr, refl, sym, ap, ◌∙◌, subst, arith, eq-eqb, append_assoc, length-append, append-nil}
use Rattle.std.specs.Prelude.{◌==◌}
use Rattle.std.specs.List.{list_any, cons_option}
use Rattle.std.specs.Option.{option_map_or}
use Rattle.std.proofs.lemmas.Bool.Decides.{Decides-eqb}
use Rattle.std.proofs.lemmas.List.{take_more, map-append}
use Rattle.std.proofs.lemmas.List.Elements.{filter_map-append}
use Rattle.std.proofs.lemmas.List.Folds.{list_any-append}
use Rattle.std.proofs.lemmas.Grind.{flat_map-append}
use Rattle.std.proofs.lemmas.Option.{slice_get_past}
use Rattle.std.proofs.Math.Nat.{eq-or-lt_of_le}
use Rattle.std.proofs.Math.ListN.{get_or-append}
use Rattle.std.proofs.Math.Seq.{get_or-append_seam}
use Rattle.jp_store.specs.Classes.{Class, is_among, is_below_in, supers_of, supers_in}
use Rattle.jvm_load.specs.Above.{IsJoined, HoldsAbove, AreAbove}

-- truths

or_cases : (a b : Bool) → (a || b) ≡ true → (a ≡ true) ⊎ (b ≡ true)
or_cases true b h = inl refl
or_cases false b h = inr h

or_left : (a b : Bool) → a ≡ true → (a || b) ≡ true
or_left a b h = rw h refl

or_right : (a b : Bool) → b ≡ true → (a || b) ≡ true
or_right true b h = refl
or_right false b h = h

pub or_false : (a : Bool) → a ≡ (a || false)
or_false true = refl
or_false false = refl

or_same : (a : Bool) → a ≡ (a || a)
or_same true = refl
or_same false = refl

or_absorbs : (a b : Bool) → (b ≡ true → a ≡ true) → a ≡ (a || b)
or_absorbs true b h = refl
or_absorbs false true h = h refl
or_absorbs false false h = refl

or_assoc : (a b c : Bool) → ((a || b) || c) ≡ (a || (b || c))
or_assoc true b c = refl
or_assoc false b c = refl

-- two truths that follow from each other
both_ways : (a b : Bool) → (a ≡ true → b ≡ true) → (b ≡ true → a ≡ true) → a ≡ b
both_ways true b f g = sym (f refl)
both_ways false true f g = g refl
both_ways false false f g = refl

-- numbers in lists

data In : ℕ → List ℕ → Type 0 where
  here : {n : ℕ} {ns : List ℕ} → In n (n ∷ ns)
  there : {n m : ℕ} {ns : List ℕ} → In n ns → In n (m ∷ ns)

same_number : (n m : ℕ) → (n == m) ≡ true → n ≡ m
same_number n m h = (Decides-eqb n m).0 h

among_in : (n : ℕ) (ns : List ℕ) → is_among n ns ≡ true → In n ns
among_in n [] h = absurd cc
among_in n (m ∷ ns) h = elim (or_cases (m == n) (is_among n ns) h) [
  | inl l ↦ subst (λ (k : ℕ). In k (m ∷ ns)) (same_number m n l) here
  | inr r ↦ there (among_in n ns r)
]

in_among : (n : ℕ) (ns : List ℕ) → In n ns → is_among n ns ≡ true
in_among _ _ (here {n} {ns}) = or_left (n == n) (is_among n ns) (eq-eqb n n refl)
in_among _ _ (there {n} {m} {ns} i) = or_right (m == n) (is_among n ns) (in_among n ns i)

any_in : (p : ℕ → Bool) (n : ℕ) (ns : List ℕ) → In n ns → p n ≡ true → list_any p ns ≡ true
any_in p _ _ (here {n} {ns}) h = or_left (p n) (list_any p ns) h
any_in p _ _ (there {n} {m} {ns} i) h = or_right (p m) (list_any p ns) (any_in p n ns i h)

in_any : (p : ℕ → Bool) (ns : List ℕ) → list_any p ns ≡ true → (n : ℕ) × In n ns × (p n ≡ true)
in_any p [] h = absurd cc
in_any p (n ∷ ns) h = elim (or_cases (p n) (list_any p ns) h) [
  | inl l ↦ (n, here, l)
  | inr r ↦ let f = in_any p ns r in (f.0, there f.1, f.2)
]

among_append : (n : ℕ) (a b : List ℕ) → is_among n (a ++ b) ≡ (is_among n a || is_among n b)
among_append n a b = list_any-append (λ m. m == n) a b

-- in a list of lists
flat_in : (f : ℕ → List ℕ) (n m : ℕ) (ms : List ℕ) → In m ms → is_among n (f m) ≡ true → is_among n (flat_map f ms) ≡ true
flat_in f n _ _ (here {n = m} {ns = ms}) h = among_append n (f m) (flat_map f ms) ∙ or_left (is_among n (f m)) (is_among n (flat_map f ms)) h
flat_in f n _ _ (there {n = m} {m = k} {ns = ms} i) h = among_append n (f k) (flat_map f ms) ∙ or_right (is_among n (f k)) (is_among n (flat_map f ms)) (flat_in f n m ms i h)

in_flat : (f : ℕ → List ℕ) (n : ℕ) (ms : List ℕ) → is_among n (flat_map f ms) ≡ true → (m : ℕ) × In m ms × (is_among n (f m) ≡ true)
in_flat f n [] h = absurd cc
in_flat f n (m ∷ ms) h = elim (or_cases (is_among n (f m)) (is_among n (flat_map f ms)) (sym (among_append n (f m) (flat_map f ms)) ∙ h)) [
  | inl l ↦ (m, here, l)
  | inr r ↦ let g = in_flat f n ms r in (g.0, there g.1, g.2)
]

-- steps upwards

module _ (classes : List Class) where
  data Steps : ℕ → ℕ → ℕ → Type 0 where
    stop : {n a : ℕ} → Steps n a a
    ascend : {n a b c : ℕ} → In b (supers_of classes a) → Steps n b c → Steps (suc n) a c

  steps_of : (n a c : ℕ) → is_below_in n classes c a ≡ true → Steps n a c
  unfolding is_below_in
  steps_of zero a c h = subst (λ (k : ℕ). Steps zero a k) (same_number a c h) stop
  steps_of (suc n) a c h = elim (or_cases (a == c) (list_any (is_below_in n classes c) (supers_of classes a)) h) [
    | inl l ↦ subst (λ (k : ℕ). Steps (suc n) a k) (same_number a c l) stop
    | inr r ↦ let f = in_any (is_below_in n classes c) (supers_of classes a) r in ascend f.1 (steps_of n f.0 c f.2)
  ]

  stay : (n a : ℕ) → is_below_in n classes a a ≡ true
  unfolding is_below_in
  stay zero a = eq-eqb a a refl
  stay (suc n) a = or_left (a == a) (list_any (is_below_in n classes a) (supers_of classes a)) (eq-eqb a a refl)

  climb : (n a b c : ℕ) → In b (supers_of classes a) → is_below_in n classes c b ≡ true → is_below_in (suc n) classes c a ≡ true
  unfolding is_below_in
  climb n a b c i h = or_right (a == c) (list_any (is_below_in n classes c) (supers_of classes a)) (any_in (is_below_in n classes c) b (supers_of classes a) i h)

  below_of : (n a c : ℕ) → Steps n a c → is_below_in n classes c a ≡ true
  below_of _ _ _ (stop {n} {a}) = stay n a
  below_of _ _ _ (ascend {n} {a} {b} {c} i s) = climb n a b c i (below_of n b c s)

  -- a step more at the end
  longer : (n a b c : ℕ) → Steps n a b → In c (supers_of classes b) → Steps (suc n) a c
  longer _ _ _ c (stop {n} {a}) j = ascend j stop
  longer _ _ _ c (ascend {n = n} {b = d} {c = b} i s) j = ascend i (longer n d b c s j)

  lengthened : (n a c : ℕ) → Steps n a c → Steps (suc n) a c
  lengthened _ _ _ (stop {n} {a}) = stop
  lengthened _ _ _ (ascend {n} {a} {b} {c} i s) = ascend i (lengthened n b c s)

  -- and the last step
  no_step : (m b c : ℕ) → Steps m b c → m ≡ zero → b ≡ c
  no_step _ _ _ (stop {n} {a}) e = refl
  no_step _ _ _ (ascend {n} {a} {b} {c} i s) e = absurd (omega arith)

  shorter_from : (n k a c : ℕ) → k ≡ suc n → Steps k a c → Steps n a c ⊎ ((b : ℕ) × Steps n a b × In c (supers_of classes b))
  shorter_from n _ _ _ e (stop {n = k} {a = a}) = inl stop
  shorter_from zero _ _ _ e (ascend {n = m} {a = a} {b = b} {c = c} i s) = inr (a, stop, subst (λ (x : ℕ). In x (supers_of classes a)) (no_step m b c s (omega arith)) i)
  shorter_from (suc n) _ _ _ e (ascend {n = m} {a = a} {b = b} {c = c} i s) = elim (shorter_from n m b c (omega arith) s) [
    | inl t ↦ inl (ascend i t)
    | inr t ↦ inr (t.0, ascend i t.1, t.2)
  ]

  shorter : (n a c : ℕ) → Steps (suc n) a c → Steps n a c ⊎ ((b : ℕ) × Steps n a b × In c (supers_of classes b))
  shorter n a c s = shorter_from n (suc n) a c refl s

-- what a walk has met after n rounds, with those whose super types are still to be met
pub record IsRound (classes : List Class) (n at : ℕ) (met frontier : List ℕ) : Type 0 where
  pub steps : (up : ℕ) → is_among up met ≡ is_below_in n classes up at
  pub inside : (up : ℕ) → is_among up frontier ≡ true → is_among up met ≡ true
  pub closed : (m up : ℕ) → is_among m met ≡ true → is_among up (supers_of classes m) ≡ true → (is_among m frontier ≡ true) ⊎ (is_among up met ≡ true)

start_steps : (classes : List Class) (at up : ℕ) → is_among up (at ∷ []) ≡ is_below_in zero classes up at
unfolding is_below_in
start_steps classes at up = sym (or_false (at == up))

pub first_round : (classes : List Class) (at : ℕ) → IsRound classes zero at (at ∷ []) (at ∷ [])
first_round classes at = record {
  steps = start_steps classes at;
  inside = λ up h. h;
  closed = λ m up h k. inl h;
}

module _ (classes : List Class) (n at : ℕ) (met frontier met2 fresh : List ℕ) where
  further : IsRound classes n at met frontier → IsJoined met2 met (flat_map (supers_of classes) frontier) → (up : ℕ) → is_among up met2 ≡ true → is_below_in (suc n) classes up at ≡ true
  further r j up h = elim (or_cases (is_among up met) (is_among up (flat_map (supers_of classes) frontier)) (sym (j up) ∙ h)) [
    | inl l ↦ below_of classes (suc n) at up (lengthened classes n at up (steps_of classes n at up (sym (r.steps up) ∙ l)))
    | inr k ↦
        let f = in_flat (supers_of classes) up frontier k in
        let m : is_among f.0 met ≡ true = r.inside f.0 (in_among f.0 frontier f.1) in
        below_of classes (suc n) at up (longer classes n at f.0 up (steps_of classes n at f.0 (sym (r.steps f.0) ∙ m)) (among_in up (supers_of classes f.0) f.2))
  ]

  reached : IsRound classes n at met frontier → IsJoined met2 met (flat_map (supers_of classes) frontier) → (up : ℕ) → is_below_in (suc n) classes up at ≡ true → is_among up met2 ≡ true
  reached r j up h = elim (shorter classes n at up (steps_of classes (suc n) at up h)) [
    | inl s ↦ j up ∙ or_left (is_among up met) (is_among up (flat_map (supers_of classes) frontier)) (r.steps up ∙ below_of classes n at up s)
    | inr t ↦
        let b : is_among t.0 met ≡ true = r.steps t.0 ∙ below_of classes n at t.0 t.1 in
        elim (r.closed t.0 up b (in_among up (supers_of classes t.0) t.2)) [
          | inl f ↦ j up ∙ or_right (is_among up met) (is_among up (flat_map (supers_of classes) frontier)) (flat_in (supers_of classes) up t.0 frontier (among_in t.0 frontier f) (in_among up (supers_of classes t.0) t.2))
          | inr m ↦ j up ∙ or_left (is_among up met) (is_among up (flat_map (supers_of classes) frontier)) m
        ]
  ]

  kept : IsRound classes n at met frontier → IsJoined met2 met (flat_map (supers_of classes) frontier) → IsJoined met2 met fresh
      → (m up : ℕ) → is_among m met2 ≡ true → is_among up (supers_of classes m) ≡ true → (is_among m fresh ≡ true) ⊎ (is_among up met2 ≡ true)
  kept r j f m up h k = elim (or_cases (is_among m met) (is_among m fresh) (sym (f m) ∙ h)) [
    | inl l ↦ inr (elim (r.closed m up l k) [
      | inl g ↦ j up ∙ or_right (is_among up met) (is_among up (flat_map (supers_of classes) frontier)) (flat_in (supers_of classes) up m frontier (among_in m frontier g) k)
      | inr g ↦ j up ∙ or_left (is_among up met) (is_among up (flat_map (supers_of classes) frontier)) g
    ])
    | inr l ↦ inl l
  ]

  next_suc : IsRound classes n at met frontier → IsJoined met2 met (flat_map (supers_of classes) frontier) → IsJoined met2 met fresh → IsRound classes (suc n) at met2 fresh
  next_suc r j f = record {
    steps = λ up. both_ways (is_among up met2) (is_below_in (suc n) classes up at) (further r j up) (reached r j up);
    inside = λ up h. f up ∙ or_right (is_among up met) (is_among up fresh) h;
    closed = kept r j f;
  }

pub next_round : (classes : List Class) (n at : ℕ) (met frontier met2 fresh : List ℕ) → IsRound classes n at met frontier → IsJoined met2 met (flat_map (supers_of classes) frontier) → IsJoined met2 met fresh → IsRound classes (n + 1) at met2 fresh
next_round classes n at met frontier met2 fresh r j f =
    let e : suc n ≡ n + 1 = omega arith in
    subst (λ (k : ℕ). IsRound classes k at met2 fresh) e (next_suc classes n at met frontier met2 fresh r j f)

-- sets of numbers that are joined

pub joined_one : (old : List ℕ) (at : ℕ) → IsJoined (old ++ at ∷ []) old (at ∷ [])
joined_one old at = λ n. among_append n old (at ∷ [])

pub joined_known : (old : List ℕ) (at : ℕ) → is_among at old ≡ true → IsJoined old old (at ∷ [])
joined_known old at h = λ n. or_absorbs (is_among n old) (is_among n (at ∷ [])) (λ k. subst (λ (m : ℕ). is_among m old ≡ true) (same_number at n (or_false (at == n) ∙ k)) h)

pub joined_grows : (old base fresh : List ℕ) (at : ℕ) → IsJoined old base fresh → IsJoined (old ++ at ∷ []) base (fresh ++ at ∷ [])
joined_grows old base fresh at j = λ n.
    among_append n old (at ∷ []) ∙ ap (λ b. b || is_among n (at ∷ [])) (j n) ∙ or_assoc (is_among n base) (is_among n fresh) (is_among n (at ∷ []))
    ∙ ap (λ b. is_among n base || b) (sym (among_append n fresh (at ∷ [])))

pub joined_none : (old : List ℕ) → IsJoined old old []
joined_none old = λ n. or_false (is_among n old)

-- what is joined step by step
pub joined_more : (new old base more extra : List ℕ) → IsJoined old base more → IsJoined new old extra → IsJoined new base (more ++ extra)
joined_more new old base more extra j k = λ n.
    k n ∙ ap (λ b. b || is_among n extra) (j n) ∙ or_assoc (is_among n base) (is_among n more) (is_among n extra)
    ∙ ap (λ b. is_among n base || b) (sym (among_append n more extra))

pub joined_item : (new old base xs : List ℕ) (i : ℕ) → i < length xs → IsJoined old base (take i xs) → IsJoined new old (get_or xs i 0 ∷ []) → IsJoined new base (take (i + 1) xs)
joined_item new old base xs i lt j k =
    subst (λ (l : List ℕ). IsJoined new base l) (sym (take_more xs i 0 lt)) (joined_more new old base (take i xs) (get_or xs i 0 ∷ []) j k)

pub joined_flat : (f : ℕ → List ℕ) (new old base xs : List ℕ) (i : ℕ) → i < length xs → IsJoined old base (flat_map f (take i xs)) → IsJoined new old (f (get_or xs i 0)) → IsJoined new base (flat_map f (take (i + 1) xs))
joined_flat f new old base xs i lt j k =
    let x = get_or xs i 0 in
    let last : flat_map f (x ∷ []) ≡ f x = append-nil (f x) in
    subst (λ (l : List ℕ). IsJoined new base l)
    (ap (λ (l : List ℕ). flat_map f (take i xs) ++ l) (sym last) ∙ sym (flat_map-append f (take i xs) (x ∷ [])) ∙ ap (λ (l : List ℕ). flat_map f l) (sym (take_more xs i 0 lt)))
    (joined_more new old base (flat_map f (take i xs)) (f x) j k)

-- what is known without a walk: where no class stands
pub alone_is : (classes : List Class) (n up at : ℕ) → length classes ≤ at → is_below_in n classes up at ≡ (at == up)
unfolding is_below_in
alone_is classes zero up at h = refl
alone_is classes (suc n) up at h =
    ap (λ l. (at == up) || list_any (is_below_in n classes up) l) (ap (λ o. option_map_or (supers_in classes) o []) (slice_get_past classes at h)) ∙ sym (or_false (at == up))

-- one list more
pub above_none : (classes : List Class) → AreAbove classes zero []
above_none classes = record { count = refl; each = λ at h. absurd (omega arith) }

by_place : (classes : List Class) (n at : ℕ) (lists : List (List ℕ)) (met : List ℕ) → length lists ≡ n → HoldsAbove classes n met → (at ≡ n) ⊎ (at < n) → (at < n → HoldsAbove classes at (get_or lists at []))
    → HoldsAbove classes at (get_or (lists ++ met ∷ []) at [])
by_place classes n at lists met c h (inl e) before =
    let same : length lists ≡ at = c ∙ sym e in
    let last : get_or (lists ++ met ∷ []) at [] ≡ met = ap (λ k. get_or (lists ++ met ∷ []) k []) (sym same) ∙ get_or-append_seam lists met [] [] in
    subst (λ (l : List ℕ). HoldsAbove classes at l) (sym last) (subst (λ (k : ℕ). HoldsAbove classes k met) (sym e) h)
by_place classes n at lists met c h (inr lt) before =
    let within : at < length lists = omega (arith, c) in
    subst (λ (l : List ℕ). HoldsAbove classes at l) (sym (get_or-append lists (met ∷ []) [] at within)) (before lt)

pub above_more : (classes : List Class) (n : ℕ) (lists : List (List ℕ)) (met : List ℕ) → AreAbove classes n lists → HoldsAbove classes n met → AreAbove classes (n + 1) (lists ++ met ∷ [])
above_more classes n lists met a h = record {
  count = omega (arith, length-append lists (met ∷ []), a.count);
  each = λ at k. by_place classes n at lists met a.count h (eq-or-lt_of_le (omega arith)) (a.each at);
}

-- one interface more
by_option : (o : Option ℕ) → cons_option o [] ≡ option_map_or (λ at. at ∷ []) o []
by_option None = refl
by_option (Some at) = refl

cons_one : (h : List ℕ → Option ℕ) (x : List ℕ) → filter_map h (x ∷ []) ≡ option_map_or (λ at. at ∷ []) (h x) []
cons_one h x = by_option (h x)

pub one_interface_more : (h : List ℕ → Option ℕ) (f : ℕ → List ℕ) (xs : List ℕ) (i : ℕ) (places front : List ℕ) → i < length xs → places ≡ front ++ filter_map h (map f (take i xs))
    → places ++ option_map_or (λ at. at ∷ []) (h (f (get_or xs i 0))) [] ≡ front ++ filter_map h (map f (take (i + 1) xs))
one_interface_more h f xs i places front lt p =
    let x = get_or xs i 0 in
    let before = filter_map h (map f (take i xs)) in
    let one = option_map_or (λ (at : ℕ). at ∷ []) (h (f x)) [] in
    ap (λ (l : List ℕ). l ++ one) p ∙ append_assoc front before one
    ∙ ap (λ (l : List ℕ). front ++ l) (ap (λ (l : List ℕ). before ++ l) (sym (cons_one h (f x))) ∙ sym (filter_map-append h (map f (take i xs)) (f x ∷ []))
    ∙ ap (λ (l : List (List ℕ)). filter_map h l) (sym (map-append f (take i xs) (x ∷ [])) ∙ ap (λ (l : List ℕ). map f l) (sym (take_more xs i 0 lt))))
