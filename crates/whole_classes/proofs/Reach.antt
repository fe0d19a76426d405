-- The walk upwards, round by round, that meets the names above one.
use Rattle.std.proofs.Common.{◌≡◌, ℕ, zero, suc, ◌+◌, ◌<◌, Bool, true, false, ◌||◌, List, [], ◌∷◌, ◌++◌, length, map, take, get_or, flat_map, Option, Some, None, ◌⊎◌, inl, inr, refl, sym, ap, ◌∙◌, subst, arith, append-nil}
use Rattle.std.specs.Prelude.{cond}
use Rattle.std.specs.List.{list_any}
use Rattle.std.specs.Option.{option_map}
use Rattle.std.specs.Borrow.{Bor}
use Rattle.std.proofs.lemmas.List.{take_more, map-append, length-map}
use Rattle.std.proofs.lemmas.List.Folds.{list_any-append}
use Rattle.std.proofs.lemmas.Grind.{flat_map-append}
use Rattle.jp_pred.specs.declared.hier.Hier.{Hier}
use Rattle.jp_pred.specs.Names.{Word, object, same, In, here, there}
use Rattle.jp_pred.specs.Hierarchy.{class_named, or_none, named_of, parents, reaches, is_below}
use Rattle.jp_pred.proofs.Lists.{or_cases, or_left, or_right, any_from_in, in_from_any}
use Rattle.jp_pred.proofs.Ascents.{same_true, same_refl}
use Rattle.iface_codec.specs.Hierarchy.{seen_class}
use Rattle.jp_meaning.specs.declared.unit.TypedClass.{TypedClass}
use Rattle.jp_meaning.specs.Classes.{class_in, hier_in}
use Rattle.type_rules.specs.Types.{is_among}
use Rattle.type_heads.specs.Supertypes.{words_at}
use Rattle.whole_classes.specs.Above.{IsJoined, HoldsAbove}

-- TRUTHS

or_false : (a : Bool) → a ≡ (a || false)
or_false true = refl
or_false false = refl

or_absorbs : (a b : Bool) → (b ≡ true → a ≡ true) → a ≡ (a || b)
or_absorbs true b h = refl
or_absorbs false true h = h refl
or_absorbs false false h = refl

or_assoc : (a b c : Bool) → ((a || b) || c) ≡ (a || (b || c))
or_assoc true b c = refl
or_assoc false b c = refl

-- two truths that follow from each other
both_ways : (a b : Bool) → (a ≡ true → b ≡ true) → (b ≡ true → a ≡ true) → a ≡ b
both_ways true b f g = sym (f refl)
both_ways false true f g = g refl
both_ways false false f g = refl

-- NAMES IN LISTS

among_in : (n : Word) (ns : List Word) → is_among n ns ≡ true → In n ns
among_in n ns h = let f = in_from_any (λ m. same m n) ns h in subst (λ (k : Word). In k ns) (same_true f.0 n f.2) f.1

in_among : (n : Word) (ns : List Word) → In n ns → is_among n ns ≡ true
in_among n ns i = any_from_in (λ m. same m n) i (same_refl n)

among_append : (n : Word) (a b : List Word) → is_among n (a ++ b) ≡ (is_among n a || is_among n b)
among_append n a b = list_any-append (λ m. same m n) a b

-- in a list of lists
flat_in : (f : Word → List Word) (n m : Word) (ms : List Word) → In m ms → is_among n (f m) ≡ true → is_among n (flat_map f ms) ≡ true
flat_in f n _ _ (here {x = m} {xs = ms}) h = among_append n (f m) (flat_map f ms) ∙ or_left (is_among n (f m)) (is_among n (flat_map f ms)) h
flat_in f n _ _ (there {x = m} {y = k} {xs = ms} i) h = among_append n (f k) (flat_map f ms) ∙ or_right (is_among n (f k)) (is_among n (flat_map f ms)) (flat_in f n m ms i h)

in_flat : (f : Word → List Word) (n : Word) (ms : List Word) → is_among n (flat_map f ms) ≡ true → (m : Word) × In m ms × (is_among n (f m) ≡ true)
in_flat f n [] h = absurd cc
in_flat f n (m ∷ ms) h = elim (or_cases (is_among n (f m)) (is_among n (flat_map f ms)) (sym (among_append n (f m) (flat_map f ms)) ∙ h)) [
  | inl l ↦ (m, here, l)
  | inr r ↦ let g = in_flat f n ms r in (g.0, there g.1, g.2)
]

-- STEPS UPWARDS

module _ (hier : Hier) where
  data Steps : ℕ → Word → Word → Type 0 where
    stop : {n : ℕ} {a : Word} → Steps n a a
    ascend : {n : ℕ} {a b c : Word} → In b (parents hier a) → Steps n b c → Steps (suc n) a c

  steps_of : (n : ℕ) (a c : Word) → reaches n hier a c ≡ true → Steps n a c
  steps_of zero a c h = subst (λ (k : Word). Steps zero a k) (same_true a c h) stop
  steps_of (suc n) a c h = elim (or_cases (same a c) (list_any (λ p. reaches n hier p c) (parents hier a)) h) [
    | inl l ↦ subst (λ (k : Word). Steps (suc n) a k) (same_true a c l) stop
    | inr r ↦ let f = in_from_any (λ p. reaches n hier p c) (parents hier a) r in ascend f.1 (steps_of n f.0 c f.2)
  ]

  stay : (n : ℕ) (a : Word) → reaches n hier a a ≡ true
  stay zero a = same_refl a
  stay (suc n) a = or_left (same a a) (list_any (λ p. reaches n hier p a) (parents hier a)) (same_refl a)

  climb : (n : ℕ) (a b c : Word) → In b (parents hier a) → reaches n hier b c ≡ true → reaches (suc n) hier a c ≡ true
  climb n a b c i h = or_right (same a c) (list_any (λ p. reaches n hier p c) (parents hier a)) (any_from_in (λ p. reaches n hier p c) i h)

  reaches_by : (n : ℕ) (a c : Word) → Steps n a c → reaches n hier a c ≡ true
  reaches_by _ _ _ (stop {n} {a}) = stay n a
  reaches_by _ _ _ (ascend {n} {a} {b} {c} i s) = climb n a b c i (reaches_by n b c s)

  -- a step more at the end
  longer : (n : ℕ) (a b c : Word) → Steps n a b → In c (parents hier b) → Steps (suc n) a c
  longer _ _ _ c (stop {n} {a}) j = ascend j stop
  longer _ _ _ c (ascend {n = n} {b = d} {c = b} i s) j = ascend i (longer n d b c s j)

  lengthened : (n : ℕ) (a c : Word) → Steps n a c → Steps (suc n) a c
  lengthened _ _ _ (stop {n} {a}) = stop
  lengthened _ _ _ (ascend {n} {a} {b} {c} i s) = ascend i (lengthened n b c s)

  -- and the last step
  no_step : (m : ℕ) (b c : Word) → Steps m b c → m ≡ zero → b ≡ c
  no_step _ _ _ (stop {n} {a}) e = refl
  no_step _ _ _ (ascend {n} {a} {b} {c} i s) e = absurd (omega arith)

  shorter_from : (n k : ℕ) (a c : Word) → k ≡ suc n → Steps k a c → Steps n a c ⊎ ((b : Word) × Steps n a b × In c (parents hier b))
  shorter_from n _ _ _ e (stop {n = k} {a = a}) = inl stop
  shorter_from zero _ _ _ e (ascend {n = m} {a = a} {b = b} {c = c} i s) = inr (a, stop, subst (λ (x : Word). In x (parents hier a)) (no_step m b c s (omega arith)) i)
  shorter_from (suc n) _ _ _ e (ascend {n = m} {a = a} {b = b} {c = c} i s) = elim (shorter_from n m b c (omega arith) s) [
    | inl t ↦ inl (ascend i t)
    | inr t ↦ inr (t.0, ascend i t.1, t.2)
  ]

  shorter : (n : ℕ) (a c : Word) → Steps (suc n) a c → Steps n a c ⊎ ((b : Word) × Steps n a b × In c (parents hier b))
  shorter n a c s = shorter_from n (suc n) a c refl s

-- ROUNDS

-- what a walk has met after n rounds, with those whose supertypes are still to be met
pub record IsRound (hier : Hier) (n : ℕ) (at : Word) (met frontier : List Word) : Type 0 where
  pub steps : (up : Word) → is_among up met ≡ reaches n hier at up
  pub inside : (up : Word) → is_among up frontier ≡ true → is_among up met ≡ true
  pub closed : (m up : Word) → is_among m met ≡ true → is_among up (parents hier m) ≡ true → (is_among m frontier ≡ true) ⊎ (is_among up met ≡ true)

pub first_round : (hier : Hier) (at : Word) → IsRound hier zero at (at ∷ []) (at ∷ [])
first_round hier at = record {
  steps = λ up. sym (or_false (same at up));
  inside = λ up h. h;
  closed = λ m up h k. inl h;
}

module _ (hier : Hier) (n : ℕ) (at : Word) (met frontier newly_met fresh : List Word) where
  further : IsRound hier n at met frontier → IsJoined newly_met met (flat_map (parents hier) frontier) → (up : Word) → is_among up newly_met ≡ true → reaches (suc n) hier at up ≡ true
  further r j up h = elim (or_cases (is_among up met) (is_among up (flat_map (parents hier) frontier)) (sym (j up) ∙ h)) [
    | inl l ↦ reaches_by hier (suc n) at up (lengthened hier n at up (steps_of hier n at up (sym (r.steps up) ∙ l)))
    | inr k ↦
        let f = in_flat (parents hier) up frontier k in
        let m : is_among f.0 met ≡ true = r.inside f.0 (in_among f.0 frontier f.1) in
        reaches_by hier (suc n) at up (longer hier n at f.0 up (steps_of hier n at f.0 (sym (r.steps f.0) ∙ m)) (among_in up (parents hier f.0) f.2))
  ]

  reached : IsRound hier n at met frontier → IsJoined newly_met met (flat_map (parents hier) frontier) → (up : Word) → reaches (suc n) hier at up ≡ true → is_among up newly_met ≡ true
  reached r j up h = elim (shorter hier n at up (steps_of hier (suc n) at up h)) [
    | inl s ↦ j up ∙ or_left (is_among up met) (is_among up (flat_map (parents hier) frontier)) (r.steps up ∙ reaches_by hier n at up s)
    | inr t ↦
        let b : is_among t.0 met ≡ true = r.steps t.0 ∙ reaches_by hier n at t.0 t.1 in
        elim (r.closed t.0 up b (in_among up (parents hier t.0) t.2)) [
          | inl f ↦ j up ∙ or_right (is_among up met) (is_among up (flat_map (parents hier) frontier)) (flat_in (parents hier) up t.0 frontier (among_in t.0 frontier f) (in_among up (parents hier t.0) t.2))
          | inr m ↦ j up ∙ or_left (is_among up met) (is_among up (flat_map (parents hier) frontier)) m
        ]
  ]

  kept : IsRound hier n at met frontier → IsJoined newly_met met (flat_map (parents hier) frontier) → IsJoined newly_met met fresh
      → (m up : Word) → is_among m newly_met ≡ true → is_among up (parents hier m) ≡ true → (is_among m fresh ≡ true) ⊎ (is_among up newly_met ≡ true)
  kept r j f m up h k = elim (or_cases (is_among m met) (is_among m fresh) (sym (f m) ∙ h)) [
    | inl l ↦ inr (elim (r.closed m up l k) [
      | inl g ↦ j up ∙ or_right (is_among up met) (is_among up (flat_map (parents hier) frontier)) (flat_in (parents hier) up m frontier (among_in m frontier g) k)
      | inr g ↦ j up ∙ or_left (is_among up met) (is_among up (flat_map (parents hier) frontier)) g
    ])
    | inr l ↦ inl l
  ]

  next_suc : IsRound hier n at met frontier → IsJoined newly_met met (flat_map (parents hier) frontier) → IsJoined newly_met met fresh → IsRound hier (suc n) at newly_met fresh
  next_suc r j f = record {
    steps = λ up. both_ways (is_among up newly_met) (reaches (suc n) hier at up) (further r j up) (reached r j up);
    inside = λ up h. f up ∙ or_right (is_among up met) (is_among up fresh) h;
    closed = kept r j f;
  }

pub next_round : (hier : Hier) (n : ℕ) (at : Word) (met frontier newly_met fresh : List Word) → IsRound hier n at met frontier → IsJoined newly_met met (flat_map (parents hier) frontier) → IsJoined newly_met met fresh → IsRound hier (n + 1) at newly_met fresh
next_round hier n at met frontier newly_met fresh r j f =
    let e : suc n ≡ n + 1 = omega arith in
    subst (λ (k : ℕ). IsRound hier k at newly_met fresh) e (next_suc hier n at met frontier newly_met fresh r j f)

-- what is below is met, or is Object
pub below_met : (classes : List TypedClass) (lower upper : Word) (above : List Word) → HoldsAbove classes lower above → (same upper object || is_among upper above) ≡ is_below (hier_in classes) lower upper
below_met classes lower upper above h =
    let count : length classes ≡ length (hier_in classes).classes = sym (length-map (map (λ (c : TypedClass). c.head) classes) seen_class ∙ length-map classes (λ (c : TypedClass). c.head)) in
    ap (λ b. same upper object || b) (h upper ∙ ap (λ (n : ℕ). reaches n (hier_in classes) lower upper) count)

-- NAMES THAT ARE ADDED

pub joined_one : (old : List Word) (name : Word) → IsJoined (old ++ name ∷ []) old (name ∷ [])
joined_one old name = λ n. among_append n old (name ∷ [])

pub joined_known : (old : List Word) (name : Word) → is_among name old ≡ true → IsJoined old old (name ∷ [])
joined_known old name h = λ n. or_absorbs (is_among n old) (is_among n (name ∷ [])) (λ k. subst (λ (m : Word). is_among m old ≡ true) (same_true name n (or_false (same name n) ∙ k)) h)

pub joined_grows : (old base fresh : List Word) (name : Word) → IsJoined old base fresh → IsJoined (old ++ name ∷ []) base (fresh ++ name ∷ [])
joined_grows old base fresh name j = λ n.
    among_append n old (name ∷ []) ∙ ap (λ b. b || is_among n (name ∷ [])) (j n) ∙ or_assoc (is_among n base) (is_among n fresh) (is_among n (name ∷ []))
    ∙ ap (λ b. is_among n base || b) (sym (among_append n fresh (name ∷ [])))

pub joined_none : (old : List Word) → IsJoined old old []
joined_none old = λ n. or_false (is_among n old)

-- what is added step by step
pub joined_more : (new old base more extra : List Word) → IsJoined old base more → IsJoined new old extra → IsJoined new base (more ++ extra)
joined_more new old base more extra j k = λ n.
    k n ∙ ap (λ b. b || is_among n extra) (j n) ∙ or_assoc (is_among n base) (is_among n more) (is_among n extra)
    ∙ ap (λ b. is_among n base || b) (sym (among_append n more extra))

take_one : {A : Type 0} (xs : List A) (i : ℕ) (x : A) → i < length xs → x ≡ get_or xs i x → take (i + 1) xs ≡ take i xs ++ x ∷ []
take_one xs i x l e = take_more xs i x l ∙ ap (λ y. take i xs ++ y ∷ []) (sym e)

pub joined_item : (new old base xs : List Word) (i : ℕ) (x : Word) → i < length xs → x ≡ get_or xs i x → IsJoined old base (take i xs) → IsJoined new old (x ∷ []) → IsJoined new base (take (i + 1) xs)
joined_item new old base xs i x l e j k = subst (λ (ns : List Word). IsJoined new base ns) (sym (take_one xs i x l e)) (joined_more new old base (take i xs) (x ∷ []) j k)

pub joined_flat : (f : Word → List Word) (new old base : List Word) (xs : List (Bor Word)) (i : ℕ) (x : Bor Word) → i < length xs → x ≡ get_or xs i x → IsJoined old base (flat_map f (words_at (take i xs))) → IsJoined new old (f x.now)
    → IsJoined new base (flat_map f (words_at (take (i + 1) xs)))
joined_flat f new old base xs i x l e j k =
    let front = words_at (take i xs) in
    let more : words_at (take (i + 1) xs) ≡ front ++ x.now ∷ [] = ap (λ (ns : List (Bor Word)). words_at ns) (take_one xs i x l e) ∙ map-append (λ (r : Bor Word). r.now) (take i xs) (x ∷ []) in
    let split : flat_map f (front ++ x.now ∷ []) ≡ flat_map f front ++ f x.now = flat_map-append f front (x.now ∷ []) ∙ ap (λ (ns : List Word). flat_map f front ++ ns) (append-nil (f x.now)) in
    subst (λ (ns : List Word). IsJoined new base ns) (sym (ap (λ (ns : List Word). flat_map f ns) more ∙ split)) (joined_more new old base (flat_map f front) (f x.now) j k)

-- WHAT A CLASS NAMES

class_seen : (classes : List TypedClass) (name : Word) → class_named name (hier_in classes).classes ≡ option_map (λ (c : TypedClass). seen_class c.head) (class_in classes name)
class_seen [] name = refl
class_seen (c ∷ cs) name = elim (same c.head.name name) as (λ b. cond b (Some (seen_class c.head)) (class_named name (hier_in cs).classes) ≡ option_map (λ (d : TypedClass). seen_class d.head) (cond b (Some c) (class_in cs name))) [
  | true ↦ refl
  | false ↦ class_seen cs name
]

pub parents_of : (classes : List TypedClass) (name : Word) (c : TypedClass) → class_in classes name ≡ Some c → parents (hier_in classes) name ≡ or_none c.head.superclass ++ c.head.interfaces
parents_of classes name c e = ap named_of (class_seen classes name ∙ ap (λ (o : Option TypedClass). option_map (λ (d : TypedClass). seen_class d.head) o) e)

pub no_parents : (classes : List TypedClass) (name : Word) → class_in classes name ≡ None → parents (hier_in classes) name ≡ []
no_parents classes name e = ap named_of (class_seen classes name ∙ ap (λ (o : Option TypedClass). option_map (λ (d : TypedClass). seen_class d.head) o) e)
