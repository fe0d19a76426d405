-- What a visit of marked classes leaves.
use Rattle.std.proofs.Common.{◌≡◌, ◌≢◌, ℕ, zero, suc, ◌+◌, ◌<◌, List, [], ◌∷◌, ◌++◌, length, take, set, get_or, Bool, true, false, cond, IsTrue, eqb, Option, Some, None, ◌⊎◌, inl, inr, refl, sym, ◌∙◌, ap, subst, arith, add-one, get_or-set_other, replicate}
use Rattle.std.specs.Prelude.{option_map, slice_get}
use Rattle.std.proofs.lemmas.List.{take_more}
use Rattle.std.proofs.lemmas.Bool.Decides.{Decides-eqb}
use Rattle.jp_pred.specs.declared.hier.SeenClass.{SeenClass}
use Rattle.jp_pred.specs.declared.hier.Hier.{Hier}
use Rattle.jp_pred.specs.Names.{Word, same, In, here, there}
use Rattle.jp_pred.specs.Hierarchy.{class_named, named, named_of, or_none, Ascends, stop, up}
use Rattle.jp_pred.specs.Marks.{place, is_marked, Grows, Done, Closed}

pub some_same : {X : Type 0} (x y : X) → Some x ≡ Some y → x ≡ y
some_same x y h = cc

-- an entry at its place
pub record Placed (cs : List SeenClass) (a : Word) (i : ℕ) : Type 0 where
  pub entry : SeenClass
  pub there' : slice_get cs i ≡ Some entry
  pub found : class_named a cs ≡ Some entry

placed_more : (c : SeenClass) (cs : List SeenClass) (a : Word) (i : ℕ) (o : Option ℕ) → same c.name a ≡ false → ((j : ℕ) → o ≡ Some j → Placed cs a j) → option_map (λ n. n + 1) o ≡ Some i → Placed (c ∷ cs) a i
placed_more c cs a i None e f h = absurd cc
placed_more c cs a i (Some j) e f h =
    let p = f j refl in
    let q : suc j ≡ i = sym (add-one j) ∙ some_same _ _ h in
    subst (λ (x : ℕ). Placed (c ∷ cs) a x) q (record { entry = p.entry; there' = p.there'; found = ap (λ b. cond b (Some c) (class_named a cs)) e ∙ p.found })

pub placed : (cs : List SeenClass) (a : Word) (i : ℕ) → place a cs ≡ Some i → Placed cs a i
placed [] a i h = absurd cc
placed (c ∷ cs) a i h = elim (same c.name a) as (λ b. same c.name a ≡ b → cond b (Some 0) (option_map (λ n. n + 1) (place a cs)) ≡ Some i → Placed (c ∷ cs) a i) [
  | true ↦ λ e k. subst (λ (x : ℕ). Placed (c ∷ cs) a x) (some_same _ _ k) (record { entry = c; there' = refl; found = ap (λ b. cond b (Some c) (class_named a cs)) e })
  | false ↦ λ e k. placed_more c cs a i (place a cs) e (λ j g. placed cs a j g) k
] refl h

-- and the place of what is found
pub place_of : (cs : List SeenClass) (a : Word) (c : SeenClass) → class_named a cs ≡ Some c → (i : ℕ) × (place a cs ≡ Some i)
place_of [] a c h = absurd cc
place_of (d ∷ cs) a c h = elim (same d.name a) as (λ b. cond b (Some d) (class_named a cs) ≡ Some c → (i : ℕ) × (cond b (Some 0) (option_map (λ n. n + 1) (place a cs)) ≡ Some i)) [
  | true ↦ λ k. (0, refl)
  | false ↦ λ k. let r = place_of cs a c k in (r.0 + 1, ap (λ o. option_map (λ n. n + 1) o) r.1)
] h

get_slice : (cs : List SeenClass) (i : ℕ) (c d : SeenClass) → slice_get cs i ≡ Some c → get_or cs i d ≡ c
get_slice [] i c d h = absurd cc
get_slice (x ∷ cs) zero c d h = cc
get_slice (x ∷ cs) (suc i) c d h = get_slice cs i c d h

pub entry_found : (cs : List SeenClass) (a : Word) (i : ℕ) (x : SeenClass) → place a cs ≡ Some i → x ≡ get_or cs i x → (slice_get cs i ≡ Some x) × (class_named a cs ≡ Some x)
entry_found cs a i x h e =
    let p = placed cs a i h in
    let q : p.entry ≡ x = sym (get_slice cs i p.entry x p.there') ∙ sym e in
    (p.there' ∙ ap Some q, p.found ∙ ap Some q)

pub in_right : {X : Type 0} {x : X} (xs : List X) {ys : List X} → In x ys → In x (xs ++ ys)
in_right [] i = i
in_right (y ∷ xs) i = there (in_right xs i)

pub in_super : (c : SeenClass) (p : Word) → c.superclass ≡ Some p → In p (named c)
in_super c p e = subst (λ (o : Option Word). In p (or_none o ++ c.interfaces)) (sym e) here

pub in_face : (c : SeenClass) (p : Word) → In p c.interfaces → In p (named c)
in_face c p i = in_right (or_none c.superclass) i

pub front : (x : Word) (is : List Word) (b : Word) → In b (x ∷ is) → (Some x ≡ Some b) ⊎ In b is
front x is _ here = inl refl
front x is b (there i) = inr i

pub in_named : (s : Option Word) (is : List Word) (b : Word) → In b (or_none s ++ is) → (s ≡ Some b) ⊎ In b is
in_named None is b i = inr i
in_named (Some x) is b i = front x is b i

pub up_from : (hier : Hier) (a u : Word) (c : SeenClass) (p : Word) → class_named a hier.classes ≡ Some c → In p (named c) → Ascends hier p u → Ascends hier a u
up_from hier a u c p e i r = up (subst (λ (o : Option SeenClass). In p (named_of o)) (sym e) i) r

done_grows : {hier : Hier} {u : Word} {a : Word} (m n : List Bool) → Grows m n → Done hier u m a → Done hier u n a
done_grows m n g d = record { other = d.other; marked = λ i e. g i (d.marked i e) }

pub true_or_false : (b : Bool) → (b ≡ true) ⊎ (b ≡ false)
true_or_false true = inl refl
true_or_false false = inr refl

module _ (hier : Hier) (u : Word) where
  pub closed_more : (a b c : List Bool) → Closed hier u a b → Closed hier u b c → Grows b c → Closed hier u a c
  closed_more a b c f g w = record {
    parents = λ i x e h k p j. elim (true_or_false (is_marked b i)) [
      | inl t ↦ done_grows b c w (f.parents i x e h t p j)
      | inr t ↦ g.parents i x e t k p j
    ];
  }

  pub closed_visit : (a b c : List Bool) (at : ℕ) (x : SeenClass) → slice_get hier.classes at ≡ Some x → Closed hier u (set a at true) b → Closed hier u b c → Grows b c →
      ((p : Word) → x.superclass ≡ Some p → Done hier u b p) → ((p : Word) → In p x.interfaces → Done hier u c p) → Closed hier u a c
  closed_visit a b c at x s f g w super faces = record {
    parents = λ i y e h k p j. elim (true_or_false (eqb i at)) [
      | inl t ↦
          let q : i ≡ at = (Decides-eqb i at).0 t in
          let r : y ≡ x = some_same _ _ (sym e ∙ (ap (λ n. slice_get hier.classes n) q ∙ s)) in
          elim (in_named x.superclass x.interfaces p (subst (λ (z : SeenClass). In p (named z)) r j)) [ inl l ↦ done_grows b c w (super p l) | inr l ↦ faces p l ]
      | inr t ↦
          let ne : i ≢ at = λ q. let z : eqb i at ≡ true = (Decides-eqb i at).1 q in cc in
          let l : is_marked (set a at true) i ≡ false = rw get_or-set_other h in
          (closed_more (set a at true) b c f g w).parents i y e l k p j
    ];
  }

  pub no_ascent : (m : List Bool) (a : Word) → ((i : ℕ) (c : SeenClass) → slice_get hier.classes i ≡ Some c → is_marked m i ≡ true → (p : Word) → In p (named c) → Done hier u m p) → Ascends hier a u → Done hier u m a → ⊥
  no_ascent m a f stop d = d.other refl
  no_ascent m a f (up {b = b} {c = c} i r) d = elim (class_named a hier.classes) as (λ o. class_named a hier.classes ≡ o → In b (named_of o) → ⊥) [
    | None ↦ λ e j. elim j [ ]
    | Some x ↦ λ e j.
        let n = place_of hier.classes a x e in
        let q = placed hier.classes a n.0 n.1 in
        let s : q.entry ≡ x = some_same _ _ (sym q.found ∙ e) in
        no_ascent m b f r (f n.0 q.entry q.there' (d.marked n.0 n.1) b (subst (λ (z : SeenClass). In b (named z)) (sym s) j))
  ] refl i

in_push : {X : Type 0} {x : X} (xs : List X) (y : X) → In x (xs ++ y ∷ []) → In x xs ⊎ (y ≡ x)
in_push [] y here = inr refl
in_push [] y (there i) = elim i [ ]
in_push (z ∷ xs) y here = inl here
in_push (z ∷ xs) y (there i) = elim (in_push xs y i) [ inl j ↦ inl (there j) | inr e ↦ inr e ]

pub in_more : {X : Type 0} (names : List X) (i : ℕ) (d p : X) → i < length names → In p (take (i + 1) names) → In p (take i names) ⊎ (get_or names i d ≡ p)
in_more names i d p l j = in_push (take i names) (get_or names i d) (subst (λ xs. In p xs) (take_more names i d l) j)

pub in_get_or : {X : Type 0} (names : List X) (i : ℕ) (d : X) → i < length names → In (get_or names i d) names
in_get_or [] i d l = absurd (omega arith)
in_get_or (n ∷ ns) zero d l = here
in_get_or (n ∷ ns) (suc i) d l = there (in_get_or ns i d (omega arith))

pub done_more : (hier : Hier) (u : Word) (m n : List Bool) (names : List Word) (i : ℕ) (x b : Word) → i < length names → x ≡ get_or names i x → b ≡ x → Grows m n →
    ((p : Word) → In p (take i names) → Done hier u m p) → Done hier u n b → (p : Word) → In p (take (i + 1) names) → Done hier u n p
done_more hier u m n names i x b l is e g old new p j = elim (in_more names i x p l j) [
  | inl k ↦ done_grows m n g (old p k)
  | inr q ↦ subst (λ (y : Word). Done hier u n y) (e ∙ (is ∙ q)) new
]

blank : (m i : ℕ) → get_or (replicate m false) i false ≡ false
blank zero i = refl
blank (suc m) zero = refl
blank (suc m) (suc i) = blank m i

pub blank_front : (n m i : ℕ) → get_or (take n (replicate m false)) i false ≡ false
blank_front zero m i = refl
blank_front (suc n) zero i = refl
blank_front (suc n) (suc m) zero = refl
blank_front (suc n) (suc m) (suc i) = blank_front n m i

pub decided : (hier : Hier) (a u : Word) (b : Bool) (old new : List Bool) → ((i : ℕ) → is_marked old i ≡ false) → (b ≡ false → Closed hier u old new) → (b ≡ false → Done hier u new a) → Ascends hier a u → IsTrue b
decided hier a u true old new o f d r = refl
decided hier a u false old new o f d r = absurd (no_ascent hier u new a (λ i c e k p j. (f refl).parents i c e (o i) k p j) r (d refl))
