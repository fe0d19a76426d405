-- Prefixes of paths, and the entries of a list at wanted paths, each with its value changed.
use Rattle.std.proofs.Common.{◌≡◌, List, [], ◌∷◌, ◌++◌, map, Bool, true, false, cond, Option, Some, None, inl, inr, refl, sym, ◌∙◌, ap, subst}
use Rattle.std.specs.Prelude.{option_map}
use Rattle.jp_pred.specs.declared.path.Path.{Path}
use Rattle.jp_pred.specs.declared.path.PathStep.{PathStep}
use Rattle.jp_pred.specs.Names.{In, here, there, AreDistinct}
use Rattle.jp_pred.specs.Paths.{same_path, extend, beginnings, prefixes_of, prefixes}
use Rattle.jp_pred.specs.Truth.{entry_of}
use Rattle.jp_pred.proofs.Cycles.{in_map_back}
use Rattle.jp_pred.proofs.Entries.{same_path-Decides, equal_or_not, entry_other, split_in, not_empty, in_left, in_append, in_map}
use Rattle.jp_pred.proofs.Visits.{true_or_false, in_right}

-- the front of a beginning is one too
front_begins : (front : List PathStep) (last : PathStep) (xs : List PathStep) → In (front ++ last ∷ []) (beginnings xs) → In front (beginnings xs)
front_begins front last [] i = elim (split_in [] (front ++ last ∷ []) [] i) [
  | inl q ↦ absurd (not_empty front last q)
  | inr j ↦ elim j [ ]
]
front_begins [] last (x ∷ xs) i = here
front_begins (y ∷ ys) last (x ∷ xs) i = elim (split_in [] (y ∷ (ys ++ last ∷ [])) (map (λ zs. x ∷ zs) (beginnings xs)) i) [
  | inl q ↦ absurd cc
  | inr j ↦
      let b = in_map_back (λ zs. x ∷ zs) (beginnings xs) (y ∷ (ys ++ last ∷ [])) j in
      let q : x ≡ y = let h : x ∷ b.0 ≡ y ∷ (ys ++ last ∷ []) = b.2 in cc in
      let r : b.0 ≡ ys ++ last ∷ [] = let h : x ∷ b.0 ≡ y ∷ (ys ++ last ∷ []) = b.2 in cc in
      let k = front_begins ys last xs (subst (λ (zs : List PathStep). In zs (beginnings xs)) r b.1) in
      there (subst (λ (z : PathStep). In (z ∷ ys) (map (λ zs. x ∷ zs) (beginnings xs))) q (in_map (λ zs. x ∷ zs) k))
]

-- and what stands in a beginning stands in the whole
begins_in : (s : PathStep) (ys xs : List PathStep) → In ys (beginnings xs) → In s ys → In s xs
begins_in s ys [] i j = elim (split_in [] ys [] i) [ inl q ↦ subst (λ (zs : List PathStep). In s zs) (sym q) j | inr k ↦ elim k [ ] ]
begins_in s ys (x ∷ xs) i j = elim (split_in [] ys (map (λ zs. x ∷ zs) (beginnings xs)) i) [
  | inl q ↦ let none : In s [] = subst (λ (zs : List PathStep). In s zs) (sym q) j in elim none [ ]
  | inr k ↦
      let b = in_map_back (λ zs. x ∷ zs) (beginnings xs) ys k in
      elim (split_in x s b.0 (subst (λ (zs : List PathStep). In s zs) (sym b.2) j)) [
        | inl q ↦ subst (λ (z : PathStep). In z (x ∷ xs)) q here
        | inr l ↦ there (begins_in s b.0 xs b.1 l)
      ]
]

front_of : (p q : Path) (s : PathStep) → In (extend p s) (prefixes_of q) → In p (prefixes_of q)
front_of p q s i =
    let made : List PathStep → Path = λ steps. record { root = q.root; steps = steps } in
    let b = in_map_back made (beginnings q.steps) (extend p s) i in
    let r : q.root ≡ p.root = ap (λ (x : Path). x.root) b.2 in
    let t : b.0 ≡ p.steps ++ s ∷ [] = ap (λ (x : Path). x.steps) b.2 in
    let k : In p.steps (beginnings q.steps) = front_begins p.steps s q.steps (subst (λ (zs : List PathStep). In zs (beginnings q.steps)) t b.1) in
    let e : made p.steps ≡ p = λ i. record { root = r i; steps = p.steps } in
    subst (λ (x : Path). In x (prefixes_of q)) e (in_map made k)

-- a set of all prefixes has each path's front
pub front_in : (p : Path) (s : PathStep) (ps : List Path) → In (extend p s) (prefixes ps) → In p (prefixes ps)
front_in p s [] i = elim i [ ]
front_in p s (q ∷ qs) i = elim (in_append (extend p s) (prefixes_of q) (prefixes qs) i) [
  | inl j ↦ in_left (prefixes qs) (front_of p q s j)
  | inr j ↦ in_right (prefixes_of q) (front_in p s qs j)
]

-- a step of a prefix is one of a path
pub step_in : (p : Path) (s : PathStep) (ps : List Path) → In p (prefixes ps) → In s p.steps → (q : Path) × In q ps × In s q.steps
step_in p s [] i j = elim i [ ]
step_in p s (q ∷ qs) i j = elim (in_append p (prefixes_of q) (prefixes qs) i) [
  | inl k ↦
      let made : List PathStep → Path = λ steps. record { root = q.root; steps = steps } in
      let b = in_map_back made (beginnings q.steps) p k in
      let t : b.0 ≡ p.steps = ap (λ (x : Path). x.steps) b.2 in
      (q, here, begins_in s p.steps q.steps (subst (λ (zs : List PathStep). In zs (beginnings q.steps)) t b.1) j)
  | inr k ↦ let r = step_in p s qs k j in (r.0, there r.1, r.2)
]

-- the entries at the wanted paths, with their values changed
abbrev pub kept : {X Y : Type 0} → (Path → Bool) → (X → Y) → List (Path × X) → List (Path × Y)
kept wanted change [] = []
kept wanted change (e ∷ es) = cond (wanted e.0) ((e.0, change e.1) ∷ kept wanted change es) (kept wanted change es)

module _ {X Y : Type 0} (wanted : Path → Bool) (change : X → Y) where
  -- an entry of another path changes nothing
  passes : (e : Path × X) (es : List (Path × X)) (p : Path) → (e.0 ≡ p → ⊥) → entry_of p (kept wanted change (e ∷ es)) ≡ entry_of p (kept wanted change es)
  passes e es p ne = elim (wanted e.0) as (λ b. entry_of p (cond b ((e.0, change e.1) ∷ kept wanted change es) (kept wanted change es)) ≡ entry_of p (kept wanted change es)) [
    | true ↦ entry_other e.0 p (change e.1) (kept wanted change es) ne
    | false ↦ refl
  ]

  pub entry_kept : (es : List (Path × X)) (p : Path) → wanted p ≡ true → entry_of p (kept wanted change es) ≡ option_map change (entry_of p es)
  entry_kept [] p w = refl
  entry_kept (e ∷ es) p w = elim (equal_or_not e.0 p) [
    | inl q ↦
        let t : same_path e.0 p ≡ true = (same_path-Decides e.0 p).1 q in
        let x : wanted e.0 ≡ true = ap wanted q ∙ w in
        ap (λ b. entry_of p (cond b ((e.0, change e.1) ∷ kept wanted change es) (kept wanted change es))) x
        ∙ (ap (λ b. cond b (Some (change e.1)) (entry_of p (kept wanted change es))) t
        ∙ sym (ap (λ b. option_map change (cond b (Some e.1) (entry_of p es))) t))
    | inr ne ↦ passes e es p ne ∙ (entry_kept es p w ∙ sym (ap (λ o. option_map change o) (entry_other e.0 p e.1 es ne)))
  ]

  entry_dropped : (es : List (Path × X)) (p : Path) → wanted p ≡ false → entry_of p (kept wanted change es) ≡ None
  entry_dropped [] p w = refl
  entry_dropped (e ∷ es) p w = elim (equal_or_not e.0 p) [
    | inl q ↦
        let x : wanted e.0 ≡ false = ap wanted q ∙ w in
        ap (λ b. entry_of p (cond b ((e.0, change e.1) ∷ kept wanted change es) (kept wanted change es))) x ∙ entry_dropped es p w
    | inr ne ↦ passes e es p ne ∙ entry_dropped es p w
  ]

  -- where an entry comes from
  pub record Source (es : List (Path × X)) (p : Path) (y : Y) : Type 0 where
    pub is_wanted : wanted p ≡ true
    pub value : X
    pub found : entry_of p es ≡ Some value
    pub changed : change value ≡ y

  source_of : (es : List (Path × X)) (p : Path) (y : Y) → wanted p ≡ true → (o : Option X) → entry_of p es ≡ o → option_map change o ≡ Some y → Source es p y
  source_of es p y w None q h = absurd cc
  source_of es p y w (Some x) q h = record { is_wanted = w; value = x; found = q; changed = let k : Some (change x) ≡ Some y = h in cc }

  pub entry_source : (es : List (Path × X)) (p : Path) (y : Y) → entry_of p (kept wanted change es) ≡ Some y → Source es p y
  entry_source es p y h = elim (true_or_false (wanted p)) [
    | inl w ↦ source_of es p y w (entry_of p es) refl (sym (entry_kept es p w) ∙ h)
    | inr n ↦ let k : None ≡ Some y = sym (entry_dropped es p n) ∙ h in absurd cc
  ]

  in_kept : (es : List (Path × X)) (p : Path) → In p (map (λ (e : Path × Y). e.0) (kept wanted change es)) → In p (map (λ (e : Path × X). e.0) es)
  in_kept [] p i = i
  in_kept (e ∷ es) p i = elim (wanted e.0) as (λ b. In p (map (λ (d : Path × Y). d.0) (cond b ((e.0, change e.1) ∷ kept wanted change es) (kept wanted change es))) → In p (e.0 ∷ map (λ (d : Path × X). d.0) es)) [
    | true ↦ λ j. elim (split_in e.0 p (map (λ (d : Path × Y). d.0) (kept wanted change es)) j) [
      | inl q ↦ subst (λ (x : Path). In x (e.0 ∷ map (λ (d : Path × X). d.0) es)) q here
      | inr k ↦ there (in_kept es p k)
    ]
    | false ↦ λ j. there (in_kept es p j)
  ] i

  pub kept_once : (es : List (Path × X)) → AreDistinct (map (λ (e : Path × X). e.0) es) → AreDistinct (map (λ (e : Path × Y). e.0) (kept wanted change es))
  kept_once [] d = tt
  kept_once (e ∷ es) d = elim (wanted e.0) as (λ b. AreDistinct (map (λ (x : Path × Y). x.0) (cond b ((e.0, change e.1) ∷ kept wanted change es) (kept wanted change es)))) [
    | true ↦ ((λ i. d.0 (in_kept es e.0 i)), kept_once es d.1)
    | false ↦ kept_once es d.1
  ]
