-- Entries of paths: what a test of two paths says, and what a look finds with one entry more.
use Rattle.std.proofs.Common.{◌≡◌, List, [], ◌∷◌, ◌++◌, map, Bool, true, false, cond, ◌&&◌, Option, Some, None, ◌⊎◌, inl, inr, refl, sym, ◌∙◌, ap, subst}
use Rattle.std.specs.Prelude.{IsSome}
use Rattle.std.specs.Bool.{Decides}
use Rattle.std.specs.Cmp.Lexicographic.{pointwise, pointwise_decides}
use Rattle.std.proofs.lemmas.Bool.Decides.{Decides-eqb}
use Rattle.jp_pred.specs.declared.path.Path.{Path}
use Rattle.jp_pred.specs.declared.path.PathStep.{PathStep}
use Rattle.jp_pred.specs.Names.{same, In, here, there}
use Rattle.jp_pred.specs.Paths.{same_step, same_path, beginnings, prefixes_of, prefixes}
use Rattle.jp_pred.specs.Truth.{entry_of}
use Rattle.jp_pred.proofs.Ascents.{same_true, same_refl}
use Rattle.jp_pred.proofs.Visits.{true_or_false, in_right}

pub both : (a b : Bool) → (a && b) ≡ true → (a ≡ true) × (b ≡ true)
both true b h = (refl, h)
both false b h = absurd cc

pub and_true : (a b : Bool) → a ≡ true → b ≡ true → (a && b) ≡ true
and_true true b h k = k
and_true false b h k = absurd cc

step_is : (s t : PathStep) → Decides (same_step s t) (s ≡ t)
step_is s t = (
  (λ h. let b = both (same s.class t.class) (same s.field t.field) h in
      let c : s.class ≡ t.class = same_true s.class t.class b.0 in
      let f : s.field ≡ t.field = same_true s.field t.field b.1 in
      λ i. record { class = c i; field = f i }),
  (λ e. subst (λ (x : PathStep). same_step s x ≡ true) e (and_true (same s.class s.class) (same s.field s.field) (same_refl s.class) (same_refl s.field))),
)

-- paths are the same exactly where they are equal
pub same_path-Decides : (p q : Path) → Decides (same_path p q) (p ≡ q)
same_path-Decides p q = (
  (λ h. let b = both _ (pointwise same_step p.steps q.steps) h in
      let r : p.root ≡ q.root = (Decides-eqb p.root q.root).0 b.0 in
      let s : p.steps ≡ q.steps = (pointwise_decides step_is p.steps q.steps).0 b.1 in
      λ i. record { root = r i; steps = s i }),
  (λ e. subst (λ (x : Path). same_path p x ≡ true) e
      (and_true _ (pointwise same_step p.steps p.steps) ((Decides-eqb p.root p.root).1 refl) ((pointwise_decides step_is p.steps p.steps).1 refl))),
)

pub other_path : (p q : Path) → (p ≡ q → ⊥) → same_path p q ≡ false
other_path p q ne = elim (true_or_false (same_path p q)) [ inl t ↦ absurd (ne ((same_path-Decides p q).0 t)) | inr f ↦ f ]

pub equal_or_not : (p q : Path) → (p ≡ q) ⊎ (p ≡ q → ⊥)
equal_or_not p q = elim (true_or_false (same_path p q)) [
  | inl t ↦ inl ((same_path-Decides p q).0 t)
  | inr f ↦ inr (λ e. let t : same_path p q ≡ true = (same_path-Decides p q).1 e in cc)
]

pub entry_here : {X : Type 0} (path : Path) (x : X) (es : List (Path × X)) → entry_of path ((path, x) ∷ es) ≡ Some x
entry_here path x es = ap (λ b. cond b (Some x) (entry_of path es)) ((same_path-Decides path path).1 refl)

pub entry_other : {X : Type 0} (p q : Path) (x : X) (es : List (Path × X)) → (p ≡ q → ⊥) → entry_of q ((p, x) ∷ es) ≡ entry_of q es
entry_other p q x es ne = ap (λ b. cond b (Some x) (entry_of q es)) (other_path p q ne)

pub split_in : {X : Type 0} (y x : X) (ys : List X) → In x (y ∷ ys) → (y ≡ x) ⊎ In x ys
split_in y _ ys here = inl refl
split_in y x ys (there i) = inr i

-- a path that has no entry isn't among those that have
pub none_apart : {X : Type 0} (q : Path) (es : List (Path × X)) → entry_of q es ≡ None → In q (map (λ (e : Path × X). e.0) es) → ⊥
none_apart q [] h i = elim i [ ]
none_apart {X} q (e ∷ es) h i = elim (equal_or_not e.0 q) [
  | inl t ↦
      let k : entry_of q (e ∷ es) ≡ Some e.1 = ap (λ b. cond b (Some e.1) (entry_of q es)) ((same_path-Decides e.0 q).1 t) in
      cc
  | inr ne ↦
      let k : entry_of q es ≡ None = sym (ap (λ b. cond b (Some e.1) (entry_of q es)) (other_path e.0 q ne)) ∙ h in
      elim (split_in e.0 q (map (λ (d : Path × X). d.0) es) i) [ inl t ↦ absurd (ne t) | inr j ↦ none_apart q es k j ]
]

pub some_or_none : {X : Type 0} (o : Option X) → IsSome o ⊎ (o ≡ None)
some_or_none None = inr refl
some_or_none (Some x) = inl refl

pub some_at : {X : Type 0} (o : Option X) (x : X) → o ≡ Some x → IsSome o
some_at o x e = subst (λ w. IsSome w) (sym e) refl

pub what_some : {X : Type 0} (o : Option X) → IsSome o → (x : X) × (o ≡ Some x)
what_some None h = absurd cc
what_some (Some x) h = (x, refl)

-- the steps are none, or some and a last one
pub last_step : (steps : List PathStep) → (steps ≡ []) ⊎ ((front : List PathStep) × (last : PathStep) × (steps ≡ front ++ last ∷ []))
last_step [] = inl refl
last_step (x ∷ xs) = elim (last_step xs) [
  | inl e ↦ inr ([], x, ap (λ ys. x ∷ ys) e)
  | inr r ↦ inr (x ∷ r.0, r.1, ap (λ ys. x ∷ ys) r.2)
]

pub not_empty : (xs : List PathStep) (x : PathStep) → [] ≡ xs ++ x ∷ [] → ⊥
not_empty [] x e = cc
not_empty (y ∷ ys) x e = cc

pub in_left : {X : Type 0} {x : X} {xs : List X} (ys : List X) → In x xs → In x (xs ++ ys)
in_left ys here = here
in_left ys (there i) = there (in_left ys i)

pub in_append : {X : Type 0} (x : X) (xs ys : List X) → In x (xs ++ ys) → In x xs ⊎ In x ys
in_append x [] ys i = inr i
in_append x (y ∷ xs) ys i = elim (split_in y x (xs ++ ys) i) [
  | inl e ↦ inl (subst (λ z. In z (y ∷ xs)) e here)
  | inr j ↦ elim (in_append x xs ys j) [ inl k ↦ inl (there k) | inr k ↦ inr k ]
]

pub in_map : {X Y : Type 0} (f : X → Y) {x : X} {xs : List X} → In x xs → In (f x) (map f xs)
in_map f here = here
in_map f (there i) = there (in_map f i)

whole : {X : Type 0} (xs : List X) → In xs (beginnings xs)
whole [] = here
whole (x ∷ xs) = there (in_map (λ ys. x ∷ ys) (whole xs))

-- a path is among its prefixes
pub in_prefixes : (p : Path) (ps : List Path) → In p ps → In p (prefixes ps)
in_prefixes p (q ∷ ps) i = elim (split_in q p ps i) [
  | inl e ↦ subst (λ (x : Path). In x (prefixes (q ∷ ps))) e
      (in_left (prefixes ps) (in_map (λ (steps : List PathStep). let r : Path = record { root = q.root; steps = steps } in r) (whole q.steps)))
  | inr j ↦ in_right (prefixes_of q) (in_prefixes p ps j)
]
in_prefixes p [] i = elim i [ ]

pub prefixes_append : (x : Path) (ps qs : List Path) → In x (prefixes (ps ++ qs)) → In x (prefixes ps) ⊎ In x (prefixes qs)
prefixes_append x [] qs i = inr i
prefixes_append x (p ∷ ps) qs i = elim (in_append x (prefixes_of p) (prefixes (ps ++ qs)) i) [
  | inl j ↦ inl (in_left (prefixes ps) j)
  | inr j ↦ elim (prefixes_append x ps qs j) [ inl k ↦ inl (in_right (prefixes_of p) k) | inr k ↦ inr k ]
]

pub prefixes_left : (x : Path) (ps qs : List Path) → In x (prefixes ps) → In x (prefixes (ps ++ qs))
prefixes_left x [] qs i = elim i [ ]
prefixes_left x (p ∷ ps) qs i = elim (in_append x (prefixes_of p) (prefixes ps) i) [
  | inl j ↦ in_left (prefixes (ps ++ qs)) j
  | inr j ↦ in_right (prefixes_of p) (prefixes_left x ps qs j)
]

pub prefixes_right : (x : Path) (ps qs : List Path) → In x (prefixes qs) → In x (prefixes (ps ++ qs))
prefixes_right x [] qs i = i
prefixes_right x (p ∷ ps) qs i = in_right (prefixes_of p) (prefixes_right x ps qs i)
