-- A universe that extends another says the same of what that one has seen: entries, the types of paths, and what is above.
use Rattle.std.proofs.Common.{◌≡◌, ℕ, zero, suc, List, [], ◌∷◌, true, false, cond, Option, Some, None, map, flat_map, ◌⊎◌, inl, inr, refl, sym, ◌∙◌, subst}
use Rattle.std.specs.Prelude.{option_and_then, slice_get}
use Rattle.jp_pred.specs.declared.hier.SeenClass.{SeenClass}
use Rattle.jp_pred.specs.declared.hier.Hier.{Hier}
use Rattle.jp_pred.specs.declared.ty.Ty.{Ty}
use Rattle.jp_pred.specs.declared.path.Path.{Path}
use Rattle.jp_pred.specs.declared.path.PathStep.{PathStep}
use Rattle.jp_pred.specs.Names.{Word, object, same, In, here, there}
use Rattle.jp_pred.specs.Hierarchy.{class_named, named_of, Ascends, stop, up, IsBelow}
use Rattle.jp_pred.specs.Universe.{Names, IsSeen, IsUniverse, Extends}
use Rattle.jp_pred.specs.Shapes.{field_type, steps_type, path_type}
use Rattle.jp_pred.specs.Seen.{type_names}
use Rattle.jp_pred.proofs.Ascents.{same_true, same_refl}
use Rattle.jp_pred.proofs.Visits.{some_same, true_or_false, in_right}
use Rattle.jp_pred.proofs.Entries.{in_map, in_left}
use Rattle.jp_pred.proofs.Guards.{then_each, then_alike}
use Rattle.jp_pred.proofs.Extension.{found_in, found_up}
use Rattle.jp_pred.proofs.Universes.{below_kept}

-- Object has no entry
none_listed : (u : Hier) → IsUniverse u → (a : Word) → a ≡ object → class_named a u.classes ≡ None
none_listed u valid a q = elim (class_named a u.classes) as (λ o. class_named a u.classes ≡ o → o ≡ None) [
  | None ↦ λ h. refl
  | Some c ↦ λ h.
      let t = found_in a u.classes c h in
      absurd (valid.no_object (subst (λ (x : Word). In x (map (λ d. d.name) u.classes)) (t.1 ∙ q) (in_map (λ d. d.name) t.0)))
] refl

pub seen_or_not : (hier : Hier) (a : Word) → IsSeen hier a ⊎ (IsSeen hier a → ⊥)
seen_or_not hier a = elim (true_or_false (same a object)) [
  | inl t ↦ inl (inl (same_true a object t))
  | inr f ↦ elim (class_named a hier.classes) as (λ o. class_named a hier.classes ≡ o → IsSeen hier a ⊎ (IsSeen hier a → ⊥)) [
    | Some c ↦ λ h. inl (inr (c, h))
    | None ↦ λ h. inr (λ s. elim s [
      | inl q ↦ let t : same a object ≡ true = subst (λ (x : Word). same a x ≡ true) q (same_refl a) in absurd cc
      | inr w ↦ let k : None ≡ Some w.0 = sym h ∙ w.1 in absurd cc
    ])
  ] refl
]

ascends_trans : {hier : Hier} {a b c : Word} → Ascends hier a b → Ascends hier b c → Ascends hier a c
ascends_trans stop q = q
ascends_trans (up i r) q = up i (ascends_trans r q)

-- only Object is above Object
above_object : (u : Hier) → IsUniverse u → {a b : Word} → Ascends u a b → a ≡ object → b ≡ object
above_object u valid stop q = q
above_object u valid (up {a} {b} {c} i r) q =
    let j : In b [] = subst (λ (o : Option SeenClass). In b (named_of o)) (none_listed u valid a q) i in
    elim j [ ]

pub below_trans : (u : Hier) → IsUniverse u → (a b c : Word) → IsBelow u a b → IsBelow u b c → IsBelow u a c
below_trans u valid a b c r (inr q) = inr q
below_trans u valid a b c (inl r) (inl s) = inl (ascends_trans r s)
below_trans u valid a b c (inr q) (inl s) = inr (above_object u valid s q)

-- what is above a seen name is the same in all universes that extend the hierarchy
pub across : (u v hier : Hier) → IsUniverse hier → Extends u hier → Extends v hier → (a b : Word) → IsSeen hier a → IsBelow u a b → IsBelow v a b
across u v hier valid f e a b seen r = (below_kept v hier a b valid e seen).0 ((below_kept u hier a b valid f seen).1 r)

-- the steps' classes are seen
abbrev pub AreSeenSteps : Hier → List PathStep → Type 0
AreSeenSteps hier steps = (s : PathStep) → In s steps → IsSeen hier s.class

-- what the type names is seen
abbrev pub IsSeenType : Hier → Ty → Type 0
IsSeenType hier t = (n : Word) → Names t n → IsSeen hier n

module _ (u hier : Hier) (valid : IsUniverse hier) (e : Extends u hier) where
  pub same_entry : (a : Word) → IsSeen hier a → class_named a u.classes ≡ class_named a hier.classes
  same_entry a (inl q) = none_listed u e.valid a q ∙ sym (none_listed hier valid a q)
  same_entry a (inr s) = found_up u hier e a s.0 s.1 ∙ sym s.1

  steps_same : (steps : List PathStep) (t : Ty) → AreSeenSteps hier steps → steps_type u t steps ≡ steps_type hier t steps
  steps_same [] t seen = refl
  steps_same (s ∷ ss) t seen = then_alike (class_named s.class u.classes) (class_named s.class hier.classes)
      (λ c. option_and_then (λ v. steps_type u v ss) (field_type s.field c.fields)) (λ c. option_and_then (λ v. steps_type hier v ss) (field_type s.field c.fields))
      (same_entry s.class (seen s here))
      (λ c. then_each (field_type s.field c.fields) (λ v. steps_type u v ss) (λ v. steps_type hier v ss) (λ v. steps_same ss v (λ r i. seen r (there i))))

  pub path_same : (roots : List Ty) (path : Path) → AreSeenSteps hier path.steps → path_type u roots path ≡ path_type hier roots path
  path_same roots path seen = then_each (slice_get roots path.root) (λ t. steps_type u t path.steps) (λ t. steps_type hier t path.steps) (λ t. steps_same path.steps t seen)

field_in : (name : Word) (fs : List (Word × Ty)) (t : Ty) → field_type name fs ≡ Some t → (f : Word × Ty) × In f fs × (f.1 ≡ t)
field_in name [] t e = absurd cc
field_in name (f ∷ fs) t e = elim (same f.0 name) as (λ b. cond b (Some f.1) (field_type name fs) ≡ Some t → (g : Word × Ty) × In g (f ∷ fs) × (g.1 ≡ t)) [
  | true ↦ λ h. (f, here, some_same f.1 t h)
  | false ↦ λ h. let r = field_in name fs t h in (r.0, there r.1, r.2)
] e

-- what the types of a universe's paths name is seen, where that holds of the roots' types
module _ (hier : Hier) (valid : IsUniverse hier) where
  steps_seen : (steps : List PathStep) (t v : Ty) → IsSeenType hier t → steps_type hier t steps ≡ Some v → IsSeenType hier v
  steps_seen [] t v seen e = subst (λ (x : Ty). IsSeenType hier x) (some_same t v e) seen
  steps_seen (s ∷ ss) t v seen e = elim (class_named s.class hier.classes) as (λ o. class_named s.class hier.classes ≡ o →
      option_and_then (λ c. option_and_then (λ w. steps_type hier w ss) (field_type s.field c.fields)) o ≡ Some v → IsSeenType hier v) [
        | None ↦ λ q h. absurd cc
        | Some c ↦ λ q h. elim (field_type s.field c.fields) as (λ o. field_type s.field c.fields ≡ o → option_and_then (λ w. steps_type hier w ss) o ≡ Some v → IsSeenType hier v) [
          | None ↦ λ r k. absurd cc
          | Some w ↦ λ r k.
              let f = field_in s.field c.fields w r in
              steps_seen ss w v (λ n m. valid.types c f.0 n (found_in s.class hier.classes c q).0 f.1 (subst (λ (x : Ty). Names x n) (sym f.2) m)) k
        ] refl h
      ] refl e

  pub path_seen : (roots : List Ty) → ((i : ℕ) (t : Ty) → slice_get roots i ≡ Some t → IsSeenType hier t) → (path : Path) (v : Ty) → path_type hier roots path ≡ Some v → IsSeenType hier v
  path_seen roots seen path v e = elim (slice_get roots path.root) as (λ o. slice_get roots path.root ≡ o → option_and_then (λ t. steps_type hier t path.steps) o ≡ Some v → IsSeenType hier v) [
    | None ↦ λ q h. absurd cc
    | Some t ↦ λ q h. steps_seen path.steps t v (seen path.root t q) h
  ] refl e

pub type_named : (t : Ty) (n : Word) → Names t n → In n (type_names t)
type_named t n (inl e) = subst (λ (x : Ty). In n (type_names x)) (sym e) here
type_named t n (inr e) = subst (λ (x : Ty). In n (type_names x)) (sym e) here

pub root_named : (roots : List Ty) (i : ℕ) (t : Ty) (n : Word) → slice_get roots i ≡ Some t → Names t n → In n (flat_map type_names roots)
root_named [] i t n e m = absurd cc
root_named (r ∷ rs) zero t n e m = in_left (flat_map type_names rs) (type_named r n (subst (λ (x : Ty). Names x n) (sym (some_same r t e)) m))
root_named (r ∷ rs) (suc i) t n e m = in_right (type_names r) (root_named rs i t n e m)
