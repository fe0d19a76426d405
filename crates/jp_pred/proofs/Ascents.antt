-- Ways up by named supertypes, and what a look of bounded depth finds of them.
use Rattle.std.proofs.Common.{◌≡◌, ℕ, zero, suc, ◌≤◌, List, [], ◌∷◌, length, Bool, true, false, IsTrue, cond, Some, map, inl, inr, refl, sym, ◌∙◌, ap, subst, arith}
use Rattle.std.specs.List.{list_any}
use Rattle.std.specs.Bool.{Decides}
use Rattle.std.proofs.lemmas.Slice.Eq.{bytes_eq-Decides}
use Rattle.std.proofs.lemmas.Bool.Decides.{same_from_decides}
use Rattle.jp_pred.specs.declared.hier.SeenClass.{SeenClass}
use Rattle.jp_pred.specs.declared.hier.Hier.{Hier}
use Rattle.jp_pred.specs.Names.{Word, object, same, In, here, there, AreDistinct}
use Rattle.jp_pred.specs.Hierarchy.{class_named, named_of, parents, Ascends, stop, up, IsBelow, HasNoCycle, reaches, is_below}
use Rattle.jp_pred.proofs.Lists.{or_cases, or_left, or_right, any_from_in, in_from_any, no_longer}

pub same_true : (a b : Word) → same a b ≡ true → a ≡ b
same_true a b h = (bytes_eq-Decides a b).0 h

pub same_refl : (a : Word) → same a a ≡ true
same_refl a = (bytes_eq-Decides a a).1 refl

pub ascent_from_reaches : (n : ℕ) (hier : Hier) (a b : Word) → reaches n hier a b ≡ true → Ascends hier a b
ascent_from_reaches zero hier a b h = subst (λ (x : Word). Ascends hier a x) (same_true a b h) stop
ascent_from_reaches (suc n) hier a b h = elim (or_cases (same a b) (list_any (λ p. reaches n hier p b) (parents hier a)) h) [
  | inl l ↦ subst (λ (x : Word). Ascends hier a x) (same_true a b l) stop
  | inr r ↦ let f = in_from_any (λ p. reaches n hier p b) (parents hier a) r in up f.1 (ascent_from_reaches n hier f.0 b f.2)
]

-- the names that a way up goes through, the last left out
data Walk (hier : Hier) : List Word → Word → Word → Type 0 where
  end : {a : Word} → Walk hier [] a a
  step : {ns : List Word} {a b c : Word} → In b (parents hier a) → Walk hier ns b c → Walk hier (a ∷ ns) a c

walk_from_ascent : {hier : Hier} {a b : Word} → Ascends hier a b → (ns : List Word) × Walk hier ns a b
walk_from_ascent (stop {a}) = ([], end)
walk_from_ascent (up {a} {b} {c} i r) = let w = walk_from_ascent r in (a ∷ w.0, step i w.1)

ascent_to : {hier : Hier} {ns : List Word} {a b x : Word} → Walk hier ns a b → In x ns → Ascends hier a x
ascent_to end j = elim j [ ]
ascent_to (step i w) here = stop
ascent_to (step i w) (there j) = up i (ascent_to w j)

walk_apart : {hier : Hier} {ns : List Word} {a b : Word} → HasNoCycle hier → Walk hier ns a b → AreDistinct ns
walk_apart free end = tt
walk_apart free (step {ns} {a} {b} {c} i w) = ((λ j. free a b i (ascent_to w j)), walk_apart free w)

pub name_there : (cs : List SeenClass) (a b : Word) → In b (named_of (class_named a cs)) → In a (map (λ c. c.name) cs)
name_there [] a b i = elim i [ ]
name_there (c ∷ cs) a b i = elim (same c.name a) as (λ t. same c.name a ≡ t → In b (named_of (cond t (Some c) (class_named a cs))) → In a (map (λ d. d.name) (c ∷ cs))) [
  | true ↦ λ e j. subst (λ (x : Word). In x (map (λ d. d.name) (c ∷ cs))) (same_true c.name a e) here
  | false ↦ λ e j. there (name_there cs a b j)
] refl i

walk_there : {hier : Hier} {ns : List Word} {a b x : Word} → Walk hier ns a b → In x ns → In x (map (λ c. c.name) hier.classes)
walk_there end j = elim j [ ]
walk_there {hier} (step {ns} {a} {b} {c} i w) here = name_there hier.classes a b i
walk_there (step i w) (there j) = walk_there w j

reaches_from_walk : {hier : Hier} {ns : List Word} {a b : Word} → Walk hier ns a b → (n : ℕ) → length ns ≤ n → reaches n hier a b ≡ true
reaches_from_walk (end {a}) zero h = same_refl a
reaches_from_walk {hier} (end {a}) (suc n) h = or_left (same a a) _ (same_refl a)
reaches_from_walk (step i w) zero h = absurd (omega arith)
reaches_from_walk {hier} (step {ns} {a} {b} {c} i w) (suc n) h =
    or_right (same a c) _ (any_from_in (λ p. reaches n hier p c) i (reaches_from_walk w n (omega arith)))

pub length_map : {X Y : Type 0} (f : X → Y) (xs : List X) → length (map f xs) ≡ length xs
length_map f [] = refl
length_map f (x ∷ xs) = ap suc (length_map f xs)

pub reaches_from_ascent : (hier : Hier) (a b : Word) → HasNoCycle hier → Ascends hier a b → reaches (length hier.classes) hier a b ≡ true
reaches_from_ascent hier a b free r =
    let w = walk_from_ascent r in
    let short = no_longer w.0 (map (λ c. c.name) hier.classes) (walk_apart free w.1) (λ x i. walk_there w.1 i) in
    let e : length (map (λ c. c.name) hier.classes) ≡ length hier.classes = length_map (λ c. c.name) hier.classes in
    reaches_from_walk w.1 (length hier.classes) (omega arith)

pub is_below-Decides : (hier : Hier) (a b : Word) → HasNoCycle hier → Decides (is_below hier a b) (IsBelow hier a b)
is_below-Decides hier a b free = (
  (λ h. elim (or_cases (same b object) (reaches (length hier.classes) hier a b) h) [
    | inl l ↦ inr (same_true b object l)
    | inr r ↦ inl (ascent_from_reaches (length hier.classes) hier a b r)
  ]),
  (λ s. elim s [
    | inl r ↦ or_right (same b object) _ (reaches_from_ascent hier a b free r)
    | inr e ↦ or_left (same b object) _ (subst (λ (x : Word). same x object ≡ true) (sym e) (same_refl object))
  ]),
)

pub reaches-Decides : (hier : Hier) (a b : Word) → HasNoCycle hier → Decides (reaches (length hier.classes) hier a b) (Ascends hier a b)
reaches-Decides hier a b free = (ascent_from_reaches (length hier.classes) hier a b, reaches_from_ascent hier a b free)

-- an answer that says whether b is reached is the one of bounded depth
pub reached : (hier : Hier) (a b : Word) (r : Bool) → HasNoCycle hier → (IsTrue r → Ascends hier a b) → (Ascends hier a b → IsTrue r) → r ≡ reaches (length hier.classes) hier a b
reached hier a b r free from to = same_from_decides r (reaches (length hier.classes) hier a b) (from, to) (reaches-Decides hier a b free)

-- an answer that is computed says whether a is below b
pub exactly_below : (hier : Hier) (a b : Word) (r : Bool) → HasNoCycle hier → r ≡ is_below hier a b → (IsTrue r → IsBelow hier a b) × (IsBelow hier a b → IsTrue r)
exactly_below hier a b r free e = let d = is_below-Decides hier a b free in (λ h. d.0 (sym e ∙ h), λ h. e ∙ d.1 h)
