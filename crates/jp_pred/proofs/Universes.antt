-- What stands above the classes of a universe, and what the universes that extend it say of them.
use Rattle.std.proofs.Common.{◌≡◌, List, ◌++◌, true, false, Option, Some, None, map, ◌⊎◌, inl, inr, refl, sym, ◌∙◌, ap, subst}
use Rattle.std.specs.Bool.{Decides}
use Rattle.jp_pred.specs.declared.hier.SeenClass.{SeenClass}
use Rattle.jp_pred.specs.declared.hier.Hier.{Hier}
use Rattle.jp_pred.specs.Names.{Word, object, In, here}
use Rattle.jp_pred.specs.Hierarchy.{class_named, named_of, or_none, parents, Ascends, stop, up, IsBelow, is_below}
use Rattle.jp_pred.specs.Universe.{IsClass, IsInterface, IsSeen, IsUniverse, Extends}
use Rattle.jp_pred.proofs.Ascents.{is_below-Decides}
use Rattle.jp_pred.proofs.Visits.{some_same, in_named, in_right}
use Rattle.jp_pred.proofs.Entries.{in_map}
use Rattle.jp_pred.proofs.Extension.{found_in, found_up, ascends_up}

pub named_in : (s : Option Word) (is : List Word) (b : Word) → (s ≡ Some b) ⊎ In b is → In b (or_none s ++ is)
named_in s is b (inl e) = subst (λ (o : Option Word). In b (or_none o ++ is)) (sym e) here
named_in s is b (inr i) = in_right (or_none s) i

-- a parent, with the entry that names it
pub record Parent (hier : Hier) (a b : Word) : Type 0 where
  pub entry : SeenClass
  pub found : class_named a hier.classes ≡ Some entry
  pub names : (entry.superclass ≡ Some b) ⊎ In b entry.interfaces

pub parent : (hier : Hier) (a b : Word) → In b (parents hier a) → Parent hier a b
parent hier a b i = elim (class_named a hier.classes) as (λ o. class_named a hier.classes ≡ o → In b (named_of o) → Parent hier a b) [
  | None ↦ λ h j. elim j [ ]
  | Some c ↦ λ h j. record { entry = c; found = h; names = in_named c.superclass c.interfaces b j }
] refl i

module _ (universe : Hier) (valid : IsUniverse universe) where
  pub interface_above : {a b : Word} → Ascends universe a b → IsInterface universe a → IsInterface universe b
  interface_above stop h = h
  interface_above (up {a} {b} {c} i r) h =
      let p = parent universe a b i in
      let q : p.entry ≡ h.entry = some_same _ _ (sym p.found ∙ h.found) in
      let t = found_in a universe.classes h.entry h.found in
      elim p.names [
        | inl s ↦ absurd (let n : h.entry.superclass ≡ None = (valid.interface h.entry t.0 h.kind).0 in let m : h.entry.superclass ≡ Some b = subst (λ (x : SeenClass). x.superclass ≡ Some b) q s in cc)
        | inr j ↦ interface_above r (valid.interfaces p.entry b (found_in a universe.classes p.entry p.found).0 j)
      ]

  pub not_both : (a : Word) → IsClass universe a → IsInterface universe a → ⊥
  not_both a c i =
      let q : c.entry ≡ i.entry = some_same _ _ (sym c.found ∙ i.found) in
      let f : i.entry.is_interface ≡ false = subst (λ (x : SeenClass). x.is_interface ≡ false) q c.kind in
      let t : i.entry.is_interface ≡ true = i.kind in
      cc

  -- on the way to a class each parent is the superclass
  pub by_superclass : (a b c : Word) → In b (parents universe a) → Ascends universe b c → IsClass universe c →
      (e : SeenClass) × (class_named a universe.classes ≡ Some e) × (e.superclass ≡ Some b)
  by_superclass a b c i r k =
      let p = parent universe a b i in
      elim p.names [
        | inl s ↦ (p.entry, p.found, s)
        | inr j ↦ absurd (not_both c k (interface_above r (valid.interfaces p.entry b (found_in a universe.classes p.entry p.found).0 j)))
      ]

  -- of two classes above one name, one is above the other
  pub linear : {a c d : Word} → Ascends universe a c → Ascends universe a d → IsClass universe c → IsClass universe d → Ascends universe c d ⊎ Ascends universe d c
  linear stop q k l = inl q
  linear (up {a} {b} {c} i r) stop k l = inr (up i r)
  linear (up {a} {b} {c} i r) (up {b = b'} {c = d} j q) k l =
      let x = by_superclass a b c i r k in
      let y = by_superclass a b' d j q l in
      let e : x.0 ≡ y.0 = some_same _ _ (sym x.1 ∙ y.1) in
      let s : Some b ≡ Some b' = sym x.2 ∙ (ap (λ (z : SeenClass). z.superclass) e ∙ y.2) in
      linear r (subst (λ (z : Word). Ascends universe z d) (sym (some_same b b' s)) q) k l

module _ (universe hier : Hier) (valid : IsUniverse hier) (e : Extends universe hier) where
  not_listed : (name : Word) (c : SeenClass) → class_named name universe.classes ≡ Some c → name ≡ object → ⊥
  not_listed name c h q =
      let t = found_in name universe.classes c h in
      e.valid.no_object (subst (λ (x : Word). In x (map (λ d. d.name) universe.classes)) (t.1 ∙ q) (in_map (λ d. d.name) t.0))

  -- what the universe names of a seen class, the hierarchy names of it
  pub parent_down : (a b : Word) → IsSeen hier a → In b (parents universe a) → In b (parents hier a) × IsSeen hier b
  parent_down a b (inl q) i = let p = parent universe a b i in absurd (not_listed a p.entry p.found q)
  parent_down a b (inr s) i =
      let p = parent universe a b i in
      let q : p.entry ≡ s.0 = some_same _ _ (sym p.found ∙ found_up universe hier e a s.0 s.1) in
      let t = found_in a hier.classes s.0 s.1 in
      let n : (s.0.superclass ≡ Some b) ⊎ In b s.0.interfaces = subst (λ (x : SeenClass). (x.superclass ≡ Some b) ⊎ In b x.interfaces) q p.names in (
        subst (λ (o : Option SeenClass). In b (named_of o)) (sym s.1) (named_in s.0.superclass s.0.interfaces b n),
        elim n [
          | inl h ↦ elim (valid.superclass s.0 b t.0 h) [ inl o ↦ inl o | inr c ↦ inr (c.entry, c.found) ]
          | inr j ↦ let k = valid.interfaces s.0 b t.0 j in inr (k.entry, k.found)
        ],
      )

  pub ascends_down : {a b : Word} → IsSeen hier a → Ascends universe a b → Ascends hier a b × IsSeen hier b
  ascends_down s stop = (stop, s)
  ascends_down s (up {a} {b} {c} i r) =
      let p = parent_down a b s i in
      let q = ascends_down p.1 r in
      (up p.0 q.0, q.1)

pub extends_trans : (larger universe hier : Hier) → Extends larger universe → Extends universe hier → Extends larger hier
extends_trans larger universe hier f e = record { valid = f.valid; keeps = λ c i. f.keeps c (e.keeps c i) }

-- what is above a seen class in a universe is what the hierarchy says
pub below_kept : (universe hier : Hier) (a b : Word) → IsUniverse hier → Extends universe hier → IsSeen hier a → Decides (is_below hier a b) (IsBelow universe a b)
below_kept universe hier a b valid e seen =
    let d = is_below-Decides hier a b valid.free in (
      (λ h. elim (d.0 h) [ inl r ↦ inl (ascends_up universe hier e r) | inr q ↦ inr q ]),
      (λ s. d.1 (elim s [ inl r ↦ inl (ascends_down universe hier valid e seen r).0 | inr q ↦ inr q ])),
    )
