-- The superclasses that the rules look at are those that the meaning walks through.
use Rattle.std.proofs.Common.{◌≡◌, ◌⊎◌, ℕ, zero, suc, ◌≤◌, Bool, true, false, cond, List, [], ◌∷◌, length, Option, Some, None, refl, sym, ap, ◌∙◌, subst, inl, inr, arith}
use Rattle.std.specs.Prelude.{if◌then◌else◌}
use Rattle.std.specs.Option.{option_map_or}
use Rattle.jp_pred.specs.declared.hier.Hier.{Hier}
use Rattle.jp_pred.specs.Names.{Word, In, here, there, same}
use Rattle.jp_pred.specs.Hierarchy.{parents, Ascends, stop, up, SomeAscends, HasNoCycle}
use Rattle.jp_pred.proofs.Ascents.{same_true}
use Rattle.jp_pred.proofs.Entries.{split_in}
use Rattle.jp_pred.proofs.Lists.{in_from_any}
use Rattle.jp_pred.proofs.Visits.{true_or_false}
use Rattle.iface_codec.specs.declared.iface.Iface.{Iface}
use Rattle.jp_ast.specs.declared.decl.Decl.{Decl}
use Rattle.jp_meaning.specs.declared.unit.TypedClass.{TypedClass}
use Rattle.jp_meaning.specs.Classes.{class_in, hier_in, upwards}
use Rattle.type_rules.specs.Types.{is_among}
use Rattle.type_rules.specs.Heads.{head, head_of, superclass_of}
use Rattle.type_rules.specs.Lookups.{unless_met, climb, superclasses}
use Rattle.calls_fit.proofs.Named.{some_is, none_is, class_at, is_parent, through}

-- Classes that are made of declarations: each one that is found by a name is the one of a declaration that is found so, with
-- its superclass
abbrev pub AreFound : List Iface → List TypedClass → Type 0
AreFound heads classes =
    (name : Word) (c : TypedClass) → class_in classes name ≡ Some c → (d : Decl) × (head_of heads name ≡ Some (head d)) × (d.name ≡ name) × (c.head.superclass ≡ superclass_of d)

-- a name is strictly below another
abbrev IsUnder : List TypedClass → Word → Word → Type 0
IsUnder classes low high = SomeAscends (hier_in classes) (parents (hier_in classes) low) high

-- the head of a class is among those that are climbed to
abbrev pub IsClimbed : List Iface → TypedClass → List Iface → Type 0
IsClimbed heads c hs = (d : Decl) × (head_of heads c.head.name ≡ Some (head d)) × In (head d) hs

module _ (heads : List Iface) (classes : List TypedClass) (found : AreFound heads classes) (acyclic : HasNoCycle (hier_in classes)) where
  -- no name that was met is met again
  not_met : (met : List Word) (name : Word) → ((w : Word) → In w met → IsUnder classes w name) → is_among name met ≡ false
  not_met met name under = elim (true_or_false (is_among name met)) [
    | inl t ↦ let g = in_from_any (λ n. same n name) met t in
        let u = under g.0 g.1 in
        absurd (acyclic g.0 u.0 u.1 (subst (Ascends (hier_in classes) u.0) (sym (same_true g.0 name g.2)) u.2))
    | inr f ↦ f
  ]

  -- what stands strictly below a class stands strictly below its superclass
  still_under : (name above : Word) (c : TypedClass) → class_in classes name ≡ Some c → c.head.superclass ≡ Some above → (met : List Word) → ((w : Word) → In w met → IsUnder classes w name) → (w : Word) → In w (name ∷ met) → IsUnder classes w above
  still_under name above c e s met under w i = elim (split_in name w met i) [
    | inl q ↦ subst (λ (x : Word). IsUnder classes x above) q (above, is_parent classes name above c e s, stop)
    | inr k ↦ let u = under w k in (u.0, u.1, through u.2 (up (is_parent classes name above c e s) stop))
  ]

  climbs : (n k : ℕ) → k ≤ n → (met : List Word) (name : Word) → ((w : Word) → In w met → IsUnder classes w name) → (c : TypedClass) → In c (upwards k classes name) → IsClimbed heads c (climb n heads met (Some name))
  climbs n zero le met name under c i = elim i [ ]
  climbs zero (suc k) le met name under c i = absurd (omega (arith, le))
  climbs (suc n) (suc k) le met name under c i = by_class (class_in classes name) refl i (λ met above under j. climbs n k (omega (arith, le)) met above under c j) where
    Rec : Type 0
    Rec = (met : List Word) (above : Word) → ((w : Word) → In w met → IsUnder classes w above) → In c (upwards k classes above) → IsClimbed heads c (climb n heads met (Some above))

    go : Iface → List Iface
    go h = h ∷ climb n heads (h.name ∷ met) h.superclass

    climbed : (x : TypedClass) (d : Decl) → head_of heads name ≡ Some (head d) → unless_met heads met (Some name) go ≡ go (head d)
    climbed x d e = ap (λ (b : Bool). if b then [] else option_map_or go (head_of heads name) []) (not_met met name under) ∙ ap (λ (o : Option Iface). option_map_or go o []) e

    by_super : (x : TypedClass) → class_in classes name ≡ Some x → (d : Decl) → d.name ≡ name → (o : Option Word) → x.head.superclass ≡ o → superclass_of d ≡ o → In c (option_map_or (upwards k classes) o []) → Rec → IsClimbed heads c (climb n heads (d.name ∷ met) o)
    by_super x e d q None s t j rec = elim j [ ]
    by_super x e d q (Some above) s t j rec =
        rec (d.name ∷ met) above (subst (λ (y : Word). (w : Word) → In w (y ∷ met) → IsUnder classes w above) (sym q) (still_under name above x e s met under)) j

    by_class : (o : Option TypedClass) → class_in classes name ≡ o → In c (option_map_or (λ x. x ∷ option_map_or (upwards k classes) x.head.superclass []) o []) → Rec → IsClimbed heads c (unless_met heads met (Some name) go)
    by_class None e j rec = elim j [ ]
    by_class (Some x) e j rec =
        let f = found name x e in
        let at = class_at classes name x e in
        subst (IsClimbed heads c) (sym (climbed x f.0 f.1)) (elim (split_in x c (option_map_or (upwards k classes) x.head.superclass []) j) [
          | inl q ↦ (f.0, ap (head_of heads) (ap (λ (y : TypedClass). y.head.name) (sym q) ∙ at.1) ∙ f.1, here)
          | inr l ↦ let g = by_super x e f.0 f.2 (superclass_of f.0) f.3 refl (subst (λ (o : Option Word). In c (option_map_or (upwards k classes) o [])) f.3 l) rec in (g.0, g.1, there g.2)
        ])

  -- a class that is walked to from the superclass of another is one of its superclasses
  pub above_it : (k : ℕ) → k ≤ length heads → (c : TypedClass) (x : TypedClass) (name : Word) (d : Decl) → class_in classes name ≡ Some x → d.name ≡ name → x.head.superclass ≡ superclass_of d → In c (option_map_or (upwards k classes) x.head.superclass []) → IsClimbed heads c (superclasses heads (head d))
  above_it k le c x name d e q s i = by_super (superclass_of d) refl (subst (λ (o : Option Word). In c (option_map_or (upwards k classes) o [])) s i) where
    by_super : (o : Option Word) → superclass_of d ≡ o → In c (option_map_or (upwards k classes) o []) → IsClimbed heads c (climb (length heads) heads (d.name ∷ []) o)
    by_super None t j = elim j [ ]
    by_super (Some above) t j =
        climbs (length heads) k le (d.name ∷ []) above (subst (λ (y : Word). (w : Word) → In w (y ∷ []) → IsUnder classes w above) (sym q) (still_under name above x e (s ∙ t) [] (λ w j. elim j [ ]))) c j

-- Of two classes on a way upwards one is the other, or is walked to from its superclass
pub record IsPast (classes : List TypedClass) (most : ℕ) (low high : TypedClass) : Type 0 where
  pub name : Word
  pub found : class_in classes name ≡ Some low
  pub count : ℕ
  pub few : count ≤ most
  pub walked : In high (option_map_or (upwards count classes) low.head.superclass [])

longer : {classes : List TypedClass} {n m : ℕ} {low high : TypedClass} → n ≤ m → IsPast classes n low high → IsPast classes m low high
longer {n = n} {m = m} le h = let few = h.few in record { name = h.name; found = h.found; count = h.count; few = omega (arith, le, few); walked = h.walked }

pub along : (classes : List TypedClass) (n : ℕ) (name : Word) (a b : TypedClass) → In a (upwards n classes name) → In b (upwards n classes name) → (a ≡ b) ⊎ (IsPast classes n a b ⊎ IsPast classes n b a)
along classes zero name a b i j = elim i [ ]
along classes (suc n) name a b i j = by_class (class_in classes name) refl i j (λ above k l. along classes n above a b k l) where
  Rec : Type 0
  Rec = (above : Word) → In a (upwards n classes above) → In b (upwards n classes above) → (a ≡ b) ⊎ (IsPast classes n a b ⊎ IsPast classes n b a)

  later : TypedClass → List TypedClass
  later x = option_map_or (upwards n classes) x.head.superclass []

  past : (x y : TypedClass) → class_in classes name ≡ Some x → In y (later x) → IsPast classes (suc n) x y
  past x y e l = record { name = name; found = e; count = n; few = omega arith; walked = l }

  rest : (o : Option Word) → In a (option_map_or (upwards n classes) o []) → In b (option_map_or (upwards n classes) o []) → Rec → (a ≡ b) ⊎ (IsPast classes (suc n) a b ⊎ IsPast classes (suc n) b a)
  rest None k l rec = elim k [ ]
  rest (Some above) k l rec = elim (rec above k l) [
    | inl q ↦ inl q
    | inr r ↦ elim r [
      | inl p ↦ inr (inl (longer (omega arith) p))
      | inr p ↦ inr (inr (longer (omega arith) p))
    ]
  ]

  by_class : (o : Option TypedClass) → class_in classes name ≡ o → In a (option_map_or (λ x. x ∷ later x) o []) → In b (option_map_or (λ x. x ∷ later x) o []) → Rec → (a ≡ b) ⊎ (IsPast classes (suc n) a b ⊎ IsPast classes (suc n) b a)
  by_class None e i j rec = elim i [ ]
  by_class (Some x) e i j rec = elim (split_in x a (later x) i) [
    | inl p ↦ elim (split_in x b (later x) j) [
      | inl q ↦ inl (sym p ∙ q)
      | inr l ↦ inr (inl (subst (λ (y : TypedClass). IsPast classes (suc n) y b) p (past x b e l)))
    ]
    | inr k ↦ elim (split_in x b (later x) j) [
      | inl q ↦ inr (inr (subst (λ (y : TypedClass). IsPast classes (suc n) y a) q (past x a e k)))
      | inr l ↦ rest x.head.superclass k l rec
    ]
  ]
