-- Which classes are above themselves.
use Rattle.std.proofs.Common.{◌≡◌, ℕ, zero, suc, ◌+◌, ◌<◌, ◌≤◌, List, [], ◌∷◌, length, take, get_or, Bool, false, IsTrue, Some, inl, inr, map, refl, sym, ◌∙◌, ap, subst, arith}
use Rattle.jp_pred.specs.declared.hier.SeenClass.{SeenClass}
use Rattle.jp_pred.specs.declared.hier.Hier.{Hier}
use Rattle.jp_pred.specs.Names.{Word, In, here, there}
use Rattle.jp_pred.specs.Hierarchy.{named, parents, Ascends, SomeAscends, IsAboveItself, HasNoCycle}
use Rattle.jp_pred.proofs.Ascents.{name_there}
use Rattle.jp_pred.proofs.Visits.{in_more, in_get_or, in_named, in_super, in_face}

pub not_true : (b : Bool) → b ≡ false → IsTrue b → ⊥
not_true b e h = absurd cc

-- one of the names, from which the class is reached
pub found_under : (hier : Hier) (names : List Word) (i : ℕ) (x b u : Word) → i < length names → x ≡ get_or names i x → b ≡ x → Ascends hier b u → SomeAscends hier names u
found_under hier names i x b u l is e r = (x, subst (λ (y : Word). In y names) (sym is) (in_get_or names i x l), subst (λ (y : Word). Ascends hier y u) e r)

-- one more of the names, from which it isn't reached
pub none_more : (hier : Hier) (names : List Word) (i : ℕ) (x b u : Word) → i < length names → x ≡ get_or names i x → b ≡ x →
    (SomeAscends hier (take i names) u → ⊥) → (Ascends hier b u → ⊥) → SomeAscends hier (take (i + 1) names) u → ⊥
none_more hier names i x b u l is e none never s = elim (in_more names i x s.0 l s.1) [
  | inl k ↦ none (s.0, k, s.2)
  | inr q ↦ never (subst (λ (y : Word). Ascends hier y u) (sym (e ∙ (is ∙ q))) s.2)
]

pub by_superclass : (hier : Hier) (c : SeenClass) (p u : Word) → c.superclass ≡ Some p → Ascends hier p u → SomeAscends hier (named c) u
by_superclass hier c p u e r = (p, in_super c p e, r)

pub by_interface : (hier : Hier) (c : SeenClass) (faces : List Word) (u : Word) → faces ≡ c.interfaces → SomeAscends hier faces u → SomeAscends hier (named c) u
by_interface hier c faces u e s = (s.0, in_face c s.0 (subst (λ (xs : List Word). In s.0 xs) e s.1), s.2)

-- not from the superclass, so from an interface
pub else_interface : (hier : Hier) (c : SeenClass) (faces : List Word) (p u : Word) → faces ≡ c.interfaces → c.superclass ≡ Some p → (Ascends hier p u → ⊥) → SomeAscends hier (named c) u → SomeAscends hier faces u
else_interface hier c faces p u f e never s = elim (in_named c.superclass c.interfaces s.0 s.1) [
  | inl q ↦ absurd (never (subst (λ (y : Word). Ascends hier y u) (let w : Some s.0 ≡ Some p = sym q ∙ e in cc) s.2))
  | inr j ↦ (s.0, subst (λ (xs : List Word). In s.0 xs) (sym f) j, s.2)
]

pub in_map_back : {X Y : Type 0} (f : X → Y) (xs : List X) (y : Y) → In y (map f xs) → (x : X) × In x xs × (f x ≡ y)
in_map_back f [] y i = elim i [ ]
in_map_back f (x ∷ xs) _ here = (x, here, refl)
in_map_back f (x ∷ xs) y (there i) = let r = in_map_back f xs y i in (r.0, there r.1, r.2)

-- no listed class is above itself, so none is
pub none_above : (hier : Hier) → ((c : SeenClass) → In c hier.classes → IsAboveItself hier c.name → ⊥) → HasNoCycle hier
none_above hier none a b i r =
    let e = in_map_back (λ (c : SeenClass). c.name) hier.classes a (name_there hier.classes a b i) in
    none e.0 e.1 (b, subst (λ (x : Word). In b (parents hier x)) (sym e.2) i, subst (λ (x : Word). Ascends hier b x) (sym e.2) r)

pub none_above_more : (hier : Hier) (cs : List SeenClass) (i : ℕ) (x : SeenClass) (name : Word) → i < length cs → x ≡ get_or cs i x → name ≡ x.name → (IsAboveItself hier name → ⊥) →
    ((c : SeenClass) → In c (take i cs) → IsAboveItself hier c.name → ⊥) → (c : SeenClass) → In c (take (i + 1) cs) → IsAboveItself hier c.name → ⊥
none_above_more hier cs i x name l is e never none c j above = elim (in_more cs i x c l j) [
  | inl k ↦ none c k above
  | inr q ↦ never (subst (λ (y : Word). IsAboveItself hier y) (ap (λ (z : SeenClass). z.name) (sym (is ∙ q)) ∙ sym e) above)
]

in_take_all : {X : Type 0} (xs : List X) (i : ℕ) (x : X) → length xs ≤ i → In x xs → In x (take i xs)
in_take_all (y ∷ ys) zero x l j = absurd (omega arith)
in_take_all (y ∷ ys) (suc i) _ l here = here
in_take_all (y ∷ ys) (suc i) x l (there j) = there (in_take_all ys i x (omega arith) j)
in_take_all [] i x l j = elim j [ ]

pub none_above_all : (hier : Hier) (i : ℕ) → length hier.classes ≤ i → ((c : SeenClass) → In c (take i hier.classes) → IsAboveItself hier c.name → ⊥) → HasNoCycle hier
none_above_all hier i l none = none_above hier (λ c j. none c (in_take_all hier.classes i c l j))
