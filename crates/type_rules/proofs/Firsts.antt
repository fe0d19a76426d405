-- The least of a list of faults.
use Rattle.std.proofs.Common.{◌≡◌, List, [], ◌∷◌, Some, None, Bool, true, false, ◌⊎◌, inl, inr, refl, sym, subst, arith}
use Rattle.std.specs.Prelude.{if◌then◌else◌}
use Rattle.std.proofs.lemmas.Bool.Decides.{nat_tests}
use Rattle.jp_pred.specs.Names.{In, here, there}
use Rattle.type_rules.specs.declared.fault.TypeFault.{TypeFault}
use Rattle.type_rules.specs.Typing.{precedes, earlier}

irreflexive : (f : TypeFault) → precedes f f ≡ false
irreflexive f = grind (arith, nat_tests)

asymmetric : (f g : TypeFault) → precedes f g ≡ true → precedes g f ≡ false
asymmetric f g a = grind (arith, nat_tests)

-- what isn't before the second, which isn't before the third, isn't before the third
not_before : (f g h : TypeFault) → precedes f g ≡ false → precedes g h ≡ false → precedes f h ≡ false
not_before f g h a b = grind (arith, nat_tests)

-- f comes out of b and the list: it is one of them, and none of them is before it
record Least (b f : TypeFault) (fs : List TypeFault) : Type 0 where
  is_one : (f ≡ b) ⊎ In f fs
  not_that : precedes b f ≡ false
  none : (g : TypeFault) → In g fs → precedes g f ≡ false

none_in : (x f : TypeFault) (xs : List TypeFault) → precedes x f ≡ false → ((g : TypeFault) → In g xs → precedes g f ≡ false) → (g : TypeFault) → In g (x ∷ xs) → precedes g f ≡ false
none_in x f xs h all g here = h
none_in x f xs h all g (there i) = all g i

one_in : (x f : TypeFault) (xs : List TypeFault) → (f ≡ x) ⊎ In f xs → In f (x ∷ xs)
one_in x f xs (inl e) = subst (λ y. In y (x ∷ xs)) (sym e) here
one_in x f xs (inr i) = there i

one_behind : {b x f : TypeFault} {xs : List TypeFault} → (f ≡ b) ⊎ In f xs → (f ≡ b) ⊎ In f (x ∷ xs)
one_behind (inl e) = inl e
one_behind (inr i) = inr (there i)

some_is : {a b : TypeFault} → Some a ≡ Some b → a ≡ b
some_is e = cc

mutual_step : (b x f : TypeFault) (xs : List TypeFault) (t : Bool) → precedes x b ≡ t → Least (if t then x else b) f xs → Least b f (x ∷ xs)
mutual_step b x f xs true h l = record {
  is_one = inr (one_in x f xs l.is_one);
  not_that = not_before b x f (asymmetric x b h) l.not_that;
  none = none_in x f xs l.not_that l.none;
}
mutual_step b x f xs false h l = record {
  is_one = one_behind l.is_one;
  not_that = l.not_that;
  none = none_in x f xs (not_before x b f h l.not_that) l.none;
}

least : (fs : List TypeFault) (b f : TypeFault) → earlier (Some b) fs ≡ Some f → Least b f fs
least [] b f e = record { is_one = inl (sym (some_is e)); not_that = subst (λ y. precedes b y ≡ false) (some_is e) (irreflexive b); none = λ g i. absurd (elim i [ ]) }
least (x ∷ xs) b f e = mutual_step b x f xs (precedes x b) refl (least xs (if precedes x b then x else b) f e)

pub record IsLeast (f : TypeFault) (fs : List TypeFault) : Type 0 where
  pub is_one : In f fs
  pub none : (g : TypeFault) → In g fs → precedes g f ≡ false

pub first_of : (fs : List TypeFault) (f : TypeFault) → earlier None fs ≡ Some f → IsLeast f fs
first_of [] f e = absurd cc
first_of (x ∷ xs) f e = let l = least xs x f e in record { is_one = one_in x f xs l.is_one; none = none_in x f xs l.not_that l.none }

some_first : (fs : List TypeFault) (b : TypeFault) → earlier (Some b) fs ≡ None → ⊥
some_first [] b e = cc
some_first (x ∷ xs) b e = some_first xs (if precedes x b then x else b) e

pub none_first : (fs : List TypeFault) → earlier None fs ≡ None → fs ≡ []
none_first [] e = refl
none_first (x ∷ xs) e = absurd (some_first xs x e)
