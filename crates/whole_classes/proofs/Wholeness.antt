-- What is computed of a class says whether it is whole.
use Rattle.std.proofs.Common.{◌≡◌, ℕ, zero, suc, ◌+◌, ◌<◌, Bool, true, false, ◌&&◌, ◌||◌, List, [], ◌∷◌, ◌++◌, length, get_or, Option, Some, None, refl, sym, ap, ◌∙◌, subst, arith, below_more, ◌≤◌}
use Rattle.std.specs.Prelude.{not, if◌then◌else◌, slice_get, option_and_then}
use Rattle.std.specs.List.{list_any, flat_map, filter_map, cons_option}
use Rattle.std.specs.Option.{option_map, option_map_or}
use Rattle.std.proofs.lemmas.Bool.{true≢false}
use Rattle.jp_pred.specs.Names.{Word, In, here, there}
use Rattle.jp_pred.specs.Hierarchy.{is_below}
use Rattle.jp_pred.proofs.Lists.{any_from_in, in_from_any}
use Rattle.iface_codec.specs.declared.iface.Iface.{Iface}
use Rattle.iface_codec.specs.declared.iface.IfaceMethod.{IfaceMethod}
use Rattle.jp_meaning.specs.declared.unit.TypedClass.{TypedClass}
use Rattle.jp_meaning.specs.declared.unit.TypedMember.{TypedMember}
use Rattle.jp_meaning.specs.declared.unit.TypedPart.{TypedPart}
use Rattle.jp_meaning.specs.declared.unit.TypedPart.TheVariants as part
use Rattle.jp_meaning.specs.Does.{Method}
use Rattle.jp_meaning.specs.Descriptors.{method_descriptor}
use Rattle.jp_meaning.specs.Classes.{Candidate, is_body, is_virtual, is_named, as_method, as_named, methods_in, hier_in, upwards, chain_of}
use Rattle.type_rules.specs.Heads.{is_concrete}
use Rattle.whole_classes.specs.Bodies.{called, method_at, is_body_of, gives_body, lacks_some, lacks_of, lacks_body}
use Rattle.whole_classes.specs.Above.{HoldsAbove}
use Rattle.whole_classes.specs.Whole.{family_of, IsWhole, AreWhole, Lacks}
use Rattle.whole_classes.proofs.Reach.{below_met}

-- TRUTHS AND LISTS

pub and_left : (a b : Bool) → (a && b) ≡ true → a ≡ true
and_left true b h = refl
and_left false b h = h

pub and_right : (a b : Bool) → (a && b) ≡ true → b ≡ true
and_right true b h = h
and_right false b h = absurd (true≢false (sym h))

both : (a b : Bool) → a ≡ true → b ≡ true → (a && b) ≡ true
both true b h k = k
both false b h k = h

not_or : (a b : Bool) → not (a || b) ≡ (not a && not b)
not_or true b = refl
not_or false b = refl

pub any_same : {A : Type 0} (p q : A → Bool) → ((x : A) → p x ≡ q x) → (xs : List A) → list_any p xs ≡ list_any q xs
any_same p q e [] = refl
any_same p q e (x ∷ xs) = ap (λ b. b || list_any p xs) (e x) ∙ ap (λ b. q x || b) (any_same p q e xs)

abbrev is_nil : {A : Type 0} → List A → Bool
is_nil [] = true
is_nil (x ∷ xs) = false

nil_of : {A : Type 0} (xs : List A) → is_nil xs ≡ true → xs ≡ []
nil_of [] h = refl
nil_of (x ∷ xs) h = absurd (true≢false (sym h))

nil_append : {A : Type 0} (xs ys : List A) → is_nil (xs ++ ys) ≡ (is_nil xs && is_nil ys)
nil_append [] ys = refl
nil_append (x ∷ xs) ys = refl

-- BODIES OF A CHAIN

module _ (named : Method) where
  by_test : (b : Bool) (c : Candidate) (rest : List Candidate) (r : Bool) → is_nil rest ≡ not r → is_nil (cons_option (if b then Some c else None) rest) ≡ not (b || r)
  by_test true c rest r e = refl
  by_test false c rest r e = e

  by_method : (head : Iface) (m : TypedMember) (o : Option IfaceMethod) (rest : List Candidate) (r : Bool) → is_nil rest ≡ not r →
      is_nil (cons_option (option_and_then (λ (c : Candidate). if is_body c.method.kind && is_named named c.method then Some c else None) (option_map (λ (method : IfaceMethod). record { head = head; member = m; method = method }) o)) rest)
      ≡ not (option_map_or (λ (x : IfaceMethod). is_body x.kind && is_named named x) o false || r)
  by_method head m None rest r e = e
  by_method head m (Some x) rest r e = by_test (is_body x.kind && is_named named x) (record { head = head; member = m; method = x }) rest r e

  by_part : (head : Iface) (m : TypedMember) (p : TypedPart) (rest : List Candidate) (r : Bool) → is_nil rest ≡ not r →
      is_nil (cons_option (option_and_then (λ (c : Candidate). if is_body c.method.kind && is_named named c.method then Some c else None) (as_method head m p)) rest)
      ≡ not (option_map_or (λ (x : IfaceMethod). is_body x.kind && is_named named x) (method_at head p) false || r)
  by_part head m (part.Method at) rest r e = by_method head m (slice_get head.methods at) rest r e
  by_part head m (part.Field at) rest r e = e
  by_part head m (part.Constructor at) rest r e = e

  none_of_members : (head : Iface) (ms : List TypedMember) → is_nil (filter_map (as_named is_body named head) ms) ≡ not (list_any (is_body_of named head) ms)
  none_of_members head [] = refl
  none_of_members head (m ∷ ms) = by_part head m m.part (filter_map (as_named is_body named head) ms) (list_any (is_body_of named head) ms) (none_of_members head ms)

  none_of_line : (line : List TypedClass) → is_nil (flat_map (methods_in is_body named) line) ≡ not (list_any (gives_body named) line)
  none_of_line [] = refl
  none_of_line (c ∷ cs) =
      nil_append (methods_in is_body named c) (flat_map (methods_in is_body named) cs)
      ∙ (ap (λ b. b && is_nil (flat_map (methods_in is_body named) cs)) (none_of_members c.head c.members)
      ∙ (ap (λ b. not (gives_body named c) && b) (none_of_line cs)
      ∙ sym (not_or (gives_body named c) (list_any (gives_body named) cs))))

-- CLASSES

module _ (classes : List TypedClass) (c : TypedClass) where
  abbrev line : List TypedClass
  line = upwards (length classes) classes c.head.name

  -- a method of a family of which the line has no body
  abbrev lacks_one : IfaceMethod → Bool
  lacks_one m = is_virtual m.kind && not (list_any (gives_body (called m.name (method_descriptor m.params m.result))) line)

  abbrev lacks_of_upper : TypedClass → Bool
  lacks_of_upper d = is_below (hier_in classes) c.head.name d.head.name && lacks_some line d.head.methods

  -- a class that is told to lack a body lacks one
  pub lacking : lacks_body classes c ≡ true → Lacks classes c
  lacking h =
      let d = in_from_any lacks_of_upper classes (and_right (is_concrete c.head) (list_any lacks_of_upper classes) h) in
      let m = in_from_any lacks_one d.0.head.methods (and_right (is_below (hier_in classes) c.head.name d.0.head.name) (lacks_some line d.0.head.methods) d.2) in
      let none = not (list_any (gives_body (called m.0.name (method_descriptor m.0.params m.0.result))) line) in
      record {
        concrete = and_left (is_concrete c.head) (list_any lacks_of_upper classes) h;
        upper = d.0;
        is_one = d.1;
        is_above = and_left (is_below (hier_in classes) c.head.name d.0.head.name) (lacks_some line d.0.head.methods) d.2;
        method = m.0;
        is_declared = m.1;
        is_of_family = and_left (is_virtual m.0.kind) none m.2;
        has_none = nil_of (chain_of classes (family_of d.0.head m.0) c.head.name) (none_of_line (family_of d.0.head m.0) line ∙ and_right (is_virtual m.0.kind) none m.2);
      }

  -- and one that lacks one is told so
  lacked : Lacks classes c → lacks_body classes c ≡ true
  lacked l =
      let named = family_of l.upper.head l.method in
      let none : not (list_any (gives_body named) line) ≡ true = sym (none_of_line named line) ∙ ap is_nil l.has_none in
      let some : lacks_some line l.upper.head.methods ≡ true = any_from_in lacks_one l.is_declared (both (is_virtual l.method.kind) (not (list_any (gives_body named) line)) l.is_of_family none) in
      both (is_concrete c.head) (list_any lacks_of_upper classes) l.concrete
      (any_from_in lacks_of_upper l.is_one (both (is_below (hier_in classes) c.head.name l.upper.head.name) (lacks_some line l.upper.head.methods) l.is_above some))

  -- one that isn't told is whole
  pub is_whole : lacks_body classes c ≡ false → IsWhole classes c
  is_whole h = λ concrete d is_one is_above m is_declared is_of_family has_none. true≢false (sym (lacked (record {
    concrete = concrete;
    upper = d;
    is_one = is_one;
    is_above = is_above;
    method = m;
    is_declared = is_declared;
    is_of_family = is_of_family;
    has_none = has_none;
  })) ∙ h)

  -- and a whole one lacks none
  pub whole_lacks_none : IsWhole classes c → Lacks classes c → ⊥
  whole_lacks_none w l = w l.concrete l.upper l.is_one l.is_above l.method l.is_declared l.is_of_family l.has_none

  -- what is computed over the names that were met and the line is what is to be computed
  pub computed : (above : List Word) (met : List TypedClass) → HoldsAbove classes c.head.name above → met ≡ line → list_any (lacks_of above met) classes ≡ list_any lacks_of_upper classes
  computed above met h e = any_same (lacks_of above met) lacks_of_upper
      (λ d. ap (λ b. b && lacks_some met d.head.methods) (below_met classes c.head.name d.head.name above h) ∙ ap (λ (l : List TypedClass). is_below (hier_in classes) c.head.name d.head.name && lacks_some l d.head.methods) e) classes

  -- and so is it of a concrete class
  pub concrete_lacks : (r : Bool) → is_concrete c.head ≡ true → r ≡ list_any lacks_of_upper classes → r ≡ lacks_body classes c
  concrete_lacks r h e = e ∙ sym (ap (λ b. b && list_any lacks_of_upper classes) h)

-- THE FIRST

-- each class before a position is whole
abbrev pub AreWholeBefore : List TypedClass → ℕ → Type 0
AreWholeBefore classes n = (i : ℕ) → i < n → (c : TypedClass) → slice_get classes i ≡ Some c → IsWhole classes c

one_there : (x y : TypedClass) → Some x ≡ Some y → x ≡ y
one_there x y e = cc

pub there_at : (xs : List TypedClass) (i : ℕ) (x : TypedClass) → i < length xs → x ≡ get_or xs i x → slice_get xs i ≡ Some x
there_at [] i x l e = absurd (omega arith)
there_at (y ∷ ys) zero x l e = ap (λ (z : TypedClass). Some z) (sym e)
there_at (y ∷ ys) (suc i) x l e = there_at ys i x (omega arith) e

-- one more
pub whole_more : (classes : List TypedClass) (n : ℕ) (x : TypedClass) → slice_get classes n ≡ Some x → IsWhole classes x → AreWholeBefore classes n → AreWholeBefore classes (n + 1)
whole_more classes n x e w before =
    below_more (λ (i : ℕ). (c : TypedClass) → slice_get classes i ≡ Some c → IsWhole classes c) n before (λ c k. subst (λ (y : TypedClass). IsWhole classes y) (one_there x c (sym e ∙ k)) w)

record Standing (cs : List TypedClass) (c : TypedClass) : Type 0 where
  at : ℕ
  inside : at < length cs
  is_there : slice_get cs at ≡ Some c

standing : (cs : List TypedClass) (c : TypedClass) → In c cs → Standing cs c
standing _ _ (here {x = c} {xs = cs}) = record { at = 0; inside = omega arith; is_there = refl }
standing _ _ (there {x = c} {y = d} {xs = cs} i) = let s = standing cs c i in record { at = suc s.at; inside = omega (arith, s.inside); is_there = s.is_there }

-- all of them
pub all_whole : (classes : List TypedClass) (n : ℕ) → length classes ≤ n → AreWholeBefore classes n → AreWhole classes
all_whole classes n l before = λ c i. let s = standing classes c i in before s.at (omega (arith, s.inside)) c s.is_there

in_at : (cs : List TypedClass) (i : ℕ) (c : TypedClass) → slice_get cs i ≡ Some c → In c cs
in_at [] i c e = absurd cc
in_at (d ∷ cs) zero c e = subst (λ (x : TypedClass). In x (d ∷ cs)) (one_there d c e) here
in_at (d ∷ cs) (suc i) c e = there (in_at cs i c e)

-- a class that lacks one is told, and then not all are whole
pub not_whole : (classes : List TypedClass) (at : ℕ) (c : TypedClass) → slice_get classes at ≡ Some c → lacks_body classes c ≡ true → AreWhole classes → ⊥
not_whole classes at c e h all = whole_lacks_none classes c (all c (in_at classes at c e)) (lacking classes c h)
