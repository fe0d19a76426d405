-- Where no body has a guard, the first body of a chain is the one that is selected.
use Rattle.std.proofs.Common.{◌≡◌, ℕ, zero, suc, Bool, true, false, ◌&&◌, ◌||◌, List, [], ◌∷◌, ◌++◌, length, map, Option, Some, None, ◌⊎◌, inl, inr, refl, sym, ap, ◌∙◌, subst, rules}
use Rattle.std.specs.Prelude.{◌≢◌, cond, is_some, slice_get}
use Rattle.std.specs.List.{flat_map, list_any}
use Rattle.std.specs.Option.{option_map, option_map_or}
use Rattle.std.proofs.lemmas.Bool.{false≢true}
use Rattle.std.proofs.lemmas.Option.{slice_get-map}
use Rattle.jp_pred.specs.declared.guard.Guard.{Guard, the_lemmas}
use Rattle.jp_pred.specs.declared.guard.Guard.TheVariants as guard
use Rattle.jp_pred.specs.declared.guard.Atom.{Atom}
use Rattle.jp_pred.specs.declared.guard.Atom.TheVariants as atom
use Rattle.jp_pred.specs.declared.hier.Hier.{Hier}
use Rattle.jp_pred.specs.declared.hier.SeenClass.{SeenClass}
use Rattle.jp_pred.specs.declared.shape.Kind.{Kind}
use Rattle.jp_pred.specs.declared.shape.Kind.TheVariants as kind
use Rattle.jp_pred.specs.declared.shape.Shape.{Shape}
use Rattle.jp_pred.specs.declared.ty.Ty.{Ty}
use Rattle.jp_pred.specs.declared.ty.Ty.TheVariants as ty
use Rattle.jp_pred.specs.Names.{Word, same, In, here}
use Rattle.jp_pred.specs.Hierarchy.{class_named, or_none, named_of, Ascends, stop, up, IsBelow, is_below}
use Rattle.jp_pred.specs.Universe.{IsUniverse, IsSeen}
use Rattle.jp_pred.specs.Paths.{this}
use Rattle.jp_pred.specs.Truth.{kind_below, is_of, entry_of, atom_holds, truth, is_true}
use Rattle.jp_pred.specs.Implication.{Implies}
use Rattle.jp_pred.specs.Selection.{Body, whole_guard, Applies, Selected}
use Rattle.jp_pred.proofs.Ascents.{is_below-Decides}
use Rattle.jp_pred.proofs.Agreement.{below_trans}
use Rattle.jp_pred.proofs.Universes.{below_kept}
use Rattle.jp_pred.proofs.Selections.{equal_or_other}
use Rattle.iface_codec.specs.declared.iface.Iface.{Iface}
use Rattle.iface_codec.specs.Hierarchy.{seen_class}
use Rattle.jp_meaning.specs.declared.unit.TypedClass.{TypedClass}
use Rattle.jp_meaning.specs.Does.{Method}
use Rattle.jp_meaning.specs.Classes.{Candidate, is_body, hier_in, class_in, methods_in, upwards, chain_of}
use Rattle.jp_meaning.specs.Choice.{IsChoice}
use Rattle.jp_meaning.specs.Run.{Program, body_of, parameters_of}
use Rattle.whole_program.specs.Right.{question_in}
use Rattle.gen_laws.specs.Plain.{HasNoGuards}
use Rattle.gen_laws.specs.Laws.{UnguardedSelectsNearest}
use Rattle.gen_laws.proofs.Lists.{one_there}
use Rattle.gen_laws.proofs.Names.{class_found}
use Rattle.gen_laws.proofs.Methods.{one_of_class}

-- what stands in one of two lists
in_either : {A : Type 0} (xs ys : List A) (i : ℕ) (x : A) → slice_get (xs ++ ys) i ≡ Some x → ((j : ℕ) × (slice_get xs j ≡ Some x)) ⊎ ((j : ℕ) × (slice_get ys j ≡ Some x))
in_either [] ys i x e = inr (i, e)
in_either (z ∷ xs) ys zero x e = inl (zero, e)
in_either (z ∷ xs) ys (suc i) x e = elim (in_either xs ys i x e) [
  | inl r ↦ inl (suc r.0, r.1)
  | inr r ↦ inr r
]

-- a class that is found is seen
seen_so : (classes : List TypedClass) (name : Word) (c : TypedClass) → class_in classes name ≡ Some c → class_named name (hier_in classes).classes ≡ Some (seen_class c.head)
seen_so [] name c e = absurd (false≢true (ap is_some e))
seen_so (d ∷ classes) name c e = by_first (same d.head.name name) e (λ e. seen_so classes name c e) where
  by_first : (b : Bool) → cond b (Some d) (class_in classes name) ≡ Some c → (class_in classes name ≡ Some c → class_named name (hier_in classes).classes ≡ Some (seen_class c.head)) → cond b (Some (seen_class d.head)) (class_named name (hier_in classes).classes) ≡ Some (seen_class c.head)
  by_first true e rec = ap (λ (x : TypedClass). Some (seen_class x.head)) (one_there (Some d) d c refl e)
  by_first false e rec = rec e

module _ (p : Program) (m : Method) where
  abbrev hier : Hier
  hier = hier_in p.classes

  abbrev bodies : TypedClass → List Candidate
  bodies = methods_in is_body m

  -- the superclass is one step up
  one_up : (name super above : Word) (c : TypedClass) → class_in p.classes name ≡ Some c → c.head.superclass ≡ Some super → Ascends hier super above → Ascends hier name above
  one_up name super above c e s r = up (subst (λ (o : Option SeenClass). In super (named_of o)) (sym (seen_so p.classes name c e)) (subst (λ (o : Option Word). In super (or_none o ++ c.head.interfaces)) (sym s) here)) r

  -- each body of a chain is of a class at or above
  chain_above : (n : ℕ) (name : Word) (i : ℕ) (x : Candidate) → slice_get (flat_map bodies (upwards n p.classes name)) i ≡ Some x → Ascends hier name x.head.name
  chain_above zero name i x e = absurd (false≢true (ap is_some e))
  chain_above (suc n) name i x e = by_class (class_in p.classes name) refl e (λ name i e. chain_above n name i x e) where
    Rec : Type 0
    Rec = (name : Word) (i : ℕ) → slice_get (flat_map bodies (upwards n p.classes name)) i ≡ Some x → Ascends hier name x.head.name

    by_super : (c : TypedClass) → class_in p.classes name ≡ Some c → (o : Option Word) → c.head.superclass ≡ o → (i : ℕ) → slice_get (flat_map bodies (option_map_or (upwards n p.classes) o [])) i ≡ Some x → Rec → Ascends hier name x.head.name
    by_super c k None s i e rec = absurd (false≢true (ap is_some e))
    by_super c k (Some super) s i e rec = one_up name super x.head.name c k s (rec super i e)

    by_class : (o : Option TypedClass) → class_in p.classes name ≡ o → slice_get (flat_map bodies (option_map_or (λ c. c ∷ option_map_or (upwards n p.classes) c.head.superclass []) o [])) i ≡ Some x → Rec → Ascends hier name x.head.name
    by_class None k e rec = absurd (false≢true (ap is_some e))
    by_class (Some c) k e rec = elim (in_either (bodies c) (flat_map bodies (option_map_or (upwards n p.classes) c.head.superclass [])) i x e) [
      | inl r ↦ let is = ap (λ (h : Iface). h.name) (one_of_class is_body m c r.0 x r.1).fits.head_is ∙ (class_found p.classes name c k).named in subst (λ (a : Word). Ascends hier name a) (sym is) stop
      | inr r ↦ by_super c k c.head.superclass refl r.0 r.1 rec
    ]

  -- the first is of a class at or below those of the others
  first_below : (n : ℕ) (name : Word) (i : ℕ) (y x : Candidate) → slice_get (flat_map bodies (upwards n p.classes name)) 0 ≡ Some y → slice_get (flat_map bodies (upwards n p.classes name)) i ≡ Some x → Ascends hier y.head.name x.head.name
  first_below zero name i y x f e = absurd (false≢true (ap is_some e))
  first_below (suc n) name i y x f e = by_class (class_in p.classes name) refl f e (chain_above (suc n) name i x e) (λ name f e. first_below n name i y x f e) where
    Rec : Type 0
    Rec = (name : Word) → slice_get (flat_map bodies (upwards n p.classes name)) 0 ≡ Some y → slice_get (flat_map bodies (upwards n p.classes name)) i ≡ Some x → Ascends hier y.head.name x.head.name

    by_super : (o : Option Word) → slice_get (flat_map bodies (option_map_or (upwards n p.classes) o [])) 0 ≡ Some y → slice_get (flat_map bodies (option_map_or (upwards n p.classes) o [])) i ≡ Some x → Rec → Ascends hier y.head.name x.head.name
    by_super None f e rec = absurd (false≢true (ap is_some e))
    by_super (Some super) f e rec = rec super f e

    by_here : (c : TypedClass) → class_in p.classes name ≡ Some c → (b : List Candidate) → bodies c ≡ b → slice_get (b ++ flat_map bodies (option_map_or (upwards n p.classes) c.head.superclass [])) 0 ≡ Some y → slice_get (b ++ flat_map bodies (option_map_or (upwards n p.classes) c.head.superclass [])) i ≡ Some x → Ascends hier name x.head.name → Rec → Ascends hier y.head.name x.head.name
    by_here c k [] is f e r rec = by_super c.head.superclass f e rec
    by_here c k (z ∷ zs) is f e r rec =
        let one = one_of_class is_body m c 0 y (ap (λ (l : List Candidate). slice_get l 0) is ∙ f) in
        let named = ap (λ (h : Iface). h.name) one.fits.head_is ∙ (class_found p.classes name c k).named in
        subst (λ (a : Word). Ascends hier a x.head.name) (sym named) r

    by_class : (o : Option TypedClass) → class_in p.classes name ≡ o → slice_get (flat_map bodies (option_map_or (λ c. c ∷ option_map_or (upwards n p.classes) c.head.superclass []) o [])) 0 ≡ Some y → slice_get (flat_map bodies (option_map_or (λ c. c ∷ option_map_or (upwards n p.classes) c.head.superclass []) o [])) i ≡ Some x →
        Ascends hier name x.head.name → Rec → Ascends hier y.head.name x.head.name
    by_class None k f e r rec = absurd (false≢true (ap is_some e))
    by_class (Some c) k f e r rec = by_here c k (bodies c) refl f e r rec

  -- a body of a chain is a method of one of the classes
  record Declared (x : Candidate) : Type 0 where
    name : Word
    at : ℕ
    c : TypedClass
    there_is : slice_get p.classes at ≡ Some c
    found_so : class_in p.classes name ≡ Some c
    head_is : x.head ≡ c.head
    named : c.head.name ≡ name
    index : ℕ
    method_there : slice_get c.head.methods index ≡ Some x.method

  declared_so : (n : ℕ) (name : Word) (i : ℕ) (x : Candidate) → slice_get (flat_map bodies (upwards n p.classes name)) i ≡ Some x → Declared x
  declared_so zero name i x e = absurd (false≢true (ap is_some e))
  declared_so (suc n) name i x e = by_class (class_in p.classes name) refl e (λ name i e. declared_so n name i x e) where
    Rec : Type 0
    Rec = (name : Word) (i : ℕ) → slice_get (flat_map bodies (upwards n p.classes name)) i ≡ Some x → Declared x

    by_super : (o : Option Word) (i : ℕ) → slice_get (flat_map bodies (option_map_or (upwards n p.classes) o [])) i ≡ Some x → Rec → Declared x
    by_super None i e rec = absurd (false≢true (ap is_some e))
    by_super (Some super) i e rec = rec super i e

    by_class : (o : Option TypedClass) → class_in p.classes name ≡ o → slice_get (flat_map bodies (option_map_or (λ c. c ∷ option_map_or (upwards n p.classes) c.head.superclass []) o [])) i ≡ Some x → Rec → Declared x
    by_class None k e rec = absurd (false≢true (ap is_some e))
    by_class (Some c) k e rec = elim (in_either (bodies c) (flat_map bodies (option_map_or (upwards n p.classes) c.head.superclass [])) i x e) [
      | inl r ↦ let one = one_of_class is_body m c r.0 x r.1 in let f = class_found p.classes name c k in
          record { name = name; at = f.at; c = c; there_is = f.there; found_so = k; head_is = one.fits.head_is; named = f.named; index = one.fits.at; method_there = one.fits.method_there }
      | inr r ↦ by_super c.head.superclass r.0 r.1 rec
    ]

-- a class test that passes, passes for what is above
any_below : (u : Hier) (a b : Word) → ((n : Word) → is_below u n a ≡ true → is_below u n b ≡ true) → (names : List Word) → list_any (λ n. is_below u n a) names ≡ true → list_any (λ n. is_below u n b) names ≡ true
any_below u a b h [] e = absurd (false≢true e)
any_below u a b h (n ∷ ns) e = by_first (is_below u n a) refl e (any_below u a b h ns) where
  or_right : (x : Bool) → (x || true) ≡ true
  or_right true = refl
  or_right false = refl

  by_first : (x : Bool) → is_below u n a ≡ x → (x || list_any (λ n. is_below u n a) ns) ≡ true → (list_any (λ n. is_below u n a) ns ≡ true → list_any (λ n. is_below u n b) ns ≡ true) → (is_below u n b || list_any (λ n. is_below u n b) ns) ≡ true
  by_first true k e rec = ap (λ x. x || list_any (λ n. is_below u n b) ns) (h n k)
  by_first false k e rec = ap (λ x. is_below u n b || x) (rec e) ∙ or_right (is_below u n b)

kind_above : (u : Hier) (a b : Word) → ((n : Word) → is_below u n a ≡ true → is_below u n b ≡ true) → (k : Kind) → kind_below u k (ty.Class a) ≡ true → kind_below u k (ty.Class b) ≡ true
kind_above u a b h kind.Null e = absurd (false≢true e)
kind_above u a b h kind.Array e = absurd (false≢true e)
kind_above u a b h (kind.Known name) e = any_below u a b h (name ∷ []) e
kind_above u a b h (kind.Fresh superclass interfaces) e = any_below u a b h (superclass ∷ interfaces) e

entry_above : (u : Hier) (a b : Word) → ((n : Word) → is_below u n a ≡ true → is_below u n b ≡ true) → (o : Option Kind) → is_of u (ty.Class a) o ≡ true → is_of u (ty.Class b) o ≡ true
entry_above u a b h None e = absurd (false≢true e)
entry_above u a b h (Some k) e = kind_above u a b h k e

-- the truth of a test alone, and of no guard
only_test : (value : Atom → Bool) (a : Atom) → truth value (guard.And (guard.Atom a) guard.True) ≡ (value a && true)
only_test value a = search (rules, the_lemmas)

no_test : (value : Atom → Bool) → truth value guard.True ≡ true
no_test value = search (rules, the_lemmas)

and_true : (b : Bool) → (b && true) ≡ b
and_true true = refl
and_true false = refl

module _ (p : Program) (valid : IsUniverse (hier_in p.classes)) (free : HasNoGuards p) (m : Method) (name : Word) where
  abbrev chain : List Candidate
  chain = chain_of p.classes m name

  unguarded : (i : ℕ) (x : Candidate) → slice_get chain i ≡ Some x → x.method.guard ≡ guard.True
  unguarded i x e = let d = declared_so p m (length p.classes) name i x e in free d.at d.index d.c x.method d.there_is d.method_there

  test_is : (u : Hier) (shape : Shape) (i : ℕ) (x : Candidate) → slice_get chain i ≡ Some x → is_true u shape (whole_guard (body_of x)) ≡ is_of u (ty.Class x.head.name) (entry_of this shape.refs)
  test_is u shape i x e =
      let a = atom.Is this (ty.Class x.head.name) in
      ap (λ (g : Guard). is_true u shape (guard.And (guard.Atom a) g)) (unguarded i x e) ∙ only_test (atom_holds u shape) a ∙ and_true (atom_holds u shape a)

  -- the class of the first is below that of each other
  first_implies : (parameters : List Ty) (i : ℕ) (y x : Candidate) → slice_get chain 0 ≡ Some y → slice_get chain i ≡ Some x → Implies (hier_in p.classes) parameters (whole_guard (body_of y)) (whole_guard (body_of x))
  first_implies parameters i y x f e u shape extends over true_there =
      let d = declared_so p m (length p.classes) name 0 y f in
      let seen : IsSeen (hier_in p.classes) y.head.name = inr (seen_class d.c.head, ap (λ (n : Word). class_named n (hier_in p.classes).classes) (ap (λ (h : Iface). h.name) d.head_is ∙ d.named) ∙ seen_so p.classes d.name d.c d.found_so) in
      let below = (is_below-Decides (hier_in p.classes) y.head.name x.head.name valid.free).1 (inl (first_below p m (length p.classes) name i y x f e)) in
      let above : IsBelow u y.head.name x.head.name = (below_kept u (hier_in p.classes) y.head.name x.head.name valid extends seen).0 below in
      let passes : (n : Word) → is_below u n y.head.name ≡ true → is_below u n x.head.name ≡ true = λ n k.
      (is_below-Decides u n x.head.name extends.valid.free).1 (below_trans u extends.valid n y.head.name x.head.name ((is_below-Decides u n y.head.name extends.valid.free).0 k) above) in
      test_is u shape i x e ∙ entry_above u y.head.name x.head.name passes (entry_of this shape.refs) (sym (test_is u shape 0 y f) ∙ true_there)

  -- and so no other beats it
  pub first_selected : (shape : Shape) (i : ℕ) → Selected (hier_in p.classes) (parameters_of chain) (hier_in p.classes) shape (map body_of chain) i → i ≡ 0
  first_selected shape i s = elim (equal_or_other i 0) [
    | inl e ↦ e
    | inr other ↦ absurd (by_body (slice_get chain i) refl (sym (slice_get-map body_of chain i) ∙ s.applies.at) other)
  ] where
    by_first : (x : Candidate) → slice_get chain i ≡ Some x → body_of x ≡ s.applies.body → i ≢ 0 → (y : Option Candidate) → slice_get chain 0 ≡ y → ⊥
    by_first x e is other (Some y) f =
        let none = no_test (atom_holds (hier_in p.classes) shape) in
        let here : Applies (hier_in p.classes) shape (map body_of chain) 0 = record {
          body = body_of y;
          at = slice_get-map body_of chain 0 ∙ ap (option_map body_of) f;
          true_there = ap (λ (g : Guard). is_true (hier_in p.classes) shape g) (unguarded 0 y f) ∙ none;
        } in
        let beats = s.beats 0 here (λ k. other (sym k)) in
        beats.strictly (subst (λ (b : Body). Implies (hier_in p.classes) (parameters_of chain) (whole_guard (body_of y)) (whole_guard b)) is (first_implies (parameters_of chain) i y x f e))
    by_first x e is other None f = no_first chain i x e f where
      no_first : (l : List Candidate) (i : ℕ) (x : Candidate) → slice_get l i ≡ Some x → slice_get l 0 ≡ None → ⊥
      no_first [] i x e f = absurd (false≢true (ap is_some e))
      no_first (z ∷ l) i x e f = absurd (false≢true (ap is_some (sym f)))

    by_body : (x : Option Candidate) → slice_get chain i ≡ x → option_map body_of x ≡ Some s.applies.body → i ≢ 0 → ⊥
    by_body None e is other = absurd (false≢true (ap is_some is))
    by_body (Some x) e is other = by_first x e (one_there (Some (body_of x)) (body_of x) s.applies.body refl is) other (slice_get chain 0) refl

pub nearest : UnguardedSelectsNearest
nearest p valid select free m class shape i e =
    first_selected p valid free m class shape i (subst (IsChoice (hier_in p.classes) (question_in (chain_of p.classes m class) shape)) e (select (question_in (chain_of p.classes m class) shape)))
