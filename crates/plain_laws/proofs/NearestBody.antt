-- Where no body has a guard, the first body of a chain is the one that is selected, whatever the types of fields name.
use Rattle.std.proofs.Common.{◌≡◌, ℕ, zero, suc, Bool, true, false, ◌&&◌, inl, inr, List, [], ◌∷◌, ◌++◌, map, length, Option, Some, None, refl, sym, ap, ◌∙◌, subst, rules}
use Rattle.std.specs.Prelude.{◌≢◌, slice_get}
use Rattle.std.specs.List.{flat_map, list_any}
use Rattle.std.specs.Option.{option_map, option_map_or}
use Rattle.std.proofs.lemmas.Bool.{false≢true}
use Rattle.std.proofs.lemmas.Option.{slice_get-map}
use Rattle.jp_pred.specs.declared.guard.Guard.{Guard, the_lemmas}
use Rattle.jp_pred.specs.declared.guard.Guard.TheVariants as guard
use Rattle.jp_pred.specs.declared.guard.Atom.{Atom}
use Rattle.jp_pred.specs.declared.guard.Atom.TheVariants as atom
use Rattle.jp_pred.specs.declared.hier.Hier.{Hier}
use Rattle.jp_pred.specs.declared.shape.Kind.{Kind}
use Rattle.jp_pred.specs.declared.shape.Kind.TheVariants as kind
use Rattle.jp_pred.specs.declared.shape.Shape.{Shape}
use Rattle.jp_pred.specs.declared.ty.Ty.{Ty}
use Rattle.jp_pred.specs.declared.ty.Ty.TheVariants as ty
use Rattle.jp_pred.specs.Names.{Word, In, here}
use Rattle.jp_pred.specs.Hierarchy.{Ascends, is_below}
use Rattle.jp_pred.specs.Paths.{this}
use Rattle.jp_pred.specs.Truth.{is_of, entry_of, atom_holds, truth, is_true}
use Rattle.jp_pred.specs.Implication.{Implies}
use Rattle.jp_pred.specs.Selection.{Body, whole_guard, Applies, Selected}
use Rattle.jp_pred.proofs.Agreement.{below_trans}
use Rattle.jp_pred.proofs.Ascents.{is_below-Decides}
use Rattle.jp_pred.proofs.Extension.{ascends_up}
use Rattle.jp_pred.proofs.Lists.{any_from_in, in_from_any}
use Rattle.jp_pred.proofs.Selections.{equal_or_other}
use Rattle.iface_codec.specs.declared.iface.Iface.{Iface}
use Rattle.jp_meaning.specs.declared.unit.TypedClass.{TypedClass}
use Rattle.jp_meaning.specs.Choice.{IsChoice}
use Rattle.jp_meaning.specs.Classes.{Candidate, is_body, hier_in, class_in, methods_in, upwards, chain_of}
use Rattle.jp_meaning.specs.Does.{Method}
use Rattle.jp_meaning.specs.Run.{Program, body_of, parameters_of}
use Rattle.whole_program.specs.Right.{question_in}
use Rattle.gen_laws.specs.Plain.{HasNoGuards, NearestIsSelected}
use Rattle.calls_fit.proofs.Named.{some_is, none_is, in_get, get_in, in_flat, class_at, on_way, methods_of, in_chain}
use Rattle.unit_laws.specs.Laws.{SelectsInChains}

-- CLASSES ON THE WAY UPWARDS

module _ (classes : List TypedClass) (m : Method) where
  abbrev bodies : TypedClass → List Candidate
  bodies = methods_in is_body m

  abbrev hier : Hier
  hier = hier_in classes

  -- each body is of the class or of one above it
  above : (n : ℕ) (name : Word) (x : Candidate) → In x (flat_map bodies (upwards n classes name)) → Ascends hier name x.head.name
  above n name x i =
      let f = in_flat bodies (upwards n classes name) x i in
      let g = methods_of is_body m f.0 x f.2 in
      subst (λ (h : Iface). Ascends hier name h.name) (sym g.2.head_is) (on_way n classes name f.0 f.1).1

  -- the first is of a class at or below those of the others
  first_below : (n : ℕ) (name : Word) (y x : Candidate) → slice_get (flat_map bodies (upwards n classes name)) 0 ≡ Some y → In x (flat_map bodies (upwards n classes name)) → Ascends hier y.head.name x.head.name
  first_below zero name y x e i = elim i [ ]
  first_below (suc n) name y x e i = by_class (class_in classes name) refl e i (above (suc n) name x i) (λ name e i. first_below n name y x e i) where
    Rec : Type 0
    Rec = (name : Word) → slice_get (flat_map bodies (upwards n classes name)) 0 ≡ Some y → In x (flat_map bodies (upwards n classes name)) → Ascends hier y.head.name x.head.name

    later : TypedClass → List Candidate
    later c = flat_map bodies (option_map_or (upwards n classes) c.head.superclass [])

    by_super : (o : Option Word) → slice_get (flat_map bodies (option_map_or (upwards n classes) o [])) 0 ≡ Some y → In x (flat_map bodies (option_map_or (upwards n classes) o [])) → Rec → Ascends hier y.head.name x.head.name
    by_super None e i rec = elim i [ ]
    by_super (Some high) e i rec = rec high e i

    by_own : (c : TypedClass) → class_in classes name ≡ Some c → (own : List Candidate) → bodies c ≡ own → slice_get (own ++ later c) 0 ≡ Some y → In x (own ++ later c) → Ascends hier name x.head.name → Rec → Ascends hier y.head.name x.head.name
    by_own c k [] q e i r rec = by_super c.head.superclass e i rec
    by_own c k (z ∷ zs) q e i r rec =
        let own = methods_of is_body m c y (subst (In y) (sym q) (subst (λ (w : Candidate). In w (z ∷ zs)) (some_is z y e) here)) in
        subst (λ (w : Word). Ascends hier w x.head.name) (sym (ap (λ (h : Iface). h.name) own.2.head_is ∙ (class_at classes name c k).1)) r

    by_class : (o : Option TypedClass) → class_in classes name ≡ o → slice_get (flat_map bodies (option_map_or (λ c. c ∷ option_map_or (upwards n classes) c.head.superclass []) o [])) 0 ≡ Some y →
        In x (flat_map bodies (option_map_or (λ c. c ∷ option_map_or (upwards n classes) c.head.superclass []) o [])) → Ascends hier name x.head.name → Rec → Ascends hier y.head.name x.head.name
    by_class None k e i r rec = elim i [ ]
    by_class (Some c) k e i r rec = by_own c k (bodies c) refl e i r rec

-- CLASS TESTS

-- a test that passes for a class passes for what is above
some_above : (u : Hier) (a b : Word) → ((n : Word) → is_below u n a ≡ true → is_below u n b ≡ true) → (names : List Word) → list_any (λ n. is_below u n a) names ≡ true → list_any (λ n. is_below u n b) names ≡ true
some_above u a b h names e = let f = in_from_any (λ n. is_below u n a) names e in any_from_in (λ n. is_below u n b) f.1 (h f.0 f.2)

test_above : (u : Hier) (a b : Word) → ((n : Word) → is_below u n a ≡ true → is_below u n b ≡ true) → (o : Option Kind) → is_of u (ty.Class a) o ≡ true → is_of u (ty.Class b) o ≡ true
test_above u a b h None e = absurd (false≢true e)
test_above u a b h (Some kind.Null) e = absurd (false≢true e)
test_above u a b h (Some kind.Array) e = absurd (false≢true e)
test_above u a b h (Some (kind.Known name)) e = some_above u a b h (name ∷ []) e
test_above u a b h (Some (kind.Fresh superclass interfaces)) e = some_above u a b h (superclass ∷ interfaces) e

-- the truth of a test alone, and of no guard
only_test : (value : Atom → Bool) (a : Atom) → truth value (guard.And (guard.Atom a) guard.True) ≡ (value a && true)
only_test value a = search (rules, the_lemmas)

no_test : (value : Atom → Bool) → truth value guard.True ≡ true
no_test value = search (rules, the_lemmas)

and_true : (b : Bool) → (b && true) ≡ b
and_true true = refl
and_true false = refl

-- a body without a guard holds where the receiver is of its class
only_class : (u : Hier) (shape : Shape) (x : Candidate) → x.method.guard ≡ guard.True → is_true u shape (whole_guard (body_of x)) ≡ is_of u (ty.Class x.head.name) (entry_of this shape.refs)
only_class u shape x e =
    let a = atom.Is this (ty.Class x.head.name) in
    ap (λ (g : Guard). is_true u shape (guard.And (guard.Atom a) g)) e ∙ only_test (atom_holds u shape) a ∙ and_true (atom_holds u shape a)

-- and so the guard of the lower class implies that of the higher
below_implies : (hier : Hier) (parameters : List Ty) (y x : Candidate) → y.method.guard ≡ guard.True → x.method.guard ≡ guard.True → Ascends hier y.head.name x.head.name → Implies hier parameters (whole_guard (body_of y)) (whole_guard (body_of x))
below_implies hier parameters y x g h r u shape extends over holds =
    only_class u shape x h ∙ test_above u y.head.name x.head.name
    (λ n k. (is_below-Decides u n x.head.name extends.valid.free).1
    (below_trans u extends.valid n y.head.name x.head.name ((is_below-Decides u n y.head.name extends.valid.free).0 k) (inl (ascends_up u hier extends r))))
    (entry_of this shape.refs) (sym (only_class u shape y g) ∙ holds)

-- THE CHAIN

module _ (p : Program) (free : HasNoGuards p) (m : Method) (name : Word) where
  abbrev chain : List Candidate
  chain = chain_of p.classes m name

  unguarded : (x : Candidate) → In x chain → x.method.guard ≡ guard.True
  unguarded x i =
      let f = in_chain p.classes m name x i in
      let c = get_in f.1 in
      let own = f.5 in
      free c.0 own.at f.0 x.method c.1 (ap (λ (h : Iface). slice_get h.methods own.at) (sym own.head_is) ∙ own.method_there)

  first_selected : (shape : Shape) (i : ℕ) → Selected (hier_in p.classes) (parameters_of chain) (hier_in p.classes) shape (map body_of chain) i → i ≡ 0
  first_selected shape i s = elim (equal_or_other i 0) [
    | inl e ↦ e
    | inr other ↦ absurd (by_body (slice_get chain i) refl (sym (slice_get-map body_of chain i) ∙ s.applies.at) other)
  ] where
    by_first : (x : Candidate) → In x chain → body_of x ≡ s.applies.body → i ≢ 0 → (y : Option Candidate) → slice_get chain 0 ≡ y → ⊥
    by_first x j is other (Some y) f =
        let first_in = in_get chain 0 y f in
        let none = no_test (atom_holds (hier_in p.classes) shape) in
        let first : Applies (hier_in p.classes) shape (map body_of chain) 0 = record {
          body = body_of y;
          at = slice_get-map body_of chain 0 ∙ ap (option_map body_of) f;
          true_there = ap (λ (g : Guard). is_true (hier_in p.classes) shape g) (unguarded y first_in) ∙ none;
        } in
        let implies = below_implies (hier_in p.classes) (parameters_of chain) y x (unguarded y first_in) (unguarded x j) (first_below p.classes m (length p.classes) name y x f j) in
        (s.beats 0 first (λ k. other (sym k))).strictly (subst (λ (b : Body). Implies (hier_in p.classes) (parameters_of chain) (whole_guard (body_of y)) (whole_guard b)) is implies)
    by_first x j is other None f = let k = get_in j in no_first chain k.0 x k.1 f where
      no_first : (l : List Candidate) (i : ℕ) (x : Candidate) → slice_get l i ≡ Some x → slice_get l 0 ≡ None → ⊥
      no_first [] i x e f = none_is x e
      no_first (z ∷ l) i x e f = none_is z (sym f)

    by_body : (x : Option Candidate) → slice_get chain i ≡ x → option_map body_of x ≡ Some s.applies.body → i ≢ 0 → ⊥
    by_body None e is other = none_is s.applies.body is
    by_body (Some x) e is other = by_first x (in_get chain i x e) (some_is (body_of x) s.applies.body is) other (slice_get chain 0) refl

pub nearest : (p : Program) → HasNoGuards p → SelectsInChains p → NearestIsSelected p
nearest p free selects m class shape i e =
    first_selected p free m class shape i (subst (IsChoice (hier_in p.classes) (question_in (chain_of p.classes m class) shape)) e (selects m class shape))
