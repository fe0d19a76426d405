-- In a unit of the plain form the first body of a chain beats each other.
use Rattle.std.proofs.Common.{◌≡◌, ◌≢◌, ◌⊎◌, ℕ, zero, suc, true, List, [], ◌∷◌, ◌++◌, map, length, Option, Some, None, refl, sym, ap, ◌∙◌, subst, inl, inr}
use Rattle.std.specs.Prelude.{slice_get}
use Rattle.std.specs.List.{flat_map}
use Rattle.std.specs.Option.{option_map_or}
use Rattle.std.proofs.lemmas.Bool.{false≢true}
use Rattle.jp_pred.specs.declared.guard.Guard.{Guard}
use Rattle.jp_pred.specs.declared.guard.Guard.TheVariants as guard
use Rattle.jp_pred.specs.declared.hier.Hier.{Hier}
use Rattle.jp_pred.specs.declared.path.Path.{Path}
use Rattle.jp_pred.specs.declared.shape.Shape.{Shape}
use Rattle.jp_pred.specs.declared.ty.Ty.{Ty}
use Rattle.jp_pred.specs.Names.{Word, object, In, here, there}
use Rattle.jp_pred.specs.Hierarchy.{parents, Ascends, up, IsBelow}
use Rattle.jp_pred.specs.Universe.{IsClass, IsUniverse}
use Rattle.jp_pred.specs.Kinds.{IsOpen}
use Rattle.jp_pred.specs.Truth.{is_true}
use Rattle.jp_pred.specs.Selection.{Beats, Applies}
use Rattle.jp_pred.proofs.Ascents.{name_there}
use Rattle.jp_pred.proofs.Cycles.{in_map_back}
use Rattle.jp_pred.proofs.Entries.{split_in, in_map}
use Rattle.jp_pred.proofs.Extension.{found_in}
use Rattle.jp_pred.proofs.Universes.{parent}
use Rattle.jp_pred.proofs.Visits.{true_or_false}
use Rattle.iface_codec.specs.declared.iface.Iface.{Iface}
use Rattle.iface_codec.specs.declared.iface.IfaceMethod.{IfaceMethod}
use Rattle.iface_codec.specs.Hierarchy.{seen_class}
use Rattle.jp_ast.specs.declared.decl.Member.{Member}
use Rattle.jp_ast.specs.declared.decl.MemberPart.{MemberPart}
use Rattle.jp_ast.specs.declared.decl.MemberPart.TheVariants as part
use Rattle.jp_meaning.specs.declared.unit.TypedClass.{TypedClass}
use Rattle.jp_meaning.specs.Choice.{Question, Choice, IsChoice}
use Rattle.jp_meaning.specs.Classes.{Candidate, is_body, hier_in, class_in, methods_in, upwards, chain_of}
use Rattle.jp_meaning.specs.Does.{Method}
use Rattle.jp_meaning.specs.Run.{Program, body_of}
use Rattle.type_rules.specs.Heads.{as_method_with, method_part, heads_of}
use Rattle.type_rules.specs.Units.{open_decl, entry_of, opened, visits_from}
use Rattle.gen_body.specs.Names.{is_nameable, are_nameable, is_result}
use Rattle.whole_program.specs.Right.{question_in}
use Rattle.calls_fit.specs.Fitting.{method_fits}
use Rattle.calls_fit.proofs.Named.{some_is, none_is, first_true, second_true, first_of, in_get, get_in, all_in, in_flat, class_at, is_parent, on_way, through, methods_of}
use Rattle.typed_fits.proofs.Rules.{all_keep}
use Rattle.typed_fits.proofs.UnitFits.{Made, all_made, unit_classes, head_is, made_of, trees_fit}
use Rattle.unit_laws.proofs.Seats.{stands}
use Rattle.unit_laws.proofs.UnitUniverse.{unit_universe}
use Rattle.plain_form.specs.Families.{has_lone_bodies}
use Rattle.plain_choice.specs.Laws.{nearest, NearestIsBest, NearestSelects}
use Rattle.plain_choice.proofs.Strictly.{AreValues, implied_above, never_implied, untested}
use Rattle.plain_choice.proofs.Lone.{lone_body}

first_same : {X : Type 0} (x y : X) (xs ys : List X) → x ∷ xs ≡ y ∷ ys → x ≡ y
first_same x y xs ys e = cc

rest_same : {X : Type 0} (x y : X) (xs ys : List X) → x ∷ xs ≡ y ∷ ys → xs ≡ ys
rest_same x y xs ys e = cc

-- A CHAIN

module _ (p : Program) (valid : IsUniverse (hier_in p.classes)) (m : Method) (lone : (c : TypedClass) → In c p.classes → (x y : Candidate) (zs : List Candidate) → methods_in is_body m c ≡ x ∷ y ∷ zs → ⊥)
    (free : (c : TypedClass) → In c p.classes → (k : IfaceMethod) → In k c.head.methods → k.guard ≡ guard.True) (values : (c : TypedClass) → In c p.classes → (k : IfaceMethod) → In k c.head.methods → AreValues k.params) where
  abbrev hier : Hier
  hier = hier_in p.classes

  abbrev bodies : TypedClass → List Candidate
  bodies = methods_in is_body m

  -- Object, or a class
  abbrev IsSuper : Word → Type 0
  IsSuper name = (name ≡ object) ⊎ IsClass hier name

  in_class : (c : TypedClass) (x : Candidate) → In x (bodies c) → (x.head ≡ c.head) × In x.method c.head.methods
  in_class c x i =
      let g = methods_of is_body m c x i in
      let there_is : slice_get c.head.methods g.2.at ≡ Some x.method = ap (λ (h : Iface). slice_get h.methods g.2.at) (sym g.2.head_is) ∙ g.2.method_there in
      (g.2.head_is, in_get c.head.methods g.2.at x.method there_is)

  super_class : (name : Word) (c : TypedClass) → class_in p.classes name ≡ Some c → (super : Word) → c.head.superclass ≡ Some super → IsSuper super
  super_class name c e super s = valid.superclass (seen_class c.head) super (in_map seen_class (in_map (λ (c : TypedClass). c.head) (class_at p.classes name c e).0)) s

  -- upwards from a class there are classes
  way_class : (n : ℕ) (name : Word) → IsSuper name → (c : TypedClass) → In c (upwards n p.classes name) → IsSuper c.head.name
  way_class zero name k c i = elim i [ ]
  way_class (suc n) name k c i = by_class (class_in p.classes name) refl i (λ s r j. way_class n s r c j) where
    Rec : Type 0
    Rec = (super : Word) → IsSuper super → In c (upwards n p.classes super) → IsSuper c.head.name

    by_super : (d : TypedClass) → class_in p.classes name ≡ Some d → (o : Option Word) → d.head.superclass ≡ o → In c (option_map_or (upwards n p.classes) o []) → Rec → IsSuper c.head.name
    by_super d e None s j rec = elim j [ ]
    by_super d e (Some super) s j rec = rec super (super_class name d e super s) j

    by_class : (o : Option TypedClass) → class_in p.classes name ≡ o → In c (option_map_or (λ c. c ∷ option_map_or (upwards n p.classes) c.head.superclass []) o []) → Rec → IsSuper c.head.name
    by_class None e j rec = elim j [ ]
    by_class (Some d) e j rec = elim (split_in d c (option_map_or (upwards n p.classes) d.head.superclass []) j) [
      | inl q ↦ subst IsSuper (sym (class_at p.classes name d e).1 ∙ ap (λ (x : TypedClass). x.head.name) q) k
      | inr l ↦ by_super d e d.head.superclass refl l rec
    ]

  -- the class of the one is properly below that of the other, which is Object or a class
  record IsBehind (y x : Candidate) : Type 0 where
    step : Word
    next : In step (parents hier y.head.name)
    way : Ascends hier step x.head.name
    kind : IsSuper x.head.name

  -- behind the first body of a chain
  behind : (n : ℕ) (name : Word) (y : Candidate) (rest : List Candidate) → flat_map bodies (upwards n p.classes name) ≡ y ∷ rest → (x : Candidate) → In x rest → IsBehind y x
  behind zero name y rest e x i = absurd cc
  behind (suc n) name y rest e x i = by_class (class_in p.classes name) refl e (λ s e. behind n s y rest e x i) where
    Rec : Type 0
    Rec = (super : Word) → flat_map bodies (upwards n p.classes super) ≡ y ∷ rest → IsBehind y x

    by_super : (o : Option Word) → flat_map bodies (option_map_or (upwards n p.classes) o []) ≡ y ∷ rest → Rec → IsBehind y x
    by_super None e rec = absurd cc
    by_super (Some super) e rec = rec super e

    above : (c : TypedClass) → class_in p.classes name ≡ Some c → y.head ≡ c.head → (o : Option Word) → c.head.superclass ≡ o → In x (flat_map bodies (option_map_or (upwards n p.classes) o [])) → IsBehind y x
    above c k own None s j = elim j [ ]
    above c k own (Some super) s j =
        let f = in_flat bodies (upwards n p.classes super) x j in
        let named : y.head.name ≡ name = ap (λ (h : Iface). h.name) own ∙ (class_at p.classes name c k).1 in
        let at : f.0.head.name ≡ x.head.name = ap (λ (h : Iface). h.name) (sym (in_class f.0 x f.2).0) in record {
          step = super;
          next = subst (λ (w : Word). In super (parents hier w)) (sym named) (is_parent p.classes name super c k s);
          way = subst (λ (w : Word). Ascends hier super w) at (on_way n p.classes super f.0 f.1).1;
          kind = subst IsSuper at (way_class n super (super_class name c k super s) f.0 f.1);
        }

    by_bodies : (c : TypedClass) → class_in p.classes name ≡ Some c → (bs : List Candidate) → bodies c ≡ bs → bs ++ flat_map bodies (option_map_or (upwards n p.classes) c.head.superclass []) ≡ y ∷ rest → Rec → IsBehind y x
    by_bodies c k [] f e rec = by_super c.head.superclass e rec
    by_bodies c k (z ∷ []) f e rec =
        let more : List Candidate = flat_map bodies (option_map_or (upwards n p.classes) c.head.superclass []) in
        let own : y.head ≡ c.head = ap (λ (z : Candidate). z.head) (sym (first_same z y more rest e)) ∙ (in_class c z (subst (In z) (sym f) here)).0 in
        above c k own c.head.superclass refl (subst (In x) (sym (rest_same z y more rest e)) i)
    by_bodies c k (z ∷ w ∷ ws) f e rec = absurd (lone c (class_at p.classes name c k).0 z w ws f)

    by_class : (o : Option TypedClass) → class_in p.classes name ≡ o → flat_map bodies (option_map_or (λ c. c ∷ option_map_or (upwards n p.classes) c.head.superclass []) o []) ≡ y ∷ rest → Rec → IsBehind y x
    by_class None k e rec = absurd cc
    by_class (Some c) k e rec = by_bodies c k (bodies c) refl e rec

  -- what is above another class isn't final
  opened_up : (y x : Candidate) → IsBehind y x → IsOpen hier x.head.name
  opened_up y x b = elim b.kind [
    | inl o ↦ inl o
    | inr c ↦ inr (
      c,
      elim (true_or_false c.entry.is_final) [
        | inl t ↦
            let at = found_in x.head.name hier.classes c.entry c.found in
            let same : y.head.name ≡ c.entry.name = valid.final c.entry y.head.name at.0 t (subst (λ (w : Word). Ascends hier y.head.name w) (sym at.1) (up b.next b.way)) in
            absurd (valid.free y.head.name b.step b.next (subst (λ (w : Word). Ascends hier b.step w) (sym (same ∙ at.1)) b.way))
        | inr f ↦ f
      ],
    )
  ]

  not_below : (y x : Candidate) → IsBehind y x → IsBelow hier x.head.name y.head.name → ⊥
  not_below y x b (inl r) = valid.free y.head.name b.step b.next (through b.way r)
  not_below y x b (inr o) = valid.no_object (subst (λ (w : Word). In w (map (λ c. c.name) hier.classes)) o (name_there hier.classes y.head.name b.step b.next))

  beaten : (parameters : List Ty) → AreValues parameters → (y x : Candidate) → y.method.guard ≡ guard.True → x.method.guard ≡ guard.True → IsBehind y x → Beats hier parameters (body_of y) (body_of x)
  beaten parameters typed y x g h b =
      subst (λ (k : Guard). Beats hier parameters (y.head.name, k) (body_of x)) (sym g)
      (subst (λ (k : Guard). Beats hier parameters (y.head.name, guard.True) (x.head.name, k)) (sym h) (record {
        implies = implied_above hier valid parameters y.head.name x.head.name (let q = parent hier y.head.name b.step b.next in inr (q.entry, q.found)) (inl (up b.next b.way));
        strictly = never_implied hier valid parameters typed x.head.name y.head.name (opened_up y x b) (not_below y x b);
      }))

  -- a body of a chain is a method of one of the classes
  in_chain : (name : Word) (x : Candidate) → In x (chain_of p.classes m name) → (c : TypedClass) × In c p.classes × In x.method c.head.methods
  in_chain name x i =
      let f = in_flat bodies (upwards (length p.classes) p.classes name) x i in
      (f.0, (on_way (length p.classes) p.classes name f.0 f.1).0, (in_class f.0 x f.2).1)

  best : (name : Word) (shape : Shape) → let q : Question = question_in (chain_of p.classes m name) shape in IsChoice hier q (nearest q)
  best name shape = by_chain (chain_of p.classes m name) refl where
    unguarded : (x : Candidate) → In x (chain_of p.classes m name) → x.method.guard ≡ guard.True
    unguarded x i = let c = in_chain name x i in free c.0 c.1 x.method c.2

    by_chain : (cs : List Candidate) → chain_of p.classes m name ≡ cs → let q : Question = question_in cs shape in IsChoice hier q (nearest q)
    by_chain [] e = λ i a. none_is a.body a.at
    by_chain (y ∷ rest) e = record { applies = record { body = body_of y; at = refl; true_there = applies }; beats = beats } where
      at : (x : Candidate) → In x (y ∷ rest) → In x (chain_of p.classes m name)
      at x i = subst (In x) (sym e) i

      applies : is_true hier shape y.method.guard ≡ true
      applies = ap (is_true hier shape) (unguarded y (at y here)) ∙ untested hier shape

      beats : (j : ℕ) (other : Applies hier shape (map body_of (y ∷ rest)) j) → j ≢ 0 → Beats hier y.method.params (body_of y) other.body
      beats zero other ne = absurd (ne refl)
      beats (suc j) other ne =
          let g = in_map_back body_of rest other.body (in_get (map body_of rest) j other.body other.at) in
          let c = in_chain name y (at y here) in
          subst (Beats hier y.method.params (body_of y)) g.2
          (beaten y.method.params (values c.0 c.1 y.method c.2) y g.0 (unguarded y (at y here)) (unguarded g.0 (at g.0 (there g.1))) (behind (length p.classes) name y rest e g.0 g.1))

-- IN A UNIT

-- heads have no guards
no_guard : (aliases : List (Path × Ty)) (m : Member) (k : IfaceMethod) → as_method_with aliases m ≡ Some k → k.guard ≡ guard.True
no_guard aliases m k e = by_part m.part e where
  by_part : (q : MemberPart) → method_part aliases m q ≡ Some k → k.guard ≡ guard.True
  by_part (part.Field t static) e = none_is k e
  by_part (part.Static result block) e = ap (λ (x : IfaceMethod). x.guard) (sym (some_is _ k e))
  by_part (part.Abstract result) e = ap (λ (x : IfaceMethod). x.guard) (sym (some_is _ k e))
  by_part (part.Body result when block) e = ap (λ (x : IfaceMethod). x.guard) (sym (some_is _ k e))
  by_part (part.Constructor args block) e = none_is k e

nameable : (ts : List Ty) → are_nameable ts ≡ true → (t : Ty) → In t ts → is_nameable t ≡ true
nameable [] e t i = elim i [ ]
nameable (u ∷ ts) e t i = elim (split_in u t ts i) [
  | inl q ↦ ap is_nameable (sym q) ∙ first_true (is_nameable u) (are_nameable ts) e
  | inr j ↦ nameable ts (second_true (is_nameable u) (are_nameable ts) e) t j
]

pub is_best : NearestIsBest
is_best unit tree p of guards lone plain ordinary opened_up own m class shape =
    let heads = heads_of unit.decls [] in
    let all = all_made heads unit.decls [] tree.classes (unit_classes heads (map open_decl unit.decls) tree of.typed.resolved) in
    let made = subst (Made heads unit.decls) (sym (of.classes ∙ all.1)) all.2 in
    let keep = all_keep heads [] unit.decls (visits_from heads [] (map open_decl unit.decls)) of.typed.sound (λ v i. i) in
    let fits = trees_fit unit tree p of.typed plain of.classes in
    let named : (c : TypedClass) → In c p.classes → (k : IfaceMethod) → In k c.head.methods → method_fits k ≡ true = λ c i k j. let g = get_in i in all_in method_fits c.head.methods (fits.each g.0 c g.1).methods j in
    best p (unit_universe unit tree p of plain opened_up own) m
    (λ c i. let g = made_of heads [] made keep c i in
    lone_body heads g.0 m (λ k j. named c i k (subst (λ (h : Iface). In k h.methods) (sym (first_of (head_is heads g.0 c g.2))) j)) (all_in (λ d. has_lone_bodies d.members) unit.decls lone g.1) c g.2)
    (λ c i k j. let g = made_of heads [] made keep c i in
    let st = stands heads g.0 k (subst (λ (h : Iface). In k h.methods) (first_of (head_is heads g.0 c g.2)) j) in
    no_guard (entry_of st.seat (opened st.member)) st.member k st.own)
    (λ c i k j t l q. false≢true (ap is_nameable (sym q) ∙ nameable k.params (first_true (are_nameable k.params) (is_result k.result) (named c i k j)) t l))
    class shape

pub selects : NearestSelects
selects unit tree p of guards lone plain ordinary opened_up own e m class shape =
    let q : Question = question_in (chain_of p.classes m class) shape in
    subst (λ (select : Question → Choice). IsChoice (hier_in p.classes) q (select q)) (sym e) (is_best unit tree p of guards lone plain ordinary opened_up own m class shape)
