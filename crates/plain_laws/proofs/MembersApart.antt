-- The members with statements of a plain unit's classes have names and descriptors of their own.
use Rattle.std.proofs.Common.{◌≡◌, ◌⊎◌, ℕ, zero, suc, Bool, true, false, List, [], ◌∷◌, ◌++◌, map, length, Option, Some, None, refl, sym, ap, ◌∙◌, subst, inl, inr, eq-eqb}
use Rattle.std.specs.Prelude.{◌==◌, ◌&&◌, ◌||◌, not, is_some, slice_get, codes}
use Rattle.std.specs.List.{list_all, list_any, filter_map}
use Rattle.std.specs.Option.{option_map, option_map_or}
use Rattle.std.proofs.lemmas.Bool.{false≢true}
use Rattle.jp_pred.specs.declared.ty.Ty.{Ty}
use Rattle.jp_pred.specs.declared.ty.Ty.TheVariants as ty
use Rattle.jp_pred.specs.Names.{Word, In, here, there, same}
use Rattle.jp_pred.proofs.Ascents.{same_refl, length_map}
use Rattle.jp_pred.proofs.Lists.{any_from_in}
use Rattle.jp_pred.proofs.Visits.{true_or_false, in_right}
use Rattle.iface_codec.specs.declared.iface.Iface.{Iface}
use Rattle.iface_codec.specs.declared.iface.IfaceMethod.{IfaceMethod}
use Rattle.iface_codec.specs.declared.iface.MethodKind.TheVariants as kind
use Rattle.jp_ast.specs.declared.decl.Decl.{Decl}
use Rattle.jp_ast.specs.declared.decl.Member.{Member}
use Rattle.jp_ast.specs.declared.decl.Param.{Param}
use Rattle.jp_meaning.specs.declared.unit.TypedMember.{TypedMember}
use Rattle.jp_meaning.specs.Choice.{NoneIsTrue}
use Rattle.jp_meaning.specs.Descriptors.{method_descriptor}
use Rattle.jp_meaning.specs.Classes.{is_static}
use Rattle.jp_meaning.specs.Run.{Program}
use Rattle.type_rules.specs.Heads.{as_constructor, as_method, head, heads_of, method}
use Rattle.type_rules.specs.RulesOfDeclarations.{has_no_constructor, rule_9}
use Rattle.type_rules.specs.Typing.{AreSound}
use Rattle.type_rules.specs.Units.{Opened, Seat, opened, open_decl, seats, seats_of, entry_of, resolved_head, default_constructor, with_default, visits_from}
use Rattle.type_rules.proofs.Soundness.{or_false_left, or_false_right}
use Rattle.gen_body.specs.Names.{are_nameable}
use Rattle.gen_laws.specs.Compiled.{Name, name_of_part}
use Rattle.calls_fit.specs.Fitting.{method_fits}
use Rattle.calls_fit.proofs.Named.{some_is, none_is, first_true, second_true, in_get, get_in, all_in}
use Rattle.typed_fits.proofs.MemberFits.{seat_is}
use Rattle.typed_fits.proofs.SeenFits.{and_so}
use Rattle.typed_fits.proofs.UnitFits.{head_is, made_of, is_opened, in_filter_to, not_so, trees_fit}
use Rattle.unit_laws.specs.Laws.{has_ordinary_methods}
use Rattle.unit_laws.proofs.Apart.{same_count}
use Rattle.unit_laws.proofs.Seats.{seen_as, stays, member_keeps, earlier_one}
use Rattle.plain_form.specs.Families.{is_again, has_lone_bodies}
use Rattle.plain_form.specs.Families as families
use Rattle.plain_laws.specs.Laws.{PlainMembersAreApart}
use Rattle.plain_laws.proofs.Called.{IsMethod, IsMaker, called}
use Rattle.plain_laws.proofs.Resolved.{unit_made, AllMade, members_made, Written, written, with_or_without}

none_of : {X : Type 0} (f : X → Bool) (xs : List X) (x : X) → list_any f xs ≡ false → In x xs → f x ≡ false
none_of f xs x e i = elim (true_or_false (f x)) [
  | inl t ↦ absurd (false≢true (sym e ∙ any_from_in f i t))
  | inr h ↦ h
]

-- the one member stands before the other, and they aren't bodies of one family
record Before (m : Member) (later : Seat) (n : Member) : Type 0 where
  earlier : In m later.earlier
  lone : is_again m n ≡ false

-- PLACES

module _ (heads : List Iface) (d : Decl) where
  behind : (earlier : List Member) (m : Member) (ms : List Member) → not (list_any (is_again m) ms) ≡ true → (y : Seat × Opened) → In y (seats heads d (earlier ++ m ∷ []) (map opened ms)) → Before m y.0 y.1.member
  behind earlier m ms h y i =
      let at = seat_is heads d (earlier ++ m ∷ []) (map opened ms) y i in
      let o = is_opened ms y.1 at.2 in
      record {
        earlier = stays heads d (earlier ++ m ∷ []) (map opened ms) m (in_right earlier here) y i;
        lone = ap (λ (z : Opened). is_again m z.member) (sym o.2) ∙ none_of (is_again m) ms o.0 (not_so (list_any (is_again m) ms) h) o.1;
      }

  -- of two members one is the other, or stands before it
  two_places : (earlier ms : List Member) → has_lone_bodies ms ≡ true → (i j : ℕ) (x y : Seat × Opened) → slice_get (seats heads d earlier (map opened ms)) i ≡ Some x → slice_get (seats heads d earlier (map opened ms)) j ≡ Some y →
      (i ≡ j) ⊎ (Before x.1.member y.0 y.1.member ⊎ Before y.1.member x.0 x.1.member)
  two_places earlier [] h i j x y e f = none_is x e
  two_places earlier (m ∷ ms) h zero zero x y e f = inl refl
  two_places earlier (m ∷ ms) h zero (suc j) x y e f =
      let first : Seat × Opened = (record { heads = heads; decl = d; earlier = earlier }, opened m) in
      inr (inl (subst (λ (z : Seat × Opened). Before z.1.member y.0 y.1.member) (some_is first x e) (behind earlier m ms (first_true (not (list_any (is_again m) ms)) (has_lone_bodies ms) h) y (in_get (seats heads d (earlier ++ m ∷ []) (map opened ms)) j y f))))
  two_places earlier (m ∷ ms) h (suc i) zero x y e f =
      let first : Seat × Opened = (record { heads = heads; decl = d; earlier = earlier }, opened m) in
      inr (inr (subst (λ (z : Seat × Opened). Before z.1.member x.0 x.1.member) (some_is first y f) (behind earlier m ms (first_true (not (list_any (is_again m) ms)) (has_lone_bodies ms) h) x (in_get (seats heads d (earlier ++ m ∷ []) (map opened ms)) i x e))))
  two_places earlier (m ∷ ms) h (suc i) (suc j) x y e f = elim (two_places (earlier ++ m ∷ []) ms (second_true (not (list_any (is_again m) ms)) (has_lone_bodies ms) h) i j x y e f) [
    | inl q ↦ inl (ap suc q)
    | inr r ↦ inr r
  ]

-- IN A DECLARATION WITHOUT A FAULT

module _ (heads : List Iface) (ds : List Decl) (sound : AreSound (visits_from heads [] (map open_decl ds))) (d : Decl) (inside : In d ds) (lone : has_lone_bodies d.members ≡ true) (ordinary : has_ordinary_methods d ≡ true)
    (methods : list_all method_fits (resolved_head heads (open_decl d)).methods ≡ true) (constructors : list_all are_nameable (resolved_head heads (open_decl d)).constructors ≡ true) where
  abbrev own_head : Iface
  own_head = resolved_head heads (open_decl d)

  abbrev own_seats : List (Seat × Opened)
  own_seats = seats_of heads (open_decl d)

  -- two methods: the later one collides with a static one, and is no second body
  not_both_methods : (s r : Seat) (m n : Member) → In (s, opened m) own_seats → In m d.members → In (r, opened n) own_seats → In n d.members → (name : Name) → IsMethod heads d s m name → IsMethod heads d r n name → Before m r n → ⊥
  not_both_methods s r m n i k j l name f g before = elim (true_or_false (is_static g.method.kind || is_static f.method.kind)) [
    | inl t ↦ earlier_one heads ds sound d inside g.method f.method (record { seat = r; member = n; there = j; own = g.own; inside = l }) (record { seat = s; member = m; there = i; own = f.own; inside = k }) before.earlier names counts t
    | inr t ↦ false≢true (sym before.lone
        ∙ and_so (families.is_body m.part && families.is_body n.part && same m.name n.name) (length m.params == length n.params)
        (and_so (families.is_body m.part && families.is_body n.part) (same m.name n.name)
        (and_so (families.is_body m.part) (families.is_body n.part) (f.body (or_false_right (is_static g.method.kind) (is_static f.method.kind) t)) (g.body (or_false_left (is_static g.method.kind) (is_static f.method.kind) t)))
        (ap (λ (w : Word). same w n.name) (sym f.name_is ∙ sym names ∙ g.name_is) ∙ same_refl n.name))
        (eq-eqb (length m.params) (length n.params) (sym (written_count m f) ∙ sym counts ∙ written_count n g)))
  ] where
    names : g.method.name ≡ f.method.name
    names = g.named ∙ sym f.named

    counts : length g.method.params ≡ length f.method.params
    counts = same_count g.method f.method (all_in method_fits own_head.methods methods g.there) (all_in method_fits own_head.methods methods f.there) (g.described ∙ sym f.described)

    written_count : {s : Seat} (m : Member) (f : IsMethod heads d s m name) → length f.method.params ≡ length m.params
    written_count m f = ap (λ (ts : List Ty). length ts) f.params_are ∙ length_map (λ (p : Param). p.ty) m.params

  -- two constructors: the later one has as many parameters
  not_both_makers : (r : Seat) (m n : Member) → In (r, opened n) own_seats → (name : Name) → IsMaker heads d m name → IsMaker heads d n name → Before m r n → ⊥
  not_both_makers r m n j name f g before = false≢true (sym none_before ∙ any_from_in (λ (other : List Ty). length other == length g.params) (in_filter_to as_constructor f.params before.earlier f.own) (eq-eqb (length f.params) (length g.params) counts)) where
    as_written : (params : List Ty) → are_nameable params ≡ true → method_fits (method (codes "<init>") kind.Body params ty.Void []) ≡ true
    as_written params e = and_so (are_nameable params) true e refl

    counts : length f.params ≡ length g.params
    counts = same_count (method (codes "<init>") kind.Body f.params ty.Void []) (method (codes "<init>") kind.Body g.params ty.Void [])
        (as_written f.params (all_in are_nameable own_head.constructors constructors f.there)) (as_written g.params (all_in are_nameable own_head.constructors constructors g.there)) (f.described ∙ sym g.described)

    breaks : List Ty → Bool
    breaks params = not (same n.name r.decl.name) || list_any (λ (other : List Ty). length other == length params) (filter_map as_constructor r.earlier)

    kept : option_map_or breaks (as_constructor n) false ≡ false
    kept = member_keeps heads ds sound (9, rule_9) (there (there (there (there (there (there (there (there here)))))))) d inside (r, opened n) j

    none_before : list_any (λ (other : List Ty). length other == length g.params) (filter_map as_constructor r.earlier) ≡ false
    none_before = or_false_right (not (same n.name r.decl.name)) (list_any (λ (other : List Ty). length other == length g.params) (filter_map as_constructor r.earlier))
        (sym (ap (λ (o : Option (List Ty)). option_map_or breaks o false) g.own) ∙ kept)

  -- a method isn't called as constructors are
  not_as_maker : (s : Seat) (m : Member) → In m d.members → (name : Name) → IsMethod heads d s m name → codes "<init>" ≡ name.name → ⊥
  not_as_maker s m i name f e =
      let k = seen_as (entry_of s (opened m)) m f.method f.own in
      let is_ordinary = all_in (λ (x : IfaceMethod). not (same x.name (codes "<init>"))) (head d).methods ordinary (in_filter_to as_method k.seen i k.is) in
      false≢true (sym (not_so (same k.seen.name (codes "<init>")) is_ordinary) ∙ ap (λ (w : Word). same w (codes "<init>")) (k.name ∙ f.named ∙ sym e) ∙ same_refl (codes "<init>"))

  -- two members of one name
  module _ (name : Name) where
    not_before : {i j : ℕ} {a b : TypedMember} → (w : Written heads d i a) → (v : Written heads d j b) → name_of_part own_head a.part ≡ Some name → name_of_part own_head b.part ≡ Some name → Before w.member v.seat v.member → ⊥
    not_before {i} {j} {a} {b} w v e f before = elim (called heads d w.seat w.member wi name a w.made e) [
      | inl x ↦ elim (called heads d v.seat v.member vi name b v.made f) [
        | inl y ↦ not_both_methods w.seat v.seat w.member v.member wi w.inside vi v.inside name x y before
        | inr y ↦ not_as_maker w.seat w.member w.inside name x y.named
      ]
      | inr x ↦ elim (called heads d v.seat v.member vi name b v.made f) [
        | inl y ↦ not_as_maker v.seat v.member v.inside name y x.named
        | inr y ↦ not_both_makers v.seat w.member v.member vi name x y before
      ]
    ] where
      wi : In (w.seat, opened w.member) own_seats
      wi = in_get own_seats i (w.seat, opened w.member) w.at

      vi : In (v.seat, opened v.member) own_seats
      vi = in_get own_seats j (v.seat, opened v.member) v.at

    -- the default constructor and a written member
    not_default : {i : ℕ} {a : TypedMember} → (w : Written heads d i a) → has_no_constructor d ≡ true → name_of_part own_head default_constructor.part ≡ Some name → name_of_part own_head a.part ≡ Some name → ⊥
    not_default {i} {a} w free e f = elim (called heads d w.seat w.member (in_get own_seats i (w.seat, opened w.member) w.at) name a w.made f) [
      | inl x ↦ not_as_maker w.seat w.member w.inside name x (maker_name (slice_get own_head.constructors 0) e)
      | inr y ↦ false≢true (sym (ap (λ (o : Option (List Ty)). not (is_some o)) y.own) ∙ all_in (λ (m : Member). not (is_some (as_constructor m))) d.members free w.inside)
    ] where
      maker_name : (o : Option (List Ty)) → option_map (λ params. let n : Name = record { name = codes "<init>"; descriptor = method_descriptor params ty.Void } in n) o ≡ Some name → codes "<init>" ≡ name.name
      maker_name None q = none_is name q
      maker_name (Some params) q = ap (λ (n : Name). n.name) (some_is _ name q)

    one_place : {ms : List TypedMember} → AllMade own_seats ms → (i j : ℕ) (a b : TypedMember) → slice_get (with_default d ms) i ≡ Some a → slice_get (with_default d ms) j ≡ Some b → name_of_part own_head a.part ≡ Some name → name_of_part own_head b.part ≡ Some name → i ≡ j
    one_place {ms} m i j a b e f g h = elim (with_or_without d ms i a e) [
      | inl p ↦ let w = written heads d m i a p in elim (with_or_without d ms j b f) [
        | inl q ↦ let v = written heads d m j b q in elim (two_places heads d [] d.members lone i j (w.seat, opened w.member) (v.seat, opened v.member) w.at v.at) [
          | inl same_place ↦ same_place
          | inr r ↦ elim r [
            | inl before ↦ absurd (not_before w v g h before)
            | inr before ↦ absurd (not_before v w h g before)
          ]
        ]
        | inr q ↦ absurd (not_default w q.2 (subst (λ (t : TypedMember). name_of_part own_head t.part ≡ Some name) q.1 h) g)
      ]
      | inr p ↦ elim (with_or_without d ms j b f) [
        | inl q ↦ absurd (not_default (written heads d m j b q) p.2 (subst (λ (t : TypedMember). name_of_part own_head t.part ≡ Some name) p.1 g) h)
        | inr q ↦ p.0 ∙ sym q.0
      ]
    ]

pub members_apart : PlainMembersAreApart
members_apart unit tree typed lone plain ordinary c i k j a b name e f g h =
    let heads = heads_of unit.decls [] in
    let made = unit_made unit tree typed in
    let d = made_of heads [] made.0 made.1 c i in
    let hs = head_is heads d.0 c d.2 in
    let ms = members_made (seats_of heads (open_decl d.0)) [] hs.1.0 hs.1.1 in
    let all = subst (AllMade (seats_of heads (open_decl d.0))) (sym ms.1) ms.2 in
    let p : Program = record { classes = tree.classes; main = []; select = λ q. NoneIsTrue } in
    let at = get_in i in
    let fits = (trees_fit unit tree p typed plain refl).each at.0 c at.1 in
    one_place heads unit.decls typed.sound d.0 d.1 (all_in (λ (x : Decl). has_lone_bodies x.members) unit.decls lone d.1) (all_in has_ordinary_methods unit.decls ordinary d.1)
    (ap (λ (x : Iface). list_all method_fits x.methods) (sym hs.0) ∙ fits.methods) (ap (λ (x : Iface). list_all are_nameable x.constructors) (sym hs.0) ∙ fits.constructors) name all k j a b
    (ap (λ (l : List TypedMember). slice_get l k) (sym hs.1.2) ∙ e) (ap (λ (l : List TypedMember). slice_get l j) (sym hs.1.2) ∙ f)
    (ap (λ (x : Iface). name_of_part x a.part) (sym hs.0) ∙ g) (ap (λ (x : Iface). name_of_part x b.part) (sym hs.0) ∙ h)
