-- What the rules say of the members of a unit without a fault, and of two methods of one class.
use Rattle.std.proofs.Common.{◌≡◌, ◌⊎◌, ℕ, Bool, true, false, List, [], ◌∷◌, ◌++◌, map, length, Option, Some, refl, sym, ap, ◌∙◌, subst, inl, inr, eq-eqb}
use Rattle.std.specs.Prelude.{◌||◌, ◌&&◌, ◌==◌}
use Rattle.std.specs.List.{flat_map, filter_map, list_any}
use Rattle.std.proofs.lemmas.Bool.{false≢true}
use Rattle.jp_pred.specs.declared.ty.Ty.{Ty}
use Rattle.jp_pred.specs.declared.path.Path.{Path}
use Rattle.jp_pred.specs.Names.{Word, In, here, there, same}
use Rattle.jp_pred.proofs.Entries.{in_left, split_in}
use Rattle.jp_pred.proofs.Ascents.{same_refl}
use Rattle.jp_pred.proofs.Lists.{any_from_in, or_left, or_right}
use Rattle.jp_pred.proofs.Visits.{in_right}
use Rattle.iface_codec.specs.declared.iface.Iface.{Iface}
use Rattle.iface_codec.specs.declared.iface.IfaceMethod.{IfaceMethod}
use Rattle.iface_codec.specs.declared.iface.MethodKind.{MethodKind}
use Rattle.jp_ast.specs.declared.decl.Decl.{Decl}
use Rattle.jp_ast.specs.declared.decl.Member.{Member}
use Rattle.jp_ast.specs.declared.decl.MemberPart.{MemberPart}
use Rattle.jp_ast.specs.declared.decl.MemberPart.TheVariants as part
use Rattle.jp_meaning.specs.Classes.{is_static}
use Rattle.type_rules.specs.Heads.{as_method, as_method_with, method_part}
use Rattle.type_rules.specs.Nodes.{Visit, Rule, Node}
use Rattle.type_rules.specs.RulesOfDeclarations.{collide, inherited, member_clashes, rule_8}
use Rattle.type_rules.specs.Table.{all_rules}
use Rattle.type_rules.specs.Typing.{AreSound}
use Rattle.type_rules.specs.Units.{Opened, OpenDecl, Seat, opened, open_decl, member_node, param_visits, guard_of, super_parts, body_scope, member_visits, seats, seats_of, entry_of, decl_visits, visits_from}
use Rattle.type_rules.specs.Expressions.{visits_all}
use Rattle.type_rules.specs.Statements.{visits_along}
use Rattle.std.specs.Option.{option_map_or}
use Rattle.calls_fit.proofs.Named.{some_is, none_is, in_filter}
use Rattle.typed_fits.proofs.MemberFits.{as_own, seat_is}
use Rattle.typed_fits.proofs.Rules.{kept}
use Rattle.typed_fits.proofs.SeenFits.{and_so}
use Rattle.typed_fits.proofs.UnitFits.{in_filter_to, is_opened}

-- VISITS

pub in_flat_to : {X Y : Type 0} (f : X → List Y) {x : X} {xs : List X} (y : Y) → In x xs → In y (f x) → In y (flat_map f xs)
in_flat_to f y (here {x} {xs}) j = in_left (flat_map f xs) j
in_flat_to f y (there {x} {y = z} {xs} i) j = in_right (f z) (in_flat_to f y i j)

-- what is visited of a declaration's members is visited of the unit
in_unit : (heads : List Iface) (before ds : List Decl) (d : Decl) (v : Visit) → In d ds → In v (flat_map (λ x. member_visits x.0 x.1) (seats_of heads (open_decl d))) → In v (visits_from heads before (map open_decl ds))
in_unit heads before [] d v i j = elim i [ ]
in_unit heads before (e ∷ ds) d v i j = elim (split_in e d ds i) [
  | inl q ↦ in_left (visits_from heads (before ++ e ∷ []) (map open_decl ds)) (subst (λ (x : Decl). In v (flat_map (λ x. member_visits x.0 x.1) (seats_of heads (open_decl x))) → In v (decl_visits heads before (open_decl e))) q (λ j. in_left (_ ∷ []) j) j)
  | inr k ↦ in_right (decl_visits heads before (open_decl e)) (in_unit heads (before ++ e ∷ []) ds d v k j)
]

-- the node of a member is visited
own_visit : (seat : Seat) (m : Opened) → In (let v : Visit = record { place = m.member.place; node = member_node seat m } in v) (member_visits seat m)
own_visit seat m =
    in_right (param_visits [] m.member.params) (in_right (option_map_or (λ x. x.visits) (guard_of seat m) []) (in_right (option_map_or visits_all (super_parts seat m) [])
    (in_right (visits_along m.block (body_scope seat m)) here)))

module _ (heads : List Iface) (ds : List Decl) (sound : AreSound (visits_from heads [] (map open_decl ds))) where
  -- no rule is broken at a member
  pub member_keeps : (r : Rule) → In r all_rules → (d : Decl) → In d ds → (x : Seat × Opened) → In x (seats_of heads (open_decl d)) → r.1 (member_node x.0 x.1) ≡ false
  member_keeps r i d j x k =
      let v : Visit = record { place = x.1.member.place; node = member_node x.0 x.1 } in
      kept (visits_from heads [] (map open_decl ds)) sound r i v (in_unit heads [] ds d v j (in_flat_to (λ x. member_visits x.0 x.1) v k (own_visit x.0 x.1)))

-- METHODS

-- a method as the rules see it, of one that reads aliases
pub record SeenAs (m : Member) (k : IfaceMethod) : Type 0 where
  pub seen : IfaceMethod
  pub is : as_method m ≡ Some seen
  pub name : seen.name ≡ k.name
  pub params : seen.params ≡ k.params
  pub kind : seen.kind ≡ k.kind

pub seen_as : (aliases : List (Path × Ty)) (m : Member) (k : IfaceMethod) → as_method_with aliases m ≡ Some k → SeenAs m k
seen_as aliases m k e = by_part m.part refl e where
  of : (q : MemberPart) → m.part ≡ q → (j : IfaceMethod) → method_part [] m q ≡ Some j → (i : IfaceMethod) → i ≡ k → j.name ≡ i.name → j.params ≡ i.params → j.kind ≡ i.kind → SeenAs m k
  of q p j f i s n ps c = record {
    seen = j;
    is = ap (method_part [] m) p ∙ f;
    name = n ∙ ap (λ (x : IfaceMethod). x.name) s;
    params = ps ∙ ap (λ (x : IfaceMethod). x.params) s;
    kind = c ∙ ap (λ (x : IfaceMethod). x.kind) s;
  }

  by_part : (q : MemberPart) → m.part ≡ q → method_part aliases m q ≡ Some k → SeenAs m k
  by_part (part.Field t static) p e = none_is k e
  by_part (part.Static result block) p e = of (part.Static result block) p _ refl _ (some_is _ k e) refl refl refl
  by_part (part.Abstract result) p e = of (part.Abstract result) p _ refl _ (some_is _ k e) refl refl refl
  by_part (part.Body result guard block) p e = of (part.Body result guard block) p _ refl _ (some_is _ k e) refl refl refl
  by_part (part.Constructor args block) p e = none_is k e

equal_counts : (n m : ℕ) → n ≡ m → (n == m) ≡ true
equal_counts n m e = eq-eqb n m e

-- two methods of one name and count of which one is static collide
pub must_collide : (a b : IfaceMethod) → a.name ≡ b.name → length a.params ≡ length b.params → (is_static a.kind || is_static b.kind) ≡ true → collide a b ≡ true
must_collide a b n c s =
    and_so (same a.name b.name && length a.params == length b.params) (is_static a.kind || is_static b.kind)
    (and_so (same a.name b.name) (length a.params == length b.params) (ap (λ (w : Word). same w b.name) n ∙ same_refl b.name) (equal_counts (length a.params) (length b.params) c)) s

-- A METHOD OF A CLASS

-- where a method of a class stands among the members of its declaration
pub record Stands (heads : List Iface) (d : Decl) (k : IfaceMethod) : Type 0 where
  pub seat : Seat
  pub member : Member
  pub there : In (seat, opened member) (seats_of heads (open_decl d))
  pub own : as_own (seat, opened member) ≡ Some k
  pub inside : In member d.members

pub stands : (heads : List Iface) (d : Decl) (k : IfaceMethod) → In k (filter_map as_own (seats_of heads (open_decl d))) → Stands heads d k
stands heads d k i =
    let g = in_filter as_own (seats_of heads (open_decl d)) k i in
    let at = seat_is heads d [] (map opened d.members) g.0 g.1 in
    let m = is_opened d.members g.0.1 at.2 in
    let there : In (g.0.0, opened m.0) (seats_of heads (open_decl d)) = subst (λ (x : Opened). In (g.0.0, x) (seats_of heads (open_decl d))) (sym m.2) g.1 in
    let own : as_own (g.0.0, opened m.0) ≡ Some k = ap (λ (x : Opened). as_own (g.0.0, x)) m.2 ∙ g.2 in
    record { seat = g.0.0; member = m.0; there = there; own = own; inside = m.1 }

module _ (heads : List Iface) (d : Decl) where
  -- members that came before stay before
  pub stays : (earlier : List Member) (ms : List Opened) (m : Member) → In m earlier → (x : Seat × Opened) → In x (seats heads d earlier ms) → In m x.0.earlier
  stays earlier [] m i x j = elim j [ ]
  stays earlier (o ∷ ms) m i x j = elim (split_in first x (seats heads d (earlier ++ o.member ∷ []) ms) j) [
    | inl q ↦ subst (λ (z : Seat × Opened). In m z.0.earlier) q i
    | inr k ↦ stays (earlier ++ o.member ∷ []) ms m (in_left (o.member ∷ []) i) x k
  ] where
    first : Seat × Opened
    first = (record { heads = heads; decl = d; earlier = earlier }, o)

  -- of two members one is the other, or stands before it
  pub ordered : (earlier : List Member) (ms : List Opened) (x y : Seat × Opened) → In x (seats heads d earlier ms) → In y (seats heads d earlier ms) → (x ≡ y) ⊎ (In x.1.member y.0.earlier ⊎ In y.1.member x.0.earlier)
  ordered earlier [] x y i j = elim i [ ]
  ordered earlier (o ∷ ms) x y i j = elim (split_in first x rest i) [
    | inl p ↦ elim (split_in first y rest j) [
      | inl q ↦ inl (sym p ∙ q)
      | inr l ↦ inr (inl (subst (λ (z : Seat × Opened). In z.1.member y.0.earlier) p (stays (earlier ++ o.member ∷ []) ms o.member (in_right earlier here) y l)))
    ]
    | inr k ↦ elim (split_in first y rest j) [
      | inl q ↦ inr (inr (subst (λ (z : Seat × Opened). In z.1.member x.0.earlier) q (stays (earlier ++ o.member ∷ []) ms o.member (in_right earlier here) x k)))
      | inr l ↦ ordered (earlier ++ o.member ∷ []) ms x y k l
    ]
  ] where
    first : Seat × Opened
    first = (record { heads = heads; decl = d; earlier = earlier }, o)

    rest : List (Seat × Opened)
    rest = seats heads d (earlier ++ o.member ∷ []) ms

-- A static method and another of one name and count can't stand together: neither in one class, nor where the one is
-- inherited by the class of the other
module _ (heads : List Iface) (ds : List Decl) (sound : AreSound (visits_from heads [] (map open_decl ds))) (d : Decl) (inside : In d ds) where
  -- what collides with a method of the class is none of these
  none_collides : (seat : Seat) (m : Member) → In (seat, opened m) (seats_of heads (open_decl d)) → (a : IfaceMethod) → as_method m ≡ Some a → (b : IfaceMethod) → In b (filter_map as_method seat.earlier ++ inherited seat.heads seat.decl) → collide a b ≡ true → ⊥
  none_collides seat m i a e b j c =
      let kept : option_map_or (λ own. list_any (collide own) (filter_map as_method seat.earlier ++ inherited seat.heads seat.decl)) (as_method m) false ≡ false = member_keeps heads ds sound (8, rule_8) (there (there (there (there (there (there (there here))))))) d inside (seat, opened m) i in
      false≢true (sym (ap (λ (o : Option IfaceMethod). option_map_or (λ own. list_any (collide own) (filter_map as_method seat.earlier ++ inherited seat.heads seat.decl)) o false) (sym e) ∙ kept) ∙ any_from_in (collide a) j c)

  -- a method is inherited
  pub none_above : (k b : IfaceMethod) → In k (filter_map as_own (seats_of heads (open_decl d))) → In b (inherited heads d) → k.name ≡ b.name → length k.params ≡ length b.params → (is_static k.kind || is_static b.kind) ≡ true → ⊥
  none_above k b i j n c s =
      let st = stands heads d k i in
      let a = seen_as (entry_of st.seat (opened st.member)) st.member k st.own in
      let at = seat_is heads d [] (map opened d.members) (st.seat, opened st.member) st.there in
      let j' : In b (inherited st.seat.heads st.seat.decl) = subst (λ (hs : List Iface). In b (inherited hs st.seat.decl)) (sym at.0) (subst (λ (x : Decl). In b (inherited heads x)) (sym at.1) j) in
      none_collides st.seat st.member st.there a.seen a.is b (in_right (filter_map as_method st.seat.earlier) j')
      (must_collide a.seen b (a.name ∙ n) (ap length a.params ∙ c) (ap (λ (q : MethodKind). is_static q || is_static b.kind) a.kind ∙ s))

  -- or is written before a member of the class
  pub earlier_one : (k b : IfaceMethod) (sk : Stands heads d k) (sb : Stands heads d b) → In sb.member sk.seat.earlier → k.name ≡ b.name → length k.params ≡ length b.params → (is_static k.kind || is_static b.kind) ≡ true → ⊥
  earlier_one k b sk sb i n c s =
      let a = seen_as (entry_of sk.seat (opened sk.member)) sk.member k sk.own in
      let e = seen_as (entry_of sb.seat (opened sb.member)) sb.member b sb.own in
      none_collides sk.seat sk.member sk.there a.seen a.is e.seen (in_left (inherited sk.seat.heads sk.seat.decl) (in_filter_to as_method e.seen i e.is))
      (must_collide a.seen e.seen (a.name ∙ n ∙ sym e.name) (ap length a.params ∙ c ∙ sym (ap length e.params))
      (ap (λ (q : MethodKind). is_static q || is_static e.seen.kind) a.kind ∙ ap (λ (q : MethodKind). is_static k.kind || is_static q) e.kind ∙ s))

  -- both are methods of the class
  pub none_beside : (k b : IfaceMethod) → In k (filter_map as_own (seats_of heads (open_decl d))) → In b (filter_map as_own (seats_of heads (open_decl d))) → k.name ≡ b.name → length k.params ≡ length b.params → is_static k.kind ≡ true → is_static b.kind ≡ false → ⊥
  none_beside k b i j n c s t =
      let sk = stands heads d k i in
      let sb = stands heads d b j in
      elim (ordered heads d [] (map opened d.members) (sk.seat, opened sk.member) (sb.seat, opened sb.member) sk.there sb.there) [
        | inl q ↦ let e = some_is k b (sym sk.own ∙ ap as_own q ∙ sb.own) in false≢true (sym t ∙ ap (λ (x : IfaceMethod). is_static x.kind) (sym e) ∙ s)
        | inr r ↦ elim r [
          | inl before ↦ earlier_one b k sb sk before (sym n) (sym c) (or_right (is_static b.kind) (is_static k.kind) s)
          | inr before ↦ earlier_one k b sk sb before n c (or_left (is_static k.kind) (is_static b.kind) s)
        ]
      ]
