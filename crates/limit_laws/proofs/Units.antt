-- What is known of the slots of a typed unit's members.
use Rattle.std.proofs.Common.{◌≡◌, ◌⊎◌, ℕ, ◌+◌, ◌≤◌, Bool, true, false, cond, List, [], ◌∷◌, ◌++◌, map, length, Option, Some, None, refl, sym, ap, ◌∙◌, subst, inl, inr, arith}
use Rattle.std.specs.Prelude.{not, if◌then◌else◌, is_some, slice_get}
use Rattle.std.specs.List.{list_all, filter_map, cons_option}
use Rattle.std.specs.Option.{option_map_or}
use Rattle.std.proofs.lemmas.Bool.{false≢true}
use Rattle.std.proofs.lemmas.List.{append_assoc}
use Rattle.std.proofs.lemmas.List.Elements.{filter_map-append}
use Rattle.jp_pred.specs.declared.ty.Ty.{Ty}
use Rattle.jp_pred.specs.Names.{In, here, there}
use Rattle.jp_pred.proofs.Entries.{in_append, split_in}
use Rattle.iface_codec.specs.declared.iface.Iface.{Iface}
use Rattle.jp_ast.specs.declared.decl.Decl.{Decl}
use Rattle.jp_ast.specs.declared.decl.Member.{Member}
use Rattle.jp_meaning.specs.declared.unit.TypedPart.{TypedPart}
use Rattle.jp_meaning.specs.declared.unit.TypedMember.{TypedMember}
use Rattle.jp_meaning.specs.declared.unit.TypedClass.{TypedClass}
use Rattle.jp_meaning.specs.declared.unit.TypedUnit.{TypedUnit}
use Rattle.type_rules.specs.Heads.{as_constructor, or_default, heads_of}
use Rattle.type_rules.specs.RulesOfDeclarations.{has_no_constructor}
use Rattle.type_rules.specs.Statements.{made_along}
use Rattle.type_rules.specs.Expressions.{seen_all, arguments}
use Rattle.type_rules.specs.Units.{Opened, Seat, opened, open_decl, body_scope, super_parts, made_guard, guard_of, member_from, made_member, seats, seats_of, resolved_head, default_constructor, with_default, made_members, made_class, place_in, slots_of, unit_in}
use Rattle.gen_body.specs.Correct as start
use Rattle.calls_fit.proofs.Named.{none_is, first_true, second_true}
use Rattle.typed_fits.proofs.MemberFits.{stands_at, seat_is}
use Rattle.typed_fits.proofs.UnitFits.{Made, none, one, all_made, head_is, is_opened, unit_classes}
use Rattle.typed_code.proofs.Making.{OnMade, any_then, any_map}
use Rattle.typed_code.proofs.UnitTold.{Each, members_told}
use Rattle.unit_limits.specs.Members.{locals}
use Rattle.limit_laws.specs.Laws.{TypedHasSlots, WithinHasFewLocals}
use Rattle.limit_laws.proofs.Counts.{member_within}
use Rattle.limit_laws.proofs.Slots.{few_slots, has_slots}

-- WHERE A CONSTRUCTOR STANDS

get_behind : {X : Type 0} (xs : List X) (y : X) (ys : List X) → slice_get (xs ++ y ∷ ys) (length xs) ≡ Some y
get_behind [] y ys = refl
get_behind (x ∷ xs) y ys = get_behind xs y ys

at_front : (earlier ms : List Member) (m : Member) (ps : List Ty) → as_constructor m ≡ Some ps → slice_get (filter_map as_constructor (earlier ++ m ∷ ms)) (length (filter_map as_constructor earlier)) ≡ Some ps
at_front earlier ms m ps e =
    let n = length (filter_map as_constructor earlier) in
    ap (λ (all : List (List Ty)). slice_get all n) (filter_map-append as_constructor earlier (m ∷ ms))
    ∙ ap (λ (o : Option (List Ty)). slice_get (filter_map as_constructor earlier ++ cons_option o (filter_map as_constructor ms)) n) e
    ∙ get_behind (filter_map as_constructor earlier) ps (filter_map as_constructor ms)

-- one that is written is none that isn't
written_stays : (b : Bool) (all : List (List Ty)) (n : ℕ) (ps : List Ty) → slice_get all n ≡ Some ps → slice_get (or_default b all) n ≡ Some ps
written_stays true all n ps e = e
written_stays false [] n ps e = none_is ps e
written_stays false (qs ∷ all) n ps e = e

module _ (heads : List Iface) (d : Decl) where
  maker_at : (earlier ms : List Member) (x : Seat × Opened) → In x (seats heads d earlier (map opened ms)) → (ps : List Ty) → as_constructor x.1.member ≡ Some ps →
      slice_get (filter_map as_constructor (earlier ++ ms)) (length (filter_map as_constructor x.0.earlier)) ≡ Some ps
  maker_at earlier [] x i ps e = elim i [ ]
  maker_at earlier (m ∷ ms) x i ps e = elim (split_in first x (seats heads d (earlier ++ m ∷ []) (map opened ms)) i) [
    | inl q ↦ subst (λ (z : Seat × Opened). as_constructor z.1.member ≡ Some ps → slice_get (filter_map as_constructor (earlier ++ m ∷ ms)) (length (filter_map as_constructor z.0.earlier)) ≡ Some ps) q (at_front earlier ms m ps) e
    | inr j ↦ subst (λ (all : List Member). slice_get (filter_map as_constructor all) (length (filter_map as_constructor x.0.earlier)) ≡ Some ps) (append_assoc earlier (m ∷ []) ms) (maker_at (earlier ++ m ∷ []) ms x j ps e)
  ] where
    first : Seat × Opened
    first = (record { heads = heads; decl = d; earlier = earlier }, opened m)

-- THE CONSTRUCTOR THAT ISN'T WRITTEN

none_written : (ms : List Member) → list_all (λ m. not (is_some (as_constructor m))) ms ≡ true → filter_map as_constructor ms ≡ []
none_written [] h = refl
none_written (m ∷ ms) h =
    by_one (as_constructor m) refl (none_written ms (second_true (not (is_some (as_constructor m))) (list_all (λ m. not (is_some (as_constructor m))) ms) h)) where
      by_one : (o : Option (List Ty)) → as_constructor m ≡ o → filter_map as_constructor ms ≡ [] → cons_option (as_constructor m) (filter_map as_constructor ms) ≡ []
      by_one None e rest = ap (λ (o : Option (List Ty)). cons_option o (filter_map as_constructor ms)) e ∙ rest
      by_one (Some ps) e rest = absurd (false≢true (sym (ap (λ (o : Option (List Ty)). not (is_some o)) e) ∙ first_true (not (is_some (as_constructor m))) (list_all (λ m. not (is_some (as_constructor m))) ms) h))

default_slots : (heads : List Iface) (d : Decl) → d.is_interface ≡ false → has_no_constructor d ≡ true → start.slots_of (resolved_head heads (open_decl d)) default_constructor.part ≤ 1
default_slots heads d e h =
    let q : or_default d.is_interface (filter_map as_constructor d.members) ≡ [] ∷ [] =
    ap (λ (b : Bool). or_default b (filter_map as_constructor d.members)) e ∙ ap (λ (all : List (List Ty)). or_default false all) (none_written d.members h) in
    subst (λ (all : List (List Ty)). option_map_or (λ (params : List Ty). 1 + length params) (slice_get all 0) 0 ≤ 1) (sym q) (omega arith)

in_more : {X : Type 0} (P : X → Type 0) (xs : List X) (y : X) → ((x : X) → In x xs → P x) → P y → (x : X) → In x (xs ++ y ∷ []) → P x
in_more P xs y h k x i = elim (in_append x xs (y ∷ []) i) [
  | inl a ↦ h x a
  | inr b ↦ elim (split_in y x [] b) [
    | inl q ↦ subst P q k
    | inr j ↦ elim j [ ]
  ]
]

-- it is there in a class that has none
default_too : (P : TypedMember → Type 0) (d : Decl) (ms : List TypedMember) → Each P ms → (d.is_interface ≡ false → has_no_constructor d ≡ true → P default_constructor) → Each P (with_default d ms)
default_too P d ms h k = by_kind d.is_interface refl where
  by_written : (b : Bool) → d.is_interface ≡ false → has_no_constructor d ≡ b → Each P (if b then ms ++ default_constructor ∷ [] else ms)
  by_written true e f = in_more P ms default_constructor h (k e f)
  by_written false e f = h

  by_kind : (b : Bool) → d.is_interface ≡ b → Each P (cond b ms (if has_no_constructor d then ms ++ default_constructor ∷ [] else ms))
  by_kind true e = h
  by_kind false e = by_written (has_no_constructor d) e refl

-- MEMBERS

-- a resolved member has the position and the slots of the written one
made_is : (P : TypedMember → Type 0) (seat : Seat) (o : Opened) → ((t : TypedMember) → t.part ≡ place_in seat.earlier o.member → t.locals ≡ slots_of seat o → P t) → OnMade P (made_member seat o)
made_is P seat o h =
    any_then _ P (made_guard (guard_of seat o)) (λ guard.
    any_then _ P (arguments (Some []) (option_map_or seen_all (super_parts seat o) [])) (λ args.
    any_map (λ block. member_from seat o guard args block) P (made_along (Some []) o.block (body_scope seat o)) (λ block. h (member_from seat o guard args block) refl refl)))

module _ (heads : List Iface) (d : Decl) where
  abbrev own : Iface
  own = resolved_head heads (open_decl d)

  -- what is known of each member of a class, by its written one
  class_told : (P : TypedMember → Type 0) → ((seat : Seat) (m : Member) → In m d.members → In (seat, opened m) (seats_of heads (open_decl d)) → OnMade P (made_member seat (opened m))) →
      (d.is_interface ≡ false → has_no_constructor d ≡ true → P default_constructor) →
      (c : TypedClass) → made_class heads (open_decl d) ≡ Some c → (m : TypedMember) → In m c.members → P m
  class_told P h k c e m i =
      let hs = head_is heads d c e in
      let ms = hs.1 in
      let each : OnMade (Each P) (made_members (Some []) (seats_of heads (open_decl d))) = members_told P (seats_of heads (open_decl d)) [] (λ x j.
      let at = seat_is heads d [] (map opened d.members) x j in
      let w = is_opened d.members x.1 at.2 in
      subst (λ (o : Opened). In (x.0, o) (seats_of heads (open_decl d)) → OnMade P (made_member x.0 o)) w.2 (h x.0 w.0 w.1) j) (λ t i. elim i [ ]) in
      default_too P d ms.0 (subst (OnMade (Each P)) ms.1 each) k m (subst (λ (ts : List TypedMember). In m ts) ms.2 i)

  abbrev HasSlots : TypedMember → Type 0
  HasSlots t = start.slots_of own t.part ≤ t.locals

  slots_told : (seat : Seat) (m : Member) → In (seat, opened m) (seats_of heads (open_decl d)) → OnMade HasSlots (made_member seat (opened m))
  slots_told seat m i = made_is HasSlots seat (opened m) (λ t e f.
      let h = has_slots seat m own (λ k e. stands_at heads d [] (map opened d.members) [] refl (seat, opened m) i k e)
      (λ ps e. written_stays d.is_interface (filter_map as_constructor d.members) (length (filter_map as_constructor seat.earlier)) ps (maker_at heads d [] d.members (seat, opened m) i ps e)) in
      subst (λ (n : ℕ). start.slots_of own t.part ≤ n) (sym f) (subst (λ (p : TypedPart). start.slots_of own p ≤ slots_of seat (opened m)) (sym e) h))

  slots_in : (c : TypedClass) → made_class heads (open_decl d) ≡ Some c → (m : TypedMember) → In m c.members → start.slots_of c.head m.part ≤ m.locals
  slots_in c e m i = subst (λ (h : Iface). start.slots_of h m.part ≤ m.locals) (sym (head_is heads d c e).0)
      (class_told HasSlots (λ seat w j k. slots_told seat w k) (default_slots heads d) c e m i)

  locals_in : ((m : Member) → In m d.members → locals m ≤ 200) → (c : TypedClass) → made_class heads (open_decl d) ≡ Some c → (m : TypedMember) → In m c.members → m.locals ≤ 200
  locals_in few c e m i = class_told (λ t. t.locals ≤ 200) (λ seat w j k. made_is (λ t. t.locals ≤ 200) seat (opened w) (λ t e f. let g = few_slots seat w in let h = few w j in omega arith)) (λ e f. omega arith) c e m i

-- CLASSES AND UNITS

class_of : (heads : List Iface) {ds : List Decl} {cs : List TypedClass} → Made heads ds cs → (c : TypedClass) → In c cs → (d : Decl) × In d ds × (made_class heads (open_decl d) ≡ Some c)
class_of heads none c i = elim i [ ]
class_of heads (one {d} {ds} {c = x} {cs} f m) c i = by_place (split_in x c cs i) (class_of heads m c) where
  by_place : (x ≡ c) ⊎ In c cs → (In c cs → (e : Decl) × In e ds × (made_class heads (open_decl e) ≡ Some c)) → (e : Decl) × In e (d ∷ ds) × (made_class heads (open_decl e) ≡ Some c)
  by_place (inl q) later = (d, here, f ∙ ap (λ (z : TypedClass). Some z) q)
  by_place (inr j) later = let g = later j in (g.0, there g.1, g.2)

written_class : (heads : List Iface) (ds : List Decl) (tree : TypedUnit) → unit_in heads (map open_decl ds) ≡ Some tree → (c : TypedClass) → In c tree.classes → (d : Decl) × In d ds × (made_class heads (open_decl d) ≡ Some c)
written_class heads ds tree e c i =
    let all = all_made heads ds [] tree.classes (unit_classes heads (map open_decl ds) tree e) in
    class_of heads all.2 c (subst (λ (cs : List TypedClass). In c cs) all.1 i)

pub slots : TypedHasSlots
slots unit others tree typed c m ic im =
    let heads = heads_of unit.decls others in
    let g = written_class heads unit.decls tree typed.resolved c ic in
    slots_in heads g.0 c g.2 m im

pub few_locals : WithinHasFewLocals
few_locals unit tree typed within c m ic im =
    let heads = heads_of unit.decls [] in
    let g = written_class heads unit.decls tree typed.resolved c ic in
    locals_in heads g.0 (λ w j. (member_within unit within g.0 w g.1 j).locals) c g.2 m im
