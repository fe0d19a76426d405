-- The members of a unit without a fault are encodable, and so their lines can be laid out.
use Rattle.std.proofs.Common.{◌≡◌, ◌⊎◌, ◌≤◌, Bool, true, false, List, [], ◌∷◌, ◌++◌, map, Option, Some, None, refl, sym, ap, ◌∙◌, subst, inl, inr}
use Rattle.std.specs.Prelude.{cond, if◌then◌else◌}
use Rattle.std.specs.List.{list_all}
use Rattle.std.specs.Option.{option_map}
use Rattle.jp_pred.specs.Names.{In, here, there}
use Rattle.jp_pred.proofs.Entries.{in_append, split_in}
use Rattle.iface_codec.specs.declared.iface.Iface.{Iface}
use Rattle.jp_ast.specs.declared.decl.Decl.{Decl}
use Rattle.jp_ast.specs.declared.decl.Member.{Member}
use Rattle.jp_meaning.specs.declared.unit.TypedMember.{TypedMember}
use Rattle.jp_meaning.specs.declared.unit.TypedClass.{TypedClass}
use Rattle.type_rules.specs.Heads.{heads_of}
use Rattle.type_rules.specs.RulesOfDeclarations.{has_no_constructor}
use Rattle.type_rules.specs.Units.{Opened, Seat, opened, open_decl, seats_of, resolved_head, default_constructor, with_default, made_member, made_members, made_class}
use Rattle.calls_fit.proofs.Named.{all_in}
use Rattle.typed_fits.proofs.MemberFits.{stands_at, seat_is}
use Rattle.typed_fits.proofs.UnitFits.{Made, none, one, all_made, head_is, is_opened, unit_classes}
use Rattle.code_fits.specs.Encodable.{member_is_encodable}
use Rattle.code_fits.proofs.LinesOfMembers.{written}
use Rattle.typed_code.specs.Limits.{has_few_params}
use Rattle.typed_code.specs.Laws.{TypedIsEncodable, TypedIsWritten}
use Rattle.typed_code.proofs.Making.{OnMade}
use Rattle.typed_code.proofs.SeenTold.{AreFew}
use Rattle.typed_code.proofs.MemberTold.{member_told}

class_of : (heads : List Iface) {ds : List Decl} {cs : List TypedClass} → Made heads ds cs → (c : TypedClass) → In c cs → (d : Decl) × (made_class heads (open_decl d) ≡ Some c)
class_of heads none c i = elim i [ ]
class_of heads (one {d} {ds} {c = x} {cs} f m) c i = by_place (split_in x c cs i) (class_of heads m c) where
  by_place : (x ≡ c) ⊎ In c cs → (In c cs → (e : Decl) × (made_class heads (open_decl e) ≡ Some c)) → (e : Decl) × (made_class heads (open_decl e) ≡ Some c)
  by_place (inl q) later = (d, f ∙ ap (λ (z : TypedClass). Some z) q)
  by_place (inr j) later = later j

-- one more of which something is known
in_more : {X : Type 0} (P : X → Type 0) (xs : List X) (y : X) → ((x : X) → In x xs → P x) → P y → (x : X) → In x (xs ++ y ∷ []) → P x
in_more P xs y h k x i = elim (in_append x xs (y ∷ []) i) [
  | inl a ↦ h x a
  | inr b ↦ elim (split_in y x [] b) [
    | inl q ↦ subst P q k
    | inr j ↦ elim j [ ]
  ]
]

module _ (P : TypedMember → Type 0) where
  abbrev pub Each : List TypedMember → Type 0
  Each ts = (t : TypedMember) → In t ts → P t

  no_members : (xs : List (Seat × Opened)) → OnMade Each (made_members None xs)
  no_members [] = tt
  no_members (x ∷ xs) = no_members xs

  pub members_told : (xs : List (Seat × Opened)) (done : List TypedMember) → ((x : Seat × Opened) → In x xs → OnMade P (made_member x.0 x.1)) → Each done → OnMade Each (made_members (Some done) xs)
  members_told [] done h k = k
  members_told (x ∷ xs) done h k = by_member (made_member x.0 x.1) (h x here) (λ t e. members_told xs (done ++ t ∷ []) (λ y i. h y (there i)) (in_more P done t k e)) where
    by_member : (o : Option TypedMember) → OnMade P o → ((t : TypedMember) → P t → OnMade Each (made_members (Some (done ++ t ∷ [])) xs)) → OnMade Each (made_members (option_map (λ t. done ++ t ∷ []) o) xs)
    by_member None g later = no_members xs
    by_member (Some t) g later = later t g

  -- with the constructor that isn't written
  pub default_told : (d : Decl) (ms : List TypedMember) → Each ms → P default_constructor → Each (with_default d ms)
  default_told d ms h k = by_kind d.is_interface where
    by_written : (b : Bool) → Each (if b then ms ++ default_constructor ∷ [] else ms)
    by_written true = in_more P ms default_constructor h k
    by_written false = h

    by_kind : (b : Bool) → Each (cond b ms (if has_no_constructor d then ms ++ default_constructor ∷ [] else ms))
    by_kind true = h
    by_kind false = by_written (has_no_constructor d)

module _ (heads : List Iface) (few : AreFew heads) (d : Decl) where
  abbrev own : Iface
  own = resolved_head heads (open_decl d)

  abbrev Told : TypedMember → Type 0
  Told t = t.locals ≤ 256 → member_is_encodable own t ≡ true

  seat_told : (seat : Seat) (o : Opened) (m : Member) → opened m ≡ o → In (seat, o) (seats_of heads (open_decl d)) → OnMade Told (made_member seat o)
  seat_told seat o m q i = subst (λ (o : Opened). In (seat, o) (seats_of heads (open_decl d)) → OnMade Told (made_member seat o)) q
      (λ i.
      let at = seat_is heads d [] (map opened d.members) (seat, opened m) i in
      member_told own seat m (subst AreFew (sym at.0) few) (λ k e. stands_at heads d [] (map opened d.members) [] refl (seat, opened m) i k e)) i

  all_told : OnMade (λ (ts : List TypedMember). (t : TypedMember) → In t ts → Told t) (made_members (Some []) (seats_of heads (open_decl d)))
  all_told = members_told Told (seats_of heads (open_decl d)) [] (λ x j.
      let at = seat_is heads d [] (map opened d.members) x j in
      let m = is_opened d.members x.1 at.2 in
      seat_told x.0 x.1 m.0 m.2 j) (λ t i. elim i [ ])

  on_some : {A : Type 0} (P : A → Type 0) (o : Option A) (x : A) → o ≡ Some x → OnMade P o → P x
  on_some P o x e h = subst (OnMade P) e h

  class_told : (c : TypedClass) → made_class heads (open_decl d) ≡ Some c → (m : TypedMember) → In m c.members → m.locals ≤ 256 → member_is_encodable c.head m ≡ true
  class_told c e m i le =
      let hs = head_is heads d c e in
      let ms = hs.1 in
      let each = on_some (λ (ts : List TypedMember). (t : TypedMember) → In t ts → Told t) (made_members (Some []) (seats_of heads (open_decl d))) ms.0 ms.1 all_told in
      ap (λ (h : Iface). member_is_encodable h m) hs.0 ∙ default_told Told d ms.0 each (λ l. refl) m (subst (λ (ts : List TypedMember). In m ts) ms.2 i) le

pub encodable : TypedIsEncodable
encodable unit others tree typed few c m ic im le =
    let heads = heads_of unit.decls others in
    let all = all_made heads unit.decls [] tree.classes (unit_classes heads (map open_decl unit.decls) tree typed.resolved) in
    let g = class_of heads all.2 c (subst (λ (cs : List TypedClass). In c cs) all.1 ic) in
    class_told heads (λ h i. all_in (λ (h : Iface). list_all has_few_params h.methods) heads few i) g.0 c g.1 m im le

pub laid : TypedIsWritten
laid unit others tree typed few hier c m ic im le = written hier c.head m (encodable unit others tree typed few c m ic im le)
