-- Where the members of a declaration stand, and the resolved members of its class.
use Rattle.std.proofs.Common.{◌≡◌, ◌⊎◌, ℕ, zero, suc, Bool, true, false, cond, List, [], ◌∷◌, ◌++◌, map, length, Option, Some, None, refl, sym, ap, ◌∙◌, subst, inl, inr}
use Rattle.std.specs.Prelude.{slice_get, is_some, if◌then◌else◌}
use Rattle.std.specs.List.{filter_map}
use Rattle.std.specs.Option.{option_map, option_map_or, option_and_then}
use Rattle.std.proofs.lemmas.List.{append-nil, append_assoc}
use Rattle.jp_pred.specs.declared.path.Path.{Path}
use Rattle.jp_pred.specs.declared.ty.Ty.{Ty}
use Rattle.jp_pred.specs.Names.{In, here, there}
use Rattle.jp_pred.proofs.Entries.{in_left, split_in}
use Rattle.iface_codec.specs.declared.iface.Iface.{Iface}
use Rattle.iface_codec.specs.declared.iface.IfaceMethod.{IfaceMethod}
use Rattle.jp_ast.specs.declared.decl.Decl.{Decl}
use Rattle.jp_ast.specs.declared.decl.Member.{Member}
use Rattle.jp_ast.specs.declared.decl.MemberPart.{MemberPart}
use Rattle.jp_ast.specs.declared.decl.MemberPart.TheVariants as part
use Rattle.jp_ast.specs.declared.decl.SourceUnit.{SourceUnit}
use Rattle.jp_meaning.specs.declared.expr.TypedExpr.{TypedExpr}
use Rattle.jp_meaning.specs.declared.stmt.TypedStmt.{TypedStmt}
use Rattle.jp_meaning.specs.declared.guard.TypedGuard.{TypedGuard}
use Rattle.jp_meaning.specs.declared.unit.TypedClass.{TypedClass}
use Rattle.jp_meaning.specs.declared.unit.TypedMember.{TypedMember}
use Rattle.jp_meaning.specs.declared.unit.TypedPart.{TypedPart}
use Rattle.jp_meaning.specs.declared.unit.TypedPart.TheVariants as typed
use Rattle.jp_meaning.specs.declared.unit.TypedUnit.{TypedUnit}
use Rattle.type_rules.specs.Heads.{field_part, constructor_part, method_part, as_field, as_constructor, as_method, heads_of}
use Rattle.type_rules.specs.RulesOfDeclarations.{has_no_constructor}
use Rattle.type_rules.specs.Expressions.{seen_all, arguments}
use Rattle.type_rules.specs.Statements.{made_along}
use Rattle.type_rules.specs.Typing.{IsTyped}
use Rattle.type_rules.specs.Units.{Opened, Seat, opened, open_decl, body_scope, super_parts, place_in, made_guard, guard_of, member_from, made_member, seats, seats_of, default_constructor, with_default, made_members, made_class, visits_from}
use Rattle.calls_fit.proofs.Named.{some_is, none_is, in_get}
use Rattle.typed_fits.proofs.MemberFits.{seat_is}
use Rattle.typed_fits.proofs.Rules.{AllKeep, all_keep}
use Rattle.typed_fits.proofs.UnitFits.{Made, none, one, all_made, unit_classes, is_opened}

-- THE CLASSES OF A UNIT

-- they are made of its declarations, none of which breaks a rule
pub unit_made : (unit : SourceUnit) (tree : TypedUnit) → IsTyped unit [] tree → Made (heads_of unit.decls []) unit.decls tree.classes × AllKeep (heads_of unit.decls []) [] unit.decls
unit_made unit tree typed =
    let heads = heads_of unit.decls [] in
    let all = all_made heads unit.decls [] tree.classes (unit_classes heads (map open_decl unit.decls) tree typed.resolved) in
    (subst (Made heads unit.decls) (sym all.1) all.2, all_keep heads [] unit.decls (visits_from heads [] (map open_decl unit.decls)) typed.sound (λ v i. i))

-- each declaration has a class
pub class_for : {heads : List Iface} {ds : List Decl} {cs : List TypedClass} → Made heads ds cs → (d : Decl) → In d ds → (c : TypedClass) × In c cs × (made_class heads (open_decl d) ≡ Some c)
class_for none d i = elim i [ ]
class_for {heads = heads} (one {d = e} {ds} {c} {cs} f m) d i = elim (split_in e d ds i) [
  | inl q ↦ (c, here, subst (λ (x : Decl). made_class heads (open_decl x) ≡ Some c) q f)
  | inr j ↦ let g = class_for m d j in (g.0, there g.1, g.2)
]

-- SEATS

-- each member has a seat
pub seat_for : (heads : List Iface) (d : Decl) (earlier ms : List Member) (m : Member) → In m ms → (s : Seat) × In (s, opened m) (seats heads d earlier (map opened ms))
seat_for heads d earlier [] m i = elim i [ ]
seat_for heads d earlier (n ∷ ms) m i = elim (split_in n m ms i) [
  | inl q ↦ subst (λ (x : Member). (s : Seat) × In (s, opened x) (seats heads d earlier (opened n ∷ map opened ms))) q (record { heads = heads; decl = d; earlier = earlier }, here)
  | inr j ↦ let g = seat_for heads d (earlier ++ n ∷ []) ms m j in (g.0, there g.1)
]

-- RESOLVED MEMBERS

-- each is made of the member in its seat
pub data AllMade : List (Seat × Opened) → List TypedMember → Type 0 where
  no_more : AllMade [] []
  one_more : {x : Seat × Opened} {xs : List (Seat × Opened)} {t : TypedMember} {ts : List TypedMember} → made_member x.0 x.1 ≡ Some t → AllMade xs ts → AllMade (x ∷ xs) (t ∷ ts)

no_members : (xs : List (Seat × Opened)) (ts : List TypedMember) → made_members None xs ≡ Some ts → ⊥
no_members [] ts e = none_is ts e
no_members (x ∷ xs) ts e = no_members xs ts e

pub members_made : (xs : List (Seat × Opened)) (done ts : List TypedMember) → made_members (Some done) xs ≡ Some ts → (more : List TypedMember) × (ts ≡ done ++ more) × AllMade xs more
members_made [] done ts e = ([], sym (some_is done ts e) ∙ sym (append-nil done), no_more)
members_made (x ∷ xs) done ts e = by_member (made_member x.0 x.1) refl (λ t. members_made xs (done ++ t ∷ []) ts) e where
  by_member : (o : Option TypedMember) → made_member x.0 x.1 ≡ o → ((t : TypedMember) → made_members (Some (done ++ t ∷ [])) xs ≡ Some ts → (more : List TypedMember) × (ts ≡ (done ++ t ∷ []) ++ more) × AllMade xs more) →
      made_members (option_map (λ t. done ++ t ∷ []) o) xs ≡ Some ts → (more : List TypedMember) × (ts ≡ done ++ more) × AllMade (x ∷ xs) more
  by_member None f later e = absurd (no_members xs ts e)
  by_member (Some t) f later e = let g = later t e in (t ∷ g.0, g.1 ∙ append_assoc done (t ∷ []) g.0, one_more f g.2)

made_at : {xs : List (Seat × Opened)} {ts : List TypedMember} → AllMade xs ts → (i : ℕ) (t : TypedMember) → slice_get ts i ≡ Some t → (x : Seat × Opened) × (slice_get xs i ≡ Some x) × (made_member x.0 x.1 ≡ Some t)
made_at no_more i t e = none_is t e
made_at (one_more {x} f m) zero t e = (x, refl, f ∙ e)
made_at (one_more f m) (suc i) t e = made_at m i t e

-- the member that is written in a seat is among them
pub made_in : {xs : List (Seat × Opened)} {ts : List TypedMember} → AllMade xs ts → (x : Seat × Opened) → In x xs → (t : TypedMember) × In t ts × (made_member x.0 x.1 ≡ Some t)
made_in no_more x i = elim i [ ]
made_in (one_more {x = y} {xs} {t} {ts} f m) x i = elim (split_in y x xs i) [
  | inl q ↦ (t, here, ap (λ (z : Seat × Opened). made_member z.0 z.1) (sym q) ∙ f)
  | inr j ↦ let g = made_in m x j in (g.0, there g.1, g.2)
]

-- a resolved member, and the written one that stands at its position
pub record Written (heads : List Iface) (d : Decl) (i : ℕ) (t : TypedMember) : Type 0 where
  pub seat : Seat
  pub member : Member
  pub at : slice_get (seats_of heads (open_decl d)) i ≡ Some (seat, opened member)
  pub inside : In member d.members
  pub made : made_member seat (opened member) ≡ Some t

pub written : (heads : List Iface) (d : Decl) {ts : List TypedMember} → AllMade (seats_of heads (open_decl d)) ts → (i : ℕ) (t : TypedMember) → slice_get ts i ≡ Some t → Written heads d i t
written heads d m i t e =
    let g = made_at m i t e in
    let at = seat_is heads d [] (map opened d.members) g.0 (in_get (seats_of heads (open_decl d)) i g.0 g.1) in
    let o = is_opened d.members g.0.1 at.2 in
    let seat_at : slice_get (seats_of heads (open_decl d)) i ≡ Some (g.0.0, opened o.0) = subst (λ (x : Opened). slice_get (seats_of heads (open_decl d)) i ≡ Some (g.0.0, x)) (sym o.2) g.1 in
    record { seat = g.0.0; member = o.0; at = seat_at; inside = o.1; made = ap (made_member g.0.0) o.2 ∙ g.2 }

-- THE PART OF A MEMBER

pub made_part : (seat : Seat) (m : Opened) (t : TypedMember) → made_member seat m ≡ Some t → t.part ≡ place_in seat.earlier m.member
made_part seat m t e = by_guard (made_guard (guard_of seat m)) e where
  by_block : (when : Option TypedGuard) (args : List TypedExpr) (o : Option (List TypedStmt)) → option_map (λ block. member_from seat m when args block) o ≡ Some t → t.part ≡ place_in seat.earlier m.member
  by_block when args None e = none_is t e
  by_block when args (Some block) e = ap (λ (x : TypedMember). x.part) (sym (some_is (member_from seat m when args block) t e))

  by_args : (when : Option TypedGuard) (o : Option (List TypedExpr)) → option_and_then (λ args. option_map (λ block. member_from seat m when args block) (made_along (Some []) m.block (body_scope seat m))) o ≡ Some t → t.part ≡ place_in seat.earlier m.member
  by_args when None e = none_is t e
  by_args when (Some args) e = by_block when args (made_along (Some []) m.block (body_scope seat m)) e

  by_guard : (o : Option (Option TypedGuard)) → option_and_then (λ when. option_and_then (λ args. option_map (λ block. member_from seat m when args block) (made_along (Some []) m.block (body_scope seat m))) (arguments (Some []) (option_map_or seen_all (super_parts seat m) []))) o ≡ Some t → t.part ≡ place_in seat.earlier m.member
  by_guard None e = none_is t e
  by_guard (Some when) e = by_args when (arguments (Some []) (option_map_or seen_all (super_parts seat m) [])) e

-- the position of a member of such a part
abbrev pub placed_by : List Member → Member → MemberPart → TypedPart
placed_by earlier m q =
    if is_some (field_part m q) then typed.Field (length (filter_map as_field earlier))
    else if is_some (constructor_part m q) then typed.Constructor (length (filter_map as_constructor earlier))
    else typed.Method (length (filter_map as_method earlier))

pub method_place : (aliases : List (Path × Ty)) (earlier : List Member) (m : Member) (q : MemberPart) (k : IfaceMethod) → method_part aliases m q ≡ Some k → placed_by earlier m q ≡ typed.Method (length (filter_map as_method earlier))
method_place aliases earlier m (part.Field t static) k e = none_is k e
method_place aliases earlier m (part.Static result block) k e = refl
method_place aliases earlier m (part.Abstract result) k e = refl
method_place aliases earlier m (part.Body result when block) k e = refl
method_place aliases earlier m (part.Constructor args block) k e = none_is k e

-- THE CONSTRUCTOR THAT ISN'T WRITTEN

pub in_default : (d : Decl) (ms : List TypedMember) (t : TypedMember) → In t ms → In t (with_default d ms)
in_default d ms t i = by_kind d.is_interface where
  by_written : (b : Bool) → In t (if b then ms ++ default_constructor ∷ [] else ms)
  by_written true = in_left (default_constructor ∷ []) i
  by_written false = i

  by_kind : (b : Bool) → In t (cond b ms (if has_no_constructor d then ms ++ default_constructor ∷ [] else ms))
  by_kind true = i
  by_kind false = by_written (has_no_constructor d)

at_end : (ms : List TypedMember) (x t : TypedMember) (i : ℕ) → slice_get (ms ++ x ∷ []) i ≡ Some t → (slice_get ms i ≡ Some t) ⊎ ((i ≡ length ms) × (t ≡ x))
at_end [] x t zero e = inr (refl, sym (some_is x t e))
at_end [] x t (suc i) e = none_is t e
at_end (m ∷ ms) x t zero e = inl e
at_end (m ∷ ms) x t (suc i) e = elim (at_end ms x t i e) [
  | inl q ↦ inl q
  | inr r ↦ inr (ap suc r.0, r.1)
]

-- a member of a class is made of a written one, or is the default constructor, where none is written
pub with_or_without : (d : Decl) (ms : List TypedMember) (i : ℕ) (t : TypedMember) → slice_get (with_default d ms) i ≡ Some t → (slice_get ms i ≡ Some t) ⊎ ((i ≡ length ms) × (t ≡ default_constructor) × (has_no_constructor d ≡ true))
with_or_without d ms i t e = by_kind d.is_interface e where
  Which : Type 0
  Which = (slice_get ms i ≡ Some t) ⊎ ((i ≡ length ms) × (t ≡ default_constructor) × (has_no_constructor d ≡ true))

  by_written : (b : Bool) → has_no_constructor d ≡ b → slice_get (if b then ms ++ default_constructor ∷ [] else ms) i ≡ Some t → Which
  by_written true h e = elim (at_end ms default_constructor t i e) [
    | inl q ↦ inl q
    | inr r ↦ inr (r.0, r.1, h)
  ]
  by_written false h e = inl e

  by_kind : (b : Bool) → slice_get (cond b ms (if has_no_constructor d then ms ++ default_constructor ∷ [] else ms)) i ≡ Some t → Which
  by_kind true e = inl e
  by_kind false e = by_written (has_no_constructor d) refl e
