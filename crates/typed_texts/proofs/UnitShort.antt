-- The members of a unit with short names and literals have trees with such names and literals.
use Rattle.std.proofs.Common.{◌≡◌, ◌⊎◌, ℕ, zero, suc, Bool, true, false, List, [], ◌∷◌, ◌++◌, map, Option, Some, None, refl, sym, ap, ◌∙◌, subst, inl, inr}
use Rattle.std.specs.Prelude.{◌&&◌, is_some, not, if◌then◌else◌, slice_get}
use Rattle.std.specs.List.{list_all, filter_map, flat_map, cons_option}
use Rattle.std.specs.Option.{option_map, option_map_or, option_to_list}
use Rattle.std.proofs.lemmas.Bool.{false≢true, and_from, and_parts}
use Rattle.std.proofs.lemmas.List.{append-nil}
use Rattle.jp_pred.specs.declared.ty.Ty.{Ty}
use Rattle.jp_pred.specs.declared.path.Path.{Path}
use Rattle.jp_pred.specs.Names.{Word, In, here, there}
use Rattle.jp_pred.proofs.Entries.{in_append, split_in}
use Rattle.jp_pred.proofs.Cycles.{in_map_back}
use Rattle.iface_codec.specs.declared.iface.Iface.{Iface}
use Rattle.iface_codec.specs.declared.iface.IfaceMethod.{IfaceMethod}
use Rattle.jp_ast.specs.declared.expr.Expr.{Expr}
use Rattle.jp_ast.specs.declared.guard.GuardExpr.{GuardExpr}
use Rattle.jp_ast.specs.declared.decl.Decl.{Decl}
use Rattle.jp_ast.specs.declared.decl.Member.{Member}
use Rattle.jp_ast.specs.declared.decl.MemberPart.{MemberPart}
use Rattle.jp_ast.specs.declared.decl.MemberPart.TheVariants as part
use Rattle.jp_meaning.specs.declared.expr.TypedExpr.{TypedExpr}
use Rattle.jp_meaning.specs.declared.unit.TypedPart.{TypedPart}
use Rattle.jp_meaning.specs.declared.unit.TypedPart.TheVariants as typed
use Rattle.jp_meaning.specs.declared.unit.TypedMember.{TypedMember}
use Rattle.jp_meaning.specs.declared.unit.TypedClass.{TypedClass}
use Rattle.type_rules.specs.declared.scope.Scope.{Scope}
use Rattle.type_rules.specs.declared.seen.Role.TheVariants as role
use Rattle.type_rules.specs.Guards.{guarded}
use Rattle.type_rules.specs.Heads.{object_head, io_head, method_part, as_method_with, as_method, as_constructor, param_types, head, heads_of, head_of, is_class, superclass_of}
use Rattle.type_rules.specs.Lookups.{constructor_of}
use Rattle.type_rules.specs.RulesOfDeclarations.{super_head}
use Rattle.type_rules.specs.Expressions.{seen_all, arguments}
use Rattle.type_rules.specs.Statements.{waiting, operand, flow, made_along}
use Rattle.type_rules.specs.Units.{Opened, Seat, guard_part, super_part, block_part, opened, open_decl, body_scope, super_parts, super_count, super_params, place_in, guard_scope, made_guard, guard_of, entry_of, member_from, made_member, seats, seats_of, resolved_head, made_members, made_class}
use Rattle.calls_fit.proofs.Named.{all_in}
use Rattle.typed_fits.proofs.Looking.{head_in}
use Rattle.typed_fits.proofs.MemberFits.{seat_is}
use Rattle.typed_fits.proofs.UnitFits.{Made, none, one, all_made, head_is, is_opened, unit_classes}
use Rattle.plain_form.specs.Forms as form
use Rattle.code_texts.specs.Short.{is_short, names_short, has_short_params, is_short_expr, is_short_stmt, or_so, has_no_aliases, start_is_short, is_short_member}
use Rattle.typed_code.proofs.Making.{OnMade, any_then, so_then, so_map}
use Rattle.typed_code.proofs.UnitTold.{members_told, default_told}
use Rattle.typed_texts.specs.Words.{expr_is_short, stmt_is_short, has_short_words, field_is_short, method_is_short, head_is_short, has_short_names}
use Rattle.typed_texts.specs.Laws.{TypedIsShort, TypedHeadsAreShort}
use Rattle.typed_texts.proofs.SeenShort.{AreShort, AllShort, maker_found, parts_of, arguments_short, part_short}
use Rattle.typed_texts.proofs.FlowShort.{AllGood, block_short}

-- HEADS

own_part : (ds : List Decl) (h : Iface) → In h (map head ds ++ []) → (d : Decl) × In d ds × (head d ≡ h)
own_part ds h i = elim (in_append h (map head ds) [] i) [
  | inl a ↦ in_map_back head ds h a
  | inr b ↦ elim b [ ]
]

short_head : (d : Decl) → has_short_names d ≡ true → head_is_short (head d) ≡ true
short_head d e = (and_parts (head_is_short (head d)) (list_all has_short_words d.members) e).0

short_heads : (ds : List Decl) → list_all has_short_names ds ≡ true → AreShort (heads_of ds [])
short_heads ds words h i = elim (split_in object_head h (io_head ∷ (map head ds ++ [])) i) [
  | inl q ↦ subst (λ (x : Iface). head_is_short x ≡ true) q refl
  | inr j ↦ elim (split_in io_head h (map head ds ++ []) j) [
    | inl q ↦ subst (λ (x : Iface). head_is_short x ≡ true) q refl
    | inr l ↦ let g = own_part ds h l in subst (λ (x : Iface). head_is_short x ≡ true) g.2 (short_head g.0 (all_in has_short_names ds words g.1))
  ]
]

-- WHAT BODIES READ ON ENTRY

bare_at : (ks : List IfaceMethod) (at : ℕ) → list_all has_no_aliases ks ≡ true → or_so has_no_aliases (slice_get ks at) ≡ true
bare_at [] at h = refl
bare_at (k ∷ ks) zero h = (and_parts (has_no_aliases k) (list_all has_no_aliases ks) h).0
bare_at (k ∷ ks) (suc at) h = bare_at ks at (and_parts (has_no_aliases k) (list_all has_no_aliases ks) h).1

-- without a guard the rules see none
no_guard : (q : MemberPart) → not (is_some (form.guard_part q)) ≡ true → guard_part q ≡ None
no_guard (part.Field t static) e = refl
no_guard (part.Static result block) e = refl
no_guard (part.Abstract result) e = refl
no_guard (part.Body result None block) e = refl
no_guard (part.Body result (Some guard) block) e = absurd (false≢true e)
no_guard (part.Constructor args block) e = refl

no_entry : (seat : Seat) (m : Member) → guard_part m.part ≡ None → entry_of seat (opened m) ≡ []
no_entry seat m e = ap (λ (o : Option GuardExpr). map (λ a. (a.path, a.ty)) (option_map_or (λ x. x.after.aliases) (option_map (λ g. g (guard_scope seat m)) (option_map guarded o)) [])) e

one_bare : (entry : List (Path × Ty)) (m : Member) (q : MemberPart) (ks : List IfaceMethod) → entry ≡ [] → list_all has_no_aliases ks ≡ true → list_all has_no_aliases (cons_option (method_part entry m q) ks) ≡ true
one_bare entry m (part.Field t static) ks e h = h
one_bare entry m (part.Static result block) ks e h = h
one_bare entry m (part.Abstract result) ks e h = h
one_bare entry m (part.Body result guard block) ks e h =
    subst (λ (x : List (Path × Ty)). list_all has_no_aliases (cons_option (method_part x m (part.Body result guard block)) ks) ≡ true) (sym e) h
one_bare entry m (part.Constructor args block) ks e h = h

methods_bare : (heads : List Iface) (d : Decl) (earlier ms : List Member) → list_all form.has_no_guard ms ≡ true →
    list_all has_no_aliases (filter_map (λ x. as_method_with (entry_of x.0 x.1) x.1.member) (seats heads d earlier (map opened ms))) ≡ true
methods_bare heads d earlier [] h = refl
methods_bare heads d earlier (m ∷ ms) h =
    let k = and_parts (form.has_no_guard m) (list_all form.has_no_guard ms) h in
    let seat : Seat = record { heads = heads; decl = d; earlier = earlier } in
    one_bare (entry_of seat (opened m)) m m.part _ (no_entry seat m (no_guard m.part k.0)) (methods_bare heads d (earlier ++ m ∷ []) ms k.1)

-- RESOLVED HEADS

-- what a body reads on entry is no part of its name and types
with_entry : (entry : List (Path × Ty)) (m : Member) (q : MemberPart) (js ks : List IfaceMethod) → list_all method_is_short (cons_option (method_part [] m q) js) ≡ true → (list_all method_is_short js ≡ true → list_all method_is_short ks ≡ true) →
    list_all method_is_short (cons_option (method_part entry m q) ks) ≡ true
with_entry entry m (part.Field t static) js ks h later = later h
with_entry entry m (part.Static result block) js ks h later =
    let one = is_short m.name && (has_short_params (param_types m) && names_short result) in let g = and_parts one (list_all method_is_short js) h in and_from one (list_all method_is_short ks) g.0 (later g.1)
with_entry entry m (part.Abstract result) js ks h later =
    let one = is_short m.name && (has_short_params (param_types m) && names_short result) in let g = and_parts one (list_all method_is_short js) h in and_from one (list_all method_is_short ks) g.0 (later g.1)
with_entry entry m (part.Body result guard block) js ks h later =
    let one = is_short m.name && (has_short_params (param_types m) && names_short result) in let g = and_parts one (list_all method_is_short js) h in and_from one (list_all method_is_short ks) g.0 (later g.1)
with_entry entry m (part.Constructor args block) js ks h later = later h

resolved_methods : (heads : List Iface) (d : Decl) (earlier ms : List Member) → list_all method_is_short (filter_map as_method ms) ≡ true →
    list_all method_is_short (filter_map (λ x. as_method_with (entry_of x.0 x.1) x.1.member) (seats heads d earlier (map opened ms))) ≡ true
resolved_methods heads d earlier [] h = refl
resolved_methods heads d earlier (m ∷ ms) h =
    let seat : Seat = record { heads = heads; decl = d; earlier = earlier } in
    with_entry (entry_of seat (opened m)) m m.part (filter_map as_method ms) _ h (resolved_methods heads d (earlier ++ m ∷ []) ms)

resolved_short : (heads : List Iface) (d : Decl) → head_is_short (head d) ≡ true → head_is_short (resolved_head heads (open_decl d)) ≡ true
resolved_short heads d h =
    let parts = parts_of (head d) h in
    let above = or_so is_short (superclass_of d) in
    let under = list_all is_short d.interfaces in
    let fields = list_all field_is_short (head d).fields in
    let makers = list_all has_short_params (head d).constructors in
    let methods = list_all method_is_short (resolved_head heads (open_decl d)).methods in
    and_from (is_short d.name) (above && (under && (fields && (makers && methods)))) parts.name
    (and_from above (under && (fields && (makers && methods))) parts.above
    (and_from under (fields && (makers && methods)) parts.interfaces
    (and_from fields (makers && methods) parts.fields
    (and_from makers methods parts.makers (resolved_methods heads d [] d.members parts.methods)))))

-- THE CONSTRUCTOR ABOVE

module _ (heads : List Iface) (g : AreShort heads) (count : ℕ) where
  abbrev params_in : Iface → List Ty
  params_in h = option_map_or (λ ts. ts) (constructor_of h count) []

  params_short : (h : Iface) → In h heads → has_short_params (params_in h) ≡ true
  params_short h i = by_maker (constructor_of h count) refl where
    by_maker : (o : Option (List Ty)) → constructor_of h count ≡ o → has_short_params (option_map_or (λ ts. ts) o []) ≡ true
    by_maker None e = refl
    by_maker (Some ts) e = maker_found heads g h count ts i e

  above_short : (d : Decl) → has_short_params (flat_map params_in (super_head heads d)) ≡ true
  above_short d = by_name (superclass_of d) where
    by_class : (h : Iface) → In h heads → (b : Bool) → has_short_params (flat_map params_in (cons_option (if b then Some h else None) [])) ≡ true
    by_class h i true = subst (λ (ts : List Ty). has_short_params ts ≡ true) (sym (append-nil (params_in h))) (params_short h i)
    by_class h i false = refl

    by_head : (name : Word) (o : Option Iface) → head_of heads name ≡ o → has_short_params (flat_map params_in (filter_map (λ h. if is_class h then Some h else None) (option_to_list o))) ≡ true
    by_head name None e = refl
    by_head name (Some h) e = by_class h (head_in heads name h e).0 (is_class h)

    by_name : (o : Option Word) → has_short_params (flat_map params_in (option_map_or (λ name. filter_map (λ h. if is_class h then Some h else None) (option_to_list (head_of heads name))) o [])) ≡ true
    by_name None = refl
    by_name (Some name) = by_head name (head_of heads name) refl

-- MEMBERS

from_equation : {A : Type 0} (P : A → Type 0) (o : Option A) → ((x : A) → o ≡ Some x → P x) → OnMade P o
from_equation P None h = tt
from_equation P (Some x) h = h x refl

module _ (own : Iface) (above : or_so is_short own.superclass ≡ true) (bare : list_all has_no_aliases own.methods ≡ true) where
  start_short : (t : TypedMember) → has_short_params t.super_params ≡ true → (q : TypedPart) → start_is_short own t q ≡ true
  start_short t h (typed.Field at) = refl
  start_short t h (typed.Method at) = bare_at own.methods at bare
  start_short t h (typed.Constructor at) = and_from (or_so is_short own.superclass) (has_short_params t.super_params) above h

  module _ (seat : Seat) (m : Member) (g : AreShort seat.heads) (words : has_short_words m ≡ true) where
    abbrev scope : Scope
    scope = body_scope seat (opened m)

    all_operands : (xs : List Expr) → list_all expr_is_short xs ≡ true → AllShort (seen_all (map (operand scope) (map waiting xs)))
    all_operands [] w = tt
    all_operands (x ∷ xs) w = let v = and_parts (expr_is_short x) (list_all expr_is_short xs) w in (part_short scope g x v.0 role.Operand, all_operands xs v.1)

    parts_short : (o : Option (List Expr)) → or_so (list_all expr_is_short) o ≡ true → AllShort (option_map_or seen_all (option_map (map (operand scope)) (option_map (map waiting) o)) [])
    parts_short None w = tt
    parts_short (Some xs) w = all_operands xs w

    super_short : has_short_params (super_params seat (opened m)) ≡ true
    super_short = by_kind (is_some (as_constructor m)) where
      by_kind : (b : Bool) → has_short_params (if b then flat_map (params_in seat.heads g (super_count (opened m))) (super_head seat.heads seat.decl) else []) ≡ true
      by_kind true = above_short seat.heads g (super_count (opened m)) seat.decl
      by_kind false = refl

    member_short : OnMade (λ (t : TypedMember). is_short_member own t ≡ true) (made_member seat (opened m))
    member_short =
        let P : TypedMember → Type 0 = λ t. is_short_member own t ≡ true in
        let Q : List TypedExpr → Type 0 = λ ts. list_all is_short_expr ts ≡ true in
        let parts = option_map_or seen_all (super_parts seat (opened m)) [] in
        let w = and_parts (or_so (list_all expr_is_short) (super_part m.part)) (list_all stmt_is_short (block_part m.part)) words in
        any_then _ P (made_guard (guard_of seat (opened m))) (λ guard.
        so_then _ P Q (arguments (Some []) parts) (from_equation Q (arguments (Some []) parts) (λ ts e. arguments_short parts [] ts (parts_short (super_part m.part) w.0) refl e)) (λ args ha.
        so_map (λ block. member_from seat (opened m) guard args block) P AllGood (made_along (Some []) (map flow (block_part m.part)) scope) (block_short (block_part m.part) scope w.1 g) (λ block hb.
        and_from (start_is_short own (member_from seat (opened m) guard args block) (place_in seat.earlier m)) (list_all is_short_expr args && list_all is_short_stmt block)
        (start_short (member_from seat (opened m) guard args block) super_short (place_in seat.earlier m)) (and_from (list_all is_short_expr args) (list_all is_short_stmt block) ha hb))))

-- CLASSES

class_in : (heads : List Iface) {ds : List Decl} {cs : List TypedClass} → Made heads ds cs → (c : TypedClass) → In c cs → (d : Decl) × In d ds × (made_class heads (open_decl d) ≡ Some c)
class_in heads none c i = elim i [ ]
class_in heads (one {d} {ds} {c = x} {cs} f m) c i = by_place (split_in x c cs i) (class_in heads m c) where
  by_place : (x ≡ c) ⊎ In c cs → (In c cs → (e : Decl) × In e ds × (made_class heads (open_decl e) ≡ Some c)) → (e : Decl) × In e (d ∷ ds) × (made_class heads (open_decl e) ≡ Some c)
  by_place (inl q) later = (d, here, f ∙ ap (λ (z : TypedClass). Some z) q)
  by_place (inr j) later = let k = later j in (k.0, there k.1, k.2)

on_some : {A : Type 0} (P : A → Type 0) (o : Option A) (x : A) → o ≡ Some x → OnMade P o → P x
on_some P o x e h = subst (OnMade P) e h

module _ (heads : List Iface) (g : AreShort heads) (d : Decl) (words : has_short_names d ≡ true) (free : list_all form.has_no_guard d.members ≡ true) where
  abbrev own : Iface
  own = resolved_head heads (open_decl d)

  abbrev Fine : TypedMember → Type 0
  Fine t = is_short_member own t ≡ true

  above : or_so is_short (superclass_of d) ≡ true
  above = (parts_of (head d) (short_head d words)).above

  seat_short : (seat : Seat) (o : Opened) (m : Member) → In m d.members → opened m ≡ o → seat.heads ≡ heads → OnMade Fine (made_member seat o)
  seat_short seat o m i q e =
      let all = (and_parts (head_is_short (head d)) (list_all has_short_words d.members) words).1 in
      subst (λ (o : Opened). OnMade Fine (made_member seat o)) q
      (member_short own above (methods_bare heads d [] d.members free) seat m (subst AreShort (sym e) g) (all_in has_short_words d.members all i))

  all_short : OnMade (λ (ts : List TypedMember). (t : TypedMember) → In t ts → Fine t) (made_members (Some []) (seats_of heads (open_decl d)))
  all_short = members_told Fine (seats_of heads (open_decl d)) [] (λ x j.
      let at = seat_is heads d [] (map opened d.members) x j in
      let m = is_opened d.members x.1 at.2 in
      seat_short x.0 x.1 m.0 m.1 m.2 at.0) (λ t i. elim i [ ])

  class_short : (c : TypedClass) → made_class heads (open_decl d) ≡ Some c → (m : TypedMember) → In m c.members → is_short_member c.head m ≡ true
  class_short c e m i =
      let hs = head_is heads d c e in
      let ms = hs.1 in
      let each = on_some (λ (ts : List TypedMember). (t : TypedMember) → In t ts → Fine t) (made_members (Some []) (seats_of heads (open_decl d))) ms.0 ms.1 all_short in
      ap (λ (h : Iface). is_short_member h m) hs.0
      ∙ default_told Fine d ms.0 each (and_from (or_so is_short (superclass_of d) && has_short_params []) true (and_from (or_so is_short (superclass_of d)) true above refl) refl) m (subst (λ (ts : List TypedMember). In m ts) ms.2 i)

pub heads_short : TypedHeadsAreShort
heads_short unit tree typed words c ic =
    let heads = heads_of unit.decls [] in
    let all = all_made heads unit.decls [] tree.classes (unit_classes heads (map open_decl unit.decls) tree typed.resolved) in
    let at = class_in heads all.2 c (subst (λ (cs : List TypedClass). In c cs) all.1 ic) in
    ap head_is_short (head_is heads at.0 c at.2).0 ∙ resolved_short heads at.0 (short_head at.0 (all_in has_short_names unit.decls words at.1))

pub typed_short : TypedIsShort
typed_short unit tree typed free words c m ic im =
    let heads = heads_of unit.decls [] in
    let all = all_made heads unit.decls [] tree.classes (unit_classes heads (map open_decl unit.decls) tree typed.resolved) in
    let at = class_in heads all.2 c (subst (λ (cs : List TypedClass). In c cs) all.1 ic) in
    class_short heads (short_heads unit.decls words) at.0 (all_in has_short_names unit.decls words at.1) (all_in (λ (d : Decl). list_all form.has_no_guard d.members) unit.decls free at.1) c at.2 m im
