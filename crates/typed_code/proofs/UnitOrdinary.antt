-- The members of a unit without a fault call ordinary methods, and so each method is named as it is meant.
use Rattle.std.proofs.Common.{◌≡◌, ◌⊎◌, ℕ, zero, suc, Bool, true, false, List, [], ◌∷◌, ◌++◌, map, length, Option, Some, None, refl, sym, ap, ◌∙◌, subst, inl, inr}
use Rattle.std.specs.Prelude.{◌&&◌, not, cond, if◌then◌else◌, unwrap_or, codes}
use Rattle.std.specs.List.{find, list_all, filter_map, flat_map}
use Rattle.std.specs.Option.{option_map, option_map_or, option_or}
use Rattle.std.proofs.lemmas.Bool.{false≢true}
use Rattle.jp_pred.specs.Names.{Word, In, here, there, same, object}
use Rattle.jp_pred.proofs.Entries.{in_append, split_in}
use Rattle.jp_pred.proofs.Cycles.{in_map_back}
use Rattle.iface_codec.specs.declared.iface.Iface.{Iface}
use Rattle.iface_codec.specs.declared.iface.IfaceMethod.{IfaceMethod}
use Rattle.jp_ast.specs.declared.expr.Expr.{Expr}
use Rattle.jp_ast.specs.declared.decl.Decl.{Decl}
use Rattle.jp_ast.specs.declared.decl.Member.{Member}
use Rattle.jp_meaning.specs.declared.expr.TypedExpr.{TypedExpr}
use Rattle.jp_meaning.specs.declared.unit.TypedPart.{TypedPart}
use Rattle.jp_meaning.specs.declared.unit.TypedPart.TheVariants as typed
use Rattle.jp_meaning.specs.declared.unit.TypedMember.{TypedMember}
use Rattle.jp_meaning.specs.declared.unit.TypedClass.{TypedClass}
use Rattle.jp_meaning.specs.Choice.{NoneIsTrue}
use Rattle.jp_meaning.specs.Classes.{is_static}
use Rattle.jp_meaning.specs.Run.{Program}
use Rattle.type_rules.specs.declared.scope.Scope.{Scope}
use Rattle.type_rules.specs.declared.seen.Role.TheVariants as role
use Rattle.type_rules.specs.Types.{io, is_among}
use Rattle.type_rules.specs.Heads.{object_head, io_head, head, heads_of, head_of, superclass_of}
use Rattle.type_rules.specs.Lookups.{climb, superclasses, interfaces_above, breadth_first, class_names, unmet, supertypes, is_called, method_among, method_of}
use Rattle.type_rules.specs.RulesOfDeclarations.{is_open}
use Rattle.type_rules.specs.Expressions.{seen_all, arguments}
use Rattle.type_rules.specs.Statements.{waiting, operand, flow, made_along}
use Rattle.type_rules.specs.Units.{Opened, Seat, super_part, block_part, opened, open_decl, body_scope, super_parts, place_in, made_guard, guard_of, member_from, made_member, seats_of, resolved_head, made_members, made_class, visits_from}
use Rattle.calls_fit.specs.Fitting.{member_fits}
use Rattle.calls_fit.proofs.Named.{some_is, none_is, all_in, get_in}
use Rattle.typed_fits.proofs.Looking.{find_in, head_in}
use Rattle.typed_fits.proofs.Rules.{all_keep, standing}
use Rattle.typed_fits.proofs.MemberFits.{seat_is}
use Rattle.typed_fits.proofs.UnitFits.{Made, none, one, all_made, head_is, is_opened, unit_classes, trees_fit}
use Rattle.code_fits.specs.Encodable.{or_so}
use Rattle.code_fits.specs.Ordinary.{is_distinct, calls_ordinary, stmt_calls_ordinary, start_is_ordinary, member_calls_ordinary}
use Rattle.code_fits.proofs.LinesOfMembers.{meant}
use Rattle.typed_fits.specs.Laws.{has_plain_names}
use Rattle.typed_code.specs.Limits.{has_ordinary_methods}
use Rattle.typed_code.specs.Laws.{TypedCallsOrdinary, TypedIsMeant}
use Rattle.typed_code.proofs.Making.{OnMade, any_then, so_then, so_map}
use Rattle.typed_code.proofs.SeenTold.{and_so, of_both}
use Rattle.typed_code.proofs.SeenOrdinary.{AreOrdinary, AllUsual, arguments_usual, part_usual}
use Rattle.typed_code.proofs.FlowOrdinary.{AllOrdinary, block_usual}
use Rattle.typed_code.proofs.UnitTold.{members_told, default_told}

-- WHAT `Io` HAS

found_among : (own name : Word) (count : ℕ) (hs : List Iface) (m : Word × IfaceMethod) → method_among own name count hs ≡ Some m → (h : Iface) × In h hs × In m.1 h.methods
found_among own name count [] m e = none_is m e
found_among own name count (h ∷ hs) m e = by_own (find (is_called own name count h.name) h.methods) refl (found_among own name count hs m) e where
  by_own : (o : Option IfaceMethod) → find (is_called own name count h.name) h.methods ≡ o → (method_among own name count hs ≡ Some m → (x : Iface) × In x hs × In m.1 x.methods) →
      option_or (option_map (λ k. (h.name, k)) o) (method_among own name count hs) ≡ Some m → (x : Iface) × In x (h ∷ hs) × In m.1 x.methods
  by_own None f later e = let g = later e in (g.0, there g.1, g.2)
  by_own (Some k) f later e =
      let pair : Word × IfaceMethod = (h.name, k) in
      (h, here, subst (λ (z : Word × IfaceMethod). In z.1 h.methods) (some_is pair m e) (find_in (is_called own name count h.name) h.methods k f).0)

no_interfaces : (hs : List Iface) → ((h : Iface) → In h hs → h.interfaces ≡ []) → flat_map (λ (h : Iface). h.interfaces) hs ≡ []
no_interfaces [] k = refl
no_interfaces (h ∷ hs) k = ap (λ (ns : List Word). ns ++ flat_map (λ (h : Iface). h.interfaces) hs) (k h here) ∙ no_interfaces hs (λ x i. k x (there i))

module _ (rest : List Iface) where
  abbrev all_heads : List Iface
  all_heads = object_head ∷ io_head ∷ rest

  none_up : (n : ℕ) (met : List Word) (h : Iface) → In h (climb n all_heads met None) → h ≡ object_head
  none_up zero met h i = elim i [ ]
  none_up (suc n) met h i = elim i [ ]

  object_up : (n : ℕ) (met : List Word) (h : Iface) → In h (climb n all_heads met (Some object)) → h ≡ object_head
  object_up zero met h i = elim i [ ]
  object_up (suc n) met h i = by_met (is_among object met) i where
    by_met : (b : Bool) → In h (if b then [] else object_head ∷ climb n all_heads (object ∷ met) None) → h ≡ object_head
    by_met true i = elim i [ ]
    by_met false i = elim (split_in object_head h (climb n all_heads (object ∷ met) None) i) [
      | inl q ↦ sym q
      | inr j ↦ none_up n (object ∷ met) h j
    ]

  nothing_first : (n : ℕ) (met : List Word) → breadth_first n all_heads met [] ≡ []
  nothing_first zero met = refl
  nothing_first (suc n) met = refl

  no_more : interfaces_above all_heads (io_head ∷ superclasses all_heads io_head) ≡ []
  no_more =
      let hs = io_head ∷ superclasses all_heads io_head in
      let each : (h : Iface) → In h hs → h.interfaces ≡ [] = λ h i. elim (split_in io_head h (superclasses all_heads io_head) i) [
        | inl q ↦ ap (λ (x : Iface). x.interfaces) (sym q)
        | inr j ↦ ap (λ (x : Iface). x.interfaces) (object_up (length all_heads) (io ∷ []) h j)
      ] in
      ap (λ (ns : List Word). filter_map (head_of all_heads) (breadth_first (length all_heads) all_heads (class_names hs) (unmet (class_names hs) ns))) (no_interfaces hs each)
      ∙ ap (filter_map (head_of all_heads)) (nothing_first (length all_heads) (class_names hs))

  above_io : (h : Iface) → In h (supertypes all_heads io_head) → h ≡ object_head
  above_io h i = elim (in_append h (superclasses all_heads io_head) (interfaces_above all_heads (io_head ∷ superclasses all_heads io_head)) i) [
    | inl a ↦ object_up (length all_heads) (io ∷ []) h a
    | inr b ↦ elim (subst (λ (hs : List Iface). In h hs) no_more b) [ ]
  ]

  io_static : (own name : Word) (count : ℕ) (m : Word × IfaceMethod) → method_of all_heads own io name count ≡ Some m → is_static m.1.kind ≡ true
  io_static own name count m e =
      let f = found_among own name count (io_head ∷ supertypes all_heads io_head) m e in
      elim (split_in io_head f.0 (supertypes all_heads io_head) f.1) [
        | inl q ↦ all_in (λ (k : IfaceMethod). is_static k.kind) io_head.methods refl (subst (λ (h : Iface). In m.1 h.methods) (sym q) f.2)
        | inr j ↦ elim (subst (λ (h : Iface). In m.1 h.methods) (above_io f.0 j) f.2) [ ]
      ]

-- THE HEADS OF A UNIT

module _ (ds : List Decl) (plain : list_all has_plain_names ds ≡ true) (usual : list_all has_ordinary_methods ds ≡ true) where
  abbrev seen_heads : List Iface
  seen_heads = heads_of ds []

  own_part : (h : Iface) → In h (map head ds ++ []) → (d : Decl) × In d ds × (head d ≡ h)
  own_part h i = elim (in_append h (map head ds) [] i) [
    | inl a ↦ in_map_back head ds h a
    | inr b ↦ elim b [ ]
  ]

  by_place : (P : Iface → Type 0) → P object_head → P io_head → ((d : Decl) → In d ds → P (head d)) → (h : Iface) → In h seen_heads → P h
  by_place P o k each h i = elim (split_in object_head h (io_head ∷ (map head ds ++ [])) i) [
    | inl q ↦ subst P q o
    | inr j ↦ elim (split_in io_head h (map head ds ++ []) j) [
      | inl q ↦ subst P q k
      | inr l ↦ let g = own_part h l in subst P g.2 (each g.0 g.1)
    ]
  ]

  ordinary_heads : AreOrdinary seen_heads
  ordinary_heads = record {
    named = by_place (λ (h : Iface). list_all (λ (m : IfaceMethod). not (same m.name (codes "<init>"))) h.methods ≡ true) refl refl (λ d i. all_in has_ordinary_methods ds usual i);
    distinct = by_place (λ (h : Iface). is_distinct h.name ≡ true) refl refl (λ d i. (of_both (is_distinct d.name) _ (all_in has_plain_names ds plain i)).0);
    static = io_static (map head ds ++ []);
  }

-- MEMBERS

from_equation : {A : Type 0} (P : A → Type 0) (o : Option A) → ((x : A) → o ≡ Some x → P x) → OnMade P o
from_equation P None h = tt
from_equation P (Some x) h = h x refl

module _ (own : Iface) (above : or_so is_distinct own.superclass ≡ true) (seat : Seat) (m : Member) (g : AreOrdinary seat.heads) where
  abbrev scope : Scope
  scope = body_scope seat (opened m)

  start_usual : (q : TypedPart) → start_is_ordinary own q ≡ true
  start_usual (typed.Field at) = refl
  start_usual (typed.Method at) = refl
  start_usual (typed.Constructor at) = above

  all_operands : (xs : List Expr) → AllUsual (seen_all (map (operand scope) (map waiting xs)))
  all_operands [] = tt
  all_operands (x ∷ xs) = (part_usual scope g x role.Operand, all_operands xs)

  parts_usual : (o : Option (List Expr)) → AllUsual (option_map_or seen_all (option_map (map (operand scope)) (option_map (map waiting) o)) [])
  parts_usual None = tt
  parts_usual (Some xs) = all_operands xs

  member_usual : OnMade (λ (t : TypedMember). member_calls_ordinary own t ≡ true) (made_member seat (opened m))
  member_usual =
      let P : TypedMember → Type 0 = λ t. member_calls_ordinary own t ≡ true in
      let parts = option_map_or seen_all (super_parts seat (opened m)) [] in
      any_then _ P (made_guard (guard_of seat (opened m))) (λ guard.
      so_then _ P (λ (ts : List TypedExpr). list_all calls_ordinary ts ≡ true) (arguments (Some []) parts) (from_equation (λ (ts : List TypedExpr). list_all calls_ordinary ts ≡ true) (arguments (Some []) parts) (λ ts e. arguments_usual parts [] ts (parts_usual (super_part m.part)) refl e)) (λ args ha.
      so_map (λ block. member_from seat (opened m) guard args block) P AllOrdinary (made_along (Some []) (map flow (block_part m.part)) scope) (block_usual (block_part m.part) scope g) (λ block hb.
      and_so (start_is_ordinary own (place_in seat.earlier m)) (list_all calls_ordinary args && list_all stmt_calls_ordinary block) (start_usual (place_in seat.earlier m)) (and_so (list_all calls_ordinary args) (list_all stmt_calls_ordinary block) ha hb))))

-- CLASSES

class_in : (heads : List Iface) {ds : List Decl} {cs : List TypedClass} → Made heads ds cs → (c : TypedClass) → In c cs → (d : Decl) × In d ds × (made_class heads (open_decl d) ≡ Some c)
class_in heads none c i = elim i [ ]
class_in heads (one {d} {ds} {c = x} {cs} f m) c i = by_place' (split_in x c cs i) (class_in heads m c) where
  by_place' : (x ≡ c) ⊎ In c cs → (In c cs → (e : Decl) × In e ds × (made_class heads (open_decl e) ≡ Some c)) → (e : Decl) × In e (d ∷ ds) × (made_class heads (open_decl e) ≡ Some c)
  by_place' (inl q) later = (d, here, f ∙ ap (λ (z : TypedClass). Some z) q)
  by_place' (inr j) later = let k = later j in (k.0, there k.1, k.2)

on_some : {A : Type 0} (P : A → Type 0) (o : Option A) (x : A) → o ≡ Some x → OnMade P o → P x
on_some P o x e h = subst (OnMade P) e h

module _ (heads : List Iface) (g : AreOrdinary heads) (d : Decl) where
  -- what a class extends is known, and so isn't called as Object is in code
  above_distinct : option_map_or (λ name. not (option_map_or is_open (head_of heads name) false)) d.superclass false ≡ false → or_so is_distinct (superclass_of d) ≡ true
  above_distinct rule = by_kind d.is_interface where
    by_head : (name : Word) (o : Option Iface) → head_of heads name ≡ o → not (option_map_or is_open o false) ≡ false → is_distinct name ≡ true
    by_head name None e r = absurd (false≢true (sym r))
    by_head name (Some h) e r = let i = head_in heads name h e in subst (λ (w : Word). is_distinct w ≡ true) i.1 (g.distinct h i.0)

    by_super : (s : Option Word) → option_map_or (λ name. not (option_map_or is_open (head_of heads name) false)) s false ≡ false → is_distinct (unwrap_or s object) ≡ true
    by_super None r = refl
    by_super (Some name) r = by_head name (head_of heads name) refl r

    by_kind : (b : Bool) → or_so is_distinct (cond b None (Some (unwrap_or d.superclass object))) ≡ true
    by_kind true = refl
    by_kind false = by_super d.superclass rule

module _ (heads : List Iface) (g : AreOrdinary heads) (d : Decl) (above : or_so is_distinct (superclass_of d) ≡ true) where
  abbrev own : Iface
  own = resolved_head heads (open_decl d)

  abbrev Fine : TypedMember → Type 0
  Fine t = member_calls_ordinary own t ≡ true

  seat_usual : (seat : Seat) (o : Opened) (m : Member) → opened m ≡ o → seat.heads ≡ heads → OnMade Fine (made_member seat o)
  seat_usual seat o m q e = subst (λ (o : Opened). OnMade Fine (made_member seat o)) q (member_usual own above seat m (subst AreOrdinary (sym e) g))

  all_usual : OnMade (λ (ts : List TypedMember). (t : TypedMember) → In t ts → Fine t) (made_members (Some []) (seats_of heads (open_decl d)))
  all_usual = members_told Fine (seats_of heads (open_decl d)) [] (λ x j.
      let at = seat_is heads d [] (map opened d.members) x j in
      let m = is_opened d.members x.1 at.2 in
      seat_usual x.0 x.1 m.0 m.2 at.0) (λ t i. elim i [ ])

  class_usual : (c : TypedClass) → made_class heads (open_decl d) ≡ Some c → (m : TypedMember) → In m c.members → member_calls_ordinary c.head m ≡ true
  class_usual c e m i =
      let hs = head_is heads d c e in
      let ms = hs.1 in
      let each = on_some (λ (ts : List TypedMember). (t : TypedMember) → In t ts → Fine t) (made_members (Some []) (seats_of heads (open_decl d))) ms.0 ms.1 all_usual in
      ap (λ (h : Iface). member_calls_ordinary h m) hs.0 ∙ default_told Fine d ms.0 each (and_so (or_so is_distinct (superclass_of d)) true above refl) m (subst (λ (ts : List TypedMember). In m ts) ms.2 i)

pub usual_calls : TypedCallsOrdinary
usual_calls unit tree typed plain usual c m ic im =
    let heads = heads_of unit.decls [] in
    let g = ordinary_heads unit.decls plain usual in
    let all = all_made heads unit.decls [] tree.classes (unit_classes heads (map open_decl unit.decls) tree typed.resolved) in
    let at = class_in heads all.2 c (subst (λ (cs : List TypedClass). In c cs) all.1 ic) in
    let keep = all_keep heads [] unit.decls (visits_from heads [] (map open_decl unit.decls)) typed.sound (λ v i. i) in
    let st = standing heads [] unit.decls keep at.0 at.1 in
    class_usual heads g at.0 (above_distinct heads g at.0 st.keeps.above) c at.2 m im

-- a program of the unit's classes
abbrev program_of : List TypedClass → Program
program_of classes = record { classes = classes; main = []; select = λ question. NoneIsTrue }

pub meant_members : TypedIsMeant
meant_members unit tree typed plain usual hier c m ic im =
    let p = program_of tree.classes in
    let fits = trees_fit unit tree p typed plain refl in
    let at = get_in ic in
    let members = (fits.each at.0 c at.1).members in
    meant p hier c.head m (all_in (member_fits p c.head) c.members members im) (usual_calls unit tree typed plain usual c m ic im)
