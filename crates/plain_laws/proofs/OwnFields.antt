-- The fields of a unit that needs to see no class of another are of its own types.
use Rattle.std.proofs.Common.{◌≡◌, Bool, true, false, cond, List, [], ◌∷◌, ◌++◌, map, Some, refl, sym, ap, ◌∙◌, subst, inl, inr}
use Rattle.std.specs.Prelude.{◌||◌, is_some, slice_get, if◌then◌else◌}
use Rattle.std.specs.List.{list_all, list_any, filter_map, flat_map}
use Rattle.std.specs.Option.{option_to_list}
use Rattle.std.proofs.lemmas.Bool.{false≢true}
use Rattle.jp_pred.specs.declared.ty.Ty.{Ty}
use Rattle.jp_pred.specs.declared.ty.Ty.TheVariants as ty
use Rattle.jp_pred.specs.Names.{Word, In, here, there, same, object}
use Rattle.jp_pred.proofs.Ascents.{same_true, same_refl}
use Rattle.jp_pred.proofs.Entries.{split_in}
use Rattle.jp_pred.proofs.Lists.{or_cases, or_left, or_right}
use Rattle.jp_pred.proofs.Visits.{in_right}
use Rattle.iface_codec.specs.declared.iface.IfaceField.{IfaceField}
use Rattle.jp_ast.specs.declared.decl.Decl.{Decl}
use Rattle.jp_ast.specs.declared.decl.Member.{Member}
use Rattle.jp_ast.specs.declared.decl.MemberPart.{MemberPart}
use Rattle.jp_ast.specs.declared.decl.MemberPart.TheVariants as part
use Rattle.jp_ast.specs.declared.decl.SourceUnit.{SourceUnit}
use Rattle.type_rules.specs.Types.{io, string, is_among, is_reserved, is_refused}
use Rattle.type_rules.specs.Heads.{as_field, field_part, head, head_of, heads_of}
use Rattle.type_rules.specs.Lookups.{unmet}
use Rattle.type_rules.specs.ClassNames.{Mention, InType, in_type, in_body, in_member, in_decl, as_type, known_names}
use Rattle.type_rules.specs.RulesOfDeclarations.{own_types, rule_2}
use Rattle.type_rules.specs.Units.{opened}
use Rattle.type_rules.proofs.Soundness.{or_false_left, or_false_right}
use Rattle.calls_fit.proofs.Named.{some_is, none_is, in_filter}
use Rattle.typed_fits.proofs.SeenFits.{and_so}
use Rattle.typed_fits.proofs.UnitFits.{in_filter_to}
use Rattle.unit_laws.specs.Laws.{is_own_type, has_own_fields}
use Rattle.unit_laws.proofs.Seats.{in_flat_to, member_keeps}
use Rattle.plain_laws.specs.Laws.{TypedFieldsAreOwn}
use Rattle.plain_laws.proofs.Resolved.{seat_for}

all_from : {X : Type 0} (f : X → Bool) (xs : List X) → ((x : X) → In x xs → f x ≡ true) → list_all f xs ≡ true
all_from f [] h = refl
all_from f (x ∷ xs) h = and_so (f x) (list_all f xs) (h x here) (all_from f xs (λ y i. h y (there i)))

-- where no name is left, each was met
met_before : (met ns : List Word) → unmet met ns ≡ [] → (n : Word) → In n ns → is_among n met ≡ true
met_before met [] e n i = elim i [ ]
met_before met (m ∷ ns) e n i = by_met (is_among m met) refl e (λ e j. met_before met ns e n j) where
  by_met : (b : Bool) → is_among m met ≡ b → (if b then unmet met ns else m ∷ unmet (m ∷ met) ns) ≡ [] → (unmet met ns ≡ [] → In n ns → is_among n met ≡ true) → is_among n met ≡ true
  by_met true h e rec = elim (split_in m n ns i) [
    | inl q ↦ ap (λ (w : Word). is_among w met) (sym q) ∙ h
    | inr j ↦ rec e j
  ]
  by_met false h e rec = absurd (false≢true (ap (λ (ws : List Word). is_some (slice_get ws 0)) (sym e)))

-- a declaration's name is found among the heads
named_there : (ds : List Decl) (name : Word) → is_among name (map (λ d. d.name) ds) ≡ true → is_some (head_of (map head ds) name) ≡ true
named_there [] name e = absurd (false≢true e)
named_there (d ∷ ds) name e = by_first (same d.name name) e (named_there ds name) where
  by_first : (b : Bool) → (b || is_among name (map (λ d. d.name) ds)) ≡ true → (is_among name (map (λ d. d.name) ds) ≡ true → is_some (head_of (map head ds) name) ≡ true) → is_some (cond b (Some (head d)) (head_of (map head ds) name)) ≡ true
  by_first true e rec = refl
  by_first false e rec = rec e

not_that : (name other : Word) → same name other ≡ false → same other name ≡ true → ⊥
not_that name other f t = false≢true (sym f ∙ ap (λ (w : Word). same w other) (sym (same_true other name t)) ∙ same_refl other)

module _ (unit : SourceUnit) where
  -- a name that is known and stands in type positions
  name_own : (name : Word) → is_reserved name ≡ false → is_among name (known_names unit) ≡ true → (same name object || is_some (head_of (map head unit.decls) name)) ≡ true
  name_own name free known = elim (or_cases (same object name) (is_among name (io ∷ string ∷ map (λ d. d.name) unit.decls)) known) [
    | inl o ↦ or_left (same name object) (is_some (head_of (map head unit.decls) name)) (ap (λ (w : Word). same w object) (sym (same_true object name o)) ∙ same_refl object)
    | inr r ↦ elim (or_cases (same io name) (is_among name (string ∷ map (λ d. d.name) unit.decls)) r) [
      | inl t ↦ absurd (not_that name io (or_false_left (same name io) (same name string) free) t)
      | inr s ↦ elim (or_cases (same string name) (is_among name (map (λ d. d.name) unit.decls)) s) [
        | inl t ↦ absurd (not_that name string (or_false_right (same name io) (same name string) free) t)
        | inr k ↦ or_right (same name object) (is_some (head_of (map head unit.decls) name)) (named_there unit.decls name k)
      ]
    ]
  ]

  type_own : (t : Ty) → is_refused t ≡ false → ((name : Word) → In (InType name) (in_type t) → is_among name (known_names unit) ≡ true) → is_own_type unit.decls t ≡ true
  type_own ty.Void free known = refl
  type_own ty.Int free known = refl
  type_own ty.Boolean free known = refl
  type_own (ty.Class name) free known = name_own name free (known name here)
  type_own ty.IntArray free known = refl
  type_own ty.BooleanArray free known = refl
  type_own (ty.ClassArray name) free known = name_own name free (known name here)

-- a field's type is all that the field names
record IsFieldOf (m : Member) (f : IfaceField) : Type 0 where
  mentioned : (x : Mention) → In x (in_type f.ty) → In x (in_member m)
  own : list_any is_refused (own_types m.part) ≡ false → is_refused f.ty ≡ false

field_of : (m : Member) (f : IfaceField) → as_field m ≡ Some f → IsFieldOf m f
field_of m f e = by_part m.part refl e where
  by_part : (q : MemberPart) → m.part ≡ q → field_part m q ≡ Some f → IsFieldOf m f
  by_part (part.Field t static) p e =
      let g : IfaceField = record { name = m.name; ty = t; is_private = m.is_private; is_static = static } in
      let ty_is : f.ty ≡ t = ap (λ (h : IfaceField). h.ty) (sym (some_is g f e)) in
      record {
        mentioned = λ x i. subst (λ (q : MemberPart). In x (in_body m (map (λ p. p.name) m.params) q)) (sym p) (subst (λ (t : Ty). In x (in_type t)) ty_is i);
        own = λ k. ap is_refused ty_is ∙ or_false_left (is_refused t) false (sym (ap (λ (q : MemberPart). list_any is_refused (own_types q)) p) ∙ k);
      }
  by_part (part.Static result block) p e = none_is f e
  by_part (part.Abstract result) p e = none_is f e
  by_part (part.Body result when block) p e = none_is f e
  by_part (part.Constructor args block) p e = none_is f e

pub fields_own : TypedFieldsAreOwn
fields_own unit tree typed seen = all_from (has_own_fields unit.decls) unit.decls (λ d i. all_from (λ (f : IfaceField). is_own_type unit.decls f.ty) (head d).fields (λ f j. own d i f j)) where
  own : (d : Decl) → In d unit.decls → (f : IfaceField) → In f (head d).fields → is_own_type unit.decls f.ty ≡ true
  own d i f j =
      let heads = heads_of unit.decls [] in
      let m = in_filter as_field d.members f j in
      let g = field_of m.0 f m.2 in
      let s = seat_for heads d [] d.members m.0 m.1 in
      let kept = member_keeps heads unit.decls typed.sound (2, rule_2) (there here) d i (s.0, opened m.0) s.1 in
      type_own unit f.ty (g.own kept) (λ name k.
      met_before (known_names unit) (filter_map as_type (flat_map in_decl unit.decls)) seen name
      (in_filter_to as_type name (in_flat_to in_decl (InType name) i (in_right (map InType (option_to_list d.superclass ++ d.interfaces)) (in_flat_to in_member (InType name) m.1 (g.mentioned (InType name) k)))) refl))
