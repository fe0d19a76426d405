-- The names of a unit without a fault are as its class files need them.
use Rattle.std.proofs.Common.{◌≡◌, ℕ, zero, suc, Bool, true, false, List, [], ◌∷◌, ◌++◌, map, Some, refl, sym, ap, ◌∙◌, subst}
use Rattle.std.specs.Prelude.{◌≢◌, not, slice_get, codes, ◌&&◌}
use Rattle.std.specs.List.{list_all}
use Rattle.std.proofs.lemmas.Bool.{false≢true}
use Rattle.jp_pred.specs.Names.{In, here, same}
use Rattle.jp_pred.proofs.Ascents.{same_refl}
use Rattle.jp_pred.proofs.Visits.{in_right}
use Rattle.iface_codec.specs.declared.iface.Iface.{Iface}
use Rattle.iface_codec.specs.declared.iface.IfaceMethod.{IfaceMethod}
use Rattle.jp_ast.specs.declared.decl.Decl.{Decl}
use Rattle.jp_store.specs.Classes.{object_name}
use Rattle.jp_meaning.specs.declared.unit.TypedClass.{TypedClass}
use Rattle.jp_meaning.specs.Run.{Program}
use Rattle.type_rules.specs.Heads.{as_method, head, heads_of}
use Rattle.type_rules.specs.Typing.{AreSound}
use Rattle.type_rules.specs.Units.{opened, open_decl, resolved_head, entry_of, visits_from}
use Rattle.gen_body.specs.Names.{are_nameable}
use Rattle.gen_laws.specs.Plain.{IsNamed}
use Rattle.calls_fit.specs.Fitting.{method_fits, ProgramFits}
use Rattle.calls_fit.proofs.Named.{none_is, some_is, first_true, first_of, in_get, all_in}
use Rattle.typed_fits.specs.Laws.{has_plain_names}
use Rattle.typed_fits.proofs.Rules.{AllKeep, all_keep}
use Rattle.typed_fits.proofs.UnitFits.{Made, none, one, all_made, head_is, made_of, not_so, unit_classes, in_filter_to, trees_fit}
use Rattle.unit_laws.specs.Laws.{has_ordinary_methods, IsProgramOf, UnitIsNamed}
use Rattle.unit_laws.proofs.Seats.{seen_as, stands}
use Rattle.unit_laws.proofs.Apart.{apart}

-- each class has a name of its own
own_names : (heads : List Iface) (before : List Decl) {ds : List Decl} {cs : List TypedClass} → Made heads ds cs → AllKeep heads before ds → (i j : ℕ) (c d : TypedClass) → slice_get cs i ≡ Some c → slice_get cs j ≡ Some d → c.head.name ≡ d.head.name → i ≡ j
own_names heads before none k i j c d e f n = none_is c e
own_names heads before (one g m) k zero zero c d e f n = refl
own_names heads before (one {d = first} {ds} {c = x} {cs} g m) k zero (suc j) c d e f n =
    let later = made_of heads (before ++ first ∷ []) m k.1 d (in_get cs j d f) in
    let name_is : first.name ≡ d.head.name = ap (λ (h : Iface). h.name) (sym (first_of (head_is heads first x g))) ∙ ap (λ (y : TypedClass). y.head.name) (some_is x c e) ∙ n in
    absurd (false≢true (sym (later.4 first (in_right before here)) ∙ ap (λ w. same w d.head.name) name_is ∙ same_refl d.head.name))
own_names heads before (one {d = first} {ds} {c = x} {cs} g m) k (suc i) zero c d e f n =
    let later = made_of heads (before ++ first ∷ []) m k.1 c (in_get cs i c e) in
    let name_is : first.name ≡ c.head.name = ap (λ (h : Iface). h.name) (sym (first_of (head_is heads first x g))) ∙ ap (λ (y : TypedClass). y.head.name) (some_is x d f) ∙ sym n in
    absurd (false≢true (sym (later.4 first (in_right before here)) ∙ ap (λ w. same w c.head.name) name_is ∙ same_refl c.head.name))
own_names heads before (one {d = first} g m) k (suc i) (suc j) c d e f n = ap suc (own_names heads (before ++ first ∷ []) m k.1 i j c d e f n)

module _ (p : Program) (ds : List Decl) (made : Made (heads_of ds []) ds p.classes) (keep : AllKeep (heads_of ds []) [] ds) (plain : list_all has_plain_names ds ≡ true) (ordinary : list_all has_ordinary_methods ds ≡ true) where
  not_object : (i : ℕ) (c : TypedClass) → slice_get p.classes i ≡ Some c → c.head.name ≢ object_name
  not_object i c e n =
      let g = made_of (heads_of ds []) [] made keep c (in_get p.classes i c e) in
      let name_is : g.0.name ≡ c.head.name = ap (λ (h : Iface). h.name) (sym (first_of (head_is (heads_of ds []) g.0 c g.2))) in
      let is_plain = first_true (not (same g.0.name object_name)) (list_all method_fits (head g.0).methods && list_all are_nameable (head g.0).constructors) (all_in has_plain_names ds plain g.1) in
      false≢true (sym (not_so (same g.0.name object_name) is_plain) ∙ ap (λ w. same w object_name) (name_is ∙ n) ∙ same_refl object_name)

  not_constructors : (i j : ℕ) (c : TypedClass) (m : IfaceMethod) → slice_get p.classes i ≡ Some c → slice_get c.head.methods j ≡ Some m → m.name ≢ codes "<init>"
  not_constructors i j c m e f n =
      let heads = heads_of ds [] in
      let g = made_of heads [] made keep c (in_get p.classes i c e) in
      let st = stands heads g.0 m (subst (λ (h : Iface). In m h.methods) (first_of (head_is heads g.0 c g.2)) (in_get c.head.methods j m f)) in
      let s = seen_as (entry_of st.seat (opened st.member)) st.member m st.own in
      let fits = all_in (λ (k : IfaceMethod). not (same k.name (codes "<init>"))) (head g.0).methods (all_in has_ordinary_methods ds ordinary g.1) (in_filter_to as_method s.seen st.inside s.is) in
      false≢true (sym (not_so (same s.seen.name (codes "<init>")) fits) ∙ ap (λ w. same w (codes "<init>")) (s.name ∙ n) ∙ same_refl (codes "<init>"))

pub unit_named : UnitIsNamed
unit_named unit tree p of plain ordinary =
    let heads = heads_of unit.decls [] in
    let m = all_made heads unit.decls [] tree.classes (unit_classes heads (map open_decl unit.decls) tree of.typed.resolved) in
    let made = subst (Made heads unit.decls) (sym (of.classes ∙ m.1)) m.2 in
    let keep = all_keep heads [] unit.decls (visits_from heads [] (map open_decl unit.decls)) of.typed.sound (λ v i. i) in
    record {
      distinct = own_names heads [] made keep;
      ordinary = not_object p unit.decls made keep plain ordinary;
      methods = not_constructors p unit.decls made keep plain ordinary;
      apart = apart p unit.decls made keep plain of.typed.sound (trees_fit unit tree p of.typed plain of.classes);
      main = of.main;
      main_there = of.main_there;
    }
