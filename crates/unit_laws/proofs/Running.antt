-- Class files that are compiled class by class from a unit that was read do what it means.
use Rattle.std.proofs.Common.{◌≡◌, Bool, true, List, [], ◌∷◌, ◌++◌, map, Some, refl, sym, ap, ◌∙◌, subst}
use Rattle.std.specs.Prelude.{not, ◌&&◌, slice_get}
use Rattle.std.specs.List.{list_all, filter_map}
use Rattle.jp_pred.specs.declared.guard.Guard.TheVariants as guard
use Rattle.jp_pred.specs.declared.path.Path.{Path}
use Rattle.jp_pred.specs.declared.ty.Ty.{Ty}
use Rattle.jp_pred.specs.Names.{In}
use Rattle.jp_pred.specs.Universe.{IsUniverse}
use Rattle.iface_codec.specs.declared.iface.Iface.{Iface}
use Rattle.iface_codec.specs.declared.iface.IfaceMethod.{IfaceMethod}
use Rattle.jp_ast.specs.declared.decl.Decl.{Decl}
use Rattle.jp_ast.specs.declared.decl.Member.{Member}
use Rattle.jp_ast.specs.declared.decl.MemberPart.{MemberPart}
use Rattle.jp_ast.specs.declared.decl.MemberPart.TheVariants as part
use Rattle.jp_ast.specs.declared.decl.SourceUnit.{SourceUnit}
use Rattle.jp_grammar.specs.Kinds.{Tokens}
use Rattle.jp_grammar.specs.Declarations.{Declaration, class_decl, interface_decl, MoreDeclarations, unit_end, unit_more, Whole, whole}
use Rattle.jp_meaning.specs.declared.unit.TypedClass.{TypedClass}
use Rattle.jp_meaning.specs.declared.unit.TypedUnit.{TypedUnit}
use Rattle.jp_meaning.specs.Choice.{IsChoice}
use Rattle.jp_meaning.specs.Classes.{hier_in, chain_of}
use Rattle.jp_meaning.specs.Run.{Program}
use Rattle.type_rules.specs.Heads.{as_method_with, method_part, heads_of}
use Rattle.type_rules.specs.Units.{open_decl, entry_of, opened, visits_from}
use Rattle.gen_laws.specs.Plain.{NearestIsSelected, HasNoGuards}
use Rattle.gen_laws.proofs.Nearest.{first_selected}
use Rattle.whole_program.specs.Right.{question_in}
use Rattle.gen_laws.proofs.Right.{keeps_the_meaning}
use Rattle.calls_fit.proofs.Named.{some_is, none_is, first_true, second_true, first_of, in_get}
use Rattle.typed_fits.proofs.SeenFits.{and_so}
use Rattle.typed_fits.proofs.ReadNames.{names_plain}
use Rattle.typed_fits.proofs.Rules.{all_keep}
use Rattle.typed_fits.proofs.UnitFits.{Made, all_made, unit_classes, head_is, made_of, trees_fit}
use Rattle.unit_laws.specs.Laws.{IsProgramOf, is_open_interface, SelectsInChains, ReadKeepsTheMeaning}
use Rattle.unit_laws.proofs.OrdinaryNames.{methods_ordinary}
use Rattle.unit_laws.proofs.Seats.{stands}
use Rattle.unit_laws.proofs.UnitNames.{unit_named}
use Rattle.unit_laws.proofs.UnitUniverse.{unit_universe}

-- INTERFACES THAT ARE READ

declaration_open : {xs zs : Tokens} (d : Decl) → Declaration xs d zs → is_open_interface d ≡ true
declaration_open d (class_decl a m h i s n j g) = refl
declaration_open d (interface_decl a h i n j g) = refl

more_open : (ds : List Decl) (d : Decl) → list_all is_open_interface ds ≡ true → is_open_interface d ≡ true → list_all is_open_interface (ds ++ d ∷ []) ≡ true
more_open [] d h k = and_so (is_open_interface d) true k refl
more_open (x ∷ ds) d h k = and_so (is_open_interface x) (list_all is_open_interface (ds ++ d ∷ [])) (first_true (is_open_interface x) (list_all is_open_interface ds) h) (more_open ds d (second_true (is_open_interface x) (list_all is_open_interface ds) h) k)

declarations_open : {ds es : List Decl} {xs : Tokens} → MoreDeclarations ds xs es → list_all is_open_interface ds ≡ true → list_all is_open_interface es ≡ true
declarations_open (unit_end h) k = k
declarations_open (unit_more {d = d} {ds = ds} g m) k = declarations_open m (more_open ds d k (declaration_open d g))

whole_open : {xs : Tokens} {u : SourceUnit} → Whole xs u → list_all is_open_interface u.decls ≡ true
whole_open (whole {d = d} g m) = declarations_open m (more_open [] d refl (declaration_open d g))

-- HEADS

-- heads have no guards
unguarded : (aliases : List (Path × Ty)) (m : Member) (k : IfaceMethod) → as_method_with aliases m ≡ Some k → k.guard ≡ guard.True
unguarded aliases m k e = by_part m.part e where
  by_part : (q : MemberPart) → method_part aliases m q ≡ Some k → k.guard ≡ guard.True
  by_part (part.Field t static) e = none_is k e
  by_part (part.Static result block) e = ap (λ (x : IfaceMethod). x.guard) (sym (some_is _ k e))
  by_part (part.Abstract result) e = ap (λ (x : IfaceMethod). x.guard) (sym (some_is _ k e))
  by_part (part.Body result when block) e = ap (λ (x : IfaceMethod). x.guard) (sym (some_is _ k e))
  by_part (part.Constructor args block) e = none_is k e

pub no_guards : (unit : SourceUnit) (tree : TypedUnit) (p : Program) → IsProgramOf unit tree p → HasNoGuards p
no_guards unit tree p of i j c m e f =
    let heads = heads_of unit.decls [] in
    let all = all_made heads unit.decls [] tree.classes (unit_classes heads (map open_decl unit.decls) tree of.typed.resolved) in
    let made = subst (Made heads unit.decls) (sym (of.classes ∙ all.1)) all.2 in
    let keep = all_keep heads [] unit.decls (visits_from heads [] (map open_decl unit.decls)) of.typed.sound (λ v i. i) in
    let g = made_of heads [] made keep c (in_get p.classes i c e) in
    let st = stands heads g.0 m (subst (λ (h : Iface). In m h.methods) (first_of (head_is heads g.0 c g.2)) (in_get c.head.methods j m f)) in
    unguarded (entry_of st.seat (opened st.member)) st.member m st.own

nearest : (p : Program) → IsUniverse (hier_in p.classes) → SelectsInChains p → HasNoGuards p → NearestIsSelected p
nearest p universe selects free m class shape i e =
    first_selected p universe free m class shape i (subst (IsChoice (hier_in p.classes) (question_in (chain_of p.classes m class) shape)) e (selects m class shape))

pub keeps : ReadKeepsTheMeaning
keeps text tokens unit tree p l r of without own selects files b compiled =
    let plain = names_plain text tokens unit l r in
    let universe = unit_universe unit tree p of plain (whole_open r.whole) own in
    keeps_the_meaning p files b (trees_fit unit tree p of.typed plain of.classes) (unit_named unit tree p of plain (methods_ordinary text tokens unit l r)) (nearest p universe selects (no_guards unit tree p of)) compiled
