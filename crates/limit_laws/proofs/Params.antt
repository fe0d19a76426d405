-- The methods of a unit within the limits have few parameters.
use Rattle.std.proofs.Common.{◌≡◌, ◌≤◌, Bool, true, List, [], map, length, Some, sym, subst, arith}
use Rattle.std.specs.List.{list_all, filter_map}
use Rattle.std.proofs.lemmas.Bool.{lt-ltb}
use Rattle.std.proofs.lemmas.List.{append-nil, length-map}
use Rattle.jp_pred.specs.Names.{In}
use Rattle.jp_pred.proofs.Cycles.{in_map_back}
use Rattle.iface_codec.specs.declared.iface.Iface.{Iface}
use Rattle.iface_codec.specs.declared.iface.IfaceMethod.{IfaceMethod}
use Rattle.jp_ast.specs.declared.decl.Decl.{Decl}
use Rattle.jp_ast.specs.declared.decl.Member.{Member}
use Rattle.jp_ast.specs.declared.decl.MemberPart.{MemberPart}
use Rattle.jp_ast.specs.declared.decl.MemberPart.TheVariants as part
use Rattle.jp_ast.specs.declared.decl.Param.{Param}
use Rattle.type_rules.specs.Heads.{method_part, as_method, head, param_types}
use Rattle.calls_fit.proofs.Named.{some_is, none_is, in_filter}
use Rattle.typed_code.specs.Limits.{has_few_params}
use Rattle.limit_laws.specs.Laws.{WithinHasFewParams}
use Rattle.limit_laws.proofs.Counts.{member_within}
use Rattle.limit_laws.proofs.Fits.{all_from}

-- a method has the parameters that are written
same_params : (m : Member) (q : MemberPart) (k : IfaceMethod) → method_part [] m q ≡ Some k → length k.params ≡ length m.params
same_params m q k e = by_part q e where
  types : length (param_types m) ≡ length m.params
  types = length-map m.params (λ (p : Param). p.ty)

  as_written : (j : IfaceMethod) → Some j ≡ Some k → length j.params ≡ length m.params → length k.params ≡ length m.params
  as_written j e h = subst (λ (z : IfaceMethod). length z.params ≡ length m.params) (some_is j k e) h

  by_part : (q : MemberPart) → method_part [] m q ≡ Some k → length k.params ≡ length m.params
  by_part (part.Field t static) e = none_is k e
  by_part (part.Static result block) e = as_written _ e types
  by_part (part.Abstract result) e = as_written _ e types
  by_part (part.Body result guard block) e = as_written _ e types
  by_part (part.Constructor args block) e = none_is k e

few_methods : (d : Decl) → ((m : Member) → In m d.members → length m.params ≤ 8) → list_all has_few_params (head d).methods ≡ true
few_methods d few = all_from has_few_params (filter_map as_method d.members) (λ k i.
    let g = in_filter as_method d.members k i in
    let e = same_params g.0 g.0.part k g.2 in
    let h = few g.0 g.1 in
    lt-ltb (length k.params) 255 (omega arith))

abbrev are_few : Iface → Bool
are_few h = list_all has_few_params h.methods

pub few_params : WithinHasFewParams
few_params unit within =
    subst (λ (hs : List Iface). list_all are_few hs ≡ true) (sym (append-nil (map head unit.decls)))
    (all_from are_few (map head unit.decls) (λ h i.
    let g = in_map_back head unit.decls h i in
    subst (λ (x : Iface). are_few x ≡ true) g.2 (few_methods g.0 (λ m j. (member_within unit within g.0 m g.1 j).params))))
