use Rattle.std.proofs.Common.{◌≡◌, false, sym, ◌∙◌, rules, tests}
use Rattle.std.proofs.lemmas.Iterator.{YieldsList-from_slice}
use Rattle.std.proofs.lemmas.Iterator.Search.{any_from_yields_List}
use Rattle.std.specs.List.{list_any, filter_map}
use Rattle.std.specs.Option.{option_map_or}
use Rattle.jp_pred.specs.Names.{same}
use Rattle.iface_codec.specs.declared.iface.IfaceField.{IfaceField}
use Rattle.jp_ast.specs.declared.decl.Member.{Member}
use Rattle.type_rules.specs.Heads.{as_field}
use Rattle.decl_rules.proofs.Anys.{any_filter, any_found}
use Rattle.decl_rules.proofs.members.is_field_before.Goals as goal

pub returns : goal.returns
returns c =
    let name = c.args.at.now.member.now.name in
    let before = c.args.at.now.before.now in
    let has_name = λ (f : IfaceField). same f.name name in
    let some : c.any.result ≡ list_any (λ (m : Member). option_map_or has_name (as_field m) false) before =
    any_from_yields_List (λ (m : Member). option_map_or has_name (as_field m) false) _ _ c.any.result c.any.ensures.ran (YieldsList-from_slice _ c.iter.ensures.rest) (λ x b q k. search (rules, tests)) in
    some ∙ (sym (any_filter has_name as_field before) ∙ sym (any_found has_name (filter_map as_field before)))
