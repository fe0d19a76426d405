use Rattle.std.proofs.Common.{◌≡◌, List, sym, ◌∙◌, ap, rules, tests}
use Rattle.std.proofs.lemmas.Iterator.{YieldsList-from_slice}
use Rattle.std.proofs.lemmas.Iterator.Search.{any_from_yields_List}
use Rattle.std.specs.Borrow.{Bor}
use Rattle.std.specs.List.{list_any}
use Rattle.iface_codec.specs.declared.iface.Iface.{Iface}
use Rattle.type_rules.specs.RulesOfDeclarations.{has_field}
use Rattle.type_heads.specs.Supertypes.{classes_at}
use Rattle.decl_rules.proofs.Anys.{any_map}
use Rattle.decl_rules.proofs.members.is_field_above.Goals as goal

pub returns : goal.returns
returns c =
    let name = c.args.at.now.member.now.name in
    let classes = c.as_slice.result.now in
    let has_one = λ (h : Iface). has_field name h.fields in
    let some : c.any.result ≡ list_any (λ (r : Bor Iface). has_one r.now) classes =
    any_from_yields_List (λ (r : Bor Iface). has_one r.now) _ _ c.any.result c.any.ensures.ran (YieldsList-from_slice _ c.iter.ensures.rest) (λ x b q k. search (rules, tests)) in
    some ∙ (sym (any_map has_one (λ (r : Bor Iface). r.now) classes) ∙ (ap (λ (rs : List (Bor Iface)). list_any has_one (classes_at rs)) c.as_slice.ensures.value ∙ ap (list_any has_one) c.requires.line_is))
