use Rattle.std.proofs.Common.{◌≡◌, ℕ, List, length, false, sym, ◌∙◌, ap, rules, tests}
use Rattle.std.proofs.lemmas.List.{length-map}
use Rattle.std.proofs.lemmas.Iterator.{YieldsList-from_slice}
use Rattle.std.proofs.lemmas.Iterator.Search.{any_from_yields_List}
use Rattle.std.specs.Prelude.{◌==◌}
use Rattle.std.specs.List.{list_any, filter_map}
use Rattle.std.specs.Option.{option_map_or}
use Rattle.jp_pred.specs.declared.ty.Ty.{Ty}
use Rattle.jp_ast.specs.declared.decl.Member.{Member}
use Rattle.jp_ast.specs.declared.decl.Param.{Param}
use Rattle.type_rules.specs.Heads.{as_constructor, param_types}
use Rattle.decl_rules.proofs.Anys.{any_filter}
use Rattle.decl_rules.proofs.members.repeats_count.Goals as goal

pub returns : goal.returns
returns c =
    let member = c.args.at.now.member.now in
    let before = c.args.at.now.before.now in
    let test = λ (n : ℕ). λ (ts : List Ty). length ts == n in
    let n = c.len-count.result in
    let some : c.any.result ≡ list_any (λ (m : Member). option_map_or (test n) (as_constructor m) false) before =
    any_from_yields_List (λ (m : Member). option_map_or (test n) (as_constructor m) false) _ _ c.any.result c.any.ensures.ran (YieldsList-from_slice _ c.iter.ensures.rest) (λ x b q k. search (rules, tests)) in
    let count : n ≡ length (param_types member) = c.len-count.ensures ∙ sym (length-map member.params (λ (q : Param). q.ty)) in
    some ∙ (sym (any_filter (test n) as_constructor before) ∙ ap (λ (j : ℕ). list_any (test j) (filter_map as_constructor before)) count)
