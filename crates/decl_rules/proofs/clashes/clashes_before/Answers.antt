use Rattle.std.proofs.Common.{◌≡◌, false, sym, ◌∙◌, rules, tests}
use Rattle.std.proofs.lemmas.Iterator.{YieldsList-from_slice}
use Rattle.std.proofs.lemmas.Iterator.Search.{any_from_yields_List}
use Rattle.std.specs.List.{list_any}
use Rattle.std.specs.Option.{option_map_or}
use Rattle.jp_ast.specs.declared.decl.Member.{Member}
use Rattle.type_rules.specs.Heads.{as_method}
use Rattle.decl_rules.specs.Clashes.{clash_of}
use Rattle.decl_rules.specs.Signatures.{as_told}
use Rattle.decl_rules.proofs.Anys.{any_filter}
use Rattle.decl_rules.proofs.clashes.clashes_before.Goals as goal

pub returns : goal.returns
returns c =
    let test = clash_of c.args.clash (as_told c.args.own.now) in
    let members = c.args.members.now in
    let some : c.any.result ≡ list_any (λ (m : Member). option_map_or test (as_method m) false) members =
    any_from_yields_List (λ (m : Member). option_map_or test (as_method m) false) _ _ c.any.result c.any.ensures.ran (YieldsList-from_slice _ c.iter.ensures.rest) (λ x b q k. search (rules, tests)) in
    some ∙ sym (any_filter test as_method members)
