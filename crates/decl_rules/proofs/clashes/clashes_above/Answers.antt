use Rattle.std.proofs.Common.{◌≡◌, sym, ◌∙◌, rules, tests}
use Rattle.std.proofs.lemmas.Iterator.{YieldsList-from_slice}
use Rattle.std.proofs.lemmas.Iterator.Search.{any_from_yields_List}
use Rattle.std.specs.Borrow.{Bor}
use Rattle.std.specs.List.{list_any}
use Rattle.iface_codec.specs.declared.iface.IfaceMethod.{IfaceMethod}
use Rattle.decl_rules.specs.Clashes.{clash_of}
use Rattle.decl_rules.specs.Signatures.{as_told}
use Rattle.decl_rules.proofs.Anys.{any_map}
use Rattle.decl_rules.proofs.clashes.clashes_above.Goals as goal

pub returns : goal.returns
returns c =
    let test = clash_of c.args.clash (as_told c.args.own.now) in
    let methods = c.args.methods.now in
    let some : c.any.result ≡ list_any (λ (r : Bor IfaceMethod). test r.now) methods =
    any_from_yields_List (λ (r : Bor IfaceMethod). test r.now) _ _ c.any.result c.any.ensures.ran (YieldsList-from_slice _ c.iter.ensures.rest) (λ x b q k. search (rules, tests)) in
    some ∙ sym (any_map test (λ (r : Bor IfaceMethod). r.now) methods)
