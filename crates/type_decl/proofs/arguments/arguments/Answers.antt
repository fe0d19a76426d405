use Rattle.std.proofs.Common.{◌≡◌, Some, [], length, sym, ◌∙◌, ap, arith}
use Rattle.std.proofs.lemmas.Iterator.Adapters.{YieldsList-from_vec}
use Rattle.std.proofs.lemmas.Iterator.Consumers.{YieldsList-end}
use Rattle.type_rules.specs.Expressions.{with_argument, arguments}
use Rattle.type_expr.proofs.Listing.{argument_more, map_itself}
use Rattle.type_decl.proofs.arguments.arguments.Goals as goal

pub loop-part-preserved : goal.loop-part-preserved
loop-part-preserved c = c.in_ok-done.ensures ∙ (ap (λ d. with_argument d c.in-Some.part) c.loop-part.invariant ∙ sym (argument_more (Some []) c.loop-part.yielded c.in-Some.part))

pub returns : goal.returns
returns c =
    let h = c.into_iter-part-iterator.ensures.into_iter_gives in
    let count : c.into_iter-part-iterator.result.rest.len ≡ length c.args.args.items = omega (arith, c.args.args.ok.0, h.1) in
    let all = YieldsList-end (YieldsList-from_vec c.args.args.items h.0 count) c.loop-part.yielded c.loop-part.part-iterator c.loop-part.yielded_by c.next.result c.next.new.self c.in-None.is c.next.ensures.steps in
    c.loop-part.invariant ∙ ap (arguments (Some [])) (sym (map_itself c.loop-part.yielded) ∙ all.0)
