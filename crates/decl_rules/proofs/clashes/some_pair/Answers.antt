use Rattle.std.proofs.Common.{◌≡◌, ◌+◌, List, true, false, length, drop, ◌∙◌, ap, arith}
use Rattle.std.specs.Prelude.{◌||◌}
use Rattle.std.specs.Borrow.{Bor}
use Rattle.std.specs.List.{list_any}
use Rattle.iface_codec.specs.declared.iface.IfaceMethod.{IfaceMethod}
use Rattle.type_rules.specs.RulesOfDeclarations.{some_pair}
use Rattle.decl_rules.specs.Clashes.{clash_of}
use Rattle.decl_rules.specs.Standing.{methods_at}
use Rattle.decl_rules.proofs.Inherits.{one_method, no_method}
use Rattle.decl_rules.proofs.Places.{tail_is}
use Rattle.decl_rules.proofs.clashes.some_pair.Goals as goal

pub returns-then-told_clashes : goal.returns-then-told_clashes
returns-then-told_clashes c =
    let ms = c.args.methods.now in
    let i = c.loop-i.i in
    let m = c.index-methods-i.result in
    let one : true ≡ list_any (clash_of c.args.clash m.now) (methods_at (drop (i + 1) ms)) =
    c.if-told_clashes.ensures ∙ ap (λ (ns : List (Bor IfaceMethod)). list_any (clash_of c.args.clash m.now) (methods_at ns)) (tail_is ms (i + 1)) in
    ap (λ b. b || some_pair (clash_of c.args.clash) (methods_at (drop (i + 1) ms))) one ∙ (one_method c.args.clash ms i m c.loop-i-test.true c.index-methods-i.is ∙ c.loop-i.invariant)

pub loop-i-preserved : goal.loop-i-preserved
loop-i-preserved c =
    let ms = c.args.methods.now in
    let i = c.loop-i.i in
    let m = c.index-methods-i.result in
    let one : false ≡ list_any (clash_of c.args.clash m.now) (methods_at (drop (i + 1) ms)) =
    c.if-told_clashes.ensures ∙ ap (λ (ns : List (Bor IfaceMethod)). list_any (clash_of c.args.clash m.now) (methods_at ns)) (tail_is ms (i + 1)) in
    ap (λ b. b || some_pair (clash_of c.args.clash) (methods_at (drop (i + 1) ms))) one ∙ (one_method c.args.clash ms i m c.loop-i-test.true c.index-methods-i.is ∙ c.loop-i.invariant)

pub returns : goal.returns
returns c =
    let last : c.loop-i.i ≡ length c.args.methods.now = omega arith in
    no_method c.args.clash c.args.methods.now c.loop-i.i last ∙ c.loop-i.invariant
