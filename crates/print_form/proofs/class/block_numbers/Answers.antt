use Rattle.std.proofs.Common.{◌≡◌, ◌<◌, ℤ, List, [], ◌∷◌, ◌++◌, map, length, take, sym, ap, ◌∙◌, subst, arith, rules, to_z, of_z, w32, length-append}
use Rattle.std.proofs.lemmas.Int.{to_z-of_z}
use Rattle.std.proofs.lemmas.List.{take_more, length-map, map_push, length-take, take_all}
use Rattle.std.proofs.lemmas.Result.{err_from_is_err_and}
use Rattle.print_form.specs.Form.{IsPrint, PrintEach, value_of}
use Rattle.print_form.proofs.Blocks.{each_length, each_more, each_at}
use Rattle.print_form.proofs.class.block_numbers.Goals as goal

pub returns-then-len-eq-MOST : goal.returns-then-len-eq-MOST
returns-then-len-eq-MOST c = λ ls block.
    let read = c.loop-statement.invariant in
    let full : length read.0 ≡ 200 = omega (arith, c.if-len-eq-MOST.true, c.len.ensures, ap length read.2, length-map read.0 value_of, c.loop-statement.numbers.ok.0) in
    let i = c.loop-statement.statement-index in
    let bad : ⊥ = omega (arith, full, each_length read.0 _ read.1, length-take i c.args.block.now, c.loop-statement-test.true, block.few) in
    bad

pub returns-in_err-printed_by : goal.returns-in_err-printed_by
returns-in_err-printed_by c =
    let p = err_from_is_err_and c.from_residual.result c.from_residual.ensures.1 in
    rw (p.1, p.2) (λ ls block.
    let at = each_at ls c.args.block.now c.loop-statement.statement-index c.statement-item.result c.loop-statement-test.true block.prints in
    c.in_err-printed_by.ensures at.0 (subst (IsPrint at.0) (sym c.statement-item.is) at.1))

pub loop-statement-preserved : goal.loop-statement-preserved
loop-statement-preserved c =
    let read = c.loop-statement.invariant in
    let l = c.in_ok-printed_by.field-0 in
    let i = c.loop-statement.statement-index in
    let kept : to_z w32 (of_z w32 c.value.result) ≡ c.value.result = search (rules, to_z-of_z) in
    let few : length read.0 < 200 = omega (arith, c.if-len-eq-MOST.false, c.len.ensures, ap length read.2, length-map read.0 value_of, c.loop-statement.numbers.ok.0, read.3) in (
      read.0 ++ l ∷ [],
      subst (PrintEach (read.0 ++ l ∷ [])) (sym (take_more c.args.block.now i c.statement-item.result c.loop-statement-test.true))
          (each_more read.0 _ l _ read.1 (subst (IsPrint l) c.statement-item.is c.in_ok-printed_by.ensures)),
      c.in_ok-push.ensures.items ∙ ap (λ (z : ℤ). c.loop-statement.numbers.items ++ z ∷ []) kept ∙ ap (λ (xs : List ℤ). xs ++ c.value.result ∷ []) read.2 ∙ ap (λ (z : ℤ). map value_of read.0 ++ z ∷ []) c.value.ensures ∙ sym (map_push value_of read.0 l),
      omega (arith, few, length-append read.0 (l ∷ [])),
    )

pub returns : goal.returns
returns c =
    let read = c.loop-statement.invariant in
    let whole : take c.loop-statement.statement-index c.args.block.now ≡ c.args.block.now = take_all c.loop-statement.statement-index c.args.block.now c.loop-statement-test.false in
    let prints = subst (PrintEach read.0) whole read.1 in
    (read.0, record { prints = prints; few = omega (arith, each_length read.0 c.args.block.now prints, read.3) }, read.2)
