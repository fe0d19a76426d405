use Rattle.std.proofs.Common.{ℕ, ◌+◌, ◌<◌, ◌^◌, List, [], ◌∷◌, refl, sym, ap, ◌∙◌, rules, arith}
use Rattle.std.specs.Prelude.{max, codes}
use Rattle.jvm_table.specs.declared.instr.Instr.TheVariants.{Load, LoadElement, Dup}
use Rattle.jp_store.specs.declared.value.ElementKind.{ElementKind}
use Rattle.jp_store.specs.declared.value.Kind.TheVariants.{Reference}
use Rattle.code_asm.specs.Items.{Plain}
use Rattle.gen_parts.specs.Emits.{value_part, all_part, test_part}
use Rattle.gen_expr.proofs.Arms.{always, named, same_put, part_ends, between_ends}
use Rattle.gen_expr.proofs.Cores.{core_number, core_truth, core_null, core_this, core_static, core_show, core_read}
use Rattle.gen_expr.proofs.Forms.{put_slot, put_cast, put_instance, put_field, put_length, put_print, put_array, put_static_call, put_super, put_new, put_index, put_virtual, put_choice, put_signed, put_operates, put_by_test, put_no_operator}
use Rattle.gen_expr.proofs.Layers.{unjudged}
use Rattle.gen_expr.proofs.Rows.{none_put, more_put, all_put}
use Rattle.gen_expr.proofs.Unaries.{put_no_sign, put_plus, put_minus, put_complement, put_not}
use Rattle.gen_expr.proofs.Wholes.{given_value, jumped, judged_put, judged_by, unjudged_by, judge_not, judge_alone, judge_both, judge_and, judge_or}
use Rattle.gen_expr.proofs.expr.+expr.Goals as goal

pub put_value-returns : goal.put_value-returns
put_value-returns t c = given_value c.code_has_its_shape.ensures c.args.e.now c.args.code.now _ _ _ c.is_void.result c.is_void.ensures c.in_ok-need.ensures c.in_ok-give_value.ensures

pub put_core-returns-in-Number : goal.put_core-returns-in-Number
put_core-returns-in-Number t c = same_put c.args.code.now _ c.put_number.result _ _ (core_number c.args.e.now c.args.code.now.labels _ _ c.in-Number.is) c.put_number.ensures

pub put_core-returns-in-Truth : goal.put_core-returns-in-Truth
put_core-returns-in-Truth t c = same_put c.args.code.now _ c.put_truth.result _ _ (core_truth c.args.e.now c.args.code.now.labels _ c.in-Truth.is) c.put_truth.ensures

pub put_core-returns-in-Null : goal.put_core-returns-in-Null
put_core-returns-in-Null t c = same_put c.args.code.now _ c.put_plain.result _ _ (core_null c.args.e.now c.args.code.now.labels c.in-Null.is) c.put_plain.ensures

pub put_core-returns-in-This : goal.put_core-returns-in-This
put_core-returns-in-This t c = same_put c.args.code.now _ c.put_plain-in-This.result _ _ (core_this c.args.e.now c.args.code.now.labels c.in-This.is) c.put_plain-in-This.ensures

pub put_core-returns-in-Local : goal.put_core-returns-in-Local
put_core-returns-in-Local t c = put_slot c.args.e.now c.args.code.now _ c.put_local.result _ _ c.in-Local.is c.kind_of_type.ensures c.put_local.ensures

pub put_core-returns-in-Unary : goal.put_core-returns-in-Unary
put_core-returns-in-Unary t c = put_signed c.args.e.now c.args.code.now _ c.put_unary.result _ _ _ _ c.in-Unary.is c.prefix_of.ensures c.get.ensures c.put_unary.ensures

pub put_core-returns-in-None : goal.put_core-returns-in-None
put_core-returns-in-None t c = put_no_operator c.args.e.now c.args.code.now _ _ _ _ c.in-Binary.is c.infix_of.ensures c.in-None.is

pub put_core-returns-in_ok-first-in-Some-Operates : goal.put_core-returns-in_ok-first-in-Some-Operates
put_core-returns-in_ok-first-in-Some-Operates t c =
    put_operates c.args.e.now c.args.code.now _ c.put_second.result _ _ _ _ _ _ _ _ _ c.in-Binary.is c.infix_of.ensures (named c.in-Some-Operates.is c.in-Some-Operates.field-0-is) c.get-in-Some-Operates.ensures c.get-in-Some-Operates-2.ensures c.in_ok-first-in-Some-Operates.ensures c.put_second.ensures

pub put_core-returns-in-Some-Compares : goal.put_core-returns-in-Some-Compares
put_core-returns-in-Some-Compares t c = put_by_test c.args.e.now c.args.code.now _ c.put_judged.result _ _ _ c.in-Binary.is c.put_judged.ensures

pub put_core-returns-in-Some-AndThen : goal.put_core-returns-in-Some-AndThen
put_core-returns-in-Some-AndThen t c = put_by_test c.args.e.now c.args.code.now _ c.put_judged-in-Some-AndThen.result _ _ _ c.in-Binary.is c.put_judged-in-Some-AndThen.ensures

pub put_core-returns-in-Some-OrElse : goal.put_core-returns-in-Some-OrElse
put_core-returns-in-Some-OrElse t c = put_by_test c.args.e.now c.args.code.now _ c.put_judged-in-Some-OrElse.result _ _ _ c.in-Binary.is c.put_judged-in-Some-OrElse.ensures

pub put_core-returns-in_ok-first-in-Cond : goal.put_core-returns-in_ok-first-in-Cond
put_core-returns-in_ok-first-in-Cond t c =
    put_choice c.args.e.now c.args.code.now _ c.put_otherwise.result _ _ _ _ _ _ _ _ _ _ _ _ c.in-Cond.is c.get-in-Cond.ensures c.get-in-Cond-2.ensures c.get-in-Cond-3.ensures c.in_ok-label-in-Cond.ensures.first c.in_ok-label-in-Cond.ensures.more c.in_ok-label-in-Cond.ensures.lines
    c.in_ok-tested-in-Cond.ensures c.in_ok-first-in-Cond.ensures c.put_otherwise.ensures

pub put_core-returns-in-Cast : goal.put_core-returns-in-Cast
put_core-returns-in-Cast t c = put_cast c.args.e.now c.args.code.now _ c.put_class.result _ _ _ c.in-Cast.is c.get-in-Cast.ensures c.put_class.ensures

pub put_core-returns-in-InstanceOf : goal.put_core-returns-in-InstanceOf
put_core-returns-in-InstanceOf t c = put_instance c.args.e.now c.args.code.now _ c.put_class-in-InstanceOf.result _ _ _ c.in-InstanceOf.is c.get-in-InstanceOf.ensures c.put_class-in-InstanceOf.ensures

pub put_core-returns-in-Field : goal.put_core-returns-in-Field
put_core-returns-in-Field t c = put_field c.args.e.now c.args.code.now _ c.put_field.result _ _ _ _ c.in-Field.is c.get-in-Field.ensures c.put_field.ensures

pub put_core-returns-in-Static : goal.put_core-returns-in-Static
put_core-returns-in-Static t c = same_put c.args.code.now _ c.put_static.result _ _ (core_static c.args.e.now c.args.code.now.labels _ _ c.in-Static.is) c.put_static.ensures

pub put_core-returns-in-Length : goal.put_core-returns-in-Length
put_core-returns-in-Length t c = put_length c.args.e.now c.args.code.now _ c.put_with.result _ _ c.in-Length.is c.get-in-Length.ensures c.put_with.ensures

pub put_core-returns-in_ok-first-in-Index : goal.put_core-returns-in_ok-first-in-Index
put_core-returns-in_ok-first-in-Index t c =
    put_index c.args.e.now c.args.code.now _ c.put_second-in-Index.result _ _ _ _ _ _ _ c.in-Index.is c.get-in-Index.ensures c.get-in-Index-2.ensures (ap (λ (k : ElementKind). LoadElement k) c.element_kind_of.ensures) c.in_ok-first-in-Index.ensures c.put_second-in-Index.ensures

pub put_core-returns-in_ok-first-in-CallVirtual : goal.put_core-returns-in_ok-first-in-CallVirtual
put_core-returns-in_ok-first-in-CallVirtual t c =
    put_virtual c.args.e.now c.args.code.now _ c.put_virtual.result _ _ _ _ _ _ _ _ _ _ _ c.in-CallVirtual.is c.get-in-CallVirtual.ensures c.as_slice.ensures c.as_slice-in-CallVirtual.ensures c.in_ok-first-in-CallVirtual.ensures c.put_virtual.ensures

pub put_core-returns-in-CallStatic : goal.put_core-returns-in-CallStatic
put_core-returns-in-CallStatic t c =
    put_static_call c.args.e.now c.args.code.now _ c.put_static_call.result _ _ _ _ _ _ c.in-CallStatic.is c.as_slice-in-CallStatic.ensures c.as_slice-in-CallStatic-2.ensures c.put_static_call.ensures

pub put_core-returns-in-CallSuper : goal.put_core-returns-in-CallSuper
put_core-returns-in-CallSuper t c =
    put_super c.args.e.now c.args.code.now _ c.put_super.result _ _ _ _ _ _ c.in-CallSuper.is c.as_slice-in-CallSuper.ensures c.as_slice-in-CallSuper-2.ensures c.put_super.ensures

pub put_core-returns-in-New : goal.put_core-returns-in-New
put_core-returns-in-New t c = put_new c.args.e.now c.args.code.now _ c.put_new.result _ _ _ _ _ c.in-New.is c.as_slice-in-New.ensures c.as_slice-in-New-2.ensures c.put_new.ensures

pub put_core-returns-in-NewArray : goal.put_core-returns-in-NewArray
put_core-returns-in-NewArray t c = put_array c.args.e.now c.args.code.now _ c.put_array.result _ _ _ c.in-NewArray.is c.get-in-NewArray.ensures c.put_array.ensures

pub put_core-returns-in-Print : goal.put_core-returns-in-Print
put_core-returns-in-Print t c = put_print c.args.e.now c.args.code.now _ c.put_print.result _ _ c.in-Print.is c.get-in-Print.ensures c.put_print.ensures

pub put_core-returns-in-Show : goal.put_core-returns-in-Show
put_core-returns-in-Show t c = same_put c.args.code.now _ c.put_show.result _ _ (core_show c.args.e.now c.args.code.now.labels _ c.in-Show.is) c.put_show.ensures

pub put_core-returns-in-Read : goal.put_core-returns-in-Read
put_core-returns-in-Read t c = same_put c.args.code.now _ c.put_read.result _ _ (core_read c.args.e.now c.args.code.now.labels c.in-Read.is) c.put_read.ensures

pub put_with-returns : goal.put_with-returns
put_with-returns t c = part_ends c.args.code.now _ _ _ (value_part c.args.value.now c.args.code.now.labels) _ (λ (n : ℕ). n) c.end_plain.result c.in_ok-need.ensures c.end_plain.ensures

pub put_class-returns : goal.put_class-returns
put_class-returns t c = part_ends c.args.code.now _ _ _ (value_part c.args.value.now c.args.code.now.labels) _ (λ (n : ℕ). n) c.end_class.result c.in_ok-need.ensures c.end_class.ensures

pub put_field-returns : goal.put_field-returns
put_field-returns t c = part_ends c.args.code.now _ _ _ (value_part c.args.object.now c.args.code.now.labels) _ (λ (n : ℕ). n) c.end_field.result c.in_ok-need.ensures c.end_field.ensures

pub put_array-returns : goal.put_array-returns
put_array-returns t c = part_ends c.args.code.now _ _ _ (value_part c.args.size.now c.args.code.now.labels) _ (λ (n : ℕ). n) c.end_array.result c.in_ok-need.ensures c.end_array.ensures

pub put_print-returns : goal.put_print-returns
put_print-returns t c = part_ends c.args.code.now _ _ _ (value_part c.args.value.now c.args.code.now.labels) _ (λ (n : ℕ). max n 1) c.end_print.result c.in_ok-need.ensures c.end_print.ensures

pub put_second-returns : goal.put_second-returns
put_second-returns t c = part_ends c.args.code.now _ _ _ (value_part c.args.value.now c.args.code.now.labels) _ (λ (n : ℕ). max c.args.first (1 + n)) c.end_two.result c.in_ok-need.ensures c.end_two.ensures

pub put_otherwise-returns : goal.put_otherwise-returns
put_otherwise-returns t c =
    between_ends c.args.code.now _ _ _ _ _ (λ (n : ℕ). value_part c.args.value.now n) _ (λ (n : ℕ). max c.args.tested (max c.args.first n)) c.end_choice.result c.in_ok-put_between.ensures c.in_ok-second.ensures c.end_choice.ensures

pub put_virtual-returns : goal.put_virtual-returns
put_virtual-returns t c = part_ends c.args.code.now _ _ _ (all_part c.args.args.now c.args.code.now.labels) _ (λ (n : ℕ). max (max c.args.first (1 + n)) 1) c.end_virtual.result c.in_ok-rest.ensures c.end_virtual.ensures

pub put_static_call-returns : goal.put_static_call-returns
put_static_call-returns t c = part_ends c.args.code.now _ _ _ (all_part c.args.args.now c.args.code.now.labels) _ (λ (n : ℕ). max n 1) c.end_static_call.result c.in_ok-need.ensures c.end_static_call.ensures

pub put_super-returns : goal.put_super-returns
put_super-returns t c =
    between_ends c.args.code.now _ _ _ _ (Plain (Load Reference 0) ∷ []) (λ (n : ℕ). all_part c.args.args.now n) _ (λ (n : ℕ). max (1 + n) 1) c.end_super.result (record { lines = c.in_ok-plain.ensures.lines; labels = c.in_ok-plain.ensures.labels }) c.in_ok-rest.ensures c.end_super.ensures

pub put_new-returns : goal.put_new-returns
put_new-returns t c =
    between_ends c.args.code.now _ _ _ _ _ (λ (n : ℕ). all_part c.args.args.now n) _ (λ (n : ℕ). 2 + n) c.end_new.result c.in_ok-begin_new.ensures c.in_ok-given.ensures c.end_new.ensures

pub put_unary-returns-in-None : goal.put_unary-returns-in-None
put_unary-returns-in-None t c = put_no_sign c.args.sign c.args.right.now c.args.code.now c.in-None.is

pub put_unary-returns-in-Plus : goal.put_unary-returns-in-Plus
put_unary-returns-in-Plus t c = put_plus c.args.sign c.args.right.now c.args.code.now _ c.put_value.result (named c.in-Some.is c.in-Plus.is) c.put_value.ensures

pub put_unary-returns-in-Minus : goal.put_unary-returns-in-Minus
put_unary-returns-in-Minus t c = put_minus c.args.sign c.args.right.now c.args.code.now _ c.put_with.result (named c.in-Some.is c.in-Minus.is) c.put_with.ensures

pub put_unary-returns-in_ok-need-in-Complement : goal.put_unary-returns-in_ok-need-in-Complement
put_unary-returns-in_ok-need-in-Complement t c = put_complement c.args.sign c.args.right.now c.args.code.now _ c.end_complement.result _ _ (named c.in-Some.is c.in-Complement.is) c.in_ok-need-in-Complement.ensures c.end_complement.ensures

pub put_unary-returns-in_ok-need-in-Not : goal.put_unary-returns-in_ok-need-in-Not
put_unary-returns-in_ok-need-in-Not t c =
    put_not c.args.sign c.args.right.now c.args.code.now _ c.end_test.result _ _ _ _ (named c.in-Some.is c.in-Not.is) c.in_ok-no-in-Not.ensures.first c.in_ok-no-in-Not.ensures.more c.in_ok-no-in-Not.ensures.lines c.in_ok-need-in-Not.ensures c.end_test.ensures

pub put_judged-returns : goal.put_judged-returns
put_judged-returns t c = judged_put c.args.e.now c.args.code.now _ _ _ c.requires c.in_ok-need.ensures.test c.in_ok-choose_truth.ensures.lines c.in_ok-choose_truth.ensures.labels

pub judge-returns-in_ok-need-in-Unary-clause-test : goal.judge-returns-in_ok-need-in-Unary-clause-test
judge-returns-in_ok-need-in-Unary-clause-test t c =
    judge_not c.args.e.now c.args.code.now _ _ _ _ c.args.want c.args.to _ _ _ c.in-Unary.is c.requires c.get.ensures c.in_ok-new_labels-in-Unary.ensures.more c.in_ok-new_labels-in-Unary.ensures.lines c.in_ok-need-in-Unary.ensures c.greater.ensures

pub jump_one-returns : goal.jump_one-returns
jump_one-returns t c = part_ends c.args.code.now _ _ _ (value_part c.args.value.now c.args.code.now.labels) _ (λ (n : ℕ). max n 1) c.end_jump.result c.in_ok-need.ensures c.end_jump.ensures

pub jump_second-returns : goal.jump_second-returns
jump_second-returns t c = part_ends c.args.code.now _ _ _ (value_part c.args.value.now c.args.code.now.labels) _ (λ (n : ℕ). max (max c.args.first (1 + n)) 1) c.end_second_jump.result c.in_ok-need.ensures c.end_second_jump.ensures

pub put_all-loop-one-init : goal.put_all-loop-one-init
put_all-loop-one-init t c = (refl, none_put c.args.code.now c.args.args.now)

pub put_all-loop-one-preserved : goal.put_all-loop-one-preserved
put_all-loop-one-preserved t c =
    (c.in_ok-below.ensures ∙ ap (λ (k : ℕ). k + 1) c.loop-one.invariant.0, more_put c.args.code.now c.loop-one.code _ c.args.args.now c.loop-one.one-index c.loop-one.below c.one-item.result c.loop-one.need _ _ c.loop-one-test.true c.one-item.is c.loop-one.invariant.0 c.loop-one.invariant.1 c.in_ok-more.ensures c.in_ok-need.ensures)

pub put_all-returns : goal.put_all-returns
put_all-returns t c = all_put c.args.code.now c.loop-one.code c.args.args.now c.loop-one.one-index c.loop-one.need c.loop-one-test.false c.loop-one.invariant.1

pub put_test-returns-in_ok-branch : goal.put_test-returns-in_ok-branch
put_test-returns-in_ok-branch t c =
    jumped c.args.e.now c.args.code.now _ _ _ c.args.want c.args.to _ (sym c.is_condition.ensures ∙ c.if-is_condition.false) c.jump_where.ensures c.in_ok-need.ensures c.in_ok-branch.ensures.lines c.in_ok-branch.ensures.labels

pub put_core-put_judged-requires : goal.put_core-put_judged-requires
put_core-put_judged-requires t c = (search rules, judged_by c.args.e.now _ _ _ _ _ c.in-Binary.is c.infix_of.ensures (named c.in-Some-Compares.is c.in-Some-Compares.field-0-is) refl)

pub put_core-put_judged-requires-in-Some-AndThen : goal.put_core-put_judged-requires-in-Some-AndThen
put_core-put_judged-requires-in-Some-AndThen t c = (search rules, judged_by c.args.e.now _ _ _ _ _ c.in-Binary.is c.infix_of.ensures (named c.in-Some-AndThen.is c.in-Some-AndThen.field-0-is) refl)

pub put_core-put_judged-requires-in-Some-OrElse : goal.put_core-put_judged-requires-in-Some-OrElse
put_core-put_judged-requires-in-Some-OrElse t c = (search rules, judged_by c.args.e.now _ _ _ _ _ c.in-Binary.is c.infix_of.ensures (named c.in-Some-OrElse.is c.in-Some-OrElse.field-0-is) refl)

pub judge-returns-then-is_alone-clause-test : goal.judge-returns-then-is_alone-clause-test
judge-returns-then-is_alone-clause-test t c =
    judge_alone c.args.e.now c.args.code.now _ _ c.jump_one.result c.args.want c.args.to _ _ _ _ _ _ c.in-Binary.is c.infix_of.ensures c.get-left.ensures c.get-right.ensures c.in_ok-new_labels-in-Some-Compares.ensures.lines c.in_ok-new_labels-in-Some-Compares.ensures.more _ (named c.in-Some-Compares.is c.in-Some-Compares.field-0-is)
    c.has_reference-references.result c.literal_of.result _ c.has_reference-references.ensures c.literal_of.ensures (sym c.is_alone.ensures ∙ c.if-is_alone.true) c.jump_alone.ensures c.jump_one.ensures

pub judge-returns-in_ok-first-in-Some-Compares-clause-test : goal.judge-returns-in_ok-first-in-Some-Compares-clause-test
judge-returns-in_ok-first-in-Some-Compares-clause-test t c =
    judge_both c.args.e.now c.args.code.now _ _ c.jump_second.result c.args.want c.args.to _ _ _ _ _ _ c.in-Binary.is c.infix_of.ensures c.get-left.ensures c.get-right.ensures c.in_ok-new_labels-in-Some-Compares.ensures.lines c.in_ok-new_labels-in-Some-Compares.ensures.more _ (named c.in-Some-Compares.is c.in-Some-Compares.field-0-is)
    c.has_reference-references.result c.literal_of.result _ c.has_reference-references.ensures c.literal_of.ensures _ _ (sym c.is_alone.ensures ∙ c.if-is_alone.false) c.jump_by.ensures c.in_ok-first-in-Some-Compares.ensures c.jump_second.ensures

pub judge-returns-in_ok-first-in-Some-AndThen-clause-test : goal.judge-returns-in_ok-first-in-Some-AndThen-clause-test
judge-returns-in_ok-first-in-Some-AndThen-clause-test t c =
    judge_and c.args.e.now c.args.code.now _ _ _ c.put_other.result c.args.want c.args.to _ _ _ _ _ _ _ _ _ c.in-Binary.is c.infix_of.ensures c.get-left.ensures c.get-right.ensures c.in_ok-skip-in-Some-AndThen.ensures.first c.in_ok-skip-in-Some-AndThen.ensures.more
    c.in_ok-skip-in-Some-AndThen.ensures.lines (named c.in-Some-AndThen.is c.in-Some-AndThen.field-0-is) c.first_goes.ensures c.in_ok-first-in-Some-AndThen.ensures c.put_other.ensures

pub judge-returns-in_ok-first-in-Some-OrElse-clause-test : goal.judge-returns-in_ok-first-in-Some-OrElse-clause-test
judge-returns-in_ok-first-in-Some-OrElse-clause-test t c =
    judge_or c.args.e.now c.args.code.now _ _ _ c.put_other-in-Some-OrElse.result c.args.want c.args.to _ _ _ _ _ _ _ _ _ c.in-Binary.is c.infix_of.ensures c.get-left.ensures c.get-right.ensures c.in_ok-skip-in-Some-OrElse.ensures.first c.in_ok-skip-in-Some-OrElse.ensures.more
    c.in_ok-skip-in-Some-OrElse.ensures.lines (named c.in-Some-OrElse.is c.in-Some-OrElse.field-0-is) c.first_goes-in-Some-OrElse.ensures c.in_ok-first-in-Some-OrElse.ensures c.put_other-in-Some-OrElse.ensures

pub judge-returns-in-Some-Operates : goal.judge-returns-in-Some-Operates
judge-returns-in-Some-Operates t c = absurd (unjudged_by c.args.e.now _ _ _ _ _ c.requires c.in-Binary.is c.infix_of.ensures (named c.in-Some-Operates.is c.in-Some-Operates.field-0-is) refl)

pub judge-returns-in-None : goal.judge-returns-in-None
judge-returns-in-None t c = absurd (unjudged_by c.args.e.now _ _ _ _ _ c.requires c.in-Binary.is c.infix_of.ensures c.in-None.is refl)

pub judge-returns-in_default : goal.judge-returns-in_default
judge-returns-in_default t c = absurd (unjudged c.args.e.now c.requires c.in_default.not-Unary c.in_default.not-Binary)

pub put_other-returns : goal.put_other-returns
put_other-returns t c =
    part_ends c.args.code.now _ _ _ (test_part c.args.right.now c.args.want c.args.to c.args.code.now.labels) _ (λ (n : ℕ). max (max c.args.first n) 1) c.end_other.result c.in_ok-second.ensures c.end_other.ensures

pub judge-returns-then-is_alone-clause-fits : goal.judge-returns-then-is_alone-clause-fits
judge-returns-then-is_alone-clause-fits t c = let h : c.args.code.now.labels + 1 < 2 ^ 64 = omega (arith, c.in_ok-new_labels-in-Some-Compares.ensures.fits) in always c.jump_one.result h

pub judge-returns-in_ok-first-in-Some-Compares-clause-fits : goal.judge-returns-in_ok-first-in-Some-Compares-clause-fits
judge-returns-in_ok-first-in-Some-Compares-clause-fits t c = let h : c.args.code.now.labels + 1 < 2 ^ 64 = omega (arith, c.in_ok-new_labels-in-Some-Compares.ensures.fits) in always c.jump_second.result h

pub judge-returns-in_ok-first-in-Some-AndThen-clause-fits : goal.judge-returns-in_ok-first-in-Some-AndThen-clause-fits
judge-returns-in_ok-first-in-Some-AndThen-clause-fits t c = let h : c.args.code.now.labels + 1 < 2 ^ 64 = omega (arith, c.in_ok-skip-in-Some-AndThen.ensures.fits) in always c.put_other.result h

pub judge-returns-in_ok-first-in-Some-OrElse-clause-fits : goal.judge-returns-in_ok-first-in-Some-OrElse-clause-fits
judge-returns-in_ok-first-in-Some-OrElse-clause-fits t c = let h : c.args.code.now.labels + 1 < 2 ^ 64 = omega (arith, c.in_ok-skip-in-Some-OrElse.ensures.fits) in always c.put_other-in-Some-OrElse.result h
