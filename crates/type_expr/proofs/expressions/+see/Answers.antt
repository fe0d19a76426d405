use Rattle.type_expr.proofs.Ends.{none_seen, one_more_seen, all_seen}
use Rattle.type_expr.proofs.Forms.{see_number, see_truth, see_null, see_text, see_this, see_name, see_unary, see_binary, see_choice, see_cast, see_instance, see_field, see_element, see_call, see_call_on, see_super, see_new, see_new_array}
use Rattle.type_expr.proofs.expressions.+see.Goals as goal

pub see-returns-in-Number : goal.see-returns-in-Number
see-returns-in-Number t c = see_number c.args.scope.now c.args.role c.args.expr.now _ _ _ _ c.number.result c.in-Number.is c.number.ensures

pub see-returns-in-Truth : goal.see-returns-in-Truth
see-returns-in-Truth t c = see_truth c.args.scope.now c.args.role c.args.expr.now _ _ c.value.result c.in-Truth.is c.value.ensures

pub see-returns-in-Null : goal.see-returns-in-Null
see-returns-in-Null t c = see_null c.args.scope.now c.args.role c.args.expr.now _ c.null.result c.in-Null.is c.null.ensures

pub see-returns-in-Text : goal.see-returns-in-Text
see-returns-in-Text t c = see_text c.args.scope.now c.args.role c.args.expr.now _ _ _ c.text.result c.in-Text.is c.text.ensures

pub see-returns-in-This : goal.see-returns-in-This
see-returns-in-This t c = see_this c.args.scope.now c.args.role c.args.expr.now _ _ c.this.result c.in-This.is c.this.ensures

pub see-returns-in-Var : goal.see-returns-in-Var
see-returns-in-Var t c = see_name c.args.scope.now c.args.role c.args.expr.now _ _ _ c.name.result c.in-Var.is c.name.ensures

pub see-returns-in_ok-right-in-Unary : goal.see-returns-in_ok-right-in-Unary
see-returns-in_ok-right-in-Unary t c = see_unary c.args.scope.now c.args.role c.behind.result c.args.expr.now _ _ _ _ _ _ _ c.unary.result c.in-Unary.is c.get.ensures c.behind.ensures c.in_ok-right-in-Unary.ensures c.unary.ensures

pub see-returns-in_ok-right-in-Binary : goal.see-returns-in_ok-right-in-Binary
see-returns-in_ok-right-in-Binary t c = see_binary c.args.scope.now c.args.role c.args.expr.now _ _ _ _ _ _ _ _ _ _ _ c.binary.result c.in-Binary.is c.get-in-Binary.ensures c.get-in-Binary-2.ensures c.in_ok-left-in-Binary.ensures c.in_ok-right-in-Binary.ensures c.binary.ensures

pub see-returns-in_ok-no-in-Cond : goal.see-returns-in_ok-no-in-Cond
see-returns-in_ok-no-in-Cond t c = see_choice c.args.scope.now c.args.role c.args.expr.now _ _ _ _ _ _ _ _ _ _ _ _ _ _ c.choice.result c.in-Cond.is c.get-in-Cond.ensures c.get-in-Cond-2.ensures c.get-in-Cond-3.ensures c.in_ok-test-in-Cond.ensures c.in_ok-yes-in-Cond.ensures c.in_ok-no-in-Cond.ensures c.choice.ensures

pub see-returns-in_ok-part-in-Cast : goal.see-returns-in_ok-part-in-Cast
see-returns-in_ok-part-in-Cast t c = see_cast c.args.scope.now c.args.role c.args.expr.now _ _ _ _ _ _ _ c.cast.result c.in-Cast.is c.get-in-Cast.ensures c.in_ok-part-in-Cast.ensures c.cast.ensures

pub see-returns-in_ok-part-in-InstanceOf : goal.see-returns-in_ok-part-in-InstanceOf
see-returns-in_ok-part-in-InstanceOf t c = see_instance c.args.scope.now c.args.role c.args.expr.now _ _ _ _ _ _ _ c.instance_of.result c.in-InstanceOf.is c.get-in-InstanceOf.ensures c.in_ok-part-in-InstanceOf.ensures c.instance_of.ensures

pub see-returns-in_ok-object-in-Field : goal.see-returns-in_ok-object-in-Field
see-returns-in_ok-object-in-Field t c = see_field c.args.scope.now c.args.role c.args.expr.now _ _ _ _ _ _ _ c.field.result c.in-Field.is c.get-in-Field.ensures c.in_ok-object-in-Field.ensures c.field.ensures

pub see-returns-in_ok-index-in-Index : goal.see-returns-in_ok-index-in-Index
see-returns-in_ok-index-in-Index t c = see_element c.args.scope.now c.args.role c.args.expr.now _ _ _ _ _ _ _ _ _ _ c.element.result c.in-Index.is c.get-in-Index.ensures c.get-in-Index-2.ensures c.in_ok-array-in-Index.ensures c.in_ok-index-in-Index.ensures c.element.ensures

pub see-returns-in_ok-args-in-None : goal.see-returns-in_ok-args-in-None
see-returns-in_ok-args-in-None t c =
    see_call c.args.scope.now c.args.role c.args.expr.now c.in-Call.object c.in-Call.name c.in-Call.args _ _ _ _ _ c.call.result c.in-Call.is c.in-None.is c.as_slice.ensures c.in_ok-args-in-None.ensures c.call.ensures

pub see-returns-in_ok-args-in-Some : goal.see-returns-in_ok-args-in-Some
see-returns-in_ok-args-in-Some t c =
    see_call_on c.args.scope.now c.args.role c.argument_of-role.result c.args.expr.now c.in-Call.object c.in-Some.before _ c.in-Call.name c.in-Call.args _ _ _ _ _ _ _ c.call_on.result c.in-Call.is c.in-Some.is c.get-in-Some.ensures c.as_slice-in-Some.ensures c.argument_of-role.ensures c.in_ok-object-in-Some.ensures c.in_ok-args-in-Some.ensures c.call_on.ensures

pub see-returns-in_ok-args-in-SuperCall : goal.see-returns-in_ok-args-in-SuperCall
see-returns-in_ok-args-in-SuperCall t c = see_super c.args.scope.now c.args.role c.args.expr.now _ _ _ _ _ _ _ c.super_call.result c.in-SuperCall.is c.as_slice-in-SuperCall.ensures c.in_ok-args-in-SuperCall.ensures c.super_call.ensures

pub see-returns-in_ok-args-in-New : goal.see-returns-in_ok-args-in-New
see-returns-in_ok-args-in-New t c = see_new c.args.scope.now c.args.role c.args.expr.now _ _ _ _ _ _ _ c.new_object.result c.in-New.is c.as_slice-in-New.ensures c.in_ok-args-in-New.ensures c.new_object.ensures

pub see-returns-in_ok-size-in-NewArray : goal.see-returns-in_ok-size-in-NewArray
see-returns-in_ok-size-in-NewArray t c = see_new_array c.args.scope.now c.args.role c.args.expr.now _ _ _ _ _ _ _ c.new_array.result c.in-NewArray.is c.get-in-NewArray.ensures c.in_ok-size-in-NewArray.ensures c.new_array.ensures

pub see_all-loop-one-init : goal.see_all-loop-one-init
see_all-loop-one-init t c = none_seen c.args.scope.now c.args.role c.args.first.now.fault c.new-found.result.items c.new-found.ensures.items

pub see_all-loop-one-preserved : goal.see_all-loop-one-preserved
see_all-loop-one-preserved t c =
    one_more_seen c.args.scope.now c.args.role c.args.all.now c.loop-one.one-index c.one-item.result c.args.first.now.fault c.loop-one.first.fault c.see.new.first.fault c.loop-one.found.items c.push.new.self.items c.in_ok-see.field-0
    c.loop-one-test.true c.one-item.is c.in_ok-push.ensures.items c.loop-one.invariant c.in_ok-see.ensures

pub see_all-returns : goal.see_all-returns
see_all-returns t c =
    all_seen c.args.scope.now c.args.role c.args.all.now c.loop-one.one-index c.args.first.now.fault c.loop-one.first.fault c.loop-one.found.items c.loop-one-test.false c.loop-one.invariant
