use Rattle.std.proofs.Common.{◌≡◌, ◌+◌, ◌<◌, List, Option, Some, length, refl, sym, ap, ◌∙◌, subst, arith}
use Rattle.std.specs.Prelude.{slice_get}
use Rattle.std.proofs.lemmas.Option.{slice_get_read}
use Rattle.class_form.specs.declared.member.MemberInfo.{MemberInfo}
use Rattle.jvm_table.specs.declared.decode.Row.{Row}
use Rattle.jvm_quick.specs.Rows.{IsOfMethod}
use Rattle.jvm_quick.proofs.Filled.{AreFirst, first_none, first_more}
use Rattle.jvm_quick.proofs.decoded.file_rows.Goals as goal

pub loop-method-init : goal.loop-method-init
loop-method-init c = subst (λ (lists : List (List (Option Row))). AreFirst (IsOfMethod c.args.file.now) 0 lists) (sym c.new-lists.ensures.items) (first_none (IsOfMethod c.args.file.now))

pub loop-method-preserved : goal.loop-method-preserved
loop-method-preserved c =
    let file = c.args.file.now in
    let l = c.loop-method in
    let i = l.method-index in
    let found = c.in_ok-method_rows in
    let slice = c.as_slice-methods.result.now in
    let method = c.method-item.result in
    let within : i < length slice = omega arith in
    let there : slice_get file.methods i ≡ Some method = ap (λ (methods : List MemberInfo). slice_get methods i) (sym c.as_slice-methods.ensures) ∙ slice_get_read slice (length slice) i method refl within c.method-item.is in
    subst (λ (lists : List (List (Option Row))). AreFirst (IsOfMethod file) (i + 1) lists) (sym c.in_ok-push.ensures.items)
    (first_more (IsOfMethod file) i l.lists.items found.field-0 l.invariant (method, there, found.ensures))

pub returns : goal.returns
returns c = c.loop-method.invariant.each
