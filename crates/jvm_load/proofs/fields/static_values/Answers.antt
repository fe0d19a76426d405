use Rattle.std.proofs.Common.{List, true, filter, map, ◌++◌, sym, ap, ◌∙◌}
use Rattle.class_form.specs.declared.member.MemberInfo.{MemberInfo}
use Rattle.jp_store.specs.declared.value.Value.{Value}
use Rattle.jvm_load.specs.Fields.{member_role, first_of}
use Rattle.jvm_load.proofs.FieldFacts.{firsts_of}
use Rattle.jvm_load.proofs.fields.static_values.Goals as goal

pub returns : goal.returns
returns c =
    let file = c.args.file.now in
    c.new.ensures ∙ c.in_ok-push_values.ensures
    ∙ ap (λ (l : List Value). l ++ map (first_of file) (filter (member_role true) c.as_slice.result.now)) c.new-values.ensures.items
    ∙ ap (λ (l : List MemberInfo). map (first_of file) (filter (member_role true) l)) c.as_slice.ensures
    ∙ sym (firsts_of file true file.fields)
