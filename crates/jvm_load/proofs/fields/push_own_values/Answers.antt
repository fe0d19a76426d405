use Rattle.std.proofs.Common.{◌≡◌, List, false, filter, map, ◌++◌, IfOk, sym, ap, ◌∙◌, subst, append-nil}
use Rattle.std.proofs.lemmas.Option.{slice_get_past}
use Rattle.class_form.specs.declared.member.MemberInfo.{MemberInfo}
use Rattle.jp_store.specs.declared.value.Value.{Value}
use Rattle.jp_store.specs.Classes.{Field, first_value, own_part}
use Rattle.jvm_load.specs.FileClasses.{classes_of}
use Rattle.jvm_load.specs.Fields.{member_role, first_of}
use Rattle.jvm_load.proofs.FieldFacts.{there_is, own_values, no_values}
use Rattle.jvm_load.proofs.fields.push_own_values.Goals as goal

pub returns-in-Some : goal.returns-in-Some
returns-in-Some c =
    let file = c.in-Some.file.now in
    let same : map (first_of file) (filter (member_role false) c.as_slice.result.now) ≡ map first_value (own_part false (classes_of c.args.files.now) c.args.at)
    = ap (λ (l : List MemberInfo). map (first_of file) (filter (member_role false) l)) c.as_slice.ensures
    ∙ own_values c.args.files.now c.args.at file (there_is c.args.files.now c.args.at file c.in-Some.ensures.lookup.3.0 c.in-Some.ensures.lookup.1) in
    subst (λ (l : List Value). IfOk c.push_values.result (λ _. c.push_values.new.values.items ≡ c.args.values.now.items ++ l)) same c.push_values.ensures

pub returns-in-None : goal.returns-in-None
returns-in-None c =
    sym (append-nil c.args.values.now.items)
    ∙ ap (λ (l : List Field). c.args.values.now.items ++ map first_value l) (sym (no_values c.args.files.now c.args.at (slice_get_past c.args.files.now c.args.at c.in-None.ensures.lookup.3)))
