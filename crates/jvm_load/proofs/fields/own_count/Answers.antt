use Rattle.std.proofs.Common.{List, false, filter, length, sym, ap, ◌∙◌}
use Rattle.std.proofs.lemmas.Option.{slice_get_past}
use Rattle.class_form.specs.declared.member.MemberInfo.{MemberInfo}
use Rattle.jvm_load.specs.Fields.{member_role}
use Rattle.jvm_load.proofs.FieldFacts.{there_is, own_count_is, no_values}
use Rattle.jvm_load.proofs.fields.own_count.Goals as goal

pub returns-in-Some-clause-count : goal.returns-in-Some-clause-count
returns-in-Some-clause-count c =
    let file = c.in-Some.file.now in
    c.count_fields.ensures.count ∙ ap (λ (l : List MemberInfo). length (filter (member_role false) l)) c.as_slice.ensures
    ∙ own_count_is c.args.files.now c.args.at file (there_is c.args.files.now c.args.at file c.in-Some.ensures.lookup.3.0 c.in-Some.ensures.lookup.1)

pub returns-in-None-clause-count : goal.returns-in-None-clause-count
returns-in-None-clause-count c = ap length (sym (no_values c.args.files.now c.args.at (slice_get_past c.args.files.now c.args.at c.in-None.ensures.lookup.3)))
