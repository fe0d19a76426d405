use Rattle.std.proofs.Common.{◌≡◌, IfOk, sym, ap, ◌∙◌, subst}
use Rattle.std.proofs.lemmas.Result.{IfOk-weaker}
use Rattle.jvm_load.specs.FileClasses.{classes_of}
use Rattle.jvm_step.specs.declared.act.Effect.{Effect}
use Rattle.jvm_work.specs.Effects.{effected, store, left_with, object_made, references_made}
use Rattle.jvm_link.specs.Links.{class_named}
use Rattle.jvm_work.proofs.Named.{reads_field, writes_field, reads_static, writes_static, makes_object, makes_references, tests_instance, casts}
use Rattle.jvm_work.proofs.effects.carry_out.Goals as goal

pub returns-in-GetField-clause-worked : goal.returns-in-GetField-clause-worked
returns-in-GetField-clause-worked c = λ file h.
    let files = c.args.linked.now in
    let classes = classes_of files in
    let heap = c.args.heap.now in
    let statics = c.args.statics.now in
    c.get_field.ensures file statics h ∙ reads_field files file c.in-GetField.index heap statics c.in-GetField.object ∙ (ap (λ (e : Effect). effected file e (store classes heap statics)) (sym c.in-GetField.is))

pub returns-in-PutField-clause-worked : goal.returns-in-PutField-clause-worked
returns-in-PutField-clause-worked c = λ file h.
    let files = c.args.linked.now in
    let classes = classes_of files in
    let heap = c.args.heap.now in
    let statics = c.args.statics.now in
    c.put_field.ensures.worked file statics h ∙ writes_field files file c.in-PutField.index heap statics c.in-PutField.object c.in-PutField.value ∙ (ap (λ (e : Effect). effected file e (store classes heap statics)) (sym c.in-PutField.is))

pub returns-in-GetStatic-clause-worked : goal.returns-in-GetStatic-clause-worked
returns-in-GetStatic-clause-worked c = λ file h.
    let files = c.args.linked.now in
    let classes = classes_of files in
    let heap = c.args.heap.now in
    let statics = c.args.statics.now in
    c.get_static.ensures file heap h ∙ reads_static files file c.in-GetStatic.index heap statics ∙ (ap (λ (e : Effect). effected file e (store classes heap statics)) (sym c.in-GetStatic.is))

pub returns-in-PutStatic-clause-worked : goal.returns-in-PutStatic-clause-worked
returns-in-PutStatic-clause-worked c = λ file h.
    let files = c.args.linked.now in
    let classes = classes_of files in
    let heap = c.args.heap.now in
    let statics = c.args.statics.now in
    c.put_static.ensures.worked file heap h ∙ writes_static files file c.in-PutStatic.index heap statics c.in-PutStatic.value ∙ (ap (λ (e : Effect). effected file e (store classes heap statics)) (sym c.in-PutStatic.is))

pub returns-in-CheckCast-clause-worked : goal.returns-in-CheckCast-clause-worked
returns-in-CheckCast-clause-worked c = λ file h.
    let files = c.args.linked.now in
    let classes = classes_of files in
    let heap = c.args.heap.now in
    let statics = c.args.statics.now in
    c.check_cast.ensures file statics h ∙ casts files file c.in-CheckCast.index heap statics c.in-CheckCast.value ∙ (ap (λ (e : Effect). effected file e (store classes heap statics)) (sym c.in-CheckCast.is))

pub returns-in-InstanceOf-clause-worked : goal.returns-in-InstanceOf-clause-worked
returns-in-InstanceOf-clause-worked c = λ file h.
    let files = c.args.linked.now in
    let classes = classes_of files in
    let heap = c.args.heap.now in
    let statics = c.args.statics.now in
    c.instance_of.ensures file statics h ∙ tests_instance files file c.in-InstanceOf.index heap statics c.in-InstanceOf.value ∙ (ap (λ (e : Effect). effected file e (store classes heap statics)) (sym c.in-InstanceOf.is))

pub returns-in-MakeObject-clause-worked : goal.returns-in-MakeObject-clause-worked
returns-in-MakeObject-clause-worked c = λ file h.
    let files = c.args.linked.now in
    let classes = classes_of files in
    let heap = c.args.heap.now in
    let statics = c.args.statics.now in
    IfOk-weaker c.make_object.result
    (λ outcome. left_with outcome (store classes c.make_object.new.heap statics) ≡ object_made (class_named files file c.in-MakeObject.index) (store classes heap statics))
    (λ outcome. left_with outcome (store classes c.make_object.new.heap statics) ≡ effected file c.args.effect (store classes heap statics))
    (λ outcome e. e ∙ makes_object files file c.in-MakeObject.index heap statics ∙ (ap (λ (e : Effect). effected file e (store classes heap statics)) (sym c.in-MakeObject.is)))
    (c.make_object.ensures.worked file statics h)

pub returns-in-MakeReferences-clause-worked : goal.returns-in-MakeReferences-clause-worked
returns-in-MakeReferences-clause-worked c = λ file h.
    let files = c.args.linked.now in
    let classes = classes_of files in
    let heap = c.args.heap.now in
    let statics = c.args.statics.now in
    IfOk-weaker c.make_references.result
    (λ outcome. left_with outcome (store classes c.make_references.new.heap statics) ≡ references_made (class_named files file c.in-MakeReferences.index) c.in-MakeReferences.size (store classes heap statics))
    (λ outcome. left_with outcome (store classes c.make_references.new.heap statics) ≡ effected file c.args.effect (store classes heap statics))
    (λ outcome e. e ∙ makes_references files file c.in-MakeReferences.index heap statics c.in-MakeReferences.size ∙ (ap (λ (e : Effect). effected file e (store classes heap statics)) (sym c.in-MakeReferences.is)))
    (c.make_references.ensures.worked file statics h)

pub returns-in-MakeNumbers-clause-worked : goal.returns-in-MakeNumbers-clause-worked
returns-in-MakeNumbers-clause-worked c = λ file h.
    let files = c.args.linked.now in
    let classes = classes_of files in
    let heap = c.args.heap.now in
    let statics = c.args.statics.now in
    subst (λ (e : Effect). IfOk c.make_numbers.result (λ outcome. left_with outcome (store classes c.make_numbers.new.heap statics) ≡ effected file e (store classes heap statics)))
    (sym c.in-MakeNumbers.is) (c.make_numbers.ensures.worked file classes statics)

pub returns-in-MakeTruths-clause-worked : goal.returns-in-MakeTruths-clause-worked
returns-in-MakeTruths-clause-worked c = λ file h.
    let files = c.args.linked.now in
    let classes = classes_of files in
    let heap = c.args.heap.now in
    let statics = c.args.statics.now in
    subst (λ (e : Effect). IfOk c.make_truths.result (λ outcome. left_with outcome (store classes c.make_truths.new.heap statics) ≡ effected file e (store classes heap statics)))
    (sym c.in-MakeTruths.is) (c.make_truths.ensures.worked file classes statics)

pub returns-in-GetElement-clause-worked : goal.returns-in-GetElement-clause-worked
returns-in-GetElement-clause-worked c = λ file h.
    let files = c.args.linked.now in
    let classes = classes_of files in
    let heap = c.args.heap.now in
    let statics = c.args.statics.now in
    c.get_element.ensures file classes statics ∙ (ap (λ (e : Effect). effected file e (store classes heap statics)) (sym c.in-GetElement.is))

pub returns-in-PutElement-clause-worked : goal.returns-in-PutElement-clause-worked
returns-in-PutElement-clause-worked c = λ file h.
    let files = c.args.linked.now in
    let classes = classes_of files in
    let heap = c.args.heap.now in
    let statics = c.args.statics.now in
    c.put_element.ensures.worked file statics ∙ (ap (λ (e : Effect). effected file e (store classes heap statics)) (sym c.in-PutElement.is))

pub returns-in-ArrayLength-clause-worked : goal.returns-in-ArrayLength-clause-worked
returns-in-ArrayLength-clause-worked c = λ file h.
    let files = c.args.linked.now in
    let classes = classes_of files in
    let heap = c.args.heap.now in
    let statics = c.args.statics.now in
    c.array_length.ensures file classes statics ∙ (ap (λ (e : Effect). effected file e (store classes heap statics)) (sym c.in-ArrayLength.is))
