use Rattle.std.proofs.Common.{◌≡◌, ℤ, w32, to_z, of_z, rules, sym, ap, ◌∙◌}
use Rattle.std.proofs.lemmas.Int.{to_z-of_z}
use Rattle.jvm_load.specs.FileClasses.{classes_of}
use Rattle.jvm_work.specs.Effects.{store, stored_in}
use Rattle.jvm_work.proofs.Cells.{on_there, changed_there}
use Rattle.jvm_work.proofs.arrays.write_element.Goals as goal

pub returns-in-Fine-clause-worked : goal.returns-in-Fine-clause-worked
returns-in-Fine-clause-worked c = λ statics.
    let classes = classes_of c.args.linked.now in
    let same : to_z w32 (of_z w32 c.args.index) ≡ c.args.index = search (rules, to_z-of_z) in
    let s = store classes c.args.heap.now statics in
    changed_there classes c.args.heap.now statics c.args.number c.in-Fine.at c.args.value c.in-Some.thing.now c.set.new.self c.in-Some.ensures c.set.ensures
    ∙ c.in-Fine.ensures statics c.args.number
    ∙ ap (λ (i : ℤ). stored_in s c.args.kind i c.args.value c.args.number c.in-Some.thing.now) same
    ∙ sym (on_there c.args.heap.now c.args.number c.in-Some.thing.now (stored_in s c.args.kind c.args.index c.args.value c.args.number) c.in-Some.ensures)

pub returns-in-Trap-clause-worked : goal.returns-in-Trap-clause-worked
returns-in-Trap-clause-worked c = λ statics.
    let same : to_z w32 (of_z w32 c.args.index) ≡ c.args.index = search (rules, to_z-of_z) in
    let s = store (classes_of c.args.linked.now) c.args.heap.now statics in
    c.in-Trap.ensures statics c.args.number
    ∙ ap (λ (i : ℤ). stored_in s c.args.kind i c.args.value c.args.number c.in-Some.thing.now) same
    ∙ sym (on_there c.args.heap.now c.args.number c.in-Some.thing.now (stored_in s c.args.kind c.args.index c.args.value c.args.number) c.in-Some.ensures)

pub returns-in-Wrong-clause-worked : goal.returns-in-Wrong-clause-worked
returns-in-Wrong-clause-worked c = λ statics.
    let same : to_z w32 (of_z w32 c.args.index) ≡ c.args.index = search (rules, to_z-of_z) in
    let s = store (classes_of c.args.linked.now) c.args.heap.now statics in
    c.in-Wrong.ensures statics c.args.number
    ∙ ap (λ (i : ℤ). stored_in s c.args.kind i c.args.value c.args.number c.in-Some.thing.now) same
    ∙ sym (on_there c.args.heap.now c.args.number c.in-Some.thing.now (stored_in s c.args.kind c.args.index c.args.value c.args.number) c.in-Some.ensures)
