use Rattle.std.proofs.Common.{◌≡◌, IfOk, Option, sym, ◌∙◌, subst}
use Rattle.jp_store.specs.declared.value.ClassAt.{ClassAt}
use Rattle.jvm_load.specs.FileClasses.{classes_of}
use Rattle.jvm_work.specs.Effects.{references_made, store, left_with}
use Rattle.jvm_work.proofs.arrays.make_references.Goals as goal

pub returns-clause-worked : goal.returns-clause-worked
returns-clause-worked c = λ file statics h.
    let classes = classes_of c.args.linked.now in
    subst (λ (class : Option ClassAt). IfOk c.new_array.result (λ outcome. left_with outcome (store classes c.new_array.new.heap statics) ≡ references_made class c.args.size (store classes c.args.heap.now statics)))
    (sym c.in-Some.is ∙ c.class.ensures.class file h) (c.new_array.ensures.made classes statics)
