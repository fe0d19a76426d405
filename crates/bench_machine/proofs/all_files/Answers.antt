use Rattle.std.proofs.Common.{List, sym, subst}
use Rattle.std.specs.Prelude.{All}
use Rattle.std.proofs.lemmas.List.Elements.{All-push}
use Rattle.class_form.specs.declared.class_file.ClassFile.{ClassFile}
use Rattle.jvm_load.specs.Loadable.{IsLoadableFile}
use Rattle.bench_machine.proofs.all_files.Goals as goal

pub loop-i-preserved : goal.loop-i-preserved
loop-i-preserved c =
    subst (λ (files : List ClassFile). All IsLoadableFile files) (sym c.in_ok-push-4.ensures.items)
    (All-push IsLoadableFile c.loop-i.files.items c.in_ok-class_other.field-0 c.loop-i.invariant c.in_ok-class_other.ensures)
