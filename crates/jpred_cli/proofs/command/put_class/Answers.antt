use Rattle.std.proofs.Common.{sym, ap, ◌∙◌, subst}
use Rattle.class_form.specs.declared.class_file.ClassFile.{ClassFile}
use Rattle.class_form.specs.WellFormed.{WellFormed}
use Rattle.jpred_cli.specs.Built.{class_of}
use Rattle.jpred_cli.proofs.Formed.{formed}
use Rattle.jpred_cli.proofs.command.put_class.Goals as goal

pub write_class-requires : goal.write_class-requires
write_class-requires g c =
    subst (λ (f : ClassFile). WellFormed f) (sym (c.in_ok-file.ensures ∙ ap (λ m. class_of m c.args.numbers.now) c.as_bytes.ensures.value))
    (formed c.args.main.now c.args.numbers.now c.requires.name c.requires.few)
