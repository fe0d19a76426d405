use Rattle.std.proofs.Common.{sym, ap, ◌∙◌}
use Rattle.std.specs.Str.{bytes_eq}
use Rattle.jvm_step.specs.Names.{named}
use Rattle.jvm_link.proofs.Targets.{by_constructor, by_above}
use Rattle.jvm_link.proofs.find.find_special.Goals as goal

pub returns-then-eq : goal.returns-then-eq
returns-then-eq c = λ heap args.
    by_constructor c.args.program.now heap args c.args.file.now (named c.args.member.now) c.find_constructor.result
    (sym (c.if-eq.ensures ∙ ap (bytes_eq c.args.member.now.name.now) c.as_slice.ensures)) (c.find_constructor.ensures heap args)

pub returns-in_ok-class_name : goal.returns-in_ok-class_name
returns-in_ok-class_name c = λ heap args.
    by_above c.args.program.now heap args c.args.file.now (named c.args.member.now) c.in_ok-class_name.field-0.now c.find_above.result
    (sym (c.if-eq.ensures ∙ ap (bytes_eq c.args.member.now.name.now) c.as_slice.ensures)) (sym c.in_ok-class_name.ensures) (c.find_above.ensures heap args)
