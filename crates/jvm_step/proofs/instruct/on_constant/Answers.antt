use Rattle.std.proofs.Common.{sym, ap, ◌∙◌}
use Rattle.jvm_table.specs.Act as table
use Rattle.jvm_step.proofs.instruct.on_constant.Goals as goal

pub returns-in-PutStatic : goal.returns-in-PutStatic
returns-in-PutStatic c = c.put_static.ensures c.args.file.now ∙ ap (λ u. table.on_constant c.args.file.now u c.args.index c.args.frame.now) (sym c.in-PutStatic.is)

pub returns-in-GetField : goal.returns-in-GetField
returns-in-GetField c = c.get_field.ensures c.args.file.now ∙ ap (λ u. table.on_constant c.args.file.now u c.args.index c.args.frame.now) (sym c.in-GetField.is)

pub returns-in-PutField : goal.returns-in-PutField
returns-in-PutField c = c.put_field.ensures c.args.file.now ∙ ap (λ u. table.on_constant c.args.file.now u c.args.index c.args.frame.now) (sym c.in-PutField.is)

pub returns-in-MakeReferences : goal.returns-in-MakeReferences
returns-in-MakeReferences c = c.make_references.ensures c.args.file.now ∙ ap (λ u. table.on_constant c.args.file.now u c.args.index c.args.frame.now) (sym c.in-MakeReferences.is)

pub returns-in-CheckCast : goal.returns-in-CheckCast
returns-in-CheckCast c = c.check_cast.ensures c.args.file.now ∙ ap (λ u. table.on_constant c.args.file.now u c.args.index c.args.frame.now) (sym c.in-CheckCast.is)

pub returns-in-InstanceOf : goal.returns-in-InstanceOf
returns-in-InstanceOf c = c.test_instance.ensures c.args.file.now ∙ ap (λ u. table.on_constant c.args.file.now u c.args.index c.args.frame.now) (sym c.in-InstanceOf.is)
