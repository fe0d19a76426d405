use Rattle.std.proofs.Common.{sym, ap, ◌∙◌}
use Rattle.jvm_table.specs.Act as table
use Rattle.jvm_quick.proofs.act.jump.Goals as goal

pub returns-in-IfZero : goal.returns-in-IfZero
returns-in-IfZero c = λ file method. c.jump_if_zero.ensures file method ∙ ap (λ j. table.jump j c.args.to c.args.frame.now) (sym c.in-IfZero.is)

pub returns-in-IfInts : goal.returns-in-IfInts
returns-in-IfInts c = λ file method. c.jump_if_ints.ensures file method ∙ ap (λ j. table.jump j c.args.to c.args.frame.now) (sym c.in-IfInts.is)

pub returns-in-IfSame : goal.returns-in-IfSame
returns-in-IfSame c = λ file method. c.jump_if_same.ensures file method ∙ ap (λ j. table.jump j c.args.to c.args.frame.now) (sym c.in-IfSame.is)

pub returns-in-IfNull : goal.returns-in-IfNull
returns-in-IfNull c = λ file method. c.jump_if_null.ensures file method ∙ ap (λ j. table.jump j c.args.to c.args.frame.now) (sym c.in-IfNull.is)
