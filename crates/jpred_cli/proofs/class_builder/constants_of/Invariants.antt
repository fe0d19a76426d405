use Rattle.std.proofs.Common.{◌≡◌, ◌++◌, map, take}
use Rattle.class_form.specs.declared.constant.Const.TheVariants.{Integer}
use Rattle.jpred_cli.specs.Built.{fixed_constants}
use Rattle.jpred_cli.proofs.class_builder.constants_of.Given as goal

abbrev pub invariant-loop-n : goal.invariant-loop-n
invariant-loop-n l = l.constants ≡ fixed_constants l.main ++ map Integer (take l.n-index l.numbers)
