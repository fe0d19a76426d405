use Rattle.std.proofs.Common.{arith}
use Rattle.std.proofs.lemmas.Grind.{common_steps}
use Rattle.class_form.specs.WellFormed.{code_size}
use Rattle.class_form.proofs.Sizes.{length-code_content}
use Rattle.class_form.proofs.checks.code_size.Goals as goal

pub returns-clause-length_of_content : goal.returns-clause-length_of_content
unfolding code_size
returns-clause-length_of_content c = rw (length-code_content c.args.code.now) (grind (arith, common_steps))
