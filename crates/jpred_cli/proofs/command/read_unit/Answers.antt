use Rattle.std.proofs.Common.{subst, rules}
use Rattle.cli_text.specs.Programs.{ReadsProgram}
use Rattle.jpred_cli.proofs.Units.{unit_read}
use Rattle.jpred_cli.proofs.command.read_unit.Goals as goal

pub returns : goal.returns
returns g c =
    unit_read c.args.main.now c.args.unit.now c.in-Ok-Some.text.items _ _ _ _ c.read_program.result (search rules) (search rules) (search rules)
    (subst (λ t. ReadsProgram c.args.main.now t c.read_program.result) c.as_slice.ensures.value c.read_program.ensures)
