use Rattle.plain_runs.proofs.Running.{plain_output_begins}
use Rattle.plain_runs.proofs.laws.plain_output_begins.Goals as goal

pub returns : goal.returns
returns c = plain_output_begins
