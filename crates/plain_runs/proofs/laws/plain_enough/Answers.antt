use Rattle.plain_runs.proofs.Running.{plain_enough}
use Rattle.plain_runs.proofs.laws.plain_enough.Goals as goal

pub returns : goal.returns
returns c = plain_enough
