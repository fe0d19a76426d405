use Rattle.plain_runs.proofs.Running.{plain_headline}
use Rattle.plain_runs.proofs.laws.plain_headline.Goals as goal

pub returns : goal.returns
returns c = plain_headline
