use Rattle.whole_program.proofs.Ahead.{headline}
use Rattle.whole_program.proofs.laws.headline.Goals as goal

pub returns : goal.returns
returns c = headline
