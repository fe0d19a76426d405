use Rattle.jp_meaning.proofs.Longer.{more_ticks_agree}
use Rattle.jp_meaning.proofs.laws.more_ticks_agree.Goals as goal

pub returns : goal.returns
returns c = more_ticks_agree
