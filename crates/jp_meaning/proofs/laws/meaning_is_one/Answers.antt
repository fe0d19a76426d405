use Rattle.jp_meaning.proofs.Choices.{meaning_is_one}
use Rattle.jp_meaning.proofs.laws.meaning_is_one.Goals as goal

pub returns : goal.returns
returns c = meaning_is_one
