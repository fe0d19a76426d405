use Rattle.class_lines.proofs.Walks.{inherited}
use Rattle.class_lines.proofs.laws.fields_are_inherited.Goals as goal

pub returns : goal.returns
returns c = inherited
