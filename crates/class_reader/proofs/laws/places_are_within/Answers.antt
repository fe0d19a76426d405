use Rattle.class_reader.proofs.ContinuedFile.{places_are_within}
use Rattle.class_reader.proofs.laws.places_are_within.Goals as goal

pub returns : goal.returns
returns c = places_are_within
