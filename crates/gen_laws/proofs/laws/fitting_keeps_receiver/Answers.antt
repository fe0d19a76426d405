use Rattle.gen_laws.proofs.Receiving.{receiver_kept}
use Rattle.gen_laws.proofs.laws.fitting_keeps_receiver.Goals as goal

pub returns : goal.returns
returns c = receiver_kept
