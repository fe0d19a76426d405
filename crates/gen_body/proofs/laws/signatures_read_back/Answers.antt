use Rattle.gen_body.proofs.Signatures.{signatures_read_back}
use Rattle.gen_body.proofs.laws.signatures_read_back.Goals as goal

pub returns : goal.returns
returns c = signatures_read_back
