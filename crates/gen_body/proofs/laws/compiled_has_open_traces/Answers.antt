use Rattle.gen_body.proofs.Members.{open_traces}
use Rattle.gen_body.proofs.laws.compiled_has_open_traces.Goals as goal

pub returns : goal.returns
returns c = open_traces
