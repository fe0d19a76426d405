use Rattle.code_trace.proofs.Traces.{traces}
use Rattle.code_trace.proofs.laws.what_follows_has_traces.Goals as goal

pub returns : goal.returns
returns c = traces
