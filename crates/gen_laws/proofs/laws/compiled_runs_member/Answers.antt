use Rattle.gen_laws.proofs.Members.{runs_member}
use Rattle.gen_laws.proofs.laws.compiled_runs_member.Goals as goal

pub returns : goal.returns
returns c = runs_member
