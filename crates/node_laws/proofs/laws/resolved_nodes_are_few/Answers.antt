use Rattle.node_laws.proofs.UnitNodes.{nodes_few}
use Rattle.node_laws.proofs.laws.resolved_nodes_are_few.Goals as goal

pub returns : goal.returns
returns c = nodes_few
