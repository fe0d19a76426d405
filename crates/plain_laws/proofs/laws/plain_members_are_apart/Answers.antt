use Rattle.plain_laws.proofs.MembersApart.{members_apart}
use Rattle.plain_laws.proofs.laws.plain_members_are_apart.Goals as goal

pub returns : goal.returns
returns c = members_apart
