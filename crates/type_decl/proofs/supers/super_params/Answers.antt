use Rattle.type_decl.proofs.Constructing.{of_constructor}
use Rattle.type_decl.proofs.supers.super_params.Goals as goal

pub returns-in-Constructor : goal.returns-in-Constructor
returns-in-Constructor c =
    of_constructor c.args.heads.now c.args.decl.now c.args.member.now _ _ c.super_count.result c.params_above.result c.in-Constructor.is c.super_count.ensures c.params_above.ensures
