use Rattle.std.proofs.Common.{◌∙◌, ap}
use Rattle.decl_rules.specs.Clashes.{clash_of}
use Rattle.decl_rules.specs.Signatures.{as_told}
use Rattle.decl_rules.proofs.Inherits.{bare_second}
use Rattle.decl_rules.proofs.clashes.clashes_with_told.Goals as goal

pub returns : goal.returns
returns c =
    let own = as_told c.args.own.now in
    c.clashes.ensures ∙ (ap (clash_of c.args.clash own) c.told.ensures ∙ bare_second c.args.clash own c.args.method.now)
