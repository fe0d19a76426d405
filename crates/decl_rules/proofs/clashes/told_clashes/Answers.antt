use Rattle.std.proofs.Common.{◌∙◌, ap}
use Rattle.std.specs.List.{list_any}
use Rattle.iface_codec.specs.declared.iface.IfaceMethod.{IfaceMethod}
use Rattle.decl_rules.specs.Clashes.{clash_of}
use Rattle.decl_rules.specs.Standing.{methods_at}
use Rattle.decl_rules.proofs.Inherits.{bare_first}
use Rattle.decl_rules.proofs.clashes.told_clashes.Goals as goal

pub returns : goal.returns
returns c =
    let others = methods_at c.args.others.now in
    c.clashes_above.ensures ∙ (ap (λ (m : IfaceMethod). list_any (clash_of c.args.clash m) others) c.told.ensures ∙ bare_first c.args.clash c.args.method.now others)
