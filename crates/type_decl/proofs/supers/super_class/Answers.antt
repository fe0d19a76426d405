use Rattle.std.proofs.Common.{sym, ◌∙◌}
use Rattle.type_decl.proofs.Constructing.{super_named, super_unnamed}
use Rattle.type_decl.proofs.supers.super_class.Goals as goal

pub returns-in-Some : goal.returns-in-Some
returns-in-Some c = super_named c.args.heads.now c.args.decl.now c.in-Some.name _ (sym c.in-Some.is ∙ c.in_ok-name.ensures) c.class_named.ensures

pub returns-in-None : goal.returns-in-None
returns-in-None c = super_unnamed c.args.heads.now c.args.decl.now (sym c.in-None.is ∙ c.in_ok-name.ensures)
