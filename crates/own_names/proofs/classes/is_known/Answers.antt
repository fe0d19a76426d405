use Rattle.std.proofs.Common.{sym, ap, ◌∙◌}
use Rattle.std.specs.List.{list_any}
use Rattle.jp_pred.specs.Names.{same}
use Rattle.jp_ast.specs.declared.decl.Decl.{Decl}
use Rattle.own_names.proofs.Known.{known_declared}
use Rattle.own_names.proofs.classes.is_known.Goals as goal

pub returns-else-is_of_language : goal.returns-else-is_of_language
returns-else-is_of_language c =
    let name = c.args.class.now in
    c.is_declared.ensures
    ∙ (ap (λ ds. list_any (λ (d : Decl). same d.name name) ds) c.as_slice.ensures
    ∙ known_declared c.args.unit.now name (sym c.is_of_language.ensures ∙ c.if-is_of_language.false))
