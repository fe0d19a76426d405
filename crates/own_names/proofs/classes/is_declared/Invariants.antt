use Rattle.std.proofs.Common.{◌≡◌, drop}
use Rattle.std.specs.List.{list_any}
use Rattle.jp_ast.specs.declared.decl.Decl.{Decl}
use Rattle.jp_pred.specs.Names.{same}
use Rattle.own_names.proofs.classes.is_declared.Given as goal

abbrev pub invariant-loop-decl : goal.invariant-loop-decl
invariant-loop-decl l = list_any (λ (d : Decl). same d.name l.class) l.decls ≡ list_any (λ (d : Decl). same d.name l.class) (drop l.decl-index l.decls)
