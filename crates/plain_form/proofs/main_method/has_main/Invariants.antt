use Rattle.std.proofs.Common.{◌≡◌, drop}
use Rattle.std.specs.List.{list_any}
use Rattle.plain_form.specs.Main.{declares_main}
use Rattle.plain_form.proofs.main_method.has_main.Given as goal

abbrev pub invariant-loop-decl : goal.invariant-loop-decl
invariant-loop-decl l = list_any (declares_main l.name) l.decl-items ≡ list_any (declares_main l.name) (drop l.decl-index l.decl-items)
