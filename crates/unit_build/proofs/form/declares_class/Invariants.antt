use Rattle.std.proofs.Common.{◌≡◌, drop}
use Rattle.std.specs.List.{list_any}
use Rattle.unit_build.specs.Form.{is_class_called}
use Rattle.unit_build.proofs.form.declares_class.Given as goal

-- the declarations that are left decide
abbrev pub invariant-loop-decl : goal.invariant-loop-decl
invariant-loop-decl l = list_any (is_class_called l.name) l.decl-items ≡ list_any (is_class_called l.name) (drop l.decl-index l.decl-items)
