use Rattle.std.proofs.Common.{◌≡◌, drop}
use Rattle.std.specs.List.{list_all}
use Rattle.type_rules.specs.Assigning.{is_text}
use Rattle.type_expr.proofs.arguments.are_texts.Given as goal

abbrev pub invariant-loop-part : goal.invariant-loop-part
invariant-loop-part l = list_all is_text l.args ≡ list_all is_text (drop l.part-index l.args)
