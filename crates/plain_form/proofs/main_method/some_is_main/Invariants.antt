use Rattle.std.proofs.Common.{◌≡◌, drop}
use Rattle.std.specs.List.{list_any}
use Rattle.plain_form.specs.Main.{is_main}
use Rattle.plain_form.proofs.main_method.some_is_main.Given as goal

abbrev pub invariant-loop-member : goal.invariant-loop-member
invariant-loop-member l = list_any is_main l.members ≡ list_any is_main (drop l.member-index l.members)
