use Rattle.std.proofs.Common.{ap, ◌∙◌}
use Rattle.std.specs.Prelude.{option_and_then}
use Rattle.jvm_link.specs.Links.{static_of}
use Rattle.jvm_link.proofs.constant.static_method_of.Goals as goal

pub returns : goal.returns
returns c = λ heap args. c.find_static.ensures heap args ∙ ap (option_and_then (static_of c.args.program.now heap args)) c.in_ok-member.ensures
