use Rattle.std.proofs.Common.{ap, ◌∙◌}
use Rattle.std.specs.Prelude.{option_and_then}
use Rattle.jvm_link.specs.Links.{special_of}
use Rattle.jvm_link.proofs.constant.special_method_of.Goals as goal

pub returns : goal.returns
returns c = λ heap args. c.find_special.ensures heap args ∙ ap (option_and_then (special_of c.args.program.now c.args.file.now heap args)) c.in_ok-member.ensures
