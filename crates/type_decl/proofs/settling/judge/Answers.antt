use Rattle.std.proofs.Common.{ap, ◌∙◌}
use Rattle.std.specs.Option.{option_copied}
use Rattle.type_rules.specs.Completing.{can_complete}
use Rattle.type_decl.proofs.Settles.{own_judged}
use Rattle.type_decl.proofs.settling.judge.Goals as goal

pub returns : goal.returns
returns c =
    own_judged c.args.heads.now c.args.decl.now c.args.before.now c.args.member.now c.args.first.now.fault c.judge_member.new.first.fault (option_copied c.slice_of-super_args.result) c.can_complete-completes.result
    (c.slice_of-super_args.ensures ∙ c.requires.walked) (c.can_complete-completes.ensures ∙ ap can_complete c.block_of.ensures) c.judge_member.ensures
