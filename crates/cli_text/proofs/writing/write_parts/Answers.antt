use Rattle.std.proofs.Common.{◌++◌, ap, ◌∙◌}
use Rattle.std.specs.Io.KnownBytes.{append_known}
use Rattle.cli_text.proofs.Fronts.{append_known-append, front_first, front_second}
use Rattle.cli_text.proofs.writing.write_parts.Goals as goal

pub returns-in_err-write_all-clause-front : goal.returns-in_err-write_all-clause-front
returns-in_err-write_all-clause-front g c =
    front_first _ _ (c.args.first.now ++ c.args.second.now) c.args.third.now (front_first _ _ c.args.first.now c.args.second.now c.in_err-write_all.ensures.front)

pub returns-in_err-write_all-2-clause-front : goal.returns-in_err-write_all-2-clause-front
returns-in_err-write_all-2-clause-front g c =
    front_first _ _ (c.args.first.now ++ c.args.second.now) c.args.third.now (front_second _ _ _ c.args.first.now c.args.second.now c.in_ok-write_all.ensures.whole c.in_err-write_all-2.ensures.front)

pub returns-clause-front : goal.returns-clause-front
returns-clause-front g c =
    front_second _ _ _ (c.args.first.now ++ c.args.second.now) c.args.third.now (c.in_ok-write_all-2.ensures.whole ∙ ap (λ k. append_known k c.args.second.now) c.in_ok-write_all.ensures.whole ∙ append_known-append _ c.args.first.now c.args.second.now) c.write_all-3.ensures.front
