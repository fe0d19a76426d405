use Rattle.jp_parse_decl.proofs.MemberFacts.{promise_gives}
use Rattle.jp_parse_decl.proofs.body.promise.Goals as goal

pub returns-clause-gives : goal.returns-clause-gives
returns-clause-gives c =
    promise_gives c.args.tokens.now c.skip_public.result.now c.skip_abstract-rest.result.now c.pledge.result c.skip_public.ensures.skips c.skip_abstract-rest.ensures.skips c.pledge.ensures.gives
