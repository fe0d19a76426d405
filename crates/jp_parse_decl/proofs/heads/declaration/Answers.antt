use Rattle.jp_parse_decl.proofs.HeadFacts.{decl_gives}
use Rattle.jp_parse_decl.proofs.heads.declaration.Goals as goal

pub returns-clause-gives : goal.returns-clause-gives
returns-clause-gives c =
    decl_gives c.args.tokens.now c.skip_public-rest.result.now c.declared.result c.skip_public-rest.ensures.skips c.declared.ensures.gives
