use Rattle.std.proofs.lemmas.List.{take_rest}
use Rattle.jp_parse_decl.proofs.Tokens.{text_drop, drop_short}
use Rattle.jp_parse_decl.proofs.lower.block.Goals as goal

pub returns-clause-rest : goal.returns-clause-rest
returns-clause-rest c =
    rw take_rest (text_drop c.in_ok-block.end c.args.tokens.now c.requires.text c.in_ok-block.ensures.2, drop_short c.in_ok-block.end c.args.tokens.now)
