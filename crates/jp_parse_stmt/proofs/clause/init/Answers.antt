use Rattle.std.proofs.Common.{sym, ◌∙◌}
use Rattle.jp_parse_stmt.proofs.Inits.{init_line, init_changed}
use Rattle.jp_parse_stmt.proofs.clause.init.Goals as goal

pub returns-then-begins_local-clause-gives : goal.returns-then-begins_local-clause-gives
returns-then-begins_local-clause-gives c = init_line c.args.tokens.now c.valued_line.result (sym c.begins_local.ensures ∙ c.if-begins_local.true) c.valued_line.ensures.gives

pub returns-clause-gives : goal.returns-clause-gives
returns-clause-gives c = init_changed c.args.tokens.now c.line_change.result (sym c.begins_local.ensures ∙ c.if-begins_local.false) c.line_change.ensures.gives
