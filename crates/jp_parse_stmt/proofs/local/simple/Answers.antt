use Rattle.std.proofs.Common.{sym, ◌∙◌}
use Rattle.jp_parse_stmt.proofs.LocalLines.{simple_line, simple_change}
use Rattle.jp_parse_stmt.proofs.local.simple.Goals as goal

pub returns-then-begins_local-clause-gives : goal.returns-then-begins_local-clause-gives
returns-then-begins_local-clause-gives c = simple_line c.args.tokens.now c.local.result (sym c.begins_local.ensures ∙ c.if-begins_local.true) c.local.ensures.gives

pub returns-clause-gives : goal.returns-clause-gives
returns-clause-gives c = simple_change c.args.tokens.now c.line_change.result (sym c.begins_local.ensures ∙ c.if-begins_local.false) c.line_change.ensures.gives
