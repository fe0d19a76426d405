use Rattle.std.proofs.Common.{◌≡◌, ◌++◌, map, take}
use Rattle.jp_print.specs.Layout.{laid_out}
use Rattle.jp_print.specs.Statements.{all_tokens, printed_stmt}
use Rattle.jp_print.proofs.stmts.+stmts.Given as goal

-- the statements so far
abbrev pub invariant-put_all-loop-stmt : goal.invariant-put_all-loop-stmt
invariant-put_all-loop-stmt l = l.out.items ≡ l.initial.out.items ++ laid_out (all_tokens (map printed_stmt (take l.stmt-index l.block)))
