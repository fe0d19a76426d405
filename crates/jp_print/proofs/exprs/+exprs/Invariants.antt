use Rattle.std.proofs.Common.{◌≡◌, ◌++◌, map, take}
use Rattle.jp_print.specs.Layout.{laid_out}
use Rattle.jp_print.specs.Expressions.{listed, printed_expr}
use Rattle.jp_print.proofs.exprs.+exprs.Given as goal

-- the arguments so far
abbrev pub invariant-put_each_arg-loop-place : goal.invariant-put_each_arg-loop-place
invariant-put_each_arg-loop-place l = l.out.items ≡ l.initial.out.items ++ laid_out (listed (map printed_expr (take l.place l.args)))
