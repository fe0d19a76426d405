use Rattle.std.proofs.Common.{◌≡◌, ◌++◌, map, take}
use Rattle.jp_print.specs.Layout.{laid_out}
use Rattle.jp_print.specs.Expressions.{commas}
use Rattle.jp_print.specs.Declarations.{param_tokens}
use Rattle.jp_print.proofs.decls.put_params.Given as goal

-- the parameters so far
abbrev pub invariant-loop-place : goal.invariant-loop-place
invariant-loop-place l = l.out.items ≡ l.initial.out.items ++ laid_out (commas (map param_tokens (take l.place l.params)))
