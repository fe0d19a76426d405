use Rattle.std.proofs.Common.{◌≡◌, ◌++◌, take}
use Rattle.std.specs.Prelude.{flat_map}
use Rattle.jp_lexical.specs.Tokens.{written}
use Rattle.jp_print.proofs.tokens.put_text.Given as goal

-- the letters so far
abbrev pub invariant-loop-b : goal.invariant-loop-b
invariant-loop-b l = l.out.items ≡ l.initial.out.items ++ flat_map written (take l.b-index l.value)
