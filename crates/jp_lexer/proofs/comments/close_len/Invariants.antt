use Rattle.std.proofs.Common.{◌≡◌, ◌+◌, drop}
use Rattle.std.specs.Prelude.{option_map}
use Rattle.jp_lexer.specs.Scanning.{close_len}
use Rattle.jp_lexer.proofs.comments.close_len.Given as goal

abbrev pub invariant-loop-i : goal.invariant-loop-i
invariant-loop-i l = option_map (λ n. l.i + n) (close_len (drop l.i l.text)) ≡ close_len l.text
