use Rattle.std.proofs.Common.{◌≡◌, ◌+◌, drop, false}
use Rattle.std.specs.Prelude.{option_map}
use Rattle.jp_lexer.specs.Scanning.{text_len}
use Rattle.jp_lexer.proofs.texts.text_len.Given as goal

abbrev pub invariant-loop-i : goal.invariant-loop-i
invariant-loop-i l = option_map (λ n. l.i + n) (text_len l.escaped (drop l.i l.text)) ≡ text_len false l.text
