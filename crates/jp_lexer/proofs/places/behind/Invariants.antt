use Rattle.std.proofs.Common.{◌≡◌, drop}
use Rattle.jp_lexical.specs.Places.{behind}
use Rattle.jp_lexer.proofs.places.behind.Given as goal

abbrev pub invariant-loop-b : goal.invariant-loop-b
invariant-loop-b l = behind l.place (drop l.b-index l.bytes) ≡ behind l.fn.start l.bytes
