use Rattle.std.proofs.Common.{◌≡◌, ◌++◌, drop, false}
use Rattle.jp_lexer.specs.Scanning.{letters_of}
use Rattle.jp_lexer.proofs.texts.letters_of.Given as goal

abbrev pub invariant-loop-b : goal.invariant-loop-b
invariant-loop-b l = l.letters.items ++ letters_of l.escaped (drop l.b-index l.inside) ≡ letters_of false l.inside
