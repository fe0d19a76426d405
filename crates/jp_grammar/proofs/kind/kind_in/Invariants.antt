use Rattle.std.proofs.Common.{◌≡◌, map, drop}
use Rattle.jp_grammar.specs.Kinds.{kind_in, row_of}
use Rattle.jp_grammar.proofs.kind.kind_in.Given as goal

-- the rows that were passed are not the word's
abbrev pub invariant-loop-entry : goal.invariant-loop-entry
invariant-loop-entry l = kind_in (map row_of l.table) l.word ≡ kind_in (map row_of (drop l.entry-index l.table)) l.word
