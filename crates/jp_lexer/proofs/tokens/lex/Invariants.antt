use Rattle.std.proofs.Common.{List, ◌++◌, length}
use Rattle.jp_ast.specs.declared.token.Token.{Token}
use Rattle.jp_lexical.specs.declared.fault.LexFault.{LexFault}
use Rattle.jp_lexical.specs.Lexed.{LexedFrom, FaultFrom, Lexed, FirstFault}
use Rattle.jp_lexer.proofs.tokens.lex.Given as goal

abbrev pub invariant-loop-rest : goal.invariant-loop-rest
invariant-loop-rest l = record {
  whole : (tokens : List Token) → LexedFrom l.place l.rest tokens → Lexed l.fn.text (l.tokens.items ++ tokens);
  fault : (fault : LexFault) → FaultFrom l.place l.rest fault → FirstFault l.fn.text fault;
}

abbrev pub decreases-loop-rest : goal.decreases-loop-rest
decreases-loop-rest l = length l.rest
