use Rattle.std.proofs.Common.{◌≡◌, ℕ, ◌+◌, ◌*◌, List, [], length, Result}
use Rattle.std.specs.Borrow.{Bor}
use Rattle.jp_ast.specs.declared.stmt.Stmt.{Stmt}
use Rattle.jp_grammar.specs.declared.fault.ParseFault.{ParseFault}
use Rattle.jp_grammar.specs.Kinds.{Tokens}
use Rattle.jp_grammar.specs.Reading.{IsRest}
use Rattle.jp_grammar.specs.Statements.{Block}
use Rattle.jp_parse_stmt.specs.Behind.{anything}
use Rattle.jp_parse_stmt.specs.Forms.{SmallAll}
use Rattle.jp_parse_stmt.specs.Parts.{Gets}
use Rattle.jp_parse_stmt.proofs.block.+stmt.Given as goal

-- Each call has a smaller budget, or goes to a function of a lower number: so calls stand at most 6 * 201 deep.
abbrev pub decreases-otherwise : goal.decreases-otherwise
decreases-otherwise l = 6 * l.most

abbrev pub decreases-braced : goal.decreases-braced
decreases-braced l = 6 * l.most

abbrev pub decreases-repeat : goal.decreases-repeat
decreases-repeat l = 6 * l.most

abbrev pub decreases-count : goal.decreases-count
decreases-count l = 6 * l.most

abbrev pub decreases-branches : goal.decreases-branches
decreases-branches l = 6 * l.most + 1

abbrev pub decreases-signed : goal.decreases-signed
decreases-signed l = 6 * l.most + 1

abbrev pub decreases-when : goal.decreases-when
decreases-when l = 6 * l.most + 2

abbrev pub decreases-stmt : goal.decreases-stmt
decreases-stmt l = 6 * l.most + 3

abbrev pub decreases-block : goal.decreases-block
decreases-block l = 6 * l.most + 4

-- whatever is given for what is left is given for the whole, and no statement so far is too deep
abbrev pub invariant-block-each : goal.invariant-block-each
invariant-block-each l = record {
  rest : IsRest l.tokens l.left;
  small : SmallAll l.most l.list;
  whole : (r : Result (List Stmt × Bor Tokens) ParseFault) → Gets (Block l.list) anything (SmallAll l.most) l.left r → Gets (Block []) anything (SmallAll l.most) l.tokens r;
}

abbrev pub decreases-block-each : goal.decreases-block-each
decreases-block-each l = length l.left
