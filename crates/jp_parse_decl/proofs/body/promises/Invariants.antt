use Rattle.std.proofs.Common.{List, [], length}
use Rattle.jp_grammar.specs.Declarations.{Promises}
use Rattle.jp_grammar.specs.Reading.{IsRest}
use Rattle.jp_ast.specs.declared.decl.Member.{Member}
use Rattle.jp_parse_stmt.specs.Behind.{anything}
use Rattle.jp_parse_decl.specs.Answers.{Yields}
use Rattle.jp_parse_decl.specs.Bounds.{SmallMembers}
use Rattle.jp_parse_decl.proofs.Links.{Answer}
use Rattle.jp_parse_decl.proofs.body.promises.Given as goal

-- whatever is given for what is left is given for the whole, and no tree so far is too deep
abbrev pub invariant-list : goal.invariant-list
invariant-list l = record {
  rest : IsRest l.fn.tokens l.left;
  small : SmallMembers l.members;
  whole : (r : Answer (List Member)) → Yields (Promises l.members) anything SmallMembers l.left r → Yields (Promises []) anything SmallMembers l.fn.tokens r;
}

abbrev pub decreases-list : goal.decreases-list
decreases-list l = length l.left
