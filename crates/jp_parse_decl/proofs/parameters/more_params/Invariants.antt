use Rattle.std.proofs.Common.{List, length}
use Rattle.jp_grammar.specs.Declarations.{MoreParams}
use Rattle.jp_grammar.specs.Reading.{Any, IsRest}
use Rattle.jp_ast.specs.declared.decl.Param.{Param}
use Rattle.jp_parse_stmt.specs.Behind.{anything}
use Rattle.jp_parse_decl.specs.Answers.{Yields}
use Rattle.jp_parse_decl.proofs.Links.{Answer}
use Rattle.jp_parse_decl.proofs.parameters.more_params.Given as goal

-- whatever is given for what is left is given for the whole
abbrev pub invariant-list : goal.invariant-list
invariant-list l = record {
  rest : IsRest l.initial.tokens l.tokens;
  whole : (r : Answer (List Param)) → Yields (MoreParams l.params) anything Any l.tokens r → Yields (MoreParams l.initial.params) anything Any l.initial.tokens r;
}

abbrev pub decreases-list : goal.decreases-list
decreases-list l = length l.tokens
