use Rattle.std.proofs.Common.{List, [], length}
use Rattle.jp_grammar.specs.Reading.{IsRest}
use Rattle.jp_ast.specs.declared.decl.Decl.{Decl}
use Rattle.jp_parse_decl.specs.Answers.{Yields}
use Rattle.jp_parse_decl.specs.Behind.{ends_end}
use Rattle.jp_parse_decl.specs.Bounds.{SmallDecls}
use Rattle.jp_parse_decl.proofs.Links.{Answer}
use Rattle.jp_parse_decl.proofs.UnitFacts.{AtLeast}
use Rattle.jp_parse_decl.proofs.unit.declarations.Given as goal

-- whatever is given for what is left is given for the whole, and no tree so far is too deep
abbrev pub invariant-list : goal.invariant-list
invariant-list l = record {
  rest : IsRest l.fn.tokens l.left;
  small : SmallDecls l.decls;
  whole : (r : Answer (List Decl)) → Yields (AtLeast l.decls) ends_end SmallDecls l.left r → Yields (AtLeast []) ends_end SmallDecls l.fn.tokens r;
}

abbrev pub decreases-list : goal.decreases-list
decreases-list l = length l.left
