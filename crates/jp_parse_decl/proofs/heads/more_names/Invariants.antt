use Rattle.std.proofs.Common.{ℕ, List, length}
use Rattle.jp_grammar.specs.Declarations.{MoreNames}
use Rattle.jp_grammar.specs.Reading.{Any, IsRest}
use Rattle.jp_parse_decl.specs.Answers.{Yields}
use Rattle.jp_parse_decl.specs.Behind.{ends_brace}
use Rattle.jp_parse_decl.proofs.Links.{Answer}
use Rattle.jp_parse_decl.proofs.heads.more_names.Given as goal

-- whatever is given for what is left is given for the whole
abbrev pub invariant-list : goal.invariant-list
invariant-list l = record {
  rest : IsRest l.initial.tokens l.tokens;
  whole : (r : Answer (List (List ℕ))) → Yields (MoreNames l.names) ends_brace Any l.tokens r → Yields (MoreNames l.initial.names) ends_brace Any l.initial.tokens r;
}

abbrev pub decreases-list : goal.decreases-list
decreases-list l = length l.tokens
