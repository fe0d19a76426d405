use Rattle.std.proofs.Common.{◌≡◌, ℕ, List, [], ◌∷◌, ◌++◌, subst}
use Rattle.std.proofs.lemmas.Result.{err_from_is_err_and}
use Rattle.jp_grammar.specs.Declarations.{MoreNames}
use Rattle.jp_grammar.specs.Reading.{Any}
use Rattle.jp_parse_decl.specs.Answers.{Yields}
use Rattle.jp_parse_decl.specs.Behind.{ends_brace}
use Rattle.jp_parse_decl.proofs.HeadFacts.{at_fails, at_gives}
use Rattle.jp_parse_decl.proofs.heads.names.Goals as goal

pub returns-in_err-first-clause-gives : goal.returns-in_err-first-clause-gives
returns-in_err-first-clause-gives c =
    let p = err_from_is_err_and c.from_residual.result c.from_residual.ensures.1 in
    rw (p.1, p.2) (at_fails c.args.tokens.now c.in_err-first.field-0.0 c.in_err-first.ensures.gives)

pub returns-clause-gives : goal.returns-clause-gives
returns-clause-gives c =
    let pushed : c.push.new.self ≡ [] ++ c.in_ok-first.first.name ∷ [] = cc (c.in_ok-push.ensures.ok) in
    at_gives c.args.tokens.now c.in_ok-first.rest.now c.in_ok-first.first c.more_names.result c.in_ok-first.ensures.gives.0
    (subst (λ (x : List (List ℕ)). Yields (MoreNames x) ends_brace Any c.in_ok-first.rest.now c.more_names.result) pushed c.more_names.ensures.gives)
