use Rattle.std.proofs.Common.{ℕ, List, refl, sym, subst, arith}
use Rattle.std.proofs.lemmas.Grind.{common_steps}
use Rattle.jp_grammar.specs.declared.kind.Kind.TheVariants as k
use Rattle.jp_grammar.specs.Kinds.{Is}
use Rattle.jp_grammar.specs.Declarations.{MaybeNames}
use Rattle.jp_grammar.specs.Reading.{Found}
use Rattle.jp_parse_decl.specs.Behind.{ends_brace}
use Rattle.jp_parse_decl.proofs.HeadFacts.{names_none, names_given}
use Rattle.jp_parse_decl.proofs.heads.implemented.Goals as goal

pub returns-then-ne-clause-gives : goal.returns-then-ne-clause-gives
returns-then-ne-clause-gives c =
    let other : Is k.Implements c.front.result.0.now → ⊥ = grind (arith, common_steps) in
    (subst (λ (x : List (List ℕ)). Found (MaybeNames k.Implements) (λ _. ends_brace) c.args.tokens.now x c.args.tokens.now) (sym c.new.ensures) (names_none k.Implements refl c.front.result.0.now c.front.result.1.now c.args.tokens.now c.front.ensures.split other), tt)

pub returns-clause-gives : goal.returns-clause-gives
returns-clause-gives c =
    let h : Is k.Implements c.front.result.0.now = grind (arith, common_steps) in
    names_given k.Implements refl c.front.result.0.now c.front.result.1.now c.args.tokens.now c.front.ensures.split c.names.result h c.names.ensures.gives
