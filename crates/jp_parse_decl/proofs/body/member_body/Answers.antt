use Rattle.std.proofs.Common.{◌∙◌, arith}
use Rattle.std.proofs.lemmas.Grind.{common_steps}
use Rattle.jp_grammar.specs.declared.kind.Kind.TheVariants as k
use Rattle.jp_grammar.specs.Kinds.{Is}
use Rattle.jp_parse_decl.proofs.MemberFacts.{abstract_gives, static_gives, plain_gives}
use Rattle.jp_parse_decl.proofs.body.member_body.Goals as goal

pub returns-in-Abstract-clause-gives : goal.returns-in-Abstract-clause-gives
returns-in-Abstract-clause-gives c =
    let h : Is k.Abstract c.front.result.0.now = grind (arith, common_steps) in
    abstract_gives c.args.is_private c.front.result.0.now c.front.result.1.now c.args.tokens.now c.front.ensures.split c.pledge.result h c.pledge.ensures.gives

pub returns-in-Static-clause-gives : goal.returns-in-Static-clause-gives
returns-in-Static-clause-gives c =
    let h : Is k.Static c.front.result.0.now = grind (arith, common_steps) in
    static_gives c.args.is_private c.front.result.0.now c.front.result.1.now c.args.tokens.now c.front.ensures.split c.titled.result h c.titled.ensures.gives

pub returns-in_default-clause-gives : goal.returns-in_default-clause-gives
returns-in_default-clause-gives c =
    plain_gives c.args.is_private c.front.result.0.now c.front.result.1.now c.args.tokens.now c.front.ensures.split c.titled-in_default.result (record { no_abstract = λ h. c.in_default.not-Abstract (c.kind_of.ensures ∙ h); no_static = λ h. c.in_default.not-Static (c.kind_of.ensures ∙ h) }) (λ h. c.in_default.not-Name (c.kind_of.ensures ∙ h)) c.titled-in_default.ensures.gives
