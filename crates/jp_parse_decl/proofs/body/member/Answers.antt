use Rattle.std.proofs.Common.{◌∙◌, arith}
use Rattle.std.proofs.lemmas.Grind.{common_steps}
use Rattle.jp_grammar.specs.declared.kind.Kind.TheVariants as k
use Rattle.jp_grammar.specs.Kinds.{Is}
use Rattle.jp_parse_decl.proofs.MemberFacts.{public_gives, private_gives, default_gives}
use Rattle.jp_parse_decl.proofs.body.member.Goals as goal

pub returns-in-Public-clause-gives : goal.returns-in-Public-clause-gives
returns-in-Public-clause-gives c =
    let h : Is k.Public c.front.result.0.now = grind (arith, common_steps) in
    public_gives c.front.result.0.now c.front.result.1.now c.args.tokens.now c.front.ensures.split c.member_body.result h c.member_body.ensures.gives

pub returns-in-Private-clause-gives : goal.returns-in-Private-clause-gives
returns-in-Private-clause-gives c =
    let h : Is k.Private c.front.result.0.now = grind (arith, common_steps) in
    private_gives c.front.result.0.now c.front.result.1.now c.args.tokens.now c.front.ensures.split c.member_body-in-Private.result h c.member_body-in-Private.ensures.gives

pub returns-in_default-clause-gives : goal.returns-in_default-clause-gives
returns-in_default-clause-gives c =
    default_gives c.front.result.0.now c.front.result.1.now c.args.tokens.now c.front.ensures.split c.member_body-in_default.result (λ h. c.in_default.not-Public (c.kind_of.ensures ∙ h)) (λ h. c.in_default.not-Private (c.kind_of.ensures ∙ h)) c.member_body-in_default.ensures.gives
