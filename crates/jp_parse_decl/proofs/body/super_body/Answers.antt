use Rattle.std.proofs.Common.{sym, ◌∙◌}
use Rattle.jp_ast.specs.declared.sign.TheConstants as sign
use Rattle.jp_parse_decl.proofs.Tokens.{sign_is, sign_is_no, super_is}
use Rattle.jp_parse_decl.proofs.ConstructorFacts.{super_gives, call_gives}
use Rattle.jp_parse_decl.proofs.body.super_body.Goals as goal

pub returns-then-is_sign-clause-gives : goal.returns-then-is_sign-clause-gives
returns-then-is_sign-clause-gives c =
    super_gives c.front.result.0.now c.front-2.result.0.now c.front-2.result.1.now c.front.result.1.now c.args.tokens.now c.front.ensures.split c.front-2.ensures.split (super_is c.front.result.0.now c.front.result.1.now c.args.tokens.now c.front.ensures.split c.requires.begins) c.constructor_args.result (sign_is sign.OPEN_PAREN c.front-2.result.0.now (sym c.is_sign.ensures ∙ c.if-is_sign.true)) c.constructor_args.ensures.gives

pub returns-clause-gives : goal.returns-clause-gives
returns-clause-gives c =
    call_gives c.front.result.0.now c.front-2.result.0.now c.front-2.result.1.now c.front.result.1.now c.args.tokens.now c.front.ensures.split c.front-2.ensures.split (super_is c.front.result.0.now c.front.result.1.now c.args.tokens.now c.front.ensures.split c.requires.begins) c.bare.result (sign_is_no sign.OPEN_PAREN c.front-2.result.0.now (sym c.is_sign.ensures ∙ c.if-is_sign.false)) c.bare.ensures.gives
