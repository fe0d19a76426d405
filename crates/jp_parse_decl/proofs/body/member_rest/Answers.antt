use Rattle.std.proofs.Common.{◌≡◌, true, false, sym, ◌∙◌, arith}
use Rattle.jp_ast.specs.declared.sign.TheConstants as sign
use Rattle.jp_grammar.specs.Kinds.{IsSign}
use Rattle.jp_parse_decl.proofs.Tokens.{sign_is, sign_is_no}
use Rattle.jp_parse_decl.proofs.MemberFacts.{field_found, rest_gives}
use Rattle.jp_parse_decl.specs.Parts.{is_void}
use Rattle.jp_parse_decl.proofs.body.member_rest.Goals.{else-is_sign-via-then-is_sign+else-not-is_void, else-is_sign-via-else-is_sign}
use Rattle.jp_parse_decl.proofs.body.member_rest.Goals as goal

pub returns-then-not-is_void-clause-gives : goal.returns-then-not-is_void-clause-gives
returns-then-not-is_void-clause-gives c =
    rw (c.made.ensures, c.new.ensures) (field_found c.args.is_private c.args.is_static c.args.ty c.args.label c.front.result.0.now c.front.result.1.now c.args.tokens.now c.front.ensures.split (sym c.is_void.ensures ∙ c.if-not-is_void.true) (sign_is sign.SEMICOLON c.front.result.0.now (sym c.is_sign.ensures ∙ c.if-is_sign.true)), omega arith)

pub returns-then-is_static-clause-gives : goal.returns-then-is_static-clause-gives
returns-then-is_static-clause-gives c =
    let other : is_void c.args.ty ≡ false → IsSign sign.SEMICOLON c.front.result.0.now → ⊥ = elim c.else-is_sign.branch [
      | else-is_sign-via-then-is_sign+else-not-is_void w ↦ λ v h. let a = w.is_void.ensures in let b = w.if-not-is_void.false in cc
      | else-is_sign-via-else-is_sign w ↦ λ v h. sign_is_no sign.SEMICOLON c.front.result.0.now (sym c.is_sign.ensures ∙ w.if-is_sign.false) h
    ] in
    rw c.if-is_static.true (rest_gives c.args.is_private true c.args.ty c.args.label c.front.result.0.now c.front.result.1.now c.args.tokens.now c.front.ensures.split c.static_rest.result other c.static_rest.ensures.gives)

pub returns-clause-gives : goal.returns-clause-gives
returns-clause-gives c =
    let other : is_void c.args.ty ≡ false → IsSign sign.SEMICOLON c.front.result.0.now → ⊥ = elim c.else-is_sign.branch [
      | else-is_sign-via-then-is_sign+else-not-is_void w ↦ λ v h. let a = w.is_void.ensures in let b = w.if-not-is_void.false in cc
      | else-is_sign-via-else-is_sign w ↦ λ v h. sign_is_no sign.SEMICOLON c.front.result.0.now (sym c.is_sign.ensures ∙ w.if-is_sign.false) h
    ] in
    rw c.if-is_static.false (rest_gives c.args.is_private false c.args.ty c.args.label c.front.result.0.now c.front.result.1.now c.args.tokens.now c.front.ensures.split c.body_rest.result other c.body_rest.ensures.gives)
