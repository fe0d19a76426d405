use Rattle.std.proofs.Common.{List, Ok, Err, sym, ◌∙◌, subst, arith}
use Rattle.std.proofs.lemmas.Result.{err_from_is_err_and}
use Rattle.jp_ast.specs.declared.decl.Member.{Member}
use Rattle.jp_ast.specs.declared.sign.TheConstants as sign
use Rattle.jp_grammar.specs.Kinds.{IsSign}
use Rattle.jp_grammar.specs.Declarations.{Promises}
use Rattle.jp_parse_stmt.specs.Behind.{anything}
use Rattle.jp_parse_decl.specs.Answers.{Yields}
use Rattle.jp_parse_decl.specs.Bounds.{SmallMembers}
use Rattle.jp_parse_decl.proofs.Tokens.{sign_is, sign_is_no}
use Rattle.jp_parse_decl.proofs.MemberFacts.{promises_found, promises_fails, promises_gives, small_push, promise_shorter}
use Rattle.jp_parse_decl.proofs.body.promises.Goals as goal

pub list-smaller : goal.list-smaller
list-smaller c =
    promise_shorter c.list.left.now c.in_ok-member.behind.now c.in_ok-member.member c.in_ok-member.ensures.gives.0

pub returns-then-is_sign-clause-gives : goal.returns-then-is_sign-clause-gives
returns-then-is_sign-clause-gives c =
    c.list.invariant.whole (Ok (c.list.members, c.front.result.1)) (promises_found c.list.members c.front.result.0.now c.front.result.1.now c.list.left.now c.front.ensures.split (sign_is sign.CLOSE_BRACE c.front.result.0.now (sym c.is_sign.ensures ∙ c.if-is_sign.true)), c.list.invariant.small)

pub returns-in_err-member-clause-gives : goal.returns-in_err-member-clause-gives
returns-in_err-member-clause-gives c =
    let other : IsSign sign.CLOSE_BRACE c.front.result.0.now → ⊥ = sign_is_no sign.CLOSE_BRACE c.front.result.0.now (sym c.is_sign.ensures ∙ c.if-is_sign.false) in
    let p = err_from_is_err_and c.from_residual.result c.from_residual.ensures.1 in
    rw (p.1, p.2) (c.list.invariant.whole (Err c.in_err-member.field-0.0) (promises_fails c.list.members c.front.result.0.now c.front.result.1.now c.list.left.now c.front.ensures.split c.list.invariant.small other c.in_err-member.field-0.0 c.in_err-member.ensures.gives))

pub list-preserved : goal.list-preserved
list-preserved c =
    let other : IsSign sign.CLOSE_BRACE c.front.result.0.now → ⊥ = sign_is_no sign.CLOSE_BRACE c.front.result.0.now (sym c.is_sign.ensures ∙ c.if-is_sign.false) in
    let i = c.list.invariant in
    let g = c.in_ok-member.ensures.gives in
    let d = small_push c.list.members c.in_ok-member.member in
    record {
      rest = (c.in_ok-member.ensures.rest.0, omega (arith, i.rest.1, c.in_ok-member.ensures.rest.1));
      small = subst (λ (x : List Member). SmallMembers x) (sym c.in_ok-push.ensures.ok) (omega (arith, d, i.small, g.1));
      whole = λ r f. i.whole r (promises_gives c.list.members c.front.result.0.now c.front.result.1.now c.list.left.now c.front.ensures.split i.small other c.in_ok-member.member c.in_ok-member.behind.now r g.0
          (subst (λ (x : List Member). Yields (Promises x) anything SmallMembers c.in_ok-member.behind.now r) c.in_ok-push.ensures.ok f));
    }
