use Rattle.std.proofs.Common.{◌≡◌, ℕ, suc, ◌+◌, ◌-◌, ◌<◌, ◌≤◌, Bool, List, [], ◌∷◌, ◌++◌, length, true, false, IsTrue, Ok, Err, Some, None, inl, inr, refl, sym, ap, ◌∙◌, subst, rules, arith}
use Rattle.std.proofs.lemmas.Result.{err_from_is_err_and}
use Rattle.std.proofs.lemmas.Grind.{common_steps}
use Rattle.jp_ast.specs.declared.token.Token.{Token}
use Rattle.jp_ast.specs.declared.stmt.Stmt.{Stmt}
use Rattle.jp_ast.specs.declared.sign.TheConstants as sign
use Rattle.jp_grammar.specs.declared.kind.Kind.{Kind}
use Rattle.jp_grammar.specs.declared.kind.Kind.TheVariants as k
use Rattle.jp_grammar.specs.Kinds.{Is, IsSign, Tokens, kind_of_token}
use Rattle.jp_grammar.specs.Statements.{Block}
use Rattle.jp_parse_expr.proofs.Signs.{sign_is, sign_is_no}
use Rattle.jp_parse_stmt.specs.Behind.{anything}
use Rattle.jp_parse_stmt.specs.Forms.{BeginsWith, OneStmt, Formed, SmallAll}
use Rattle.jp_parse_stmt.specs.Parts.{Gets}
use Rattle.jp_parse_stmt.proofs.StmtBare.{when_deep, while_deep, for_deep}
use Rattle.jp_parse_stmt.proofs.StmtBlocks.{block_found, block_fails, block_gives, small_push, stmt_less, braced_fails, braced_gives}
use Rattle.jp_parse_stmt.proofs.StmtEnds.{simple_gives}
use Rattle.jp_parse_stmt.proofs.StmtLoops.{while_begun, while_fails, while_gives, loop_begun, loop_fails, loop_gives}
use Rattle.jp_parse_stmt.proofs.StmtSigns.{plain_other, plain_sign, brace_gives, empty_gives}
use Rattle.jp_parse_stmt.proofs.StmtParts.{form_gives, tested_fails, tested_gives, branch_fails, branch_gives, else_none, else_fails, else_gives}
use Rattle.jp_parse_stmt.proofs.block.+stmt.Goals as goal

-- ---- block

pub block-each-smaller : goal.block-each-smaller
block-each-smaller t c = stmt_less c.args.most c.in_ok-tree.tree c.each.left.now c.in_ok-tree.behind c.in_ok-tree.ensures.rest.0 c.in_ok-tree.ensures.gives

pub block-returns-then-is_sign-clause-gives : goal.block-returns-then-is_sign-clause-gives
block-returns-then-is_sign-clause-gives t c =
    c.each.invariant.whole (Ok (c.each.list, c.front.result.1)) (block_found c.args.most c.each.list c.front.result.0.now c.front.result.1.now c.each.left.now c.front.ensures.split (sign_is sign.CLOSE_BRACE c.front.result.0.now (sym c.is_sign.ensures ∙ c.if-is_sign.true)), c.each.invariant.small)

pub block-returns-in_err-tree-clause-gives : goal.block-returns-in_err-tree-clause-gives
block-returns-in_err-tree-clause-gives t c =
    let other : IsSign sign.CLOSE_BRACE c.front.result.0.now → ⊥ = sign_is_no sign.CLOSE_BRACE c.front.result.0.now (sym c.is_sign.ensures ∙ c.if-is_sign.false) in
    let p = err_from_is_err_and c.from_residual.result c.from_residual.ensures.1 in
    rw (p.1, p.2) (c.each.invariant.whole (Err c.in_err-tree.field-0.0) (block_fails c.args.most c.each.list c.front.result.0.now c.front.result.1.now c.each.left.now c.front.ensures.split c.each.invariant.small other c.in_err-tree.field-0.0 c.in_err-tree.ensures.gives))

pub block-each-preserved : goal.block-each-preserved
block-each-preserved t c =
    let other : IsSign sign.CLOSE_BRACE c.front.result.0.now → ⊥ = sign_is_no sign.CLOSE_BRACE c.front.result.0.now (sym c.is_sign.ensures ∙ c.if-is_sign.false) in
    let i = c.each.invariant in
    let g = c.in_ok-tree.ensures.gives in
    let grown : c.push.new.self ≡ c.each.list ++ c.in_ok-tree.tree ∷ [] = c.in_ok-push.ensures.ok ∙ ap (λ (x : Stmt). c.each.list ++ x ∷ []) c.into_inner-one.ensures in
    record {
      rest = (c.in_ok-tree.ensures.rest.0, omega (arith, i.rest.1, c.in_ok-tree.ensures.rest.1));
      small = subst (λ (x : List Stmt). SmallAll c.args.most x) (sym grown) (small_push c.args.most c.each.list c.in_ok-tree.tree i.small g.2.0 g.2.1);
      whole = λ r f. i.whole r (block_gives c.args.most c.each.list c.front.result.0.now c.front.result.1.now c.each.left.now c.front.ensures.split i.small other c.in_ok-tree.tree c.in_ok-tree.behind r g
          (subst (λ (x : List Stmt). Gets (Block x) anything (SmallAll c.args.most) c.in_ok-tree.behind.now r) grown f));
    }

-- ---- braced

pub braced-returns-in_err-list-clause-gives : goal.braced-returns-in_err-list-clause-gives
braced-returns-in_err-list-clause-gives t c =
    let p = err_from_is_err_and c.from_residual.result c.from_residual.ensures.1 in
    rw (p.1, p.2) (braced_fails c.args.place c.args.most c.requires.room c.args.tokens.now c.in_err-list.field-0.0 c.in_err-list.ensures.gives)

pub braced-returns-clause-gives : goal.braced-returns-clause-gives
braced-returns-clause-gives t c =
    braced_gives c.args.place c.args.most c.requires.room c.in_ok-list.list c.in_ok-tree.tree c.args.tokens.now c.in_ok-list.behind c.in_ok-list.ensures.gives c.in_ok-list.ensures.rest.0 c.in_ok-tree.ensures

-- ---- branches

pub branches-returns-in_err-yes-clause-gives : goal.branches-returns-in_err-yes-clause-gives
branches-returns-in_err-yes-clause-gives t c =
    let p = err_from_is_err_and c.from_residual.result c.from_residual.ensures.1 in
    rw (p.1, p.2) (branch_fails c.args.place c.args.test c.args.most c.requires.test c.requires.room c.args.tokens.now c.in_err-yes.field-0.0 c.in_err-yes.ensures.gives)

pub branches-returns-clause-gives : goal.branches-returns-clause-gives
branches-returns-clause-gives t c =
    branch_gives c.args.place c.args.test c.args.most c.requires.test c.requires.room c.in_ok-yes.yes c.args.tokens.now c.in_ok-yes.behind c.otherwise.result c.in_ok-yes.ensures.gives c.otherwise.ensures.gives

-- ---- otherwise

pub otherwise-returns-in_err-no-in-Else-clause-gives : goal.otherwise-returns-in_err-no-in-Else-clause-gives
otherwise-returns-in_err-no-in-Else-clause-gives t c =
    let p = err_from_is_err_and c.from_residual.result c.from_residual.ensures.1 in
    let h : Is k.Else c.front.result.0.now = sym c.kind_of-kind.ensures ∙ c.in-Else.is in
    rw (p.1, p.2) (else_fails c.args.place c.args.test c.args.most c.requires.test c.requires.room c.args.yes c.front.result.0.now c.front.result.1.now c.args.tokens.now c.in_err-no-in-Else.field-0.0 c.requires.depth c.requires.deepest c.front.ensures.split h c.in_err-no-in-Else.ensures.gives)

pub otherwise-returns-in_ok-tree-in-Else-clause-gives : goal.otherwise-returns-in_ok-tree-in-Else-clause-gives
otherwise-returns-in_ok-tree-in-Else-clause-gives t c =
    let h : Is k.Else c.front.result.0.now = sym c.kind_of-kind.ensures ∙ c.in-Else.is in
    else_gives c.args.place c.args.test c.args.most c.requires.test c.requires.room c.args.yes c.in_ok-no-in-Else.no c.in_ok-tree-in-Else.tree c.front.result.0.now c.front.result.1.now c.args.tokens.now c.in_ok-no-in-Else.behind c.requires.depth c.requires.deepest c.front.ensures.split h c.in_ok-no-in-Else.ensures.gives c.in_ok-tree-in-Else.ensures

pub otherwise-returns-in_ok-tree-in_default : goal.otherwise-returns-in_ok-tree-in_default
otherwise-returns-in_ok-tree-in_default t c = record {
  gives = else_none c.args.place c.args.test c.args.most c.requires.test c.requires.room c.args.yes c.in_ok-tree-in_default.tree c.front.result.0.now c.front.result.1.now c.args.tokens.now c.args.tokens c.requires.depth c.requires.deepest c.front.ensures.split (λ h. c.in_default.not-Else (c.kind_of-kind.ensures ∙ h)) refl c.in_ok-tree-in_default.ensures;
  rest = (c.requires.text, omega arith);
}

-- ---- when

pub when-returns-then-most-eq1-clause-gives : goal.when-returns-then-most-eq1-clause-gives
when-returns-then-most-eq1-clause-gives t c = rw c.if-most-eq1.true (when_deep c.args.first.now c.args.tokens.now c.requires.first)

pub when-returns-in_err-test-clause-gives : goal.when-returns-in_err-test-clause-gives
when-returns-in_err-test-clause-gives t c =
    let p = err_from_is_err_and c.from_residual.result c.from_residual.ensures.1 in
    let room : 2 ≤ c.args.most = omega (arith, c.requires.room, c.if-most-eq1.false) in
    rw (p.1, p.2) (form_gives k.If c.args.most c.args.first.now c.args.tokens.now (Err c.in_err-test.field-0.0) c.requires.first (tested_fails c.args.first.now.place c.args.most room c.args.tokens.now c.in_err-test.field-0.0 c.in_err-test.ensures.gives))

pub when-returns-clause-gives : goal.when-returns-clause-gives
when-returns-clause-gives t c =
    let room : 2 ≤ c.args.most = omega (arith, c.requires.room, c.if-most-eq1.false) in
    form_gives k.If c.args.most c.args.first.now c.args.tokens.now c.branches.result c.requires.first (tested_gives c.args.first.now.place c.args.most room c.in_ok-test.test c.args.tokens.now c.in_ok-test.behind.now c.branches.result c.in_ok-test.ensures.gives.0 c.branches.ensures.gives)

-- ---- repeat

pub repeat-returns-then-most-eq1-clause-gives : goal.repeat-returns-then-most-eq1-clause-gives
repeat-returns-then-most-eq1-clause-gives t c = rw c.if-most-eq1.true (while_deep c.args.first.now c.args.tokens.now c.requires.first)

pub repeat-returns-in_err-test-clause-gives : goal.repeat-returns-in_err-test-clause-gives
repeat-returns-in_err-test-clause-gives t c =
    let p = err_from_is_err_and c.from_residual.result c.from_residual.ensures.1 in
    let room : 2 ≤ c.args.most = omega (arith, c.requires.room, c.if-most-eq1.false) in
    rw (p.1, p.2) (form_gives k.While c.args.most c.args.first.now c.args.tokens.now (Err c.in_err-test.field-0.0) c.requires.first (while_begun c.args.first.now.place c.args.most room c.args.tokens.now c.in_err-test.field-0.0 c.in_err-test.ensures.gives))

pub repeat-returns-in_err-body-clause-gives : goal.repeat-returns-in_err-body-clause-gives
repeat-returns-in_err-body-clause-gives t c =
    let p = err_from_is_err_and c.from_residual-in_err-body.result c.from_residual-in_err-body.ensures.1 in
    let room : 2 ≤ c.args.most = omega (arith, c.requires.room, c.if-most-eq1.false) in
    rw (p.1, p.2) (form_gives k.While c.args.most c.args.first.now c.args.tokens.now (Err c.in_err-body.field-0.0) c.requires.first (while_fails c.args.first.now.place c.args.most room c.in_ok-test.test c.args.tokens.now c.in_ok-test.behind c.in_err-body.field-0.0 c.in_ok-test.ensures.gives c.in_err-body.ensures.gives))

pub repeat-returns-clause-gives : goal.repeat-returns-clause-gives
repeat-returns-clause-gives t c =
    let room : 2 ≤ c.args.most = omega (arith, c.requires.room, c.if-most-eq1.false) in
    form_gives k.While c.args.most c.args.first.now c.args.tokens.now (Ok (c.in_ok-tree.tree, c.in_ok-body.rest)) c.requires.first (while_gives c.args.first.now.place c.args.most room c.in_ok-test.test c.in_ok-body.body c.in_ok-tree.tree c.args.tokens.now c.in_ok-test.behind c.in_ok-body.rest c.in_ok-test.ensures.gives c.in_ok-body.ensures.gives c.in_ok-tree.ensures)

-- ---- count

pub count-returns-then-most-eq1-clause-gives : goal.count-returns-then-most-eq1-clause-gives
count-returns-then-most-eq1-clause-gives t c = rw c.if-most-eq1.true (for_deep c.args.first.now c.args.tokens.now c.requires.first)

pub count-returns-in_err-init-clause-gives : goal.count-returns-in_err-init-clause-gives
count-returns-in_err-init-clause-gives t c =
    let p = err_from_is_err_and c.from_residual.result c.from_residual.ensures.1 in
    let room : 2 ≤ c.args.most = omega (arith, c.requires.room, c.if-most-eq1.false) in
    rw (p.1, p.2) (form_gives k.For c.args.most c.args.first.now c.args.tokens.now (Err c.in_err-init.field-0.0) c.requires.first (loop_begun c.args.first.now.place c.args.most room c.args.tokens.now c.in_err-init.field-0.0 c.in_err-init.ensures.gives))

pub count-returns-in_err-body-clause-gives : goal.count-returns-in_err-body-clause-gives
count-returns-in_err-body-clause-gives t c =
    let p = err_from_is_err_and c.from_residual-in_err-body.result c.from_residual-in_err-body.ensures.1 in
    let room : 2 ≤ c.args.most = omega (arith, c.requires.room, c.if-most-eq1.false) in
    rw (p.1, p.2) (form_gives k.For c.args.most c.args.first.now c.args.tokens.now (Err c.in_err-body.field-0.0) c.requires.first (loop_fails c.args.first.now.place c.args.most room (c.in_ok-init.init, c.in_ok-init.test, c.in_ok-init.change) c.args.tokens.now c.in_ok-init.behind c.in_err-body.field-0.0 c.in_ok-init.ensures.gives c.in_err-body.ensures.gives))

pub count-returns-clause-gives : goal.count-returns-clause-gives
count-returns-clause-gives t c =
    let room : 2 ≤ c.args.most = omega (arith, c.requires.room, c.if-most-eq1.false) in
    form_gives k.For c.args.most c.args.first.now c.args.tokens.now (Ok (c.in_ok-tree.tree, c.in_ok-body.rest)) c.requires.first (loop_gives c.args.first.now.place c.args.most room (c.in_ok-init.init, c.in_ok-init.test, c.in_ok-init.change) c.in_ok-body.body c.in_ok-tree.tree c.args.tokens.now c.in_ok-init.behind c.in_ok-body.rest c.in_ok-init.ensures.gives c.in_ok-body.ensures.gives c.in_ok-tree.ensures)

-- ---- stmt

pub stmt-returns-in-If-clause-gives : goal.stmt-returns-in-If-clause-gives
stmt-returns-in-If-clause-gives t c = subst (λ (x : Tokens). Formed OneStmt c.args.most x c.when.result) (sym c.front.ensures.split) c.when.ensures.gives

pub stmt-returns-in-While-clause-gives : goal.stmt-returns-in-While-clause-gives
stmt-returns-in-While-clause-gives t c = subst (λ (x : Tokens). Formed OneStmt c.args.most x c.repeat.result) (sym c.front.ensures.split) c.repeat.ensures.gives

pub stmt-returns-in-For-clause-gives : goal.stmt-returns-in-For-clause-gives
stmt-returns-in-For-clause-gives t c = subst (λ (x : Tokens). Formed OneStmt c.args.most x c.count.result) (sym c.front.ensures.split) c.count.ensures.gives

pub stmt-returns-in-Break-clause-gives : goal.stmt-returns-in-Break-clause-gives
stmt-returns-in-Break-clause-gives t c =
    let h : Is k.Break c.front.result.0.now = grind (arith, common_steps) in
    subst (λ (x : Tokens). Formed OneStmt c.args.most x c.broken.result) (sym c.front.ensures.split) (form_gives k.Break c.args.most c.front.result.0.now c.front.result.1.now c.broken.result h (c.broken.ensures.gives c.args.most c.requires.room))

pub stmt-returns-in-Continue-clause-gives : goal.stmt-returns-in-Continue-clause-gives
stmt-returns-in-Continue-clause-gives t c =
    let h : Is k.Continue c.front.result.0.now = grind (arith, common_steps) in
    subst (λ (x : Tokens). Formed OneStmt c.args.most x c.continued.result) (sym c.front.ensures.split) (form_gives k.Continue c.args.most c.front.result.0.now c.front.result.1.now c.continued.result h (c.continued.ensures.gives c.args.most c.requires.room))

pub stmt-returns-in-Return-clause-gives : goal.stmt-returns-in-Return-clause-gives
stmt-returns-in-Return-clause-gives t c =
    let h : Is k.Return c.front.result.0.now = grind (arith, common_steps) in
    subst (λ (x : Tokens). Formed OneStmt c.args.most x c.returned.result) (sym c.front.ensures.split) (form_gives k.Return c.args.most c.front.result.0.now c.front.result.1.now c.returned.result h (c.returned.ensures.gives c.args.most c.requires.room))

pub stmt-returns-in_default-clause-gives : goal.stmt-returns-in_default-clause-gives
stmt-returns-in_default-clause-gives t c =
    let other = plain_other (kind_of_token c.front.result.0.now) (λ h. c.in_default.not-If (c.kind_of.ensures ∙ h)) (λ h. c.in_default.not-While (c.kind_of.ensures ∙ h)) (λ h. c.in_default.not-For (c.kind_of.ensures ∙ h)) (λ h. c.in_default.not-Break (c.kind_of.ensures ∙ h))
    (λ h. c.in_default.not-Continue (c.kind_of.ensures ∙ h)) (λ h. c.in_default.not-Return (c.kind_of.ensures ∙ h)) (λ b h. c.in_default.not-Sign b (c.kind_of.ensures ∙ h)) in
    simple_gives c.args.most c.front.result.0.now c.front.result.1.now c.args.tokens.now c.simple.result c.requires.room c.front.ensures.split other c.simple.ensures.rest c.simple.ensures.gives

-- ---- signed

pub signed-returns-then-sign-eq-OPEN_BRACE-clause-gives : goal.signed-returns-then-sign-eq-OPEN_BRACE-clause-gives
signed-returns-then-sign-eq-OPEN_BRACE-clause-gives t c =
    let h : IsSign c.args.sign c.front.result.0.now = subst (λ (x : Tokens). BeginsWith c.args.sign x) c.front.ensures.split c.requires.sign in
    let h' : IsSign sign.OPEN_BRACE c.front.result.0.now = subst (λ (n : ℕ). IsSign n c.front.result.0.now) c.if-sign-eq-OPEN_BRACE.true h in
    brace_gives c.args.most c.front.result.0.now c.front.result.1.now c.args.tokens.now c.front.ensures.split c.braced.result h' c.braced.ensures.gives

pub signed-returns-then-sign-eq-SEMICOLON-clause-gives : goal.signed-returns-then-sign-eq-SEMICOLON-clause-gives
signed-returns-then-sign-eq-SEMICOLON-clause-gives t c =
    let h : IsSign c.args.sign c.front.result.0.now = subst (λ (x : Tokens). BeginsWith c.args.sign x) c.front.ensures.split c.requires.sign in
    let h' : IsSign sign.SEMICOLON c.front.result.0.now = subst (λ (n : ℕ). IsSign n c.front.result.0.now) c.if-sign-eq-SEMICOLON.true h in
    empty_gives c.args.most c.front.result.0.now c.front.result.1.now c.args.tokens.now c.front.ensures.split c.in_ok-tree.tree c.front.result.1 c.requires.room refl h' (c.front.ensures.text (λ e. cc)) c.in_ok-tree.ensures

pub signed-returns-clause-gives : goal.signed-returns-clause-gives
signed-returns-clause-gives t c =
    let h : IsSign c.args.sign c.front.result.0.now = subst (λ (x : Tokens). BeginsWith c.args.sign x) c.front.ensures.split c.requires.sign in
    simple_gives c.args.most c.front.result.0.now c.front.result.1.now c.args.tokens.now c.simple.result c.requires.room c.front.ensures.split (plain_sign (kind_of_token c.front.result.0.now) c.args.sign h c.if-sign-eq-OPEN_BRACE.false c.if-sign-eq-SEMICOLON.false) c.simple.ensures.rest c.simple.ensures.gives
