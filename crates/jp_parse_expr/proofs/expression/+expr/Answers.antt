use Rattle.std.proofs.Common.{◌≡◌, ℕ, suc, ◌+◌, ◌-◌, ◌<◌, ◌≤◌, ◌||◌, List, [], ◌∷◌, ◌++◌, length, drop, true, false, IsTrue, Ok, Err, Some, None, inl, inr, refl, sym, ap, ◌∙◌, subst, add-one, rules, arith}
use Rattle.std.proofs.lemmas.Result.{err_from_is_err_and}
use Rattle.std.proofs.lemmas.List.{take_rest}
use Rattle.std.proofs.lemmas.Grind.{common_steps}
use Rattle.jp_ast.specs.declared.token.Token.{Token}
use Rattle.jp_ast.specs.declared.expr.Expr.{Expr}
use Rattle.jp_ast.specs.declared.sign.TheConstants as sign
use Rattle.jp_pred.specs.declared.ty.Ty.TheVariants as ty
use Rattle.jp_grammar.specs.declared.kind.Kind.{Kind}
use Rattle.jp_grammar.specs.declared.kind.Kind.TheVariants as k
use Rattle.jp_grammar.specs.Kinds.{Is, IsSign, IsName, Tokens, place_of, kind_of_token}
use Rattle.jp_grammar.specs.Expressions.{Expression, Level, Chain, Unary, Postfix, Steps, MoreArgs, binds, strength, is_negation, is_inversion}
use Rattle.jp_grammar.specs.Behind.{begins_expr, ends_level, ends_full, ends_primary}
use Rattle.jp_grammar.specs.Depth.{depth as depth_of, depth_of_all}
use Rattle.jp_grammar.specs.Reading.{Found, FailsWithin, Gives}
use Rattle.jp_grammar.proofs.Chains.{level_zero, unary_level_fails}
use Rattle.jp_grammar.proofs.Parts.{expression_fails, bracketed_fails, bracketed_wrong, bracketed_found}
use Rattle.jp_grammar.proofs.Depths.{depth_positive, depth_super, depth_new, depth_array, depth_all_push}
use Rattle.jp_grammar.proofs.Prefixes.{prefix_fails, prefix_full, unary_wrong}
use Rattle.jp_parse_expr.specs.Ahead.{is_cast}
use Rattle.jp_parse_expr.specs.Literals.{Single}
use Rattle.jp_parse_expr.proofs.Operands.{signless_gives, postfix_fails}
use Rattle.jp_parse_expr.proofs.Created.{super_wrong_dot, super_wrong_name, super_wrong_paren, super_fails, super_found, new_wrong, class_wrong, class_full, object_fails, object_gives, simple_full, simple_wrong, array_fails, array_gives, array_wrong}
use Rattle.jp_parse_expr.proofs.Signs.{no_step, a_step, sign_is, sign_is_no, sign_no_expr, cast_or_opens}
use Rattle.jp_parse_expr.proofs.Rules.{name_fails, chain_ends, chain_deep, pair_continues, pair_fails, instance_kind, sign_strength, steps_stops, steps_deep, member_continues, index_fails, index_continues, choice_ends, choice_deep, first_fails, first_gives, colon_wrong, colon_fails, colon_gives, named_gives, no_name, plain_name, call_fails, call_gives, no_args_found, no_args_wrong, no_args_full, first_arg_fails, first_arg_gives, list_ends, list_wrong, list_fails, list_gives, prefix_gives}
use Rattle.jp_parse_expr.proofs.Wholes.{operand_fails, rest_gives, chain_found, chain_fails, steps_give, cast_tokens, cast_name, cast_deep, cast_falls, cast_gives, inner_fails, closing_wrong, outer_gives, outer_fails}
use Rattle.jp_parse_expr.proofs.Calls.{word_wrong, paren_wrong, super_falls, super_gives, type_wrong, third, class_sign_wrong, class_deep, object_falls, object_stepped, simple_sign_wrong, size_wrong, array_stepped, named_continues, sign_wrong, class_named, cast_too_deep, list_pushed, list_begun, depth_pushed}
use Rattle.jp_parse_expr.proofs.Runs.{text_drop, run_fails}
use Rattle.jp_parse_expr.proofs.expression.+expr.Goals as goal

-- ---- full

pub full-returns-in_err-left-clause-gives : goal.full-returns-in_err-left-clause-gives
full-returns-in_err-left-clause-gives t c =
    let p = err_from_is_err_and c.from_residual.result c.from_residual.ensures.1 in
    rw (p.1, p.2) (operand_fails c.args.most c.args.tokens.now c.in_err-left.field-0.0 c.in_err-left.ensures.gives)

-- ---- rest_of

pub rest_of-returns-in_err-test-clause-gives : goal.rest_of-returns-in_err-test-clause-gives
rest_of-returns-in_err-test-clause-gives t c =
    let p = err_from_is_err_and c.from_residual.result c.from_residual.ensures.1 in
    rw (p.1, p.2) (expression_fails c.args.most c.args.begin.now c.in_err-test.field-0.0 c.in_err-test.ensures.gives)

pub rest_of-returns-clause-gives : goal.rest_of-returns-clause-gives
rest_of-returns-clause-gives t c =
    rest_gives c.args.most c.front.result.0.now c.front.result.1.now c.args.begin.now c.in_ok-test.behind.now c.in_ok-test.test c.choices.result c.front.ensures.split c.in_ok-test.ensures.gives.0 c.choices.ensures.gives

-- ---- choices

pub choices-returns-then-not-is_sign-clause-gives : goal.choices-returns-then-not-is_sign-clause-gives
choices-returns-then-not-is_sign-clause-gives t c =
    let other : IsSign sign.QUESTION c.front.result.0.now → ⊥ = sign_is_no sign.QUESTION c.front.result.0.now (sym c.is_sign.ensures ∙ c.if-not-is_sign.true) in
    (choice_ends c.args.place c.args.most c.args.test c.front.result.0.now c.front.result.1.now c.args.tokens.now c.front.ensures.split other, c.requires.depth, c.requires.most)

pub choices-returns-then-depth-most-clause-gives : goal.choices-returns-then-depth-most-clause-gives
choices-returns-then-depth-most-clause-gives t c =
    let h : IsSign sign.QUESTION c.front.result.0.now = sign_is sign.QUESTION c.front.result.0.now (sym c.is_sign.ensures ∙ c.if-not-is_sign.false) in
    choice_deep c.args.place c.args.most c.args.test c.front.result.0.now c.front.result.1.now c.args.tokens.now c.front.ensures.split h (omega (arith, c.requires.depth, c.if-depth-most.true))

pub choices-returns-in_err-yes-clause-gives : goal.choices-returns-in_err-yes-clause-gives
choices-returns-in_err-yes-clause-gives t c =
    let p = err_from_is_err_and c.from_residual.result c.from_residual.ensures.1 in
    let h : IsSign sign.QUESTION c.front.result.0.now = sign_is sign.QUESTION c.front.result.0.now (sym c.is_sign.ensures ∙ c.if-not-is_sign.false) in
    rw (p.1, p.2) (first_fails c.args.place c.args.most c.args.test c.front.result.0.now c.front.result.1.now c.args.tokens.now c.front.ensures.split c.in_err-yes.field-0.0 h (omega arith) c.in_err-yes.ensures.gives)

pub choices-returns-clause-gives : goal.choices-returns-clause-gives
choices-returns-clause-gives t c =
    let h : IsSign sign.QUESTION c.front.result.0.now = sign_is sign.QUESTION c.front.result.0.now (sym c.is_sign.ensures ∙ c.if-not-is_sign.false) in
    first_gives c.args.place c.args.most c.args.test c.front.result.0.now c.front.result.1.now c.args.tokens.now c.front.ensures.split c.in_ok-yes.behind.now c.in_ok-yes.yes c.alternative.result h (omega arith) c.in_ok-yes.ensures.gives.0 c.alternative.ensures.gives

-- ---- alternative

pub alternative-returns-then-not-is_sign-clause-gives : goal.alternative-returns-then-not-is_sign-clause-gives
alternative-returns-then-not-is_sign-clause-gives t c =
    let other : IsSign sign.COLON c.front.result.0.now → ⊥ = sign_is_no sign.COLON c.front.result.0.now (sym c.is_sign.ensures ∙ c.if-not-is_sign.true) in
    colon_wrong c.args.place c.args.most c.args.test c.args.yes c.front.result.0.now c.front.result.1.now c.args.tokens.now c.front.ensures.split (omega (arith, c.requires.test_depth, c.requires.test_most)) (omega (arith, c.requires.yes_depth, c.requires.yes_most)) c.refused.result other c.refused.ensures

pub alternative-returns-in_err-no-clause-gives : goal.alternative-returns-in_err-no-clause-gives
alternative-returns-in_err-no-clause-gives t c =
    let p = err_from_is_err_and c.from_residual.result c.from_residual.ensures.1 in
    let h : IsSign sign.COLON c.front.result.0.now = sign_is sign.COLON c.front.result.0.now (sym c.is_sign.ensures ∙ c.if-not-is_sign.false) in
    rw (p.1, p.2) (colon_fails c.args.place c.args.most c.args.test c.args.yes c.front.result.0.now c.front.result.1.now c.args.tokens.now c.front.ensures.split (omega (arith, c.requires.test_depth, c.requires.test_most)) (omega (arith, c.requires.yes_depth, c.requires.yes_most)) c.in_err-no.field-0.0 h c.in_err-no.ensures.gives)

pub alternative-returns-clause-gives : goal.alternative-returns-clause-gives
alternative-returns-clause-gives t c =
    let h : IsSign sign.COLON c.front.result.0.now = sign_is sign.COLON c.front.result.0.now (sym c.is_sign.ensures ∙ c.if-not-is_sign.false) in
    let g = c.in_ok-no.ensures.gives in
    colon_gives c.args.place c.args.most c.args.test c.args.yes c.front.result.0.now c.front.result.1.now c.args.tokens.now c.front.ensures.split (omega (arith, c.requires.test_depth, c.requires.test_most)) (omega (arith, c.requires.yes_depth, c.requires.yes_most))
    c.in_ok-tree.tree c.in_ok-no.no c.args.test_depth c.args.yes_depth c.in_ok-no.no_depth c.deeper-branches.result c.deeper.result c.in_ok-no.behind c.deeper-branches.ensures c.deeper.ensures h g.0 c.requires.test_depth c.requires.yes_depth g.1 g.2 c.in_ok-tree.ensures

-- ---- level_of

pub level_of-returns-in_err-left-clause-gives : goal.level_of-returns-in_err-left-clause-gives
level_of-returns-in_err-left-clause-gives t c =
    let p = err_from_is_err_and c.from_residual.result c.from_residual.ensures.1 in
    rw (p.1, p.2) (unary_level_fails c.args.level c.args.most c.args.tokens.now c.in_err-left.field-0.0 c.in_err-left.ensures.gives)

-- ---- climb

pub climb-levels-init : goal.climb-levels-init
climb-levels-init t c = record {
  rest = (c.requires.text, omega arith);
  depth = c.requires.depth;
  most = c.requires.most;
  read = level_zero c.args.begin.now c.args.tokens.now c.args.left c.requires.read;
}

pub climb-levels-preserved : goal.climb-levels-preserved
climb-levels-preserved t c =
    let g = c.in_ok-next.ensures.gives in
    record {
      rest = (c.in_ok-next.ensures.rest.0, omega (arith, c.in_ok-next.ensures.rest.1, c.levels.invariant.rest.1));
      depth = g.1;
      most = g.2;
      read = chain_found c.levels.n c.args.most c.front.result.0.now c.front.result.1.now c.args.begin.now c.levels.tokens.now c.levels.left c.in_ok-next.next c.in_ok-next.next_depth c.in_ok-next.rest c.front.ensures.split c.levels.invariant.read g;
    }

pub climb-returns-in_err-next-clause-gives : goal.climb-returns-in_err-next-clause-gives
climb-returns-in_err-next-clause-gives t c =
    let p = err_from_is_err_and c.from_residual.result c.from_residual.ensures.1 in
    rw (p.1, p.2) (chain_fails c.levels.n c.args.level c.args.most c.front.result.0.now c.front.result.1.now c.args.begin.now c.levels.tokens.now c.levels.left c.in_err-next.field-0.0 (omega (arith, c.levels-test.true)) c.front.ensures.split c.levels.invariant.read c.in_err-next.ensures.gives)

pub climb-returns-clause-gives : goal.climb-returns-clause-gives
climb-returns-clause-gives t c =
    let same : c.levels.n ≡ c.args.level = omega (arith, c.levels-test.false, c.levels.auto.n-end) in
    (subst (λ (x : ℕ). Found (Level x) (λ _. ends_level x) c.args.begin.now c.levels.left c.levels.tokens.now) same c.levels.invariant.read, c.levels.invariant.depth, c.levels.invariant.most)

-- ---- chain

pub chain-returns-then-ne-clause-gives : goal.chain-returns-then-ne-clause-gives
chain-returns-then-ne-clause-gives t c =
    let i = c.signs.invariant in
    let other : binds (kind_of_token c.front.result.0.now) ≡ Some c.args.level → ⊥ = grind (arith, common_steps) in
    i.whole (Ok (c.signs.left, c.signs.depth, c.signs.tokens)) (chain_ends c.args.place c.args.level c.args.most c.signs.left c.front.result.0.now c.front.result.1.now c.signs.tokens.now c.front.ensures.split other, i.depth, i.most)

pub chain-returns-then-depth-most-clause-gives : goal.chain-returns-then-depth-most-clause-gives
chain-returns-then-depth-most-clause-gives t c =
    let i = c.signs.invariant in
    let b : binds (kind_of_token c.front.result.0.now) ≡ Some c.args.level = grind (arith, common_steps) in
    i.whole (Err _) (chain_deep c.args.place c.args.level c.args.most c.signs.left c.front.result.0.now c.front.result.1.now c.signs.tokens.now c.front.ensures.split b (omega (arith, i.depth, c.if-depth-most.true)))

pub chain-returns-in_err-longer-clause-gives : goal.chain-returns-in_err-longer-clause-gives
chain-returns-in_err-longer-clause-gives t c =
    let p = err_from_is_err_and c.from_residual.result c.from_residual.ensures.1 in
    let f = c.in_err-longer.ensures.gives in
    rw (p.1, p.2) (c.signs.invariant.whole (Err c.in_err-longer.field-0.0) (subst (λ (x : Tokens). FailsWithin (Chain c.args.place c.args.level c.signs.left) depth_of (ends_level (suc c.args.level)) c.args.most x c.in_err-longer.field-0.0) (sym c.front.ensures.split) f))

pub chain-signs-preserved : goal.chain-signs-preserved
chain-signs-preserved t c =
    let i = c.signs.invariant in
    let g = c.in_ok-longer.ensures.gives in
    record {
      rest = (c.in_ok-longer.ensures.rest.0, omega (arith, c.in_ok-longer.ensures.rest.1, i.rest.1, ap length c.front.ensures.split));
      depth = g.1;
      most = g.2;
      whole = λ r f. i.whole r (subst (λ (x : Tokens). Gives (Chain c.args.place c.args.level c.signs.left) depth_of (ends_level (suc c.args.level)) c.args.most x r) (sym c.front.ensures.split) (g.0 r f));
    }

-- ---- joined

pub joined-returns-in_err-right-clause-gives : goal.joined-returns-in_err-right-clause-gives
joined-returns-in_err-right-clause-gives t c =
    let p = err_from_is_err_and c.from_residual.result c.from_residual.ensures.1 in
    let h : IsSign c.in-Sign.sign c.args.first.now = sym c.kind_of.ensures ∙ c.in-Sign.is in
    rw (p.1, p.2) (pair_fails c.args.place c.args.level c.args.most c.args.left c.args.first.now c.args.rest.now c.in-Sign.sign h (sign_strength (kind_of_token c.args.first.now) c.args.level c.in-Sign.sign c.requires.binds h) (omega (arith, c.requires.depth, c.requires.most)) c.in_err-right.field-0.0 c.in_err-right.ensures.gives)

pub joined-returns-clause-gives : goal.joined-returns-clause-gives
joined-returns-clause-gives t c =
    let h : IsSign c.in-Sign.sign c.args.first.now = sym c.kind_of.ensures ∙ c.in-Sign.is in
    let g = c.in_ok-right.ensures.gives in
    pair_continues c.args.place c.args.level c.args.most c.args.left c.args.first.now c.args.rest.now c.in-Sign.sign h (sign_strength (kind_of_token c.args.first.now) c.args.level c.in-Sign.sign c.requires.binds h) (omega (arith, c.requires.depth, c.requires.most))
    c.in_ok-tree.tree c.in_ok-right.right c.args.depth c.in_ok-right.right_depth c.deeper.result c.in_ok-right.behind c.deeper.ensures g.0 c.requires.depth g.1 g.2 c.in_ok-tree.ensures

-- ---- operand

pub operand-single-requires : goal.operand-single-requires
operand-single-requires t c =
    let o = c.opened-run.ensures in
    (search rules, (rw take_rest (text_drop c.opened-run.result c.args.tokens.now c.requires.text o.most), (c.requires.room, rw take_rest o.last)))

pub operand-rest_of-requires : goal.operand-rest_of-requires
operand-rest_of-requires t c =
    let i = c.closings.invariant in
    (search rules, (rw take_rest (text_drop c.closings.pending c.args.tokens.now c.requires.text (omega (arith, i.pending, c.opened-run.ensures.most))), (i.rest.0, (i.depth, (i.most, rw take_rest i.read)))))

pub operand-front-requires : goal.operand-front-requires
operand-front-requires t c = rw take_rest (text_drop (c.closings.pending - 1) c.args.tokens.now c.requires.text (omega (arith, c.closings.invariant.pending, c.opened-run.ensures.most)))

pub operand-returns-in_err-left-clause-gives : goal.operand-returns-in_err-left-clause-gives
operand-returns-in_err-left-clause-gives t c =
    let p = err_from_is_err_and c.from_residual.result c.from_residual.ensures.1 in
    rw (p.1, p.2) (run_fails c.args.most c.requires.room c.args.tokens.now c.opened-run.result c.in_err-left.field-0.0 c.opened-run.ensures.opens (rw take_rest at c.in_err-left.ensures.gives))

pub operand-returns-in_err-inner-clause-gives : goal.operand-returns-in_err-inner-clause-gives
operand-returns-in_err-inner-clause-gives t c =
    let p = err_from_is_err_and c.from_residual-in_err-inner.result c.from_residual-in_err-inner.ensures.1 in
    rw (p.1, p.2) (inner_fails c.args.most c.requires.room c.args.tokens.now c.closings.pending c.closings-test.true (λ j h. c.opened-run.ensures.opens j (omega (arith, c.closings.invariant.pending, h)))
    c.in_err-inner.field-0.0 (rw take_rest at c.in_err-inner.ensures.gives))

pub operand-returns-in_err-behind-clause-gives : goal.operand-returns-in_err-behind-clause-gives
operand-returns-in_err-behind-clause-gives t c =
    let p = err_from_is_err_and c.from_residual-in_err-behind.result c.from_residual-in_err-behind.ensures.1 in
    let g = c.in_ok-inner.ensures.gives in
    rw (p.1, p.2) (closing_wrong c.args.most c.requires.room c.args.tokens.now c.closings.pending c.closings-test.true (λ j h. c.opened-run.ensures.opens j (omega (arith, c.closings.invariant.pending, h)))
    c.in_ok-inner.inner c.in_ok-inner.behind.now c.in_err-behind.field-0.0 (rw take_rest at g.0) (omega (arith, g.1, g.2)) c.in_err-behind.ensures.gives)

pub operand-returns-in_err-outer-clause-gives : goal.operand-returns-in_err-outer-clause-gives
operand-returns-in_err-outer-clause-gives t c =
    let p = err_from_is_err_and c.from_residual-in_err-outer.result c.from_residual-in_err-outer.ensures.1 in
    let g = c.in_ok-inner.ensures.gives in
    rw (p.1, p.2) (outer_fails c.args.most c.requires.room c.args.tokens.now c.closings.pending c.closings-test.true (λ j h. c.opened-run.ensures.opens j (omega (arith, c.closings.invariant.pending, h)))
    c.front.result.0.now c.front.result.1.now c.in_ok-inner.inner c.in_ok-inner.inner_depth c.in_ok-inner.behind c.in_ok-behind.behind c.in_err-outer.field-0.0 (rw take_rest at c.front.ensures.split) (rw take_rest at g.0) g.1 g.2 c.in_ok-behind.ensures.gives c.in_err-outer.ensures.gives)

pub operand-closings-preserved : goal.operand-closings-preserved
operand-closings-preserved t c =
    let i = c.closings.invariant in
    let g = c.in_ok-inner.ensures.gives in
    let f = c.in_ok-outer.ensures.gives in
    record {
      pending = omega (arith, i.pending);
      rest = (c.in_ok-outer.ensures.rest.0, omega (arith, c.in_ok-outer.ensures.rest.1, c.in_ok-behind.ensures.rest.1, c.in_ok-inner.ensures.rest.1, i.rest.1));
      depth = f.1;
      most = f.2;
      read = (outer_gives c.args.most c.requires.room c.args.tokens.now c.closings.pending c.closings-test.true (λ j h. c.opened-run.ensures.opens j (omega (arith, c.closings.invariant.pending, h)))
          c.front.result.0.now c.front.result.1.now c.in_ok-inner.inner c.in_ok-inner.inner_depth c.in_ok-inner.behind c.in_ok-behind.behind (Ok (c.in_ok-outer.outer, c.in_ok-outer.outer_depth, c.in_ok-outer.last)) (rw take_rest at c.front.ensures.split) (rw take_rest at g.0) g.1 g.2 c.in_ok-behind.ensures.gives f).0;
    }

-- ---- single

pub single-returns-in_default-clause-gives : goal.single-returns-in_default-clause-gives
single-returns-in_default-clause-gives t c =
    let signless : (n : ℕ) → IsSign n c.front.result.0.now → ⊥ = λ n h. c.in_default.not-Sign n (c.kind_of.ensures ∙ h) in
    subst (λ (x : Tokens). Gives Unary depth_of (ends_level 0) c.args.most x c.postfix.result) (sym c.front.ensures.split) (signless_gives c.args.most c.front.result.0.now c.front.result.1.now c.postfix.result signless c.postfix.ensures.gives)

pub single-returns-then-is_prefix-clause-gives : goal.single-returns-then-is_prefix-clause-gives
single-returns-then-is_prefix-clause-gives t c =
    subst (λ (x : Tokens). Gives Unary depth_of (ends_level 0) c.args.most x c.prefixed.result) (sym c.front.ensures.split) c.prefixed.ensures.gives

pub single-returns-then-sign-eq-OPEN_PAREN-clause-gives : goal.single-returns-then-sign-eq-OPEN_PAREN-clause-gives
single-returns-then-sign-eq-OPEN_PAREN-clause-gives t c =
    subst (λ (x : Tokens). Gives Unary depth_of (ends_level 0) c.args.most x c.cast.result) (sym c.front.ensures.split) c.cast.ensures.gives

pub single-returns-clause-gives : goal.single-returns-clause-gives
single-returns-clause-gives t c =
    let h : IsSign c.in-Sign.sign c.front.result.0.now = sym c.kind_of.ensures ∙ c.in-Sign.is in
    sign_wrong c.args.most c.front.result.0.now c.front.result.1.now c.args.tokens.now c.refused.result c.front.ensures.split
    (sign_no_expr c.in-Sign.sign c.front.result.0.now h (sym c.is_prefix.ensures ∙ c.if-is_prefix.false) c.if-sign-eq-OPEN_PAREN.false) c.refused.ensures c.requires.room

pub single-postfix-requires : goal.single-postfix-requires
single-postfix-requires t c =
    (search rules, (c.front.ensures.text, (c.requires.room, (λ n h. c.in_default.not-Sign n (c.kind_of.ensures ∙ h)))))

pub single-prefixed-requires : goal.single-prefixed-requires
single-prefixed-requires t c =
    let h : IsSign c.in-Sign.sign c.front.result.0.now = sym c.kind_of.ensures ∙ c.in-Sign.is in
    (search rules, (c.front.ensures.text (λ e. let g : k.Sign c.in-Sign.sign ≡ k.End = sym h ∙ e in cc), (c.requires.room, (h, sym c.is_prefix.ensures ∙ c.if-is_prefix.true))))

pub single-cast-requires : goal.single-cast-requires
single-cast-requires t c =
    let h : IsSign c.in-Sign.sign c.front.result.0.now = sym c.kind_of.ensures ∙ c.in-Sign.is in
    let o : IsSign sign.OPEN_PAREN c.front.result.0.now = h ∙ ap k.Sign c.if-sign-eq-OPEN_PAREN.true in
    (search rules, (c.front.ensures.text (λ e. let g : k.Sign c.in-Sign.sign ≡ k.End = sym h ∙ e in cc), (c.requires.room, (o, cast_or_opens c.front.result.0.now c.front.result.1.now c.args.tokens.now c.front.ensures.split o c.requires.single))))

-- ---- prefixed

pub prefixed-returns-then-most-eq1-clause-gives : goal.prefixed-returns-then-most-eq1-clause-gives
prefixed-returns-then-most-eq1-clause-gives t c = prefix_full c.args.sign c.args.most c.args.first.now c.args.rest.now c.requires.sign c.requires.prefix c.if-most-eq1.true

pub prefixed-returns-in_err-right-clause-gives : goal.prefixed-returns-in_err-right-clause-gives
prefixed-returns-in_err-right-clause-gives t c =
    let p = err_from_is_err_and c.from_residual.result c.from_residual.ensures.1 in
    rw (p.1, p.2) (prefix_fails c.args.sign c.args.most c.args.first.now c.args.rest.now c.requires.sign c.requires.prefix c.in_err-right.field-0.0 c.requires.room c.in_err-right.ensures.gives)

pub prefixed-returns-clause-gives : goal.prefixed-returns-clause-gives
prefixed-returns-clause-gives t c =
    let g = c.in_ok-right.ensures.gives in
    prefix_gives c.args.sign c.args.most c.args.first.now c.args.rest.now c.requires.sign c.requires.prefix c.in_ok-tree.tree c.in_ok-right.right c.in_ok-right.depth c.in_ok-right.behind (omega arith) g.0 g.1 g.2 c.in_ok-tree.ensures

-- ---- cast

pub cast-returns-then-most-eq1-clause-gives : goal.cast-returns-then-most-eq1-clause-gives
cast-returns-then-most-eq1-clause-gives t c =
    cast_too_deep c.args.most c.args.first.now c.args.rest.now c.requires.sign c.requires.cast c.front.result.0.now c.front.result.1.now c.front.ensures.split
    c.front-2.result.0.now c.front-then-most-eq1.result.0.now c.front-2.result.1.now c.front-then-most-eq1.result.1.now c.front-2.ensures.split c.front-then-most-eq1.ensures.split c.if-most-eq1.true

pub cast-returns-in_err-class-clause-gives : goal.cast-returns-in_err-class-clause-gives
cast-returns-in_err-class-clause-gives t c =
    let p = err_from_is_err_and c.from_residual.result c.from_residual.ensures.1 in
    rw (p.1, p.2) (class_named c.args.most c.args.first.now c.args.rest.now c.requires.sign c.requires.cast c.front.result.0.now c.front.result.1.now c.front.ensures.split c.in_err-class.field-0.0 c.in_err-class.ensures)

pub cast-returns-in_err-value-clause-gives : goal.cast-returns-in_err-value-clause-gives
cast-returns-in_err-value-clause-gives t c =
    let p = err_from_is_err_and c.from_residual-in_err-value.result c.from_residual-in_err-value.ensures.1 in
    let all = cast_tokens c.args.most c.args.first.now c.args.rest.now c.requires.sign c.requires.cast c.front.result.0.now c.front-2.result.0.now c.front.result.1.now c.front-2.result.1.now c.front.ensures.split c.front-2.ensures.split in
    rw (p.1, p.2) (cast_falls c.args.most c.args.first.now c.args.rest.now c.requires.sign c.requires.cast c.front.result.0.now c.front-2.result.0.now c.front-2.result.1.now all
    c.in_ok-class.class c.in_err-value.field-0.0 c.in_ok-class.ensures (omega arith) c.in_err-value.ensures.gives)

pub cast-returns-clause-gives : goal.cast-returns-clause-gives
cast-returns-clause-gives t c =
    let g = c.in_ok-value.ensures.gives in
    let all = cast_tokens c.args.most c.args.first.now c.args.rest.now c.requires.sign c.requires.cast c.front.result.0.now c.front-2.result.0.now c.front.result.1.now c.front-2.result.1.now c.front.ensures.split c.front-2.ensures.split in
    cast_gives c.args.most c.args.first.now c.args.rest.now c.requires.sign c.requires.cast c.front.result.0.now c.front-2.result.0.now c.front-2.result.1.now all
    c.in_ok-class.class c.in_ok-tree.tree c.in_ok-value.value c.in_ok-value.depth c.in_ok-value.behind c.in_ok-class.ensures (omega arith) g.0 g.1 g.2 c.in_ok-tree.ensures

-- ---- postfix

pub postfix-returns-in_err-left-clause-gives : goal.postfix-returns-in_err-left-clause-gives
postfix-returns-in_err-left-clause-gives t c =
    let p = err_from_is_err_and c.from_residual.result c.from_residual.ensures.1 in
    let other : Is k.New c.args.first.now → ⊥ = grind (arith, common_steps) in
    rw (p.1, p.2) (postfix_fails c.args.most c.args.first.now c.args.rest.now other c.in_err-left.field-0.0 c.in_err-left.ensures.gives)

pub postfix-returns-clause-gives : goal.postfix-returns-clause-gives
postfix-returns-clause-gives t c =
    let other : Is k.New c.args.first.now → ⊥ = grind (arith, common_steps) in
    steps_give c.args.most c.args.first.now c.args.rest.now c.in_ok-left.behind.now c.in_ok-left.left c.steps.result other c.in_ok-left.ensures.gives.0 c.steps.ensures.gives

-- ---- primary

pub primary-returns-in-Name-clause-gives : goal.primary-returns-in-Name-clause-gives
primary-returns-in-Name-clause-gives t c =
    named_gives c.args.most c.args.first.now c.args.rest.now c.named.result c.requires.room (sym c.kind_of.ensures ∙ c.in-Name.is) c.named.ensures.gives

pub primary-alone-requires : goal.primary-alone-requires
primary-alone-requires t c =
    let single : Single c.args.first.now = record { no_name = λ h. c.in_default.not-Name (c.kind_of.ensures ∙ h); no_super = λ h. c.in_default.not-Super (c.kind_of.ensures ∙ h); no_new = c.requires.other; no_paren = c.requires.signless sign.OPEN_PAREN } in
    record { text = c.requires.text; room = c.requires.room; single = single }

-- ---- super_call

pub super_call-returns-in_err-behind-clause-gives : goal.super_call-returns-in_err-behind-clause-gives
super_call-returns-in_err-behind-clause-gives t c =
    let p = err_from_is_err_and c.from_residual.result c.from_residual.ensures.1 in
    rw (p.1, p.2) (super_wrong_dot c.args.most c.requires.room c.args.first.now c.requires.word c.args.rest.now c.in_err-behind.field-0.0 c.in_err-behind.ensures.gives)

pub super_call-returns-in_err-name-clause-gives : goal.super_call-returns-in_err-name-clause-gives
super_call-returns-in_err-name-clause-gives t c =
    let p = err_from_is_err_and c.from_residual-in_err-name.result c.from_residual-in_err-name.ensures.1 in
    rw (p.1, p.2) (word_wrong c.args.most c.requires.room c.args.first.now c.requires.word c.args.rest.now c.in_ok-behind.behind.now c.in_ok-behind.ensures.gives c.front.result.0.now c.front.result.1.now c.in_err-name.field-0.0 c.front.ensures.split c.in_err-name.ensures)

pub super_call-returns-in_err-behind-2-clause-gives : goal.super_call-returns-in_err-behind-2-clause-gives
super_call-returns-in_err-behind-2-clause-gives t c =
    let p = err_from_is_err_and c.from_residual-in_err-behind-2.result c.from_residual-in_err-behind-2.ensures.1 in
    rw (p.1, p.2) (paren_wrong c.args.most c.requires.room c.args.first.now c.requires.word c.args.rest.now c.in_ok-behind.behind.now c.in_ok-behind.ensures.gives c.front.result.0.now c.front.result.1.now c.front.ensures.split c.in_ok-name.name c.in_ok-name.ensures c.in_err-behind-2.field-0.0 c.in_err-behind-2.ensures.gives)

pub super_call-returns-in_err-args-clause-gives : goal.super_call-returns-in_err-args-clause-gives
super_call-returns-in_err-args-clause-gives t c =
    let p = err_from_is_err_and c.from_residual-in_err-args.result c.from_residual-in_err-args.ensures.1 in
    rw (p.1, p.2) (super_falls c.args.most c.requires.room c.args.first.now c.requires.word c.args.rest.now c.in_ok-behind.behind.now c.in_ok-behind.ensures.gives c.front.result.0.now c.front.result.1.now c.front.ensures.split c.in_ok-name.name c.in_ok-name.ensures c.in_ok-behind-2.behind.now c.in_ok-behind-2.ensures.gives c.in_err-args.field-0.0 c.in_err-args.ensures.gives)

pub super_call-returns-clause-gives : goal.super_call-returns-clause-gives
super_call-returns-clause-gives t c =
    let g = c.in_ok-args.ensures.gives in
    super_gives c.args.most c.requires.room c.args.first.now c.requires.word c.args.rest.now c.in_ok-behind.behind.now c.in_ok-behind.ensures.gives c.front.result.0.now c.front.result.1.now c.front.ensures.split c.in_ok-name.name c.in_ok-name.ensures c.in_ok-behind-2.behind.now c.in_ok-behind-2.ensures.gives
    c.in_ok-tree.tree c.in_ok-args.args c.in_ok-args.depth c.in_ok-args.left g.0 g.1 g.2 c.in_ok-tree.ensures

-- ---- named

pub named-returns-in_err-name-clause-gives : goal.named-returns-in_err-name-clause-gives
named-returns-in_err-name-clause-gives t c =
    let p = err_from_is_err_and c.from_residual.result c.from_residual.ensures.1 in
    rw (p.1, p.2) (no_name c.args.place c.args.object c.args.most c.args.first.now c.args.rest.now (omega (arith, c.requires.depth, c.requires.most)) c.in_err-name.field-0.0 c.in_err-name.ensures)

pub named-returns-then-not-is_sign-clause-gives : goal.named-returns-then-not-is_sign-clause-gives
named-returns-then-not-is_sign-clause-gives t c =
    let other = sign_is_no sign.OPEN_PAREN c.front.result.0.now (sym c.is_sign.ensures ∙ c.if-not-is_sign.true) in
    plain_name c.args.place c.args.object c.args.most c.args.first.now c.args.rest.now (omega (arith, c.requires.depth, c.requires.most)) c.front.result.0.now c.front.result.1.now c.front.ensures.split c.in_ok-name.name c.in_ok-name.ensures c.in_ok-variable.field-0 c.args.depth c.args.rest other refl c.requires.depth c.in_ok-variable.ensures

pub named-returns-in_err-args-clause-gives : goal.named-returns-in_err-args-clause-gives
named-returns-in_err-args-clause-gives t c =
    let p = err_from_is_err_and c.from_residual-in_err-args.result c.from_residual-in_err-args.ensures.1 in
    let h : IsSign sign.OPEN_PAREN c.front.result.0.now = sign_is sign.OPEN_PAREN c.front.result.0.now (sym c.is_sign.ensures ∙ c.if-not-is_sign.false) in
    rw (p.1, p.2) (call_fails c.args.place c.args.object c.args.most c.args.first.now c.args.rest.now (omega (arith, c.requires.depth, c.requires.most)) c.front.result.0.now c.front.result.1.now c.front.ensures.split c.in_ok-name.name c.in_ok-name.ensures c.in_err-args.field-0.0 h c.in_err-args.ensures.gives)

pub named-returns-clause-gives : goal.named-returns-clause-gives
named-returns-clause-gives t c =
    let h : IsSign sign.OPEN_PAREN c.front.result.0.now = sign_is sign.OPEN_PAREN c.front.result.0.now (sym c.is_sign.ensures ∙ c.if-not-is_sign.false) in
    let g = c.in_ok-args.ensures.gives in
    call_gives c.args.place c.args.object c.args.most c.args.first.now c.args.rest.now (omega (arith, c.requires.depth, c.requires.most)) c.front.result.0.now c.front.result.1.now c.front.ensures.split c.in_ok-name.name c.in_ok-name.ensures c.in_ok-tree.tree c.in_ok-args.args c.args.depth c.in_ok-args.args_depth c.deeper.result c.in_ok-args.left c.deeper.ensures h g.0 c.requires.depth g.1 g.2 c.in_ok-tree.ensures

-- ---- created

pub created-returns-in-Name-clause-gives : goal.created-returns-in-Name-clause-gives
created-returns-in-Name-clause-gives t c =
    subst (λ (x : Tokens). Gives Postfix depth_of (ends_level 0) c.args.most (c.args.first.now ∷ x) c.created_of_class.result) (sym c.front.ensures.split) c.created_of_class.ensures.gives

pub created-returns-in-Int-clause-gives : goal.created-returns-in-Int-clause-gives
created-returns-in-Int-clause-gives t c =
    subst (λ (x : Tokens). Gives Postfix depth_of (ends_level 0) c.args.most (c.args.first.now ∷ x) c.created_simply.result) (sym c.front.ensures.split) c.created_simply.ensures.gives

pub created-returns-in-Boolean-clause-gives : goal.created-returns-in-Boolean-clause-gives
created-returns-in-Boolean-clause-gives t c =
    subst (λ (x : Tokens). Gives Postfix depth_of (ends_level 0) c.args.most (c.args.first.now ∷ x) c.created_simply-in-Boolean.result) (sym c.front.ensures.split) c.created_simply-in-Boolean.ensures.gives

pub created-returns-in_default-clause-gives : goal.created-returns-in_default-clause-gives
created-returns-in_default-clause-gives t c =
    type_wrong c.args.most c.requires.room c.args.first.now c.requires.word c.front.result.0.now c.front.result.1.now c.args.rest.now c.refused.result c.front.ensures.split
    (λ h. c.in_default.not-Name (c.kind_of.ensures ∙ h)) (λ h. c.in_default.not-Int (c.kind_of.ensures ∙ h)) (λ h. c.in_default.not-Boolean (c.kind_of.ensures ∙ h)) c.refused.ensures

-- ---- created_of_class

pub created_of_class-returns-in_err-name-clause-gives : goal.created_of_class-returns-in_err-name-clause-gives
created_of_class-returns-in_err-name-clause-gives t c =
    let p = err_from_is_err_and c.from_residual.result c.from_residual.ensures.1 in
    rw (p.1, p.2) (name_fails c.args.class.now c.in_err-name.ensures (λ other w. absurd (other c.requires.class)))

pub created_of_class-returns-in_err-args-clause-gives : goal.created_of_class-returns-in_err-args-clause-gives
created_of_class-returns-in_err-args-clause-gives t c =
    let p = err_from_is_err_and c.from_residual-in_err-args.result c.from_residual-in_err-args.ensures.1 in
    let h : IsSign sign.OPEN_PAREN c.front.result.0.now = sign_is sign.OPEN_PAREN c.front.result.0.now (sym c.is_sign.ensures ∙ c.if-is_sign.true) in
    rw (p.1, p.2) (object_falls c.args.most c.requires.room c.args.first.now c.requires.word c.args.class.now c.front.result.0.now c.front.result.1.now c.args.rest.now c.front.ensures.split c.in_ok-name.name c.in_ok-name.ensures c.in_err-args.field-0.0 h c.in_err-args.ensures.gives)

pub created_of_class-returns-then-is_sign-clause-gives : goal.created_of_class-returns-then-is_sign-clause-gives
created_of_class-returns-then-is_sign-clause-gives t c =
    let h : IsSign sign.OPEN_PAREN c.front.result.0.now = sign_is sign.OPEN_PAREN c.front.result.0.now (sym c.is_sign.ensures ∙ c.if-is_sign.true) in
    object_stepped c.args.most c.requires.room c.args.first.now c.requires.word c.args.class.now c.front.result.0.now c.front.result.1.now c.args.rest.now c.front.ensures.split c.in_ok-name.name c.in_ok-name.ensures c.in_ok-left.left c.in_ok-args.behind.now c.in_ok-args.args c.steps.result h c.in_ok-args.ensures.gives.0 c.in_ok-left.ensures c.steps.ensures.gives

pub created_of_class-returns-then-not-is_sign-clause-gives : goal.created_of_class-returns-then-not-is_sign-clause-gives
created_of_class-returns-then-not-is_sign-clause-gives t c =
    class_sign_wrong c.args.most c.requires.room c.args.first.now c.requires.word c.args.class.now c.front.result.0.now c.front.result.1.now c.args.rest.now c.front.ensures.split c.in_ok-name.name c.in_ok-name.ensures c.refused.result (sign_is_no sign.OPEN_PAREN c.front.result.0.now (sym c.is_sign.ensures ∙ c.if-is_sign.false)) (sign_is_no sign.OPEN_BRACKET c.front.result.0.now (sym c.is_sign-2.ensures ∙ c.if-not-is_sign.true)) c.refused.ensures

pub created_of_class-returns-then-most-eq1-clause-gives : goal.created_of_class-returns-then-most-eq1-clause-gives
created_of_class-returns-then-most-eq1-clause-gives t c =
    class_deep c.args.most c.requires.room c.args.first.now c.requires.word c.args.class.now c.front.result.0.now c.front.result.1.now c.args.rest.now c.front.ensures.split c.in_ok-name.name c.in_ok-name.ensures (sign_is sign.OPEN_BRACKET c.front.result.0.now (sym c.is_sign-2.ensures ∙ c.if-not-is_sign.false)) c.if-most-eq1.true

pub created_of_class-returns-clause-gives : goal.created_of_class-returns-clause-gives
created_of_class-returns-clause-gives t c =
    third c.args.most c.requires.room c.args.first.now c.requires.word c.args.class.now c.front.result.0.now c.front.result.1.now c.args.rest.now c.front.ensures.split c.created_array.result c.created_array.ensures.gives

-- ---- created_simply

pub created_simply-returns-then-most-eq1-clause-gives : goal.created_simply-returns-then-most-eq1-clause-gives
created_simply-returns-then-most-eq1-clause-gives t c =
    simple_full c.args.most c.requires.room c.args.first.now c.requires.word c.args.elem.now c.args.ty c.requires.elem c.args.rest.now c.requires.simple c.if-most-eq1.true

pub created_simply-returns-then-not-is_sign-clause-gives : goal.created_simply-returns-then-not-is_sign-clause-gives
created_simply-returns-then-not-is_sign-clause-gives t c =
    simple_sign_wrong c.args.most c.requires.room c.args.first.now c.requires.word c.args.elem.now c.front.result.0.now c.front.result.1.now c.args.rest.now c.front.ensures.split c.args.ty c.refused.result c.requires.elem c.requires.simple (omega arith) (sign_is_no sign.OPEN_BRACKET c.front.result.0.now (sym c.is_sign.ensures ∙ c.if-not-is_sign.true)) c.refused.ensures

pub created_simply-returns-clause-gives : goal.created_simply-returns-clause-gives
created_simply-returns-clause-gives t c =
    third c.args.most c.requires.room c.args.first.now c.requires.word c.args.elem.now c.front.result.0.now c.front.result.1.now c.args.rest.now c.front.ensures.split c.created_array.result c.created_array.ensures.gives

-- ---- created_array

pub created_array-returns-in_err-size-clause-gives : goal.created_array-returns-in_err-size-clause-gives
created_array-returns-in_err-size-clause-gives t c =
    let p = err_from_is_err_and c.from_residual.result c.from_residual.ensures.1 in
    rw (p.1, p.2) (array_fails c.args.most (omega (arith, c.requires.room)) c.args.first.now c.requires.word c.args.elem.now c.args.ty c.requires.elem c.args.bracket.now c.requires.bracket c.requires.room c.args.rest.now c.in_err-size.field-0.0 c.in_err-size.ensures.gives)

pub created_array-returns-then-is_sign-clause-gives : goal.created_array-returns-then-is_sign-clause-gives
created_array-returns-then-is_sign-clause-gives t c =
    let g = c.in_ok-size.ensures.gives in
    size_wrong c.args.most (omega (arith, c.requires.room)) c.args.first.now c.requires.word c.args.elem.now c.args.bracket.now c.args.ty c.requires.elem c.requires.bracket c.requires.room c.args.rest.now c.in_ok-size.behind.now c.in_ok-size.size c.in_ok-size.ensures.gives.0 c.front.result.0.now c.front.result.1.now c.front.ensures.split c.refused.result (omega (arith, g.1, g.2)) (sign_is sign.OPEN_BRACKET c.front.result.0.now (sym c.is_sign.ensures ∙ c.if-is_sign.true)) c.refused.ensures

pub created_array-returns-clause-gives : goal.created_array-returns-clause-gives
created_array-returns-clause-gives t c =
    array_stepped c.args.most (omega (arith, c.requires.room)) c.args.first.now c.requires.word c.args.elem.now c.args.bracket.now c.args.ty c.requires.elem c.requires.bracket c.requires.room c.args.rest.now c.in_ok-size.behind.now c.in_ok-size.size c.in_ok-size.ensures.gives.0 c.front.result.0.now c.front.result.1.now c.front.ensures.split c.in_ok-left.left c.steps.result (sign_is_no sign.OPEN_BRACKET c.front.result.0.now (sym c.is_sign.ensures ∙ c.if-is_sign.false)) c.in_ok-left.ensures c.steps.ensures.gives

-- ---- steps

pub steps-returns-then-not-is_step-clause-gives : goal.steps-returns-then-not-is_step-clause-gives
steps-returns-then-not-is_step-clause-gives t c =
    let i = c.all.invariant in
    let none = no_step c.front.result.0.now (sym c.is_step.ensures ∙ c.if-not-is_step.true) in
    i.whole (Ok (c.all.left, c.all.depth, c.all.tokens)) (steps_stops c.args.place c.args.most c.all.left c.front.result.0.now c.front.result.1.now c.all.tokens.now c.front.ensures.split none.0 none.1, i.depth, i.most)

pub steps-returns-then-depth-most-clause-gives : goal.steps-returns-then-depth-most-clause-gives
steps-returns-then-depth-most-clause-gives t c =
    let i = c.all.invariant in
    let h = a_step c.front.result.0.now (sym c.is_step.ensures ∙ c.if-not-is_step.false) in
    i.whole (Err _) (steps_deep c.args.place c.args.most c.all.left c.front.result.0.now c.front.result.1.now c.all.tokens.now c.front.ensures.split h (omega (arith, i.depth, c.if-depth-most.true)))

pub steps-step-requires : goal.steps-step-requires
steps-step-requires t c =
    let i = c.all.invariant in
    let h = a_step c.front.result.0.now (sym c.is_step.ensures ∙ c.if-not-is_step.false) in
    let text : kind_of_token c.front.result.0.now ≡ k.End → ⊥ = λ e. elim h [ inl g ↦ (let x : k.Sign sign.DOT ≡ k.End = sym g ∙ e in cc) | inr g ↦ (let x : k.Sign sign.OPEN_BRACKET ≡ k.End = sym g ∙ e in cc) ] in
    (search rules, (c.front.ensures.text text, (i.depth, (omega (arith, i.most, c.if-depth-most.false), h))))

pub steps-returns-in_err-longer-clause-gives : goal.steps-returns-in_err-longer-clause-gives
steps-returns-in_err-longer-clause-gives t c =
    let p = err_from_is_err_and c.from_residual.result c.from_residual.ensures.1 in
    let f = c.in_err-longer.ensures.gives in
    rw (p.1, p.2) (c.all.invariant.whole (Err c.in_err-longer.field-0.0) (subst (λ (x : Tokens). FailsWithin (Steps c.args.place c.all.left) depth_of (ends_level 0) c.args.most x c.in_err-longer.field-0.0) (sym c.front.ensures.split) f))

pub steps-all-preserved : goal.steps-all-preserved
steps-all-preserved t c =
    let i = c.all.invariant in
    let g = c.in_ok-longer.ensures.gives in
    record {
      rest = (c.in_ok-longer.ensures.rest.0, omega (arith, c.in_ok-longer.ensures.rest.1, i.rest.1, ap length c.front.ensures.split));
      depth = g.1;
      most = g.2;
      whole = λ r f. i.whole r (subst (λ (x : Tokens). Gives (Steps c.args.place c.all.left) depth_of (ends_level 0) c.args.most x r) (sym c.front.ensures.split) (g.0 r f));
    }

-- ---- step

pub step-returns-then-is_sign-clause-gives : goal.step-returns-then-is_sign-clause-gives
step-returns-then-is_sign-clause-gives t c =
    named_continues c.args.place c.args.most c.args.left c.args.first.now c.front.result.0.now c.front.result.1.now c.args.rest.now c.named.result c.front.ensures.split (sign_is sign.DOT c.args.first.now (sym c.is_sign.ensures ∙ c.if-is_sign.true)) c.named.ensures.gives

pub step-returns-in_err-index-clause-gives : goal.step-returns-in_err-index-clause-gives
step-returns-in_err-index-clause-gives t c =
    let p = err_from_is_err_and c.from_residual.result c.from_residual.ensures.1 in
    let d = sign_is_no sign.DOT c.args.first.now (sym c.is_sign.ensures ∙ c.if-is_sign.false) in
    let h : IsSign sign.OPEN_BRACKET c.args.first.now = elim c.requires.step [ inl i ↦ absurd (d i) | inr i ↦ i ] in
    rw (p.1, p.2) (index_fails c.args.place c.args.most c.args.left c.args.first.now c.args.rest.now c.in_err-index.field-0.0 h (omega (arith, c.requires.depth, c.requires.most)) c.in_err-index.ensures.gives)

pub step-returns-clause-gives : goal.step-returns-clause-gives
step-returns-clause-gives t c =
    let d = sign_is_no sign.DOT c.args.first.now (sym c.is_sign.ensures ∙ c.if-is_sign.false) in
    let h : IsSign sign.OPEN_BRACKET c.args.first.now = elim c.requires.step [ inl i ↦ absurd (d i) | inr i ↦ i ] in
    let g = c.in_ok-index.ensures.gives in
    index_continues c.args.place c.args.most c.args.left c.args.first.now c.args.rest.now c.in_ok-tree.tree c.in_ok-index.index c.args.depth c.in_ok-index.index_depth c.deeper.result c.in_ok-index.behind c.deeper.ensures h (omega (arith, c.requires.depth, c.requires.most)) g.0 c.requires.depth g.1 g.2 c.in_ok-tree.ensures

-- ---- bracketed

pub bracketed-returns-in_err-tree-clause-gives : goal.bracketed-returns-in_err-tree-clause-gives
bracketed-returns-in_err-tree-clause-gives t c =
    let p = err_from_is_err_and c.from_residual.result c.from_residual.ensures.1 in
    rw (p.1, p.2) (bracketed_fails ends_primary c.args.most c.args.tokens.now c.in_err-tree.field-0.0 c.in_err-tree.ensures.gives)

pub bracketed-returns-in_err-behind-clause-gives : goal.bracketed-returns-in_err-behind-clause-gives
bracketed-returns-in_err-behind-clause-gives t c =
    let p = err_from_is_err_and c.from_residual-in_err-behind.result c.from_residual-in_err-behind.ensures.1 in
    let g = c.in_ok-tree.ensures.gives in
    rw (p.1, p.2) (bracketed_wrong ends_primary c.args.most c.args.tokens.now c.in_ok-tree.tree c.in_ok-tree.behind.now c.in_err-behind.field-0.0 g.0 (omega (arith, g.1, g.2)) c.in_err-behind.ensures.gives)

pub bracketed-returns-clause-gives : goal.bracketed-returns-clause-gives
bracketed-returns-clause-gives t c =
    let g = c.in_ok-tree.ensures.gives in
    (bracketed_found ends_primary c.args.most c.args.tokens.now c.in_ok-tree.tree c.in_ok-tree.behind.now c.in_ok-behind.behind.now g.0 c.in_ok-behind.ensures.gives, g.1, g.2)

-- ---- args

pub args-returns-then-is_sign-clause-gives : goal.args-returns-then-is_sign-clause-gives
args-returns-then-is_sign-clause-gives t c =
    rw (c.new.ensures) (no_args_found c.args.most c.front.result.0.now c.front.result.1.now c.args.tokens.now c.front.ensures.split (sign_is sign.CLOSE_PAREN c.front.result.0.now (sym c.is_sign.ensures ∙ c.if-is_sign.true)), refl, omega arith)

pub args-returns-then-not-begins_expr-clause-gives : goal.args-returns-then-not-begins_expr-clause-gives
args-returns-then-not-begins_expr-clause-gives t c =
    let b : begins_expr (kind_of_token c.front.result.0.now) ≡ c.begins_expr.result = sym (c.begins_expr.ensures ∙ ap begins_expr c.kind_of.ensures) in
    no_args_wrong c.args.most c.front.result.0.now c.front.result.1.now c.args.tokens.now c.front.ensures.split c.refused.result (sign_is_no sign.CLOSE_PAREN c.front.result.0.now (sym c.is_sign.ensures ∙ c.if-is_sign.false)) (λ h. let g : true ≡ false = sym h ∙ b ∙ c.if-not-begins_expr.true in cc) c.refused.ensures

pub args-returns-then-most-eq0-clause-gives : goal.args-returns-then-most-eq0-clause-gives
args-returns-then-most-eq0-clause-gives t c =
    let b : begins_expr (kind_of_token c.front.result.0.now) ≡ c.begins_expr.result = sym (c.begins_expr.ensures ∙ ap begins_expr c.kind_of.ensures) in
    no_args_full c.args.most c.front.result.0.now c.front.result.1.now c.args.tokens.now c.front.ensures.split (sign_is_no sign.CLOSE_PAREN c.front.result.0.now (sym c.is_sign.ensures ∙ c.if-is_sign.false)) c.if-most-eq0.true (b ∙ c.if-not-begins_expr.false)

pub args-returns-in_err-arg-clause-gives : goal.args-returns-in_err-arg-clause-gives
args-returns-in_err-arg-clause-gives t c =
    let p = err_from_is_err_and c.from_residual.result c.from_residual.ensures.1 in
    rw (p.1, p.2) (first_arg_fails c.args.most c.front.result.0.now c.front.result.1.now c.args.tokens.now c.front.ensures.split c.in_err-arg.field-0.0 (sign_is_no sign.CLOSE_PAREN c.front.result.0.now (sym c.is_sign.ensures ∙ c.if-is_sign.false)) c.in_err-arg.ensures.gives)

pub args-returns-clause-gives : goal.args-returns-clause-gives
args-returns-clause-gives t c =
    let pushed : c.push.new.self ≡ [] ++ c.in_ok-arg.arg ∷ [] = cc (c.in_ok-push.ensures.ok) in
    list_begun c.args.most c.front.result.0.now c.front.result.1.now c.args.tokens.now c.front.ensures.split c.in_ok-arg.behind.now c.in_ok-arg.arg c.push.new.self c.more_args.result pushed (sign_is_no sign.CLOSE_PAREN c.front.result.0.now (sym c.is_sign.ensures ∙ c.if-is_sign.false)) c.in_ok-arg.ensures.gives.0 c.more_args.ensures.gives

-- ---- more_args

pub more_args-returns-then-is_sign-clause-gives : goal.more_args-returns-then-is_sign-clause-gives
more_args-returns-then-is_sign-clause-gives t c =
    let i = c.list.invariant in
    i.whole (Ok (c.list.args, c.list.depth, c.front.result.1)) (list_ends c.list.args c.args.most c.front.result.0.now c.front.result.1.now c.list.tokens.now c.front.ensures.split (sign_is sign.CLOSE_PAREN c.front.result.0.now (sym c.is_sign.ensures ∙ c.if-is_sign.true)), i.depth, i.most)

pub more_args-returns-then-not-is_sign-clause-gives : goal.more_args-returns-then-not-is_sign-clause-gives
more_args-returns-then-not-is_sign-clause-gives t c =
    c.list.invariant.whole (Err c.refused.result) (list_wrong c.list.args c.args.most c.front.result.0.now c.front.result.1.now c.list.tokens.now c.front.ensures.split c.refused.result (sign_is_no sign.CLOSE_PAREN c.front.result.0.now (sym c.is_sign.ensures ∙ c.if-is_sign.false)) (sign_is_no sign.COMMA c.front.result.0.now (sym c.is_sign-in-list.ensures ∙ c.if-not-is_sign.true)) c.refused.ensures (omega (arith, c.list.invariant.depth, c.list.invariant.most)))

pub more_args-returns-in_err-arg-clause-gives : goal.more_args-returns-in_err-arg-clause-gives
more_args-returns-in_err-arg-clause-gives t c =
    let p = err_from_is_err_and c.from_residual.result c.from_residual.ensures.1 in
    let h : IsSign sign.COMMA c.front.result.0.now = sign_is sign.COMMA c.front.result.0.now (sym c.is_sign-in-list.ensures ∙ c.if-not-is_sign.false) in
    rw (p.1, p.2) (c.list.invariant.whole (Err c.in_err-arg.field-0.0) (list_fails c.list.args c.args.most c.front.result.0.now c.front.result.1.now c.list.tokens.now c.front.ensures.split c.in_err-arg.field-0.0 h (omega (arith, c.list.invariant.depth, c.list.invariant.most)) c.in_err-arg.ensures.gives))

pub more_args-list-preserved : goal.more_args-list-preserved
more_args-list-preserved t c =
    let h : IsSign sign.COMMA c.front.result.0.now = sign_is sign.COMMA c.front.result.0.now (sym c.is_sign-in-list.ensures ∙ c.if-not-is_sign.false) in
    let i = c.list.invariant in
    let g = c.in_ok-arg.ensures.gives in
    let pushed : c.push.new.self ≡ c.list.args ++ c.in_ok-arg.arg ∷ [] = c.in_ok-push.ensures.ok ∙ ap (λ (x : Expr). c.list.args ++ x ∷ []) c.into_inner.ensures in
    record {
      rest = (c.in_ok-arg.ensures.rest.0, omega (arith, c.in_ok-arg.ensures.rest.1, i.rest.1, ap length c.front.ensures.split));
      depth = depth_pushed c.list.args c.push.new.self c.in_ok-arg.arg c.list.depth c.in_ok-arg.arg_depth c.deeper-depth.result c.deeper-depth.ensures pushed i.depth g.1;
      most = omega (arith, g.2, i.most, c.deeper-depth.ensures);
      whole = λ r f. i.whole r (list_pushed c.list.args c.push.new.self c.args.most c.front.result.0.now c.front.result.1.now c.list.tokens.now c.in_ok-arg.behind.now c.in_ok-arg.arg r c.front.ensures.split pushed h (omega (arith, c.list.invariant.depth, c.list.invariant.most)) g.0 f);
    }

-- ---- what calls require: a smaller measure, and the clauses

pub choices-full-requires : goal.choices-full-requires
choices-full-requires t c =
    let h : IsSign sign.QUESTION c.front.result.0.now = sign_is sign.QUESTION c.front.result.0.now (sym c.is_sign.ensures ∙ c.if-not-is_sign.false) in
    let d = depth_positive c.args.test in
    (search rules, (c.front.ensures.text (λ e. let g : k.Sign sign.QUESTION ≡ k.End = sym h ∙ e in cc), omega (arith, d, c.requires.depth, c.requires.most, c.if-depth-most.false)))

pub choices-alternative-requires : goal.choices-alternative-requires
choices-alternative-requires t c =
    let d = depth_positive c.args.test in
    let g = c.in_ok-yes.ensures.gives in
    (search rules, (c.in_ok-yes.ensures.rest.0, (c.requires.depth, (g.1, (omega (arith, c.requires.most, c.if-depth-most.false), omega (arith, d, c.requires.depth, c.requires.most, c.if-depth-most.false, g.2))))))

pub alternative-full-requires : goal.alternative-full-requires
alternative-full-requires t c =
    let h : IsSign sign.COLON c.front.result.0.now = sign_is sign.COLON c.front.result.0.now (sym c.is_sign.ensures ∙ c.if-not-is_sign.false) in
    let d = depth_positive c.args.test in
    (search rules, (c.front.ensures.text (λ e. let g : k.Sign sign.COLON ≡ k.End = sym h ∙ e in cc), omega (arith, d, c.requires.test_depth, c.requires.test_most)))

pub joined-level_of-requires : goal.joined-level_of-requires
joined-level_of-requires t c =
    let d = depth_positive c.args.left in
    (search rules, (c.requires.text, omega (arith, d, c.requires.depth, c.requires.most)))

pub step-bracketed-requires : goal.step-bracketed-requires
step-bracketed-requires t c =
    let d = depth_positive c.args.left in
    (search rules, (c.requires.text, omega (arith, d, c.requires.depth, c.requires.most)))

pub created_of_class-steps-requires : goal.created_of_class-steps-requires
created_of_class-steps-requires t c =
    let d = depth_new c.args.first.now.place c.in_ok-name.name c.in_ok-args.args in
    let e = ap depth_of c.in_ok-left.ensures in
    let g = c.in_ok-args.ensures.gives in
    (search rules, (c.in_ok-args.ensures.rest.0, (omega (arith, d, e, g.1), omega (arith, g.2, c.requires.room))))

pub created_array-steps-requires : goal.created_array-steps-requires
created_array-steps-requires t c =
    let d = depth_array c.args.first.now.place c.args.ty c.in_ok-size.size in
    let e = ap depth_of c.in_ok-left.ensures in
    let g = c.in_ok-size.ensures.gives in
    (search rules, (c.in_ok-size.ensures.rest.0, (omega (arith, d, e, g.1), omega (arith, g.2, c.requires.room))))

pub args-more_args-requires : goal.args-more_args-requires
args-more_args-requires t c =
    let g = c.in_ok-arg.ensures.gives in
    let pushed : c.push.new.self ≡ [] ++ c.in_ok-arg.arg ∷ [] = cc (c.in_ok-push.ensures.ok) in
    (search rules, (c.in_ok-arg.ensures.rest.0, (depth_pushed [] c.push.new.self c.in_ok-arg.arg 0 c.in_ok-arg.depth c.in_ok-arg.depth (omega arith) pushed refl g.1, (g.2, omega (arith, c.if-most-eq0.false)))))
