use Rattle.std.proofs.Common.{◌≡◌, ℕ, suc, ◌+◌, ◌-◌, ◌<◌, ◌≤◌, List, [], ◌∷◌, ◌++◌, length, drop, true, false, IsTrue, Ok, Err, Some, None, inl, inr, refl, sym, ap, ◌∙◌, subst, add-one, rules, arith}
use Rattle.std.proofs.lemmas.Result.{err_from_is_err_and}
use Rattle.std.proofs.lemmas.List.{take_rest}
use Rattle.std.proofs.lemmas.Grind.{common_steps}
use Rattle.jp_ast.specs.declared.sign.TheConstants as sign
use Rattle.jp_ast.specs.declared.guard.GuardExpr.{GuardExpr}
use Rattle.jp_grammar.specs.declared.kind.Kind.TheVariants as k
use Rattle.jp_grammar.specs.Kinds.{Is, IsSign, Tokens, kind_of_token}
use Rattle.jp_grammar.specs.Guards.{Level, Chain, Gun}
use Rattle.jp_grammar.specs.Depth.{guard_depth as depth_of}
use Rattle.jp_grammar.specs.Reading.{Found, FailsWithin, Gives}
use Rattle.jp_parse_expr.specs.BehindGuards.{joins, ends_join}
use Rattle.jp_parse_expr.specs.GuardParts.{OpensGuard}
use Rattle.jp_parse_expr.proofs.Signs.{sign_is, sign_is_no}
use Rattle.jp_parse_expr.proofs.Runs.{text_drop}
use Rattle.jp_parse_expr.proofs.GuardDepths.{depth_not, depth_joined, depth_positive}
use Rattle.jp_parse_expr.proofs.GuardLevels.{level_zero, level_gives, chain_fails, gun_level_fails, chain_stops, chain_full, sign_fails, sign_gives, not_fails, not_found, not_full, atom_fails, atom_found}
use Rattle.jp_parse_expr.proofs.GuardRuns.{run_fails, inner_fails, closing_wrong, outer_found}
use Rattle.jp_parse_expr.proofs.guard.+guard.Goals as goal

-- ---- level_of

pub level_of-returns-in_err-left-clause-gives : goal.level_of-returns-in_err-left-clause-gives
level_of-returns-in_err-left-clause-gives t c =
    let p = err_from_is_err_and c.from_residual.result c.from_residual.ensures.1 in
    rw (p.1, p.2) (gun_level_fails c.args.level c.args.most c.args.tokens.now c.in_err-left.field-0.0 c.in_err-left.ensures.gives)

-- ---- climb

pub climb-levels-init : goal.climb-levels-init
climb-levels-init t c = record {
  rest = (c.requires.text, omega arith);
  depth = c.requires.depth;
  most = c.requires.most;
  read = level_zero c.args.begin.now c.args.tokens.now c.args.left c.requires.read;
}

pub climb-levels-preserved : goal.climb-levels-preserved
climb-levels-preserved t c =
    let g = c.in_ok-next.ensures.gives in
    record {
      rest = (c.in_ok-next.ensures.rest.0, omega (arith, c.in_ok-next.ensures.rest.1, c.levels.invariant.rest.1));
      depth = g.1;
      most = g.2;
      read = rw add-one ((level_gives c.levels.n c.args.most c.front.result.0.now c.args.begin.now c.front.result.1.now c.levels.tokens.now c.levels.left (Ok (c.in_ok-next.next, c.in_ok-next.next_depth, c.in_ok-next.rest)) c.front.ensures.split c.levels.invariant.read g).0);
    }

pub climb-returns-in_err-next-clause-gives : goal.climb-returns-in_err-next-clause-gives
climb-returns-in_err-next-clause-gives t c =
    let p = err_from_is_err_and c.from_residual.result c.from_residual.ensures.1 in
    rw (p.1, p.2) (chain_fails c.levels.n c.args.level c.args.most c.front.result.0.now c.args.begin.now c.front.result.1.now c.levels.tokens.now c.levels.left c.in_err-next.field-0.0 (omega (arith, c.levels-test.true)) c.front.ensures.split c.levels.invariant.read c.in_err-next.ensures.gives)

pub climb-returns-clause-gives : goal.climb-returns-clause-gives
climb-returns-clause-gives t c =
    let same : c.levels.n ≡ c.args.level = omega (arith, c.levels-test.false, c.levels.auto.n-end) in
    (subst (λ (x : ℕ). Found (Level x) (λ _. ends_join x) c.args.begin.now c.levels.left c.levels.tokens.now) same c.levels.invariant.read, c.levels.invariant.depth, c.levels.invariant.most)

-- ---- chain

pub chain-returns-then-ne-clause-gives : goal.chain-returns-then-ne-clause-gives
chain-returns-then-ne-clause-gives t c =
    let i = c.signs.invariant in
    let other : joins (kind_of_token c.front.result.0.now) ≡ Some c.args.level → ⊥ = grind (arith, common_steps) in
    i.whole (Ok (c.signs.left, c.signs.depth, c.signs.tokens)) (chain_stops c.args.place c.args.level c.args.most c.signs.left c.front.result.0.now c.front.result.1.now c.signs.tokens.now c.front.ensures.split other, i.depth, i.most)

pub chain-returns-then-depth-most-clause-gives : goal.chain-returns-then-depth-most-clause-gives
chain-returns-then-depth-most-clause-gives t c =
    let i = c.signs.invariant in
    let b : joins (kind_of_token c.front.result.0.now) ≡ Some c.args.level = grind (arith, common_steps) in
    i.whole (Err _) (chain_full c.args.place c.args.level c.args.most c.signs.left c.front.result.0.now c.front.result.1.now c.signs.tokens.now c.front.ensures.split b (omega (arith, i.depth, c.if-depth-most.true)))

pub chain-returns-in_err-right-clause-gives : goal.chain-returns-in_err-right-clause-gives
chain-returns-in_err-right-clause-gives t c =
    let p = err_from_is_err_and c.from_residual.result c.from_residual.ensures.1 in
    let i = c.signs.invariant in
    let b : joins (kind_of_token c.front.result.0.now) ≡ Some c.args.level = grind (arith, common_steps) in
    rw (p.1, p.2) (i.whole (Err c.in_err-right.field-0.0) (sign_fails c.args.place c.args.level c.args.most c.signs.left c.front.result.0.now c.front.result.1.now c.signs.tokens.now c.front.ensures.split c.in_err-right.field-0.0 b (omega (arith, i.depth, i.most, c.if-depth-most.false)) c.in_err-right.ensures.gives))

pub chain-signs-preserved : goal.chain-signs-preserved
chain-signs-preserved t c =
    let i = c.signs.invariant in
    let g = c.in_ok-right.ensures.gives in
    let b : joins (kind_of_token c.front.result.0.now) ≡ Some c.args.level = grind (arith, common_steps) in
    let room : depth_of c.signs.left + 1 ≤ c.args.most = omega (arith, i.depth, i.most, c.if-depth-most.false) in
    let d = depth_joined c.args.place c.args.level c.signs.left c.in_ok-right.right in
    let e = ap depth_of c.in_ok-longer.ensures in
    record {
      rest = (c.in_ok-right.ensures.rest.0, omega (arith, c.in_ok-right.ensures.rest.1, i.rest.1, ap length c.front.ensures.split));
      depth = omega (arith, d, e, i.depth, g.1, c.deeper-depth.ensures);
      most = omega (arith, g.2, i.depth, room, c.deeper-depth.ensures);
      whole = λ r f. i.whole r (sign_gives c.args.place c.args.level c.args.most c.signs.left c.front.result.0.now c.front.result.1.now c.signs.tokens.now c.front.ensures.split c.in_ok-right.behind.now c.in_ok-right.right c.in_ok-longer.longer r b room g.0 c.in_ok-longer.ensures f);
    }

-- ---- operand

pub operand-single-requires : goal.operand-single-requires
operand-single-requires t c =
    let o = c.opened-run.ensures in
    (search rules, (rw take_rest (text_drop c.opened-run.result c.args.tokens.now c.requires.text o.most), (c.requires.room, rw take_rest o.last)))

pub operand-climb-requires : goal.operand-climb-requires
operand-climb-requires t c =
    let i = c.closings.invariant in
    (search rules, (rw take_rest (text_drop c.closings.pending c.args.tokens.now c.requires.text (omega (arith, i.pending, c.opened-run.ensures.most))), (i.rest.0, (i.depth, (i.most, rw take_rest i.read)))))

pub operand-returns-in_err-left-clause-gives : goal.operand-returns-in_err-left-clause-gives
operand-returns-in_err-left-clause-gives t c =
    let p = err_from_is_err_and c.from_residual.result c.from_residual.ensures.1 in
    rw (p.1, p.2) (run_fails c.args.most c.args.tokens.now c.opened-run.result c.in_err-left.field-0.0 c.opened-run.ensures.opens (rw take_rest at c.in_err-left.ensures.gives))

pub operand-returns-in_err-inner-clause-gives : goal.operand-returns-in_err-inner-clause-gives
operand-returns-in_err-inner-clause-gives t c =
    let p = err_from_is_err_and c.from_residual-in_err-inner.result c.from_residual-in_err-inner.ensures.1 in
    rw (p.1, p.2) (inner_fails c.args.most c.args.tokens.now c.closings.pending c.closings-test.true (λ j h. c.opened-run.ensures.opens j (omega (arith, c.closings.invariant.pending, h))) c.in_err-inner.field-0.0 (rw take_rest at c.in_err-inner.ensures.gives))

pub operand-returns-in_err-behind-clause-gives : goal.operand-returns-in_err-behind-clause-gives
operand-returns-in_err-behind-clause-gives t c =
    let p = err_from_is_err_and c.from_residual-in_err-behind.result c.from_residual-in_err-behind.ensures.1 in
    let g = c.in_ok-inner.ensures.gives in
    rw (p.1, p.2) (closing_wrong c.args.most c.args.tokens.now c.closings.pending c.closings-test.true (λ j h. c.opened-run.ensures.opens j (omega (arith, c.closings.invariant.pending, h))) c.in_ok-inner.inner c.in_ok-inner.behind.now c.in_err-behind.field-0.0 (rw take_rest at g.0) (omega (arith, g.1, g.2)) c.in_err-behind.ensures.gives)

pub operand-closings-preserved : goal.operand-closings-preserved
operand-closings-preserved t c =
    let i = c.closings.invariant in
    let g = c.in_ok-inner.ensures.gives in
    record {
      pending = omega (arith, i.pending);
      rest = (c.in_ok-behind.ensures.rest.0, omega (arith, c.in_ok-behind.ensures.rest.1, c.in_ok-inner.ensures.rest.1, i.rest.1));
      depth = g.1;
      most = g.2;
      read = outer_found c.args.most c.args.tokens.now c.closings.pending c.closings-test.true (λ j h. c.opened-run.ensures.opens j (omega (arith, c.closings.invariant.pending, h))) c.in_ok-inner.inner c.in_ok-inner.inner_depth c.in_ok-inner.behind c.in_ok-behind.behind (rw take_rest at g.0) g.1 g.2 c.in_ok-behind.ensures.gives;
    }

-- ---- single

pub single-returns-in_err-tree-clause-gives : goal.single-returns-in_err-tree-clause-gives
single-returns-in_err-tree-clause-gives t c =
    let p = err_from_is_err_and c.from_residual.result c.from_residual.ensures.1 in
    let no_not : IsSign sign.NOT c.front.result.0.now → ⊥ = sign_is_no sign.NOT c.front.result.0.now (sym c.is_sign.ensures ∙ c.if-not-is_sign.true) in
    let no_open : IsSign sign.OPEN_PAREN c.front.result.0.now → ⊥ = λ h. c.requires.single (record { first = c.front.result.0.now; rest = c.front.result.1.now; split = c.front.ensures.split; is_open = h }) in
    rw (p.1, p.2) (atom_fails c.args.most c.front.result.0.now c.front.result.1.now c.args.tokens.now c.front.ensures.split no_not no_open c.in_err-tree.field-0.0 c.requires.room c.in_err-tree.ensures.gives)

pub single-returns-then-not-is_sign-clause-gives : goal.single-returns-then-not-is_sign-clause-gives
single-returns-then-not-is_sign-clause-gives t c =
    let no_not : IsSign sign.NOT c.front.result.0.now → ⊥ = sign_is_no sign.NOT c.front.result.0.now (sym c.is_sign.ensures ∙ c.if-not-is_sign.true) in
    let no_open : IsSign sign.OPEN_PAREN c.front.result.0.now → ⊥ = λ h. c.requires.single (record { first = c.front.result.0.now; rest = c.front.result.1.now; split = c.front.ensures.split; is_open = h }) in
    atom_found c.args.most c.front.result.0.now c.front.result.1.now c.args.tokens.now c.front.ensures.split no_not no_open c.in_ok-tree.tree c.in_ok-tree.behind c.requires.room c.in_ok-tree.ensures.gives

pub single-returns-then-most-eq1-clause-gives : goal.single-returns-then-most-eq1-clause-gives
single-returns-then-most-eq1-clause-gives t c =
    let h : IsSign sign.NOT c.front.result.0.now = sign_is sign.NOT c.front.result.0.now (sym c.is_sign.ensures ∙ c.if-not-is_sign.false) in
    not_full c.args.most c.front.result.0.now c.front.result.1.now c.args.tokens.now c.front.ensures.split h c.if-most-eq1.true

pub single-returns-in_err-right-clause-gives : goal.single-returns-in_err-right-clause-gives
single-returns-in_err-right-clause-gives t c =
    let p = err_from_is_err_and c.from_residual-in_err-right.result c.from_residual-in_err-right.ensures.1 in
    let h : IsSign sign.NOT c.front.result.0.now = sign_is sign.NOT c.front.result.0.now (sym c.is_sign.ensures ∙ c.if-not-is_sign.false) in
    rw (p.1, p.2) (not_fails c.args.most c.front.result.0.now c.front.result.1.now c.args.tokens.now c.front.ensures.split h c.in_err-right.field-0.0 c.requires.room c.in_err-right.ensures.gives)

pub single-returns-clause-gives : goal.single-returns-clause-gives
single-returns-clause-gives t c =
    let h : IsSign sign.NOT c.front.result.0.now = sign_is sign.NOT c.front.result.0.now (sym c.is_sign.ensures ∙ c.if-not-is_sign.false) in
    let g = c.in_ok-right.ensures.gives in
    let d = depth_not c.front.result.0.now.place c.in_ok-right.right in
    let e = ap depth_of c.in_ok-tree-2.ensures in
    (not_found c.args.most c.front.result.0.now c.front.result.1.now c.args.tokens.now c.front.ensures.split h c.in_ok-right.right c.in_ok-tree-2.tree c.in_ok-right.behind.now c.in_ok-tree-2.ensures g.0, omega (arith, d, e, g.1), omega (arith, g.2, c.requires.room))

-- ---- what calls require: a smaller measure, and the clauses

pub chain-level_of-requires : goal.chain-level_of-requires
chain-level_of-requires t c =
    let i = c.signs.invariant in
    let d = depth_positive c.signs.left in
    let b : joins (kind_of_token c.front.result.0.now) ≡ Some c.args.level = grind (arith, common_steps) in
    (search rules, (c.front.ensures.text (λ h. let g : joins (kind_of_token c.front.result.0.now) ≡ None = ap joins h in cc), omega (arith, d, i.depth, i.most, c.if-depth-most.false)))
