-- The statements in `while` and `for`.
use Rattle.std.proofs.Common.{◌≡◌, ℕ, ◌+◌, ◌-◌, ◌<◌, ◌≤◌, max, Bool, true, false, IsTrue, List, [], ◌∷◌, ◌++◌, Option, Some, None, Result, Ok, Err, refl, sym, ap, ◌∙◌, subst, inl, inr, ◌⊎◌, rules, arith}
use Rattle.std.specs.Borrow.{Bor}
use Rattle.jp_ast.specs.declared.token.Place.{Place}
use Rattle.jp_ast.specs.declared.token.Token.{Token}
use Rattle.jp_ast.specs.declared.expr.Expr.{Expr}
use Rattle.jp_ast.specs.declared.stmt.Stmt.{Stmt, the_lemmas}
use Rattle.jp_ast.specs.declared.stmt.StmtKind.TheVariants as made
use Rattle.jp_ast.specs.declared.sign.TheConstants as sign
use Rattle.jp_grammar.specs.declared.kind.Kind.TheVariants as k
use Rattle.jp_grammar.specs.declared.fault.ParseFault.{ParseFault}
use Rattle.jp_grammar.specs.Kinds.{Is, IsSign, Tokens}
use Rattle.jp_grammar.specs.Depth.{depth, depth_of_option, stmt_depth, deepest}
use Rattle.jp_grammar.specs.Expressions.{Expression}
use Rattle.jp_grammar.specs.Statements.{Change, Init, Test}
use Rattle.jp_grammar.specs.Reading.{Reads, Ends, Any, Found, Fails}
use Rattle.jp_grammar.proofs.Sequence.{Then}
use Rattle.jp_parse_stmt.specs.Behind.{anything}
use Rattle.jp_parse_stmt.specs.Forms.{OneStmt, Formed, Small, Whiled, Looped, Turns, AllTurns, OpenTurns, open_turns, SmallTurns, Flat, loop_at}
use Rattle.jp_parse_stmt.specs.Parts.{Gets, Shallow, MaybeShut, Each, stmt_at}
use Rattle.jp_parse_stmt.proofs.StmtDepths.{stmt_depth_while, deepest_while}
use Rattle.jp_parse_stmt.proofs.StmtParts.{fails_known, form_gives, body_begun, body_fails, body_gives}
use Rattle.jp_parse_stmt.proofs.StmtTurns.{init_maybe_flat, change_maybe_flat}

-- ---- `while`

module _ (at : Place) (most : ℕ) (room : 2 ≤ most) where
  abbrev while_at : Expr → Stmt → Stmt
  while_at e a = stmt_at at (made.While e a)

  while_up : (e : Expr) (b : Stmt) → depth e ≤ 200 → stmt_depth b + 1 ≤ most → deepest b ≤ 200 → (stmt_depth (while_at e b) ≤ most) × (deepest (while_at e b) ≤ 200)
  while_up e b p q r = let d = stmt_depth_while at e b in let i = deepest_while at e b in (omega (arith, d, q), omega (arith, i, p, r))

  while_down : (e : Expr) (b : Stmt) → stmt_depth (while_at e b) ≤ most → deepest (while_at e b) ≤ 200 → (depth e ≤ 200) × (stmt_depth b + 1 ≤ most) × (deepest b ≤ 200)
  while_down e b p q = let d = stmt_depth_while at e b in let i = deepest_while at e b in (omega (arith, i, q), omega (arith, d, p), omega (arith, i, q))

  pub while_begun : (xs : Tokens) (e : ParseFault) → Fails Test (λ _. anything) anything (λ e. depth e ≤ 200) xs e → Formed (Whiled at) most xs (Err e)
  while_begun xs e f = body_begun (λ e. depth e ≤ 200) while_at most while_up while_down room xs e f

  pub while_fails : (t : Expr) (xs : Tokens) (ys : Bor Tokens) (e : ParseFault) → Gets Test anything (λ e. depth e ≤ 200) xs (Ok (t, ys)) → Formed OneStmt (most - 1) ys.now (Err e) → Formed (Whiled at) most xs (Err e)
  while_fails t xs ys e g f = body_fails (λ e. depth e ≤ 200) while_at most while_up while_down room t xs ys.now e g.0 g.1 f

  pub while_gives : (t : Expr) (b u : Stmt) (xs : Tokens) (ys zs : Bor Tokens) → Gets Test anything (λ e. depth e ≤ 200) xs (Ok (t, ys)) → Formed OneStmt (most - 1) ys.now (Ok (b, zs)) → u ≡ while_at t b → Formed (Whiled at) most xs (Ok (u, zs))
  while_gives t b u xs ys zs g f same = body_gives (λ e. depth e ≤ 200) while_at most while_up while_down room t b u xs ys.now zs g.0 g.1 f same

-- ---- `for`

abbrev or_nothing : (Stmt → ℕ) → Option Stmt → ℕ
or_nothing f None = 0
or_nothing f (Some t) = f t

pub stmt_depth_for : (p : Place) (i c : Option Stmt) (e : Option Expr) (a : Stmt) → stmt_depth (stmt_at p (made.For i e c a)) ≡ 1 + max (or_nothing stmt_depth i) (max (or_nothing stmt_depth c) (stmt_depth a))
unfolding stmt_depth
stmt_depth_for p None None e a = search (rules, the_lemmas)
stmt_depth_for p (Some i) None e a = search (rules, the_lemmas)
stmt_depth_for p None (Some c) e a = search (rules, the_lemmas)
stmt_depth_for p (Some i) (Some c) e a = search (rules, the_lemmas)

deepest_for : (p : Place) (i c : Option Stmt) (e : Option Expr) (a : Stmt) → deepest (stmt_at p (made.For i e c a)) ≡ max (or_nothing deepest i) (max (depth_of_option e) (max (or_nothing deepest c) (deepest a)))
unfolding deepest
deepest_for p None None e a = search (rules, the_lemmas)
deepest_for p (Some i) None e a = search (rules, the_lemmas)
deepest_for p None (Some c) e a = search (rules, the_lemmas)
deepest_for p (Some i) (Some c) e a = search (rules, the_lemmas)

-- the parts fit into a statement at most so deep
abbrev Fit : ℕ → Turns → Type 0
Fit most h = (or_nothing stmt_depth h.0 + 1 ≤ most) × (or_nothing deepest h.0 ≤ 200) × (depth_of_option h.1 ≤ 200) × (or_nothing stmt_depth h.2 + 1 ≤ most) × (or_nothing deepest h.2 ≤ 200)

flat_fit : (most : ℕ) → 2 ≤ most → (o : Option Stmt) → Each Flat o → (or_nothing stmt_depth o + 1 ≤ most) × (or_nothing deepest o ≤ 200)
flat_fit most room None p = (omega (arith, room), omega arith)
flat_fit most room (Some t) p = (omega (arith, room, p.0), p.1)

expr_fit : (o : Option Expr) → Each (λ t. depth t ≤ 200) o → depth_of_option o ≤ 200
expr_fit None p = omega arith
expr_fit (Some t) p = p

fit_expr : (o : Option Expr) → depth_of_option o ≤ 200 → Each (λ t. depth t ≤ 200) o
fit_expr None p = tt
fit_expr (Some t) p = p

fit_shallow : (o : Option Stmt) → or_nothing deepest o ≤ 200 → Each Shallow o
fit_shallow None p = tt
fit_shallow (Some t) p = p

small_fit : (most : ℕ) → 2 ≤ most → (h : Turns) → SmallTurns h → Fit most h
small_fit most room h p = let i = flat_fit most room h.0 p.0 in let c = flat_fit most room h.2 p.2 in (i.0, i.1, expr_fit h.1 p.1, c.0, c.1)

fit_small : (most : ℕ) (xs zs : Tokens) (h : Turns) → OpenTurns xs h zs → Fit most h → SmallTurns h
fit_small most xs zs h (open_turns o r) p =
    let q : Fit most (r.0, r.3.0, r.3.3.0) = subst (λ (x : Turns). Fit most x) r.3.3.2 p in
    subst (λ (x : Turns). SmallTurns x) (sym r.3.3.2) (init_maybe_flat _ r.1 r.0 r.2 (fit_shallow r.0 q.1), fit_expr r.3.0 q.2, change_maybe_flat r.3.1 zs r.3.3.0 r.3.3.1 (fit_shallow r.3.3.0 q.4))

module _ (at : Place) (most : ℕ) (room : 2 ≤ most) where
  loop_up : (h : Turns) (b : Stmt) → Fit most h → stmt_depth b + 1 ≤ most → deepest b ≤ 200 → (stmt_depth (loop_at at h b) ≤ most) × (deepest (loop_at at h b) ≤ 200)
  loop_up h b p q r = let d = stmt_depth_for at h.0 h.2 h.1 b in let i = deepest_for at h.0 h.2 h.1 b in (omega (arith, d, p.0, p.3, q), omega (arith, i, p.1, p.2, p.4, r))

  loop_down : (h : Turns) (b : Stmt) → stmt_depth (loop_at at h b) ≤ most → deepest (loop_at at h b) ≤ 200 → Fit most h × (stmt_depth b + 1 ≤ most) × (deepest b ≤ 200)
  loop_down h b p q = let d = stmt_depth_for at h.0 h.2 h.1 b in let i = deepest_for at h.0 h.2 h.1 b in
      ((omega (arith, d, p), omega (arith, i, q), omega (arith, i, q), omega (arith, d, p), omega (arith, i, q)), omega (arith, d, p), omega (arith, i, q))

  pub loop_begun : (xs : Tokens) (e : ParseFault) → Fails OpenTurns (λ _. anything) anything SmallTurns xs e → Formed (Looped at) most xs (Err e)
  loop_begun xs e f = body_begun (Fit most) (loop_at at) most loop_up loop_down room xs e (fails_known (λ ys zs h r p. small_fit most room h p) (fit_small most) xs e f)

  pub loop_fails : (h : Turns) (xs : Tokens) (ys : Bor Tokens) (e : ParseFault) → Gets OpenTurns anything SmallTurns xs (Ok (h, ys)) → Formed OneStmt (most - 1) ys.now (Err e) → Formed (Looped at) most xs (Err e)
  loop_fails h xs ys e g f = body_fails (Fit most) (loop_at at) most loop_up loop_down room h xs ys.now e g.0 (small_fit most room h g.1) f

  pub loop_gives : (h : Turns) (b u : Stmt) (xs : Tokens) (ys zs : Bor Tokens) → Gets OpenTurns anything SmallTurns xs (Ok (h, ys)) → Formed OneStmt (most - 1) ys.now (Ok (b, zs)) → u ≡ loop_at at h b → Formed (Looped at) most xs (Ok (u, zs))
  loop_gives h b u xs ys zs g f same = body_gives (Fit most) (loop_at at) most loop_up loop_down room h b u xs ys.now zs g.0 (small_fit most room h g.1) f same
