-- Statements that are read from short tokens: they are fine, and the tokens behind them are short.
use Rattle.std.proofs.Common.{List, Bool, Option, Some, None}
use Rattle.jp_ast.specs.declared.token.Place.{Place}
use Rattle.jp_ast.specs.declared.expr.Expr.{Expr}
use Rattle.jp_ast.specs.declared.stmt.Stmt.{Stmt}
use Rattle.jp_grammar.specs.Kinds.{Tokens, place_of}
use Rattle.jp_grammar.specs.Statements.{Change, assign, bump, run, Declared, declared, Init, init_local, init_change, MaybeInit, no_init, some_init, MaybeExpr, no_expr, some_expr, MaybeChange, no_change, some_change, Test, test, Statement, block, empty, local, local_value, when_true, while_true, for_each, break_off, continue_on, return_from, change, Else, no_else, some_else, Block, block_end, block_more}
use Rattle.typed_texts.proofs.ShortTokens.{AreShort, type_short}
use Rattle.typed_texts.proofs.SourceForms.{Fine, FineOption, fine_left_out, fine_there, FineStmt, AllFineStmts, more_stmts, FineMaybe, stmt_left_out, stmt_there, fine_block, fine_empty, fine_break, fine_continue, fine_local, fine_return, fine_if, fine_while, fine_for, fine_assign, fine_bump, fine_run}
use Rattle.typed_texts.proofs.ReadExpressions.{read_expression, read_postfix}

read_change : {t : Stmt} {xs zs : Tokens} → Change xs t zs → AreShort xs → AreShort zs × FineStmt t
read_change (assign {b = b} {xs = xs} {left = left} {right = right} p h i e) w =
    let x = read_postfix p w in
    let y = read_expression e x.0.1 in
    (y.0, fine_assign (place_of xs) left b right x.1 y.1)
read_change (bump {up = up} {xs = xs} {left = left} p h) w = let x = read_postfix p w in (x.0.1, fine_bump (place_of xs) left up x.1)
read_change (run {xs} {e = e} p) w = let x = read_postfix p w in (x.0, fine_run (place_of xs) e x.1)

read_declared : {t : Stmt} {xs zs : Tokens} → Declared xs t zs → AreShort xs → AreShort zs × FineStmt t
read_declared (declared {name = name} {xs = xs} {t = t} {value = value} g h i e) w =
    let x = read_expression e (type_short g w).0.1.1 in
    (x.0, fine_local (place_of xs) t name (Some value) (fine_there value x.1))

read_init : {t : Stmt} {xs zs : Tokens} → Init xs t zs → AreShort xs → AreShort zs × FineStmt t
read_init (init_local d) w = read_declared d w
read_init (init_change c) w = read_change c w

read_maybe_init : {t : Option Stmt} {xs zs : Tokens} → MaybeInit xs t zs → AreShort xs → AreShort zs × FineMaybe t
read_maybe_init (no_init h) w = (w.1, stmt_left_out)
read_maybe_init (some_init {t = t} i h) w = let x = read_init i w in (x.0.1, stmt_there t x.1)

read_maybe_expr : {t : Option Expr} {xs zs : Tokens} → MaybeExpr xs t zs → AreShort xs → AreShort zs × FineOption t
read_maybe_expr (no_expr h) w = (w.1, fine_left_out)
read_maybe_expr (some_expr {t = t} e h) w = let x = read_expression e w in (x.0.1, fine_there t x.1)

read_maybe_change : {t : Option Stmt} {xs zs : Tokens} → MaybeChange xs t zs → AreShort xs → AreShort zs × FineMaybe t
read_maybe_change (no_change h) w = (w.1, stmt_left_out)
read_maybe_change (some_change {t = t} c h) w = let x = read_change c w in (x.0.1, stmt_there t x.1)

read_test : {t : Expr} {xs zs : Tokens} → Test xs t zs → AreShort xs → AreShort zs × Fine t
read_test (test h e i) w = let x = read_expression e w.1 in (x.0.1, x.1)

mutual
  read_statement : {t : Stmt} {short : Bool} {xs zs : Tokens} → Statement xs t short zs → AreShort xs → AreShort zs × FineStmt t
  read_statement (block {s} {ts = ts} h b) w = let x = read_block b w.1 tt in (x.0, fine_block s.place ts x.1)
  read_statement (empty {s} h) w = (w.1, fine_empty s.place)
  read_statement (local {name = name} {xs = xs} {t = t} g h i) w = ((type_short g w).0.1.1, fine_local (place_of xs) t name None fine_left_out)
  read_statement (local_value d h) w = let x = read_declared d w in (x.0.1, x.1)
  read_statement (when_true h t s e) w =
      let x = read_test t w.1 in
      let y = read_statement s x.0 in
      read_else e y.0 x.1 y.1
  read_statement (while_true {s} {e = e} {a = a} h t b) w =
      let x = read_test t w.1 in
      let y = read_statement b x.0 in
      (y.0, fine_while s.place e a x.1 y.1)
  read_statement (for_each {s} {i = i} {c = c} {e = e} {a = a} h o j k l b) w =
      let x = read_maybe_init j w.1.1 in
      let y = read_maybe_expr k x.0 in
      let z = read_maybe_change l y.0 in
      let u = read_statement b z.0 in
      (u.0, fine_for s.place i e c a x.1 y.1 z.1 u.1)
  read_statement (break_off {s} h i) w = (w.1.1, fine_break s.place)
  read_statement (continue_on {s} h i) w = (w.1.1, fine_continue s.place)
  read_statement (return_from {s} {e = e} h k) w = let x = read_maybe_expr k w.1 in (x.0, fine_return s.place e x.1)
  read_statement (change c h) w = let x = read_change c w in (x.0.1, x.1)

  read_else : {at : Place} {e : Expr} {a t : Stmt} {inner short : Bool} {xs zs : Tokens} → Else at e a inner xs t short zs → AreShort xs → Fine e → FineStmt a → AreShort zs × FineStmt t
  read_else (no_else {at} {e = e} {a = a}) w h k = (w, fine_if at e a None h k stmt_left_out)
  read_else (some_else {at} {e = e} {a = a} {b = b} i s) w h k = let x = read_statement s w.1 in (x.0, fine_if at e a (Some b) h k (stmt_there b x.1))

  pub read_block : {ts us : List Stmt} {xs zs : Tokens} → Block ts xs us zs → AreShort xs → AllFineStmts ts → AreShort zs × AllFineStmts us
  read_block (block_end h) w k = (w.1, k)
  read_block (block_more {ts = ts} {t = t} s b) w k = let x = read_statement s w in read_block b x.0 (more_stmts ts t k x.1)
