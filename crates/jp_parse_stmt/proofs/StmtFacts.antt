-- What every statement has: the tokens that it begins with, and the tokens that it takes.
use Rattle.std.proofs.Common.{◌≡◌, ℕ, suc, ◌<◌, ◌≤◌, Bool, true, false, ◌||◌, ◌==◌, IsTrue, List, [], ◌∷◌, ◌++◌, length, Option, Some, None, refl, sym, ap, ◌∙◌, subst, inl, inr, ◌⊎◌, arith}
use Rattle.jp_pred.specs.declared.ty.Ty.{Ty}
use Rattle.jp_pred.specs.declared.ty.Ty.TheVariants as ty
use Rattle.jp_ast.specs.declared.token.Place.{Place}
use Rattle.jp_ast.specs.declared.token.Token.{Token}
use Rattle.jp_ast.specs.declared.expr.Expr.{Expr}
use Rattle.jp_ast.specs.declared.stmt.Stmt.{Stmt}
use Rattle.jp_ast.specs.declared.sign.TheConstants as sign
use Rattle.jp_grammar.specs.declared.kind.Kind.{Kind}
use Rattle.jp_grammar.specs.declared.kind.Kind.TheVariants as k
use Rattle.jp_grammar.specs.Kinds.{Is, IsSign, Tokens, kind_of_token}
use Rattle.jp_grammar.specs.Expressions.{Expression, IsElement}
use Rattle.jp_grammar.specs.Statements.{OneType, Change, Declared, MaybeInit, MaybeExpr, MaybeChange, Test, Statement, Else, Block, element_type, array_type, declared, no_init, some_init, no_expr, some_expr, no_change, some_change, test, assign, bump, run, block, empty, local, local_value, when_true, while_true, for_each, break_off, continue_on, return_from, change, no_else, some_else, block_end, block_more}
use Rattle.jp_grammar.specs.Reading.{Begins}
use Rattle.jp_grammar.specs.Behind.{begins_plain}
use Rattle.jp_grammar.proofs.Excluding.{or_left, or_right}
use Rattle.jp_grammar.proofs.Facts.{expression_shorter}
use Rattle.jp_grammar.proofs.Prefixes.{begins_primary, postfix_primary}
use Rattle.jp_parse_stmt.specs.Forms.{begins_stmt}
use Rattle.jp_parse_stmt.proofs.LocalLines.{type_solid}
use Rattle.jp_parse_stmt.proofs.Inits.{change_shorter, declared_shorter, init_shorter}

-- ---- what they begin with

-- a statement without a word of its own begins with it
abbrev pub begins_simple : Kind → Bool
begins_simple k.Int = true
begins_simple k.Boolean = true
begins_simple kind = begins_plain kind

primary_begins : (kind : Kind) → IsTrue (begins_primary kind) → IsTrue (begins_stmt kind)
primary_begins (k.Sign b) h = or_right (b == sign.OPEN_BRACE || b == sign.SEMICOLON) (b == sign.OPEN_PAREN) h
primary_begins k.Name h = refl
primary_begins k.Number h = refl
primary_begins k.Text h = refl
primary_begins k.True h = refl
primary_begins k.False h = refl
primary_begins k.Null h = refl
primary_begins k.This h = refl
primary_begins k.Super h = refl
primary_begins k.New h = refl
primary_begins _ h = cc

primary_stmt : (xs : Tokens) → Begins begins_primary xs → Begins begins_stmt xs
primary_stmt [] h = h
primary_stmt (s ∷ xs) h = primary_begins (kind_of_token s) h

change_primary : (xs zs : Tokens) (t : Stmt) → Change xs t zs → Begins begins_primary xs
change_primary xs zs t (assign p h i e) = postfix_primary p
change_primary xs zs t (bump p h) = postfix_primary p
change_primary xs zs t (run p) = postfix_primary p

elem_begins : (t : Ty) (s : Token) → IsElement t s → IsTrue (begins_stmt (kind_of_token s))
elem_begins ty.Int s i = ap begins_stmt i
elem_begins ty.Boolean s i = ap begins_stmt i
elem_begins (ty.Class class) s i = ap begins_stmt i.1
elem_begins _ s i = absurd i

type_begins : (t : Ty) (xs ys : Tokens) → OneType xs t ys → Begins begins_stmt xs
type_begins t xs ys (element_type {s = s} i) = elem_begins t s i
type_begins t xs ys (array_type {s = s} elem i o p) = elem_begins elem s i

declared_begins : (xs ys : Tokens) (t : Stmt) → Declared xs t ys → Begins begins_stmt xs
declared_begins xs ys t (declared {t = u} o n h e) = type_begins u xs _ o

pub stmt_begins : {xs zs : Tokens} {t : Stmt} {short : Bool} → Statement xs t short zs → Begins begins_stmt xs
stmt_begins (block h b) = ap begins_stmt h
stmt_begins (empty h) = ap begins_stmt h
stmt_begins {xs = xs} (local {t = u} o n h) = type_begins u xs _ o
stmt_begins {xs = xs} (local_value {t = u} d h) = declared_begins xs _ u d
stmt_begins (when_true h t a e) = ap begins_stmt h
stmt_begins (while_true h t a) = ap begins_stmt h
stmt_begins (for_each h o i e c a) = ap begins_stmt h
stmt_begins (break_off h p) = ap begins_stmt h
stmt_begins (continue_on h p) = ap begins_stmt h
stmt_begins (return_from h e) = ap begins_stmt h
stmt_begins {xs = xs} (change {t = u} c h) = primary_stmt xs (change_primary xs _ u c)

-- ---- the tokens that they take

maybe_init_shorter : {xs zs : Tokens} {t : Option Stmt} → MaybeInit xs t zs → length zs < length xs
maybe_init_shorter (no_init h) = omega arith
maybe_init_shorter {xs = xs} (some_init {t = u} i h) = let a = init_shorter xs _ u i in omega (arith, a)

maybe_expr_shorter : {xs zs : Tokens} {t : Option Expr} → MaybeExpr xs t zs → length zs < length xs
maybe_expr_shorter (no_expr h) = omega arith
maybe_expr_shorter (some_expr e h) = let a = expression_shorter e in omega (arith, a)

maybe_change_shorter : {xs zs : Tokens} {t : Option Stmt} → MaybeChange xs t zs → length zs < length xs
maybe_change_shorter (no_change h) = omega arith
maybe_change_shorter {xs = xs} (some_change {t = u} c h) = let a = change_shorter xs _ u c in omega (arith, a)

test_shorter : {xs zs : Tokens} {t : Expr} → Test xs t zs → length zs < length xs
test_shorter (test h e i) = let a = expression_shorter e in omega (arith, a)

mutual
  pub stmt_shorter : {xs zs : Tokens} {t : Stmt} {short : Bool} → Statement xs t short zs → length zs < length xs
  stmt_shorter (block h b) = let a = block_shorter b in omega (arith, a)
  stmt_shorter (empty h) = omega arith
  stmt_shorter {xs = xs} (local {t = u} o n h) = let a = type_solid u xs _ o in omega (arith, a)
  stmt_shorter {xs = xs} (local_value {t = u} d h) = let a = declared_shorter xs _ u d in omega (arith, a)
  stmt_shorter (when_true h t a e) = let x = test_shorter t in let y = stmt_shorter a in let z = else_shorter e in omega (arith, x, y, z)
  stmt_shorter (while_true h t a) = let x = test_shorter t in let y = stmt_shorter a in omega (arith, x, y)
  stmt_shorter (for_each h o i e c a) = let v = maybe_init_shorter i in let w = maybe_expr_shorter e in let x = maybe_change_shorter c in let y = stmt_shorter a in omega (arith, v, w, x, y)
  stmt_shorter (break_off h p) = omega arith
  stmt_shorter (continue_on h p) = omega arith
  stmt_shorter (return_from h e) = let a = maybe_expr_shorter e in omega (arith, a)
  stmt_shorter {xs = xs} (change {t = u} c h) = let a = change_shorter xs _ u c in omega (arith, a)

  pub else_shorter : {at : Place} {e : Expr} {a t : Stmt} {inner short : Bool} {xs zs : Tokens} → Else at e a inner xs t short zs → length zs ≤ length xs
  else_shorter no_else = omega arith
  else_shorter (some_else h b) = let x = stmt_shorter b in omega (arith, x)

  pub block_shorter : {ts us : List Stmt} {xs zs : Tokens} → Block ts xs us zs → length zs < length xs
  block_shorter (block_end h) = omega arith
  block_shorter (block_more s b) = let x = stmt_shorter s in let y = block_shorter b in omega (arith, x, y)
