-- The depth of each statement, by the depths of its parts.
use Rattle.std.proofs.Common.{◌≡◌, ℕ, ◌+◌, ◌≤◌, max, Bool, List, [], ◌∷◌, ◌++◌, Option, Some, None, map, refl, sym, ap, ◌∙◌, rules, arith}
use Rattle.jp_pred.specs.declared.ty.Ty.{Ty}
use Rattle.jp_ast.specs.declared.token.Place.{Place}
use Rattle.jp_ast.specs.declared.expr.Expr.{Expr}
use Rattle.jp_ast.specs.declared.stmt.Stmt.{Stmt, fold-Stmt, fold_out-Stmt, the_lemmas}
use Rattle.jp_ast.specs.declared.stmt.StmtKind.{StmtKind, StmtKind-F, fold_out-StmtKind}
use Rattle.jp_ast.specs.declared.stmt.StmtKind.TheVariants as made
use Rattle.jp_grammar.specs.Depth.{depth, depth_of_option, greatest, stmt_depth, stmt_depth_step, deepest, deepest_step}
use Rattle.jp_parse_stmt.specs.Parts.{stmt_at}

pub stmt_depth_block : (p : Place) (b : List Stmt) → stmt_depth (stmt_at p (made.Block b)) ≡ 1 + greatest (map stmt_depth b)
unfolding stmt_depth
stmt_depth_block p b = search (rules, the_lemmas)

pub deepest_block : (p : Place) (b : List Stmt) → deepest (stmt_at p (made.Block b)) ≡ greatest (map deepest b)
unfolding deepest
deepest_block p b = search (rules, the_lemmas)

pub stmt_depth_empty : (p : Place) → stmt_depth (stmt_at p made.Empty) ≡ 1
unfolding stmt_depth
stmt_depth_empty p = search (rules, the_lemmas)

pub deepest_empty : (p : Place) → deepest (stmt_at p made.Empty) ≡ 0
unfolding deepest
deepest_empty p = search (rules, the_lemmas)

pub stmt_depth_local : (p : Place) (t : Ty) (n : List ℕ) (v : Option Expr) → stmt_depth (stmt_at p (made.Local t n v)) ≡ 1
unfolding stmt_depth
stmt_depth_local p t n v = search (rules, the_lemmas)

pub stmt_depth_if : (p : Place) (e : Expr) (a : Stmt) → stmt_depth (stmt_at p (made.If e a None)) ≡ 1 + stmt_depth a
unfolding stmt_depth
stmt_depth_if p e a = search (rules, the_lemmas)

pub deepest_if : (p : Place) (e : Expr) (a : Stmt) → deepest (stmt_at p (made.If e a None)) ≡ max (depth e) (deepest a)
unfolding deepest
deepest_if p e a = search (rules, the_lemmas)

pub stmt_depth_if_else : (p : Place) (e : Expr) (a b : Stmt) → stmt_depth (stmt_at p (made.If e a (Some b))) ≡ 1 + max (stmt_depth a) (stmt_depth b)
unfolding stmt_depth
stmt_depth_if_else p e a b = search (rules, the_lemmas)

pub deepest_if_else : (p : Place) (e : Expr) (a b : Stmt) → deepest (stmt_at p (made.If e a (Some b))) ≡ max (depth e) (max (deepest a) (deepest b))
unfolding deepest
deepest_if_else p e a b = search (rules, the_lemmas)

pub stmt_depth_while : (p : Place) (e : Expr) (a : Stmt) → stmt_depth (stmt_at p (made.While e a)) ≡ 1 + stmt_depth a
unfolding stmt_depth
stmt_depth_while p e a = search (rules, the_lemmas)

pub deepest_while : (p : Place) (e : Expr) (a : Stmt) → deepest (stmt_at p (made.While e a)) ≡ max (depth e) (deepest a)
unfolding deepest
deepest_while p e a = search (rules, the_lemmas)

pub stmt_depth_break : (p : Place) → stmt_depth (stmt_at p made.Break) ≡ 1
unfolding stmt_depth
stmt_depth_break p = search (rules, the_lemmas)

pub deepest_break : (p : Place) → deepest (stmt_at p made.Break) ≡ 0
unfolding deepest
deepest_break p = search (rules, the_lemmas)

pub stmt_depth_continue : (p : Place) → stmt_depth (stmt_at p made.Continue) ≡ 1
unfolding stmt_depth
stmt_depth_continue p = search (rules, the_lemmas)

pub deepest_continue : (p : Place) → deepest (stmt_at p made.Continue) ≡ 0
unfolding deepest
deepest_continue p = search (rules, the_lemmas)

pub stmt_depth_return : (p : Place) (v : Option Expr) → stmt_depth (stmt_at p (made.Return v)) ≡ 1
unfolding stmt_depth
stmt_depth_return p v = search (rules, the_lemmas)

pub deepest_return : (p : Place) (v : Option Expr) → deepest (stmt_at p (made.Return v)) ≡ depth_of_option v
unfolding deepest
deepest_return p v = search (rules, the_lemmas)

pub stmt_depth_assign : (p : Place) (l r : Expr) (b : ℕ) → stmt_depth (stmt_at p (made.Assign l b r)) ≡ 1
unfolding stmt_depth
stmt_depth_assign p l r b = search (rules, the_lemmas)

pub stmt_depth_bump : (p : Place) (l : Expr) (up : Bool) → stmt_depth (stmt_at p (made.Bump l up)) ≡ 1
unfolding stmt_depth
stmt_depth_bump p l up = search (rules, the_lemmas)

pub stmt_depth_run : (p : Place) (l : Expr) → stmt_depth (stmt_at p (made.Run l)) ≡ 1
unfolding stmt_depth
stmt_depth_run p l = search (rules, the_lemmas)

-- the greatest of the numbers of some things and one more
pub greatest_push : {A : Type 0} (f : A → ℕ) (ts : List A) (t : A) → greatest (map f (ts ++ t ∷ [])) ≡ max (greatest (map f ts)) (f t)
greatest_push f [] t = omega arith
greatest_push f (u ∷ ts) t = let h = greatest_push f ts t in omega (arith, h)
