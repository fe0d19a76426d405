-- The depth of each node, by the depths of its parts.
use Rattle.std.proofs.Common.{◌≡◌, ℕ, ◌+◌, ◌≤◌, max, List, [], ◌∷◌, ◌++◌, Option, Some, None, map, Bool, refl, sym, ap, ◌∙◌, arith, rules}
use Rattle.jp_pred.specs.declared.ty.Ty.{Ty}
use Rattle.jp_ast.specs.declared.token.Place.{Place}
use Rattle.jp_ast.specs.declared.expr.Expr.{Expr, fold-Expr, fold_out-Expr, the_lemmas}
use Rattle.jp_ast.specs.declared.expr.ExprKind.{ExprKind, ExprKind-F, fold_out-ExprKind}
use Rattle.jp_ast.specs.declared.expr.ExprKind.TheOpen as expr_kind
use Rattle.jp_ast.specs.declared.expr.ExprKind.TheVariants as made
use Rattle.jp_grammar.specs.Depth.{depth, depth_step, depth_of_all, depth_of_option, greatest}
use Rattle.jp_grammar.specs.Trees.{number_at, text_at, truth_at, null_at, this_at, unary_at, binary_at, instance_at, cond_at, cast_at, named_at, called_at, index_at, super_at, new_at, array_at}

pub depth_number : (p : Place) (v : ℕ) (h : Bool) → depth (number_at p v h) ≡ 1
unfolding depth
depth_number p v h = search (rules, the_lemmas)

pub depth_text : (p : Place) (t : List ℕ) → depth (text_at p t) ≡ 1
unfolding depth
depth_text p t = search (rules, the_lemmas)

pub depth_truth : (p : Place) (b : Bool) → depth (truth_at p b) ≡ 1
unfolding depth
depth_truth p b = search (rules, the_lemmas)

pub depth_null : (p : Place) → depth (null_at p) ≡ 1
unfolding depth
depth_null p = search (rules, the_lemmas)

pub depth_this : (p : Place) → depth (this_at p) ≡ 1
unfolding depth
depth_this p = search (rules, the_lemmas)

pub depth_var : (p : Place) (n : List ℕ) → depth (named_at p None n) ≡ 1
unfolding depth
depth_var p n = search (rules, the_lemmas)

pub depth_field : (p : Place) (o : Expr) (n : List ℕ) → depth (named_at p (Some o) n) ≡ 1 + depth o
unfolding depth
depth_field p o n = search (rules, the_lemmas)

pub depth_unary : (p : Place) (b : ℕ) (r : Expr) → depth (unary_at p b r) ≡ 1 + depth r
unfolding depth
depth_unary p b r = search (rules, the_lemmas)

pub depth_binary : (p : Place) (b : ℕ) (l r : Expr) → depth (binary_at p b l r) ≡ 1 + max (depth l) (depth r)
unfolding depth
depth_binary p b l r = search (rules, the_lemmas)

pub depth_instance : (p : Place) (v : Expr) (n : List ℕ) → depth (instance_at p v n) ≡ 1 + depth v
unfolding depth
depth_instance p v n = search (rules, the_lemmas)

pub depth_cond : (p : Place) (t a b : Expr) → depth (cond_at p t a b) ≡ 1 + max (depth t) (max (depth a) (depth b))
unfolding depth
depth_cond p t a b = search (rules, the_lemmas)

pub depth_cast : (p : Place) (n : List ℕ) (v : Expr) → depth (cast_at p n v) ≡ 1 + depth v
unfolding depth
depth_cast p n v = search (rules, the_lemmas)

pub depth_index : (p : Place) (a i : Expr) → depth (index_at p a i) ≡ 1 + max (depth a) (depth i)
unfolding depth
depth_index p a i = search (rules, the_lemmas)

pub depth_array : (p : Place) (t : Ty) (s : Expr) → depth (array_at p t s) ≡ 1 + depth s
unfolding depth
depth_array p t s = search (rules, the_lemmas)

pub depth_call : (p : Place) (n : List ℕ) (ts : List Expr) → depth (called_at p None n ts) ≡ 1 + depth_of_all ts
unfolding depth
depth_call p n ts = search (rules, the_lemmas)

pub depth_call_of : (p : Place) (o : Expr) (n : List ℕ) (ts : List Expr) → depth (called_at p (Some o) n ts) ≡ 1 + max (depth o) (depth_of_all ts)
unfolding depth
depth_call_of p o n ts = search (rules, the_lemmas)

pub depth_super : (p : Place) (n : List ℕ) (ts : List Expr) → depth (super_at p n ts) ≡ 1 + depth_of_all ts
unfolding depth
depth_super p n ts = search (rules, the_lemmas)

pub depth_new : (p : Place) (n : List ℕ) (ts : List Expr) → depth (new_at p n ts) ≡ 1 + depth_of_all ts
unfolding depth
depth_new p n ts = search (rules, the_lemmas)

step_positive : (x : ExprKind-F ℕ ℕ) → 1 ≤ depth_step x
step_positive (expr_kind.Number value hex) = omega arith
step_positive (expr_kind.Truth value) = omega arith
step_positive expr_kind.Null = omega arith
step_positive (expr_kind.Text text) = omega arith
step_positive expr_kind.This = omega arith
step_positive (expr_kind.Var name) = omega arith
step_positive (expr_kind.Unary sign right) = omega arith
step_positive (expr_kind.Binary sign left right) = omega arith
step_positive (expr_kind.Cond test first second) = omega arith
step_positive (expr_kind.Cast class value) = omega arith
step_positive (expr_kind.InstanceOf value class) = omega arith
step_positive (expr_kind.Field object name) = omega arith
step_positive (expr_kind.Index array index) = omega arith
step_positive (expr_kind.Call object name args) = omega arith
step_positive (expr_kind.SuperCall name args) = omega arith
step_positive (expr_kind.New class args) = omega arith
step_positive (expr_kind.NewArray elem size) = omega arith

pub depth_positive : (t : Expr) → 1 ≤ depth t
unfolding depth
depth_positive t = rw (fold_out-Expr, fold_out-ExprKind) (step_positive _)

pub depth_all_push : (ts : List Expr) (t : Expr) → depth_of_all (ts ++ t ∷ []) ≡ max (depth_of_all ts) (depth t)
depth_all_push [] t = omega arith
depth_all_push (u ∷ ts) t = let h = depth_all_push ts t in omega (arith, h)
