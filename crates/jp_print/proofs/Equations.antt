-- What each form of an expression is printed as, and what it is without its places.
use Rattle.std.proofs.Common.{◌≡◌, ℕ, Bool, true, false, List, [], ◌∷◌, ◌++◌, map, Option, Some, None, refl, rules}
use Rattle.jp_pred.specs.declared.ty.Ty.{Ty}
use Rattle.jp_ast.specs.declared.token.Place.{Place}
use Rattle.jp_ast.specs.declared.expr.Expr.{Expr, fold_out-Expr, the_lemmas}
use Rattle.jp_ast.specs.declared.expr.ExprKind.{fold_out-ExprKind}
use Rattle.jp_ast.specs.declared.expr.ExprKind.TheVariants as made
use Rattle.jp_ast.specs.declared.expr.ExprKind.TheOpen as e
use Rattle.jp_grammar.specs.Kinds.{nowhere}
use Rattle.jp_grammar.specs.Trees.{number_at, text_at, truth_at, null_at, this_at, unary_at, binary_at, instance_at, cond_at, cast_at, named_at, called_at, index_at, super_at, new_at, array_at}
use Rattle.jp_print.specs.Expressions.{expr_step, printed_expr}
use Rattle.jp_print.specs.Places.{unplaced}

module _ (p : Place) where
  -- ---- printed

  pub printed_number : (n : ℕ) (hex : Bool) → printed_expr (number_at p n hex) ≡ expr_step (e.Number n hex)
  unfolding printed_expr
  printed_number n hex = rw (fold_out-Expr, fold_out-ExprKind, made.outs-Number) refl

  pub printed_text : (text : List ℕ) → printed_expr (text_at p text) ≡ expr_step (e.Text text)
  unfolding printed_expr
  printed_text text = rw (fold_out-Expr, fold_out-ExprKind, made.outs-Text) refl

  pub printed_truth : (value : Bool) → printed_expr (truth_at p value) ≡ expr_step (e.Truth value)
  unfolding printed_expr
  printed_truth value = rw (fold_out-Expr, fold_out-ExprKind, made.outs-Truth) refl

  pub printed_null : printed_expr (null_at p) ≡ expr_step e.Null
  unfolding printed_expr
  printed_null = rw (fold_out-Expr, fold_out-ExprKind, made.outs-Null) refl

  pub printed_this : printed_expr (this_at p) ≡ expr_step e.This
  unfolding printed_expr
  printed_this = rw (fold_out-Expr, fold_out-ExprKind, made.outs-This) refl

  pub printed_unary : (n : ℕ) (r : Expr) → printed_expr (unary_at p n r) ≡ expr_step (e.Unary n (printed_expr r))
  unfolding printed_expr
  printed_unary n r = rw (fold_out-Expr, fold_out-ExprKind, made.outs-Unary) refl

  pub printed_binary : (n : ℕ) (l r : Expr) → printed_expr (binary_at p n l r) ≡ expr_step (e.Binary n (printed_expr l) (printed_expr r))
  unfolding printed_expr
  printed_binary n l r = rw (fold_out-Expr, fold_out-ExprKind, made.outs-Binary) refl

  pub printed_instance : (v : Expr) (class : List ℕ) → printed_expr (instance_at p v class) ≡ expr_step (e.InstanceOf (printed_expr v) class)
  unfolding printed_expr
  printed_instance v class = rw (fold_out-Expr, fold_out-ExprKind, made.outs-InstanceOf) refl

  pub printed_cond : (t a b : Expr) → printed_expr (cond_at p t a b) ≡ expr_step (e.Cond (printed_expr t) (printed_expr a) (printed_expr b))
  unfolding printed_expr
  printed_cond t a b = rw (fold_out-Expr, fold_out-ExprKind, made.outs-Cond) refl

  pub printed_cast : (class : List ℕ) (v : Expr) → printed_expr (cast_at p class v) ≡ expr_step (e.Cast class (printed_expr v))
  unfolding printed_expr
  printed_cast class v = rw (fold_out-Expr, fold_out-ExprKind, made.outs-Cast) refl

  pub printed_var : (name : List ℕ) → printed_expr (named_at p None name) ≡ expr_step (e.Var name)
  unfolding printed_expr
  printed_var name = rw (fold_out-Expr, fold_out-ExprKind, made.outs-Var) refl

  pub printed_field : (o : Expr) (name : List ℕ) → printed_expr (named_at p (Some o) name) ≡ expr_step (e.Field (printed_expr o) name)
  unfolding printed_expr
  printed_field o name = rw (fold_out-Expr, fold_out-ExprKind, made.outs-Field) refl

  pub printed_call : (name : List ℕ) (args : List Expr) → printed_expr (called_at p None name args) ≡ expr_step (e.Call None name (map printed_expr args))
  unfolding printed_expr
  printed_call name args = rw (fold_out-Expr, fold_out-ExprKind, made.outs-Call) refl

  pub printed_call_of : (o : Expr) (name : List ℕ) (args : List Expr) → printed_expr (called_at p (Some o) name args) ≡ expr_step (e.Call (Some (printed_expr o)) name (map printed_expr args))
  unfolding printed_expr
  printed_call_of o name args = rw (fold_out-Expr, fold_out-ExprKind, made.outs-Call) refl

  pub printed_index : (a i : Expr) → printed_expr (index_at p a i) ≡ expr_step (e.Index (printed_expr a) (printed_expr i))
  unfolding printed_expr
  printed_index a i = rw (fold_out-Expr, fold_out-ExprKind, made.outs-Index) refl

  pub printed_super : (name : List ℕ) (args : List Expr) → printed_expr (super_at p name args) ≡ expr_step (e.SuperCall name (map printed_expr args))
  unfolding printed_expr
  printed_super name args = rw (fold_out-Expr, fold_out-ExprKind, made.outs-SuperCall) refl

  pub printed_new : (class : List ℕ) (args : List Expr) → printed_expr (new_at p class args) ≡ expr_step (e.New class (map printed_expr args))
  unfolding printed_expr
  printed_new class args = rw (fold_out-Expr, fold_out-ExprKind, made.outs-New) refl

  pub printed_array : (elem : Ty) (size : Expr) → printed_expr (array_at p elem size) ≡ expr_step (e.NewArray elem (printed_expr size))
  unfolding printed_expr
  printed_array elem size = rw (fold_out-Expr, fold_out-ExprKind, made.outs-NewArray) refl

  -- ---- without places

  pub unplaced_number : (n : ℕ) (hex : Bool) → unplaced (number_at p n hex) ≡ number_at nowhere n hex
  unfolding unplaced
  unplaced_number n hex = search (rules, the_lemmas)

  pub unplaced_text : (text : List ℕ) → unplaced (text_at p text) ≡ text_at nowhere text
  unfolding unplaced
  unplaced_text text = search (rules, the_lemmas)

  pub unplaced_truth : (value : Bool) → unplaced (truth_at p value) ≡ truth_at nowhere value
  unfolding unplaced
  unplaced_truth value = search (rules, the_lemmas)

  pub unplaced_null : unplaced (null_at p) ≡ null_at nowhere
  unfolding unplaced
  unplaced_null = search (rules, the_lemmas)

  pub unplaced_this : unplaced (this_at p) ≡ this_at nowhere
  unfolding unplaced
  unplaced_this = search (rules, the_lemmas)

  pub unplaced_unary : (n : ℕ) (r : Expr) → unplaced (unary_at p n r) ≡ unary_at nowhere n (unplaced r)
  unfolding unplaced
  unplaced_unary n r = search (rules, the_lemmas)

  pub unplaced_binary : (n : ℕ) (l r : Expr) → unplaced (binary_at p n l r) ≡ binary_at nowhere n (unplaced l) (unplaced r)
  unfolding unplaced
  unplaced_binary n l r = search (rules, the_lemmas)

  pub unplaced_instance : (v : Expr) (class : List ℕ) → unplaced (instance_at p v class) ≡ instance_at nowhere (unplaced v) class
  unfolding unplaced
  unplaced_instance v class = search (rules, the_lemmas)

  pub unplaced_cond : (t a b : Expr) → unplaced (cond_at p t a b) ≡ cond_at nowhere (unplaced t) (unplaced a) (unplaced b)
  unfolding unplaced
  unplaced_cond t a b = search (rules, the_lemmas)

  pub unplaced_cast : (class : List ℕ) (v : Expr) → unplaced (cast_at p class v) ≡ cast_at nowhere class (unplaced v)
  unfolding unplaced
  unplaced_cast class v = search (rules, the_lemmas)

  pub unplaced_var : (name : List ℕ) → unplaced (named_at p None name) ≡ named_at nowhere None name
  unfolding unplaced
  unplaced_var name = search (rules, the_lemmas)

  pub unplaced_field : (o : Expr) (name : List ℕ) → unplaced (named_at p (Some o) name) ≡ named_at nowhere (Some (unplaced o)) name
  unfolding unplaced
  unplaced_field o name = search (rules, the_lemmas)

  pub unplaced_call : (name : List ℕ) (args : List Expr) → unplaced (called_at p None name args) ≡ called_at nowhere None name (map unplaced args)
  unfolding unplaced
  unplaced_call name args = search (rules, the_lemmas)

  pub unplaced_call_of : (o : Expr) (name : List ℕ) (args : List Expr) → unplaced (called_at p (Some o) name args) ≡ called_at nowhere (Some (unplaced o)) name (map unplaced args)
  unfolding unplaced
  unplaced_call_of o name args = search (rules, the_lemmas)

  pub unplaced_index : (a i : Expr) → unplaced (index_at p a i) ≡ index_at nowhere (unplaced a) (unplaced i)
  unfolding unplaced
  unplaced_index a i = search (rules, the_lemmas)

  pub unplaced_super : (name : List ℕ) (args : List Expr) → unplaced (super_at p name args) ≡ super_at nowhere name (map unplaced args)
  unfolding unplaced
  unplaced_super name args = search (rules, the_lemmas)

  pub unplaced_new : (class : List ℕ) (args : List Expr) → unplaced (new_at p class args) ≡ new_at nowhere class (map unplaced args)
  unfolding unplaced
  unplaced_new class args = search (rules, the_lemmas)

  pub unplaced_array : (elem : Ty) (size : Expr) → unplaced (array_at p elem size) ≡ array_at nowhere elem (unplaced size)
  unfolding unplaced
  unplaced_array elem size = search (rules, the_lemmas)
