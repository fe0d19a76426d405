-- How many nodes each form of a resolved expression and statement has, by its parts.
use Rattle.std.proofs.Common.{◌≡◌, ℕ, ◌+◌, List, map, Option, Bool, rules}
use Rattle.std.specs.Option.{option_map}
use Rattle.jp_ast.specs.declared.token.Place.{Place}
use Rattle.jp_pred.specs.declared.ty.Ty.{Ty}
use Rattle.jp_pred.specs.Names.{Word}
use Rattle.jp_meaning.specs.declared.expr.TypedExpr.{TypedExpr, the_lemmas}
use Rattle.jp_meaning.specs.declared.expr.TypedKind.TheVariants as form
use Rattle.jp_meaning.specs.declared.stmt.TypedStmt.{TypedStmt}
use Rattle.jp_meaning.specs.declared.stmt.TypedStmt as tree
use Rattle.jp_meaning.specs.declared.stmt.TypedStmtKind.TheVariants as form'
use Rattle.jp_meaning.specs.declared.stmt.TypedStmtKind.TheOpen as layer'
use Rattle.gen_bounds.specs.Nodes.{total, expr_nodes, stmt_step, stmt_nodes}

pub count_number : (place : Place) (t : Ty) (value : ℕ) (hex : Bool) → expr_nodes (record { place = place; ty = t; kind = form.Number value hex }) ≡ 1
count_number place t value hex = search (rules, the_lemmas)

pub count_truth : (place : Place) (t : Ty) (value : Bool) → expr_nodes (record { place = place; ty = t; kind = form.Truth value }) ≡ 1
count_truth place t value = search (rules, the_lemmas)

pub count_null : (place : Place) (t : Ty) → expr_nodes (record { place = place; ty = t; kind = form.Null }) ≡ 1
count_null place t = search (rules, the_lemmas)

pub count_this : (place : Place) (t : Ty) → expr_nodes (record { place = place; ty = t; kind = form.This }) ≡ 1
count_this place t = search (rules, the_lemmas)

pub count_local : (place : Place) (t : Ty) (slot : ℕ) → expr_nodes (record { place = place; ty = t; kind = form.Local slot }) ≡ 1
count_local place t slot = search (rules, the_lemmas)

pub count_unary : (place : Place) (t : Ty) (sign : ℕ) (right : TypedExpr) → expr_nodes (record { place = place; ty = t; kind = form.Unary sign right }) ≡ 1 + expr_nodes right
count_unary place t sign right = search (rules, the_lemmas)

pub count_binary : (place : Place) (t : Ty) (sign : ℕ) (left right : TypedExpr) → expr_nodes (record { place = place; ty = t; kind = form.Binary sign left right }) ≡ 1 + (expr_nodes left + expr_nodes right)
count_binary place t sign left right = search (rules, the_lemmas)

pub count_cond : (place : Place) (t : Ty) (test first second : TypedExpr) → expr_nodes (record { place = place; ty = t; kind = form.Cond test first second }) ≡ 1 + (expr_nodes test + (expr_nodes first + expr_nodes second))
count_cond place t test first second = search (rules, the_lemmas)

pub count_cast : (place : Place) (t : Ty) (class : Word) (value : TypedExpr) → expr_nodes (record { place = place; ty = t; kind = form.Cast class value }) ≡ 1 + expr_nodes value
count_cast place t class value = search (rules, the_lemmas)

pub count_instance : (place : Place) (t : Ty) (value : TypedExpr) (class : Word) → expr_nodes (record { place = place; ty = t; kind = form.InstanceOf value class }) ≡ 1 + expr_nodes value
count_instance place t value class = search (rules, the_lemmas)

pub count_field : (place : Place) (t : Ty) (object : TypedExpr) (class name : Word) → expr_nodes (record { place = place; ty = t; kind = form.Field object class name }) ≡ 1 + expr_nodes object
count_field place t object class name = search (rules, the_lemmas)

pub count_static : (place : Place) (t : Ty) (class name : Word) → expr_nodes (record { place = place; ty = t; kind = form.Static class name }) ≡ 1
count_static place t class name = search (rules, the_lemmas)

pub count_length : (place : Place) (t : Ty) (array : TypedExpr) → expr_nodes (record { place = place; ty = t; kind = form.Length array }) ≡ 1 + expr_nodes array
count_length place t array = search (rules, the_lemmas)

pub count_index : (place : Place) (t : Ty) (array index : TypedExpr) → expr_nodes (record { place = place; ty = t; kind = form.Index array index }) ≡ 1 + (expr_nodes array + expr_nodes index)
count_index place t array index = search (rules, the_lemmas)

pub count_virtual : (place : Place) (t : Ty) (object : TypedExpr) (class : Word) (is_interface : Bool) (name : Word) (params : List Ty) (args : List TypedExpr) → expr_nodes (record { place = place; ty = t; kind = form.CallVirtual object class is_interface name params args }) ≡ 1 + (expr_nodes object + total (map expr_nodes args))
count_virtual place t object class is_interface name params args = search (rules, the_lemmas)

pub count_static_call : (place : Place) (t : Ty) (class name : Word) (params : List Ty) (args : List TypedExpr) → expr_nodes (record { place = place; ty = t; kind = form.CallStatic class name params args }) ≡ 1 + total (map expr_nodes args)
count_static_call place t class name params args = search (rules, the_lemmas)

pub count_super_call : (place : Place) (t : Ty) (class name : Word) (params : List Ty) (args : List TypedExpr) → expr_nodes (record { place = place; ty = t; kind = form.CallSuper class name params args }) ≡ 1 + total (map expr_nodes args)
count_super_call place t class name params args = search (rules, the_lemmas)

pub count_new : (place : Place) (t : Ty) (class : Word) (params : List Ty) (args : List TypedExpr) → expr_nodes (record { place = place; ty = t; kind = form.New class params args }) ≡ 1 + total (map expr_nodes args)
count_new place t class params args = search (rules, the_lemmas)

pub count_new_array : (place : Place) (t : Ty) (elem : Ty) (size : TypedExpr) → expr_nodes (record { place = place; ty = t; kind = form.NewArray elem size }) ≡ 1 + expr_nodes size
count_new_array place t elem size = search (rules, the_lemmas)

pub count_print : (place : Place) (t : Ty) (value : TypedExpr) → expr_nodes (record { place = place; ty = t; kind = form.Print value }) ≡ 1 + expr_nodes value
count_print place t value = search (rules, the_lemmas)

pub count_show : (place : Place) (t : Ty) (text : Word) → expr_nodes (record { place = place; ty = t; kind = form.Show text }) ≡ 1
count_show place t text = search (rules, the_lemmas)

pub count_read : (place : Place) (t : Ty) → expr_nodes (record { place = place; ty = t; kind = form.Read }) ≡ 1
count_read place t = search (rules, the_lemmas)

pub count_block : (place : Place) (block : List TypedStmt) → stmt_nodes (record { place = place; kind = form'.Block block }) ≡ stmt_step (layer'.Block (map stmt_nodes block))
count_block place block = search (rules, tree.the_lemmas)

pub count_empty : (place : Place) → stmt_nodes (record { place = place; kind = form'.Empty }) ≡ stmt_step (layer'.Empty)
count_empty place = search (rules, tree.the_lemmas)

pub count_declared : (place : Place) (slot : ℕ) (t : Ty) (value : Option TypedExpr) → stmt_nodes (record { place = place; kind = form'.Local slot t value }) ≡ stmt_step (layer'.Local slot t value)
count_declared place slot t value = search (rules, tree.the_lemmas)

pub count_if : (place : Place) (test : TypedExpr) (first : TypedStmt) (second : Option TypedStmt) → stmt_nodes (record { place = place; kind = form'.If test first second }) ≡ stmt_step (layer'.If test (stmt_nodes first) (option_map stmt_nodes second))
count_if place test first second = search (rules, tree.the_lemmas)

pub count_while : (place : Place) (test : TypedExpr) (body : TypedStmt) → stmt_nodes (record { place = place; kind = form'.While test body }) ≡ stmt_step (layer'.While test (stmt_nodes body))
count_while place test body = search (rules, tree.the_lemmas)

pub count_for : (place : Place) (init : Option TypedStmt) (test : Option TypedExpr) (change : Option TypedStmt) (body : TypedStmt) → stmt_nodes (record { place = place; kind = form'.For init test change body }) ≡ stmt_step (layer'.For (option_map stmt_nodes init) test (option_map stmt_nodes change) (stmt_nodes body))
count_for place init test change body = search (rules, tree.the_lemmas)

pub count_break : (place : Place) → stmt_nodes (record { place = place; kind = form'.Break }) ≡ stmt_step (layer'.Break)
count_break place = search (rules, tree.the_lemmas)

pub count_continue : (place : Place) → stmt_nodes (record { place = place; kind = form'.Continue }) ≡ stmt_step (layer'.Continue)
count_continue place = search (rules, tree.the_lemmas)

pub count_return : (place : Place) (value : Option TypedExpr) → stmt_nodes (record { place = place; kind = form'.Return value }) ≡ stmt_step (layer'.Return value)
count_return place value = search (rules, tree.the_lemmas)

pub count_assign : (place : Place) (left : TypedExpr) (sign : ℕ) (right : TypedExpr) → stmt_nodes (record { place = place; kind = form'.Assign left sign right }) ≡ stmt_step (layer'.Assign left sign right)
count_assign place left sign right = search (rules, tree.the_lemmas)

pub count_bump : (place : Place) (left : TypedExpr) (up : Bool) → stmt_nodes (record { place = place; kind = form'.Bump left up }) ≡ stmt_step (layer'.Bump left up)
count_bump place left up = search (rules, tree.the_lemmas)

pub count_run : (place : Place) (value : TypedExpr) → stmt_nodes (record { place = place; kind = form'.Run value }) ≡ stmt_step (layer'.Run value)
count_run place value = search (rules, tree.the_lemmas)
