-- Whether the names and literals of each form of a resolved expression and statement are short, by its parts.
use Rattle.std.proofs.Common.{◌≡◌, ℕ, List, map, Option, Bool, true, rules}
use Rattle.std.specs.Prelude.{◌&&◌}
use Rattle.std.specs.List.{list_all}
use Rattle.std.specs.Option.{option_map}
use Rattle.jp_ast.specs.declared.token.Place.{Place}
use Rattle.jp_pred.specs.declared.ty.Ty.{Ty}
use Rattle.jp_pred.specs.Names.{Word}
use Rattle.jp_meaning.specs.declared.expr.TypedExpr.{TypedExpr, the_lemmas}
use Rattle.jp_meaning.specs.declared.expr.TypedKind.TheVariants as form
use Rattle.jp_meaning.specs.declared.stmt.TypedStmt.{TypedStmt}
use Rattle.jp_meaning.specs.declared.stmt.TypedStmt as tree
use Rattle.jp_meaning.specs.declared.stmt.TypedStmtKind.TheVariants as form'
use Rattle.jp_meaning.specs.declared.stmt.TypedStmtKind.TheOpen as layer'
use Rattle.code_texts.specs.Short.{is_short, names_short, has_short_params, is_short_call, is_short_text, is_short_expr, stmt_step, is_short_stmt}

pub short_number : (place : Place) (t : Ty) (value : ℕ) (hex : Bool) → is_short_expr (record { place = place; ty = t; kind = form.Number value hex }) ≡ true
short_number place t value hex = search (rules, the_lemmas)

pub short_truth : (place : Place) (t : Ty) (value : Bool) → is_short_expr (record { place = place; ty = t; kind = form.Truth value }) ≡ true
short_truth place t value = search (rules, the_lemmas)

pub short_null : (place : Place) (t : Ty) → is_short_expr (record { place = place; ty = t; kind = form.Null }) ≡ true
short_null place t = search (rules, the_lemmas)

pub short_this : (place : Place) (t : Ty) → is_short_expr (record { place = place; ty = t; kind = form.This }) ≡ true
short_this place t = search (rules, the_lemmas)

pub short_local : (place : Place) (t : Ty) (slot : ℕ) → is_short_expr (record { place = place; ty = t; kind = form.Local slot }) ≡ true
short_local place t slot = search (rules, the_lemmas)

pub short_unary : (place : Place) (t : Ty) (sign : ℕ) (right : TypedExpr) → is_short_expr (record { place = place; ty = t; kind = form.Unary sign right }) ≡ is_short_expr right
short_unary place t sign right = search (rules, the_lemmas)

pub short_binary : (place : Place) (t : Ty) (sign : ℕ) (left right : TypedExpr) → is_short_expr (record { place = place; ty = t; kind = form.Binary sign left right }) ≡ (is_short_expr left && is_short_expr right)
short_binary place t sign left right = search (rules, the_lemmas)

pub short_cond : (place : Place) (t : Ty) (test first second : TypedExpr) → is_short_expr (record { place = place; ty = t; kind = form.Cond test first second }) ≡ (is_short_expr test && (is_short_expr first && is_short_expr second))
short_cond place t test first second = search (rules, the_lemmas)

pub short_cast : (place : Place) (t : Ty) (class : Word) (value : TypedExpr) → is_short_expr (record { place = place; ty = t; kind = form.Cast class value }) ≡ (is_short_expr value && is_short class)
short_cast place t class value = search (rules, the_lemmas)

pub short_instance : (place : Place) (t : Ty) (value : TypedExpr) (class : Word) → is_short_expr (record { place = place; ty = t; kind = form.InstanceOf value class }) ≡ (is_short_expr value && is_short class)
short_instance place t value class = search (rules, the_lemmas)

pub short_field : (place : Place) (t : Ty) (object : TypedExpr) (class name : Word) → is_short_expr (record { place = place; ty = t; kind = form.Field object class name }) ≡ (is_short_expr object && (is_short class && (is_short name && names_short t)))
short_field place t object class name = search (rules, the_lemmas)

pub short_static : (place : Place) (t : Ty) (class name : Word) → is_short_expr (record { place = place; ty = t; kind = form.Static class name }) ≡ (is_short class && (is_short name && names_short t))
short_static place t class name = search (rules, the_lemmas)

pub short_length : (place : Place) (t : Ty) (array : TypedExpr) → is_short_expr (record { place = place; ty = t; kind = form.Length array }) ≡ is_short_expr array
short_length place t array = search (rules, the_lemmas)

pub short_index : (place : Place) (t : Ty) (array index : TypedExpr) → is_short_expr (record { place = place; ty = t; kind = form.Index array index }) ≡ (is_short_expr array && is_short_expr index)
short_index place t array index = search (rules, the_lemmas)

pub short_virtual : (place : Place) (t : Ty) (object : TypedExpr) (class : Word) (is_interface : Bool) (name : Word) (params : List Ty) (args : List TypedExpr) → is_short_expr (record { place = place; ty = t; kind = form.CallVirtual object class is_interface name params args }) ≡ (is_short_expr object && (list_all (λ a. a) (map is_short_expr args) && is_short_call class name params t))
short_virtual place t object class is_interface name params args = search (rules, the_lemmas)

pub short_static_call : (place : Place) (t : Ty) (class name : Word) (params : List Ty) (args : List TypedExpr) → is_short_expr (record { place = place; ty = t; kind = form.CallStatic class name params args }) ≡ (list_all (λ a. a) (map is_short_expr args) && is_short_call class name params t)
short_static_call place t class name params args = search (rules, the_lemmas)

pub short_super_call : (place : Place) (t : Ty) (class name : Word) (params : List Ty) (args : List TypedExpr) → is_short_expr (record { place = place; ty = t; kind = form.CallSuper class name params args }) ≡ (list_all (λ a. a) (map is_short_expr args) && is_short_call class name params t)
short_super_call place t class name params args = search (rules, the_lemmas)

pub short_new : (place : Place) (t : Ty) (class : Word) (params : List Ty) (args : List TypedExpr) → is_short_expr (record { place = place; ty = t; kind = form.New class params args }) ≡ (list_all (λ a. a) (map is_short_expr args) && (is_short class && has_short_params params))
short_new place t class params args = search (rules, the_lemmas)

pub short_new_array : (place : Place) (t : Ty) (elem : Ty) (size : TypedExpr) → is_short_expr (record { place = place; ty = t; kind = form.NewArray elem size }) ≡ (is_short_expr size && names_short elem)
short_new_array place t elem size = search (rules, the_lemmas)

pub short_print : (place : Place) (t : Ty) (value : TypedExpr) → is_short_expr (record { place = place; ty = t; kind = form.Print value }) ≡ is_short_expr value
short_print place t value = search (rules, the_lemmas)

pub short_show : (place : Place) (t : Ty) (text : Word) → is_short_expr (record { place = place; ty = t; kind = form.Show text }) ≡ is_short_text text
short_show place t text = search (rules, the_lemmas)

pub short_read : (place : Place) (t : Ty) → is_short_expr (record { place = place; ty = t; kind = form.Read }) ≡ true
short_read place t = search (rules, the_lemmas)

abbrev fine : TypedStmt → Bool
fine = is_short_stmt

pub fine_block : (place : Place) (block : List TypedStmt) → fine (record { place = place; kind = form'.Block block }) ≡ stmt_step (layer'.Block (map fine block))
fine_block place block = search (rules, tree.the_lemmas)

pub fine_empty : (place : Place) → fine (record { place = place; kind = form'.Empty }) ≡ true
fine_empty place = search (rules, tree.the_lemmas)

pub fine_local : (place : Place) (slot : ℕ) (t : Ty) (value : Option TypedExpr) → fine (record { place = place; kind = form'.Local slot t value }) ≡ stmt_step (layer'.Local slot t value)
fine_local place slot t value = search (rules, tree.the_lemmas)

pub fine_if : (place : Place) (test : TypedExpr) (first : TypedStmt) (second : Option TypedStmt) → fine (record { place = place; kind = form'.If test first second }) ≡ stmt_step (layer'.If test (fine first) (option_map fine second))
fine_if place test first second = search (rules, tree.the_lemmas)

pub fine_while : (place : Place) (test : TypedExpr) (body : TypedStmt) → fine (record { place = place; kind = form'.While test body }) ≡ stmt_step (layer'.While test (fine body))
fine_while place test body = search (rules, tree.the_lemmas)

pub fine_for : (place : Place) (init : Option TypedStmt) (test : Option TypedExpr) (change : Option TypedStmt) (body : TypedStmt) → fine (record { place = place; kind = form'.For init test change body }) ≡ stmt_step (layer'.For (option_map fine init) test (option_map fine change) (fine body))
fine_for place init test change body = search (rules, tree.the_lemmas)

pub fine_break : (place : Place) → fine (record { place = place; kind = form'.Break }) ≡ true
fine_break place = search (rules, tree.the_lemmas)

pub fine_continue : (place : Place) → fine (record { place = place; kind = form'.Continue }) ≡ true
fine_continue place = search (rules, tree.the_lemmas)

pub fine_return : (place : Place) (value : Option TypedExpr) → fine (record { place = place; kind = form'.Return value }) ≡ stmt_step (layer'.Return value)
fine_return place value = search (rules, tree.the_lemmas)

pub fine_assign : (place : Place) (left : TypedExpr) (sign : ℕ) (right : TypedExpr) → fine (record { place = place; kind = form'.Assign left sign right }) ≡ stmt_step (layer'.Assign left sign right)
fine_assign place left sign right = search (rules, tree.the_lemmas)

pub fine_bump : (place : Place) (left : TypedExpr) (up : Bool) → fine (record { place = place; kind = form'.Bump left up }) ≡ stmt_step (layer'.Bump left up)
fine_bump place left up = search (rules, tree.the_lemmas)

pub fine_run : (place : Place) (value : TypedExpr) → fine (record { place = place; kind = form'.Run value }) ≡ stmt_step (layer'.Run value)
fine_run place value = search (rules, tree.the_lemmas)
