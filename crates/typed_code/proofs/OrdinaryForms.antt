-- Whether each form of a resolved expression and statement calls ordinary methods, by its parts.
use Rattle.std.proofs.Common.{◌≡◌, ℕ, List, map, Option, Bool, true, rules}
use Rattle.std.specs.Prelude.{◌&&◌}
use Rattle.std.specs.List.{list_all}
use Rattle.std.specs.Option.{option_map}
use Rattle.jp_ast.specs.declared.token.Place.{Place}
use Rattle.jp_pred.specs.declared.ty.Ty.{Ty}
use Rattle.jp_pred.specs.Names.{Word}
use Rattle.jp_meaning.specs.declared.expr.TypedExpr.{TypedExpr, the_lemmas}
use Rattle.jp_meaning.specs.declared.expr.TypedKind.TheVariants as form
use Rattle.jp_meaning.specs.declared.stmt.TypedStmt.{TypedStmt}
use Rattle.jp_meaning.specs.declared.stmt.TypedStmt as tree
use Rattle.jp_meaning.specs.declared.stmt.TypedStmtKind.TheVariants as form'
use Rattle.jp_meaning.specs.declared.stmt.TypedStmtKind.TheOpen as layer'
use Rattle.code_fits.specs.Ordinary.{is_ordinary, is_ordinary_family, is_distinct, calls_ordinary, stmt_step, stmt_calls_ordinary}

pub usual_number : (place : Place) (t : Ty) (value : ℕ) (hex : Bool) → calls_ordinary (record { place = place; ty = t; kind = form.Number value hex }) ≡ true
usual_number place t value hex = search (rules, the_lemmas)

pub usual_truth : (place : Place) (t : Ty) (value : Bool) → calls_ordinary (record { place = place; ty = t; kind = form.Truth value }) ≡ true
usual_truth place t value = search (rules, the_lemmas)

pub usual_null : (place : Place) (t : Ty) → calls_ordinary (record { place = place; ty = t; kind = form.Null }) ≡ true
usual_null place t = search (rules, the_lemmas)

pub usual_this : (place : Place) (t : Ty) → calls_ordinary (record { place = place; ty = t; kind = form.This }) ≡ true
usual_this place t = search (rules, the_lemmas)

pub usual_local : (place : Place) (t : Ty) (slot : ℕ) → calls_ordinary (record { place = place; ty = t; kind = form.Local slot }) ≡ true
usual_local place t slot = search (rules, the_lemmas)

pub usual_unary : (place : Place) (t : Ty) (sign : ℕ) (right : TypedExpr) → calls_ordinary (record { place = place; ty = t; kind = form.Unary sign right }) ≡ calls_ordinary right
usual_unary place t sign right = search (rules, the_lemmas)

pub usual_binary : (place : Place) (t : Ty) (sign : ℕ) (left right : TypedExpr) → calls_ordinary (record { place = place; ty = t; kind = form.Binary sign left right }) ≡ (calls_ordinary left && calls_ordinary right)
usual_binary place t sign left right = search (rules, the_lemmas)

pub usual_cond : (place : Place) (t : Ty) (test first second : TypedExpr) → calls_ordinary (record { place = place; ty = t; kind = form.Cond test first second }) ≡ (calls_ordinary test && (calls_ordinary first && calls_ordinary second))
usual_cond place t test first second = search (rules, the_lemmas)

pub usual_cast : (place : Place) (t : Ty) (class : Word) (value : TypedExpr) → calls_ordinary (record { place = place; ty = t; kind = form.Cast class value }) ≡ calls_ordinary value
usual_cast place t class value = search (rules, the_lemmas)

pub usual_instance : (place : Place) (t : Ty) (value : TypedExpr) (class : Word) → calls_ordinary (record { place = place; ty = t; kind = form.InstanceOf value class }) ≡ calls_ordinary value
usual_instance place t value class = search (rules, the_lemmas)

pub usual_field : (place : Place) (t : Ty) (object : TypedExpr) (class name : Word) → calls_ordinary (record { place = place; ty = t; kind = form.Field object class name }) ≡ calls_ordinary object
usual_field place t object class name = search (rules, the_lemmas)

pub usual_static : (place : Place) (t : Ty) (class name : Word) → calls_ordinary (record { place = place; ty = t; kind = form.Static class name }) ≡ true
usual_static place t class name = search (rules, the_lemmas)

pub usual_length : (place : Place) (t : Ty) (array : TypedExpr) → calls_ordinary (record { place = place; ty = t; kind = form.Length array }) ≡ calls_ordinary array
usual_length place t array = search (rules, the_lemmas)

pub usual_index : (place : Place) (t : Ty) (array index : TypedExpr) → calls_ordinary (record { place = place; ty = t; kind = form.Index array index }) ≡ (calls_ordinary array && calls_ordinary index)
usual_index place t array index = search (rules, the_lemmas)

pub usual_virtual : (place : Place) (t : Ty) (object : TypedExpr) (class : Word) (is_interface : Bool) (name : Word) (params : List Ty) (args : List TypedExpr) → calls_ordinary (record { place = place; ty = t; kind = form.CallVirtual object class is_interface name params args }) ≡ (calls_ordinary object && (list_all (λ a. a) (map calls_ordinary args) && is_ordinary class name))
usual_virtual place t object class is_interface name params args = search (rules, the_lemmas)

pub usual_static_call : (place : Place) (t : Ty) (class name : Word) (params : List Ty) (args : List TypedExpr) → calls_ordinary (record { place = place; ty = t; kind = form.CallStatic class name params args }) ≡ (list_all (λ a. a) (map calls_ordinary args) && is_ordinary class name)
usual_static_call place t class name params args = search (rules, the_lemmas)

pub usual_super_call : (place : Place) (t : Ty) (class name : Word) (params : List Ty) (args : List TypedExpr) → calls_ordinary (record { place = place; ty = t; kind = form.CallSuper class name params args }) ≡ (list_all (λ a. a) (map calls_ordinary args) && is_ordinary_family class name)
usual_super_call place t class name params args = search (rules, the_lemmas)

pub usual_new : (place : Place) (t : Ty) (class : Word) (params : List Ty) (args : List TypedExpr) → calls_ordinary (record { place = place; ty = t; kind = form.New class params args }) ≡ (list_all (λ a. a) (map calls_ordinary args) && is_distinct class)
usual_new place t class params args = search (rules, the_lemmas)

pub usual_new_array : (place : Place) (t : Ty) (elem : Ty) (size : TypedExpr) → calls_ordinary (record { place = place; ty = t; kind = form.NewArray elem size }) ≡ calls_ordinary size
usual_new_array place t elem size = search (rules, the_lemmas)

pub usual_print : (place : Place) (t : Ty) (value : TypedExpr) → calls_ordinary (record { place = place; ty = t; kind = form.Print value }) ≡ calls_ordinary value
usual_print place t value = search (rules, the_lemmas)

pub usual_show : (place : Place) (t : Ty) (text : Word) → calls_ordinary (record { place = place; ty = t; kind = form.Show text }) ≡ true
usual_show place t text = search (rules, the_lemmas)

pub usual_read : (place : Place) (t : Ty) → calls_ordinary (record { place = place; ty = t; kind = form.Read }) ≡ true
usual_read place t = search (rules, the_lemmas)

abbrev fine : TypedStmt → Bool
fine = stmt_calls_ordinary

pub fine_block : (place : Place) (block : List TypedStmt) → fine (record { place = place; kind = form'.Block block }) ≡ stmt_step (layer'.Block (map fine block))
fine_block place block = search (rules, tree.the_lemmas)

pub fine_empty : (place : Place) → fine (record { place = place; kind = form'.Empty }) ≡ true
fine_empty place = search (rules, tree.the_lemmas)

pub fine_local : (place : Place) (slot : ℕ) (t : Ty) (value : Option TypedExpr) → fine (record { place = place; kind = form'.Local slot t value }) ≡ stmt_step (layer'.Local slot t value)
fine_local place slot t value = search (rules, tree.the_lemmas)

pub fine_if : (place : Place) (test : TypedExpr) (first : TypedStmt) (second : Option TypedStmt) → fine (record { place = place; kind = form'.If test first second }) ≡ stmt_step (layer'.If test (fine first) (option_map fine second))
fine_if place test first second = search (rules, tree.the_lemmas)

pub fine_while : (place : Place) (test : TypedExpr) (body : TypedStmt) → fine (record { place = place; kind = form'.While test body }) ≡ stmt_step (layer'.While test (fine body))
fine_while place test body = search (rules, tree.the_lemmas)

pub fine_for : (place : Place) (init : Option TypedStmt) (test : Option TypedExpr) (change : Option TypedStmt) (body : TypedStmt) → fine (record { place = place; kind = form'.For init test change body }) ≡ stmt_step (layer'.For (option_map fine init) test (option_map fine change) (fine body))
fine_for place init test change body = search (rules, tree.the_lemmas)

pub fine_break : (place : Place) → fine (record { place = place; kind = form'.Break }) ≡ true
fine_break place = search (rules, tree.the_lemmas)

pub fine_continue : (place : Place) → fine (record { place = place; kind = form'.Continue }) ≡ true
fine_continue place = search (rules, tree.the_lemmas)

pub fine_return : (place : Place) (value : Option TypedExpr) → fine (record { place = place; kind = form'.Return value }) ≡ stmt_step (layer'.Return value)
fine_return place value = search (rules, tree.the_lemmas)

pub fine_assign : (place : Place) (left : TypedExpr) (sign : ℕ) (right : TypedExpr) → fine (record { place = place; kind = form'.Assign left sign right }) ≡ stmt_step (layer'.Assign left sign right)
fine_assign place left sign right = search (rules, tree.the_lemmas)

pub fine_bump : (place : Place) (left : TypedExpr) (up : Bool) → fine (record { place = place; kind = form'.Bump left up }) ≡ stmt_step (layer'.Bump left up)
fine_bump place left up = search (rules, tree.the_lemmas)

pub fine_run : (place : Place) (value : TypedExpr) → fine (record { place = place; kind = form'.Run value }) ≡ stmt_step (layer'.Run value)
fine_run place value = search (rules, tree.the_lemmas)
