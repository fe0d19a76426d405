-- Whether each form of a resolved expression and statement is encodable, by its parts.
use Rattle.std.proofs.Common.{◌≡◌, ℕ, List, map, Option, Bool, true, rules}
use Rattle.std.specs.Prelude.{◌&&◌}
use Rattle.std.specs.List.{list_all}
use Rattle.std.specs.Option.{option_map}
use Rattle.jp_ast.specs.declared.token.Place.{Place}
use Rattle.jp_pred.specs.declared.ty.Ty.{Ty}
use Rattle.jp_pred.specs.Names.{Word}
use Rattle.jp_meaning.specs.declared.expr.TypedExpr.{TypedExpr, the_lemmas}
use Rattle.jp_meaning.specs.declared.expr.TypedKind.TheVariants as form
use Rattle.jp_meaning.specs.declared.stmt.TypedStmt.{TypedStmt}
use Rattle.jp_meaning.specs.declared.stmt.TypedStmt as tree
use Rattle.jp_meaning.specs.declared.stmt.TypedStmtKind.TheVariants as form'
use Rattle.jp_meaning.specs.declared.stmt.TypedStmtKind.TheOpen as layer'
use Rattle.code_fits.specs.Encodable.{is_in_reach, has_few, is_encodable, stmt_step, stmt_is_encodable}

pub told_number : (place : Place) (t : Ty) (value : ℕ) (hex : Bool) → is_encodable (record { place = place; ty = t; kind = form.Number value hex }) ≡ true
told_number place t value hex = search (rules, the_lemmas)

pub told_truth : (place : Place) (t : Ty) (value : Bool) → is_encodable (record { place = place; ty = t; kind = form.Truth value }) ≡ true
told_truth place t value = search (rules, the_lemmas)

pub told_null : (place : Place) (t : Ty) → is_encodable (record { place = place; ty = t; kind = form.Null }) ≡ true
told_null place t = search (rules, the_lemmas)

pub told_this : (place : Place) (t : Ty) → is_encodable (record { place = place; ty = t; kind = form.This }) ≡ true
told_this place t = search (rules, the_lemmas)

pub told_local : (place : Place) (t : Ty) (slot : ℕ) → is_encodable (record { place = place; ty = t; kind = form.Local slot }) ≡ is_in_reach slot
told_local place t slot = search (rules, the_lemmas)

pub told_unary : (place : Place) (t : Ty) (sign : ℕ) (right : TypedExpr) → is_encodable (record { place = place; ty = t; kind = form.Unary sign right }) ≡ is_encodable right
told_unary place t sign right = search (rules, the_lemmas)

pub told_binary : (place : Place) (t : Ty) (sign : ℕ) (left right : TypedExpr) → is_encodable (record { place = place; ty = t; kind = form.Binary sign left right }) ≡ (is_encodable left && is_encodable right)
told_binary place t sign left right = search (rules, the_lemmas)

pub told_cond : (place : Place) (t : Ty) (test first second : TypedExpr) → is_encodable (record { place = place; ty = t; kind = form.Cond test first second }) ≡ (is_encodable test && (is_encodable first && is_encodable second))
told_cond place t test first second = search (rules, the_lemmas)

pub told_cast : (place : Place) (t : Ty) (class : Word) (value : TypedExpr) → is_encodable (record { place = place; ty = t; kind = form.Cast class value }) ≡ is_encodable value
told_cast place t class value = search (rules, the_lemmas)

pub told_instance : (place : Place) (t : Ty) (value : TypedExpr) (class : Word) → is_encodable (record { place = place; ty = t; kind = form.InstanceOf value class }) ≡ is_encodable value
told_instance place t value class = search (rules, the_lemmas)

pub told_field : (place : Place) (t : Ty) (object : TypedExpr) (class name : Word) → is_encodable (record { place = place; ty = t; kind = form.Field object class name }) ≡ is_encodable object
told_field place t object class name = search (rules, the_lemmas)

pub told_static : (place : Place) (t : Ty) (class name : Word) → is_encodable (record { place = place; ty = t; kind = form.Static class name }) ≡ true
told_static place t class name = search (rules, the_lemmas)

pub told_length : (place : Place) (t : Ty) (array : TypedExpr) → is_encodable (record { place = place; ty = t; kind = form.Length array }) ≡ is_encodable array
told_length place t array = search (rules, the_lemmas)

pub told_index : (place : Place) (t : Ty) (array index : TypedExpr) → is_encodable (record { place = place; ty = t; kind = form.Index array index }) ≡ (is_encodable array && is_encodable index)
told_index place t array index = search (rules, the_lemmas)

pub told_virtual : (place : Place) (t : Ty) (object : TypedExpr) (class : Word) (is_interface : Bool) (name : Word) (params : List Ty) (args : List TypedExpr) → is_encodable (record { place = place; ty = t; kind = form.CallVirtual object class is_interface name params args }) ≡ (is_encodable object && (list_all (λ a. a) (map is_encodable args) && has_few is_interface params))
told_virtual place t object class is_interface name params args = search (rules, the_lemmas)

pub told_static_call : (place : Place) (t : Ty) (class name : Word) (params : List Ty) (args : List TypedExpr) → is_encodable (record { place = place; ty = t; kind = form.CallStatic class name params args }) ≡ list_all (λ a. a) (map is_encodable args)
told_static_call place t class name params args = search (rules, the_lemmas)

pub told_super_call : (place : Place) (t : Ty) (class name : Word) (params : List Ty) (args : List TypedExpr) → is_encodable (record { place = place; ty = t; kind = form.CallSuper class name params args }) ≡ list_all (λ a. a) (map is_encodable args)
told_super_call place t class name params args = search (rules, the_lemmas)

pub told_new : (place : Place) (t : Ty) (class : Word) (params : List Ty) (args : List TypedExpr) → is_encodable (record { place = place; ty = t; kind = form.New class params args }) ≡ list_all (λ a. a) (map is_encodable args)
told_new place t class params args = search (rules, the_lemmas)

pub told_new_array : (place : Place) (t : Ty) (elem : Ty) (size : TypedExpr) → is_encodable (record { place = place; ty = t; kind = form.NewArray elem size }) ≡ is_encodable size
told_new_array place t elem size = search (rules, the_lemmas)

pub told_print : (place : Place) (t : Ty) (value : TypedExpr) → is_encodable (record { place = place; ty = t; kind = form.Print value }) ≡ is_encodable value
told_print place t value = search (rules, the_lemmas)

pub told_show : (place : Place) (t : Ty) (text : Word) → is_encodable (record { place = place; ty = t; kind = form.Show text }) ≡ true
told_show place t text = search (rules, the_lemmas)

pub told_read : (place : Place) (t : Ty) → is_encodable (record { place = place; ty = t; kind = form.Read }) ≡ true
told_read place t = search (rules, the_lemmas)

abbrev ok : TypedStmt → Bool
ok = stmt_is_encodable

pub ok_block : (place : Place) (block : List TypedStmt) → ok (record { place = place; kind = form'.Block block }) ≡ stmt_step (layer'.Block (map ok block))
ok_block place block = search (rules, tree.the_lemmas)

pub ok_empty : (place : Place) → ok (record { place = place; kind = form'.Empty }) ≡ true
ok_empty place = search (rules, tree.the_lemmas)

pub ok_local : (place : Place) (slot : ℕ) (t : Ty) (value : Option TypedExpr) → ok (record { place = place; kind = form'.Local slot t value }) ≡ stmt_step (layer'.Local slot t value)
ok_local place slot t value = search (rules, tree.the_lemmas)

pub ok_if : (place : Place) (test : TypedExpr) (first : TypedStmt) (second : Option TypedStmt) → ok (record { place = place; kind = form'.If test first second }) ≡ stmt_step (layer'.If test (ok first) (option_map ok second))
ok_if place test first second = search (rules, tree.the_lemmas)

pub ok_while : (place : Place) (test : TypedExpr) (body : TypedStmt) → ok (record { place = place; kind = form'.While test body }) ≡ stmt_step (layer'.While test (ok body))
ok_while place test body = search (rules, tree.the_lemmas)

pub ok_for : (place : Place) (init : Option TypedStmt) (test : Option TypedExpr) (change : Option TypedStmt) (body : TypedStmt) → ok (record { place = place; kind = form'.For init test change body }) ≡ stmt_step (layer'.For (option_map ok init) test (option_map ok change) (ok body))
ok_for place init test change body = search (rules, tree.the_lemmas)

pub ok_break : (place : Place) → ok (record { place = place; kind = form'.Break }) ≡ true
ok_break place = search (rules, tree.the_lemmas)

pub ok_continue : (place : Place) → ok (record { place = place; kind = form'.Continue }) ≡ true
ok_continue place = search (rules, tree.the_lemmas)

pub ok_return : (place : Place) (value : Option TypedExpr) → ok (record { place = place; kind = form'.Return value }) ≡ stmt_step (layer'.Return value)
ok_return place value = search (rules, tree.the_lemmas)

pub ok_assign : (place : Place) (left : TypedExpr) (sign : ℕ) (right : TypedExpr) → ok (record { place = place; kind = form'.Assign left sign right }) ≡ stmt_step (layer'.Assign left sign right)
ok_assign place left sign right = search (rules, tree.the_lemmas)

pub ok_bump : (place : Place) (left : TypedExpr) (up : Bool) → ok (record { place = place; kind = form'.Bump left up }) ≡ stmt_step (layer'.Bump left up)
ok_bump place left up = search (rules, tree.the_lemmas)

pub ok_run : (place : Place) (value : TypedExpr) → ok (record { place = place; kind = form'.Run value }) ≡ stmt_step (layer'.Run value)
ok_run place value = search (rules, tree.the_lemmas)
