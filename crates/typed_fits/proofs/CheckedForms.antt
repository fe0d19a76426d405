-- What is found of each form of a resolved expression and statement, by its parts.
use Rattle.std.proofs.Common.{◌≡◌, ℕ, List, map, Option, Bool, true, rules}
use Rattle.std.specs.Prelude.{◌&&◌, ◌==◌}
use Rattle.std.specs.Option.{option_map}
use Rattle.jp_ast.specs.declared.token.Place.{Place}
use Rattle.jp_pred.specs.declared.ty.Ty.{Ty}
use Rattle.jp_pred.specs.Names.{Word}
use Rattle.iface_codec.specs.declared.iface.Iface.{Iface}
use Rattle.jp_meaning.specs.declared.expr.TypedExpr.{TypedExpr, the_lemmas}
use Rattle.jp_meaning.specs.declared.expr.TypedKind.TheVariants as form
use Rattle.jp_meaning.specs.declared.stmt.TypedStmt.{TypedStmt}
use Rattle.jp_meaning.specs.declared.stmt.TypedStmt as tree
use Rattle.jp_meaning.specs.declared.stmt.TypedStmtKind.TheVariants as form'
use Rattle.jp_meaning.specs.declared.stmt.TypedStmtKind.TheOpen as layer'
use Rattle.jp_meaning.specs.Descriptors.{internal_name, word_of}
use Rattle.jp_meaning.specs.Run.{Program}
use Rattle.gen_body.specs.Names.{are_nameable, is_result}
use Rattle.calls_fit.specs.Fitting.{Checked, checked, all_fit, is_whole_above, check, stmt_step, stmt_fits}

module _ (p : Program) (head : Iface) (receiver : Bool) where
  abbrev chk : TypedExpr → Checked
  chk = check p head receiver

  pub check_number : (place : Place) (t : Ty) (value : ℕ) (hex : Bool) → chk (record { place = place; ty = t; kind = form.Number value hex }) ≡ checked true
  check_number place t value hex = search (rules, the_lemmas)

  pub check_truth : (place : Place) (t : Ty) (value : Bool) → chk (record { place = place; ty = t; kind = form.Truth value }) ≡ checked true
  check_truth place t value = search (rules, the_lemmas)

  pub check_null : (place : Place) (t : Ty) → chk (record { place = place; ty = t; kind = form.Null }) ≡ checked true
  check_null place t = search (rules, the_lemmas)

  pub check_this : (place : Place) (t : Ty) → chk (record { place = place; ty = t; kind = form.This }) ≡ checked true
  check_this place t = search (rules, the_lemmas)

  pub check_local : (place : Place) (t : Ty) (slot : ℕ) → chk (record { place = place; ty = t; kind = form.Local slot }) ≡ record { fits = true; is_first = slot == 0 }
  check_local place t slot = search (rules, the_lemmas)

  pub check_unary : (place : Place) (t : Ty) (sign : ℕ) (right : TypedExpr) → chk (record { place = place; ty = t; kind = form.Unary sign right }) ≡ checked (chk right).fits
  check_unary place t sign right = search (rules, the_lemmas)

  pub check_binary : (place : Place) (t : Ty) (sign : ℕ) (left right : TypedExpr) → chk (record { place = place; ty = t; kind = form.Binary sign left right }) ≡ checked ((chk left).fits && (chk right).fits)
  check_binary place t sign left right = search (rules, the_lemmas)

  pub check_cond : (place : Place) (t : Ty) (test first second : TypedExpr) → chk (record { place = place; ty = t; kind = form.Cond test first second }) ≡ checked ((chk test).fits && ((chk first).fits && (chk second).fits))
  check_cond place t test first second = search (rules, the_lemmas)

  pub check_cast : (place : Place) (t : Ty) (class : Word) (value : TypedExpr) → chk (record { place = place; ty = t; kind = form.Cast class value }) ≡ checked (chk value).fits
  check_cast place t class value = search (rules, the_lemmas)

  pub check_instance : (place : Place) (t : Ty) (value : TypedExpr) (class : Word) → chk (record { place = place; ty = t; kind = form.InstanceOf value class }) ≡ checked (chk value).fits
  check_instance place t value class = search (rules, the_lemmas)

  pub check_field : (place : Place) (t : Ty) (object : TypedExpr) (class name : Word) → chk (record { place = place; ty = t; kind = form.Field object class name }) ≡ checked (chk object).fits
  check_field place t object class name = search (rules, the_lemmas)

  pub check_static : (place : Place) (t : Ty) (class name : Word) → chk (record { place = place; ty = t; kind = form.Static class name }) ≡ checked true
  check_static place t class name = search (rules, the_lemmas)

  pub check_length : (place : Place) (t : Ty) (array : TypedExpr) → chk (record { place = place; ty = t; kind = form.Length array }) ≡ checked (chk array).fits
  check_length place t array = search (rules, the_lemmas)

  pub check_index : (place : Place) (t : Ty) (array index : TypedExpr) → chk (record { place = place; ty = t; kind = form.Index array index }) ≡ checked ((chk array).fits && (chk index).fits)
  check_index place t array index = search (rules, the_lemmas)

  pub check_virtual : (place : Place) (t : Ty) (object : TypedExpr) (class : Word) (is_interface : Bool) (name : Word) (params : List Ty) (args : List TypedExpr) → chk (record { place = place; ty = t; kind = form.CallVirtual object class is_interface name params args }) ≡ checked ((chk object).fits && (all_fit (map chk args) && (are_nameable params && is_result t)))
  check_virtual place t object class is_interface name params args = search (rules, the_lemmas)

  pub check_static_call : (place : Place) (t : Ty) (class name : Word) (params : List Ty) (args : List TypedExpr) → chk (record { place = place; ty = t; kind = form.CallStatic class name params args }) ≡ checked (all_fit (map chk args) && (are_nameable params && is_result t))
  check_static_call place t class name params args = search (rules, the_lemmas)

  pub check_super_call : (place : Place) (t : Ty) (class name : Word) (params : List Ty) (args : List TypedExpr) → chk (record { place = place; ty = t; kind = form.CallSuper class name params args }) ≡ checked (all_fit (map chk args) && (are_nameable params && is_result t) && (receiver && is_whole_above p head (word_of (internal_name class))))
  check_super_call place t class name params args = search (rules, the_lemmas)

  pub check_new : (place : Place) (t : Ty) (class : Word) (params : List Ty) (args : List TypedExpr) → chk (record { place = place; ty = t; kind = form.New class params args }) ≡ checked (all_fit (map chk args) && are_nameable params)
  check_new place t class params args = search (rules, the_lemmas)

  pub check_new_array : (place : Place) (t : Ty) (elem : Ty) (size : TypedExpr) → chk (record { place = place; ty = t; kind = form.NewArray elem size }) ≡ checked (chk size).fits
  check_new_array place t elem size = search (rules, the_lemmas)

  pub check_print : (place : Place) (t : Ty) (value : TypedExpr) → chk (record { place = place; ty = t; kind = form.Print value }) ≡ checked (chk value).fits
  check_print place t value = search (rules, the_lemmas)

  pub check_show : (place : Place) (t : Ty) (text : Word) → chk (record { place = place; ty = t; kind = form.Show text }) ≡ checked true
  check_show place t text = search (rules, the_lemmas)

  pub check_read : (place : Place) (t : Ty) → chk (record { place = place; ty = t; kind = form.Read }) ≡ checked true
  check_read place t = search (rules, the_lemmas)

  abbrev ok : TypedStmt → Bool
  ok = stmt_fits p head receiver

  pub ok_block : (place : Place) (block : List TypedStmt) → ok (record { place = place; kind = form'.Block block }) ≡ stmt_step p head receiver (layer'.Block (map ok block))
  ok_block place block = search (rules, tree.the_lemmas)

  pub ok_empty : (place : Place) → ok (record { place = place; kind = form'.Empty }) ≡ stmt_step p head receiver (layer'.Empty)
  ok_empty place = search (rules, tree.the_lemmas)

  pub ok_local : (place : Place) (slot : ℕ) (t : Ty) (value : Option TypedExpr) → ok (record { place = place; kind = form'.Local slot t value }) ≡ stmt_step p head receiver (layer'.Local slot t value)
  ok_local place slot t value = search (rules, tree.the_lemmas)

  pub ok_if : (place : Place) (test : TypedExpr) (first : TypedStmt) (second : Option TypedStmt) → ok (record { place = place; kind = form'.If test first second }) ≡ stmt_step p head receiver (layer'.If test (ok first) (option_map ok second))
  ok_if place test first second = search (rules, tree.the_lemmas)

  pub ok_while : (place : Place) (test : TypedExpr) (body : TypedStmt) → ok (record { place = place; kind = form'.While test body }) ≡ stmt_step p head receiver (layer'.While test (ok body))
  ok_while place test body = search (rules, tree.the_lemmas)

  pub ok_for : (place : Place) (init : Option TypedStmt) (test : Option TypedExpr) (change : Option TypedStmt) (body : TypedStmt) → ok (record { place = place; kind = form'.For init test change body }) ≡ stmt_step p head receiver (layer'.For (option_map ok init) test (option_map ok change) (ok body))
  ok_for place init test change body = search (rules, tree.the_lemmas)

  pub ok_break : (place : Place) → ok (record { place = place; kind = form'.Break }) ≡ stmt_step p head receiver (layer'.Break)
  ok_break place = search (rules, tree.the_lemmas)

  pub ok_continue : (place : Place) → ok (record { place = place; kind = form'.Continue }) ≡ stmt_step p head receiver (layer'.Continue)
  ok_continue place = search (rules, tree.the_lemmas)

  pub ok_return : (place : Place) (value : Option TypedExpr) → ok (record { place = place; kind = form'.Return value }) ≡ stmt_step p head receiver (layer'.Return value)
  ok_return place value = search (rules, tree.the_lemmas)

  pub ok_assign : (place : Place) (left : TypedExpr) (sign : ℕ) (right : TypedExpr) → ok (record { place = place; kind = form'.Assign left sign right }) ≡ stmt_step p head receiver (layer'.Assign left sign right)
  ok_assign place left sign right = search (rules, tree.the_lemmas)

  pub ok_bump : (place : Place) (left : TypedExpr) (up : Bool) → ok (record { place = place; kind = form'.Bump left up }) ≡ stmt_step p head receiver (layer'.Bump left up)
  ok_bump place left up = search (rules, tree.the_lemmas)

  pub ok_run : (place : Place) (value : TypedExpr) → ok (record { place = place; kind = form'.Run value }) ≡ stmt_step p head receiver (layer'.Run value)
  ok_run place value = search (rules, tree.the_lemmas)
