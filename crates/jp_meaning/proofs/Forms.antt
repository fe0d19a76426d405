-- What each form of an expression and of a statement means, by its parts.
use Rattle.std.proofs.Common.{◌≡◌, ℕ, List, map, Option, Bool, rules}
use Rattle.std.specs.Option.{option_map}
use Rattle.jp_ast.specs.declared.token.Place.{Place}
use Rattle.jp_pred.specs.declared.ty.Ty.{Ty}
use Rattle.jp_pred.specs.Names.{Word}
use Rattle.jp_meaning.specs.declared.expr.TypedExpr.{TypedExpr, the_lemmas}
use Rattle.jp_meaning.specs.declared.expr.TypedKind.TheVariants as form
use Rattle.jp_meaning.specs.declared.expr.TypedKind.TheOpen as layer
use Rattle.jp_meaning.specs.declared.stmt.TypedStmt.{TypedStmt}
use Rattle.jp_meaning.specs.declared.stmt.TypedStmt as tree
use Rattle.jp_meaning.specs.declared.stmt.TypedStmtKind.TheVariants as form'
use Rattle.jp_meaning.specs.declared.stmt.TypedStmtKind.TheOpen as layer'
use Rattle.jp_meaning.specs.Expressions.{meant, meant_step}
use Rattle.jp_meaning.specs.Statements.{does, does_step}

pub meant_number : (p : Place) (t : Ty) (value : ℕ) (hex : Bool) →
    meant (record { place = p; ty = t; kind = form.Number value hex }) ≡ meant_step (layer.Number value hex) t
meant_number p t value hex = search (rules, the_lemmas)

pub meant_truth : (p : Place) (t : Ty) (value : Bool) →
    meant (record { place = p; ty = t; kind = form.Truth value }) ≡ meant_step (layer.Truth value) t
meant_truth p t value = search (rules, the_lemmas)

pub meant_null : (p : Place) (t : Ty) →
    meant (record { place = p; ty = t; kind = form.Null }) ≡ meant_step layer.Null t
meant_null p t = search (rules, the_lemmas)

pub meant_this : (p : Place) (t : Ty) →
    meant (record { place = p; ty = t; kind = form.This }) ≡ meant_step layer.This t
meant_this p t = search (rules, the_lemmas)

pub meant_local : (p : Place) (t : Ty) (slot : ℕ) →
    meant (record { place = p; ty = t; kind = form.Local slot }) ≡ meant_step (layer.Local slot) t
meant_local p t slot = search (rules, the_lemmas)

pub meant_unary : (p : Place) (t : Ty) (sign : ℕ) (right : TypedExpr) →
    meant (record { place = p; ty = t; kind = form.Unary sign right }) ≡ meant_step (layer.Unary sign (meant right)) t
meant_unary p t sign right = search (rules, the_lemmas)

pub meant_binary : (p : Place) (t : Ty) (sign : ℕ) (left : TypedExpr) (right : TypedExpr) →
    meant (record { place = p; ty = t; kind = form.Binary sign left right }) ≡ meant_step (layer.Binary sign (meant left) (meant right)) t
meant_binary p t sign left right = search (rules, the_lemmas)

pub meant_cond : (p : Place) (t : Ty) (test : TypedExpr) (first : TypedExpr) (second : TypedExpr) →
    meant (record { place = p; ty = t; kind = form.Cond test first second }) ≡ meant_step (layer.Cond (meant test) (meant first) (meant second)) t
meant_cond p t test first second = search (rules, the_lemmas)

pub meant_cast : (p : Place) (t : Ty) (class : Word) (value : TypedExpr) →
    meant (record { place = p; ty = t; kind = form.Cast class value }) ≡ meant_step (layer.Cast class (meant value)) t
meant_cast p t class value = search (rules, the_lemmas)

pub meant_instance_of : (p : Place) (t : Ty) (value : TypedExpr) (class : Word) →
    meant (record { place = p; ty = t; kind = form.InstanceOf value class }) ≡ meant_step (layer.InstanceOf (meant value) class) t
meant_instance_of p t value class = search (rules, the_lemmas)

pub meant_field : (p : Place) (t : Ty) (object : TypedExpr) (class : Word) (name : Word) →
    meant (record { place = p; ty = t; kind = form.Field object class name }) ≡ meant_step (layer.Field (meant object) class name) t
meant_field p t object class name = search (rules, the_lemmas)

pub meant_static : (p : Place) (t : Ty) (class : Word) (name : Word) →
    meant (record { place = p; ty = t; kind = form.Static class name }) ≡ meant_step (layer.Static class name) t
meant_static p t class name = search (rules, the_lemmas)

pub meant_length : (p : Place) (t : Ty) (array : TypedExpr) →
    meant (record { place = p; ty = t; kind = form.Length array }) ≡ meant_step (layer.Length (meant array)) t
meant_length p t array = search (rules, the_lemmas)

pub meant_index : (p : Place) (t : Ty) (array : TypedExpr) (index : TypedExpr) →
    meant (record { place = p; ty = t; kind = form.Index array index }) ≡ meant_step (layer.Index (meant array) (meant index)) t
meant_index p t array index = search (rules, the_lemmas)

pub meant_virtual_call : (p : Place) (t : Ty) (object : TypedExpr) (class : Word) (is_interface : Bool) (name : Word) (params : List Ty) (args : List TypedExpr) →
    meant (record { place = p; ty = t; kind = form.CallVirtual object class is_interface name params args }) ≡ meant_step (layer.CallVirtual (meant object) class is_interface name params (map meant args)) t
meant_virtual_call p t object class is_interface name params args = search (rules, the_lemmas)

pub meant_static_call : (p : Place) (t : Ty) (class : Word) (name : Word) (params : List Ty) (args : List TypedExpr) →
    meant (record { place = p; ty = t; kind = form.CallStatic class name params args }) ≡ meant_step (layer.CallStatic class name params (map meant args)) t
meant_static_call p t class name params args = search (rules, the_lemmas)

pub meant_super_call : (p : Place) (t : Ty) (class : Word) (name : Word) (params : List Ty) (args : List TypedExpr) →
    meant (record { place = p; ty = t; kind = form.CallSuper class name params args }) ≡ meant_step (layer.CallSuper class name params (map meant args)) t
meant_super_call p t class name params args = search (rules, the_lemmas)

pub meant_new : (p : Place) (t : Ty) (class : Word) (params : List Ty) (args : List TypedExpr) →
    meant (record { place = p; ty = t; kind = form.New class params args }) ≡ meant_step (layer.New class params (map meant args)) t
meant_new p t class params args = search (rules, the_lemmas)

pub meant_new_array : (p : Place) (t : Ty) (elem : Ty) (size : TypedExpr) →
    meant (record { place = p; ty = t; kind = form.NewArray elem size }) ≡ meant_step (layer.NewArray elem (meant size)) t
meant_new_array p t elem size = search (rules, the_lemmas)

pub meant_print : (p : Place) (t : Ty) (value : TypedExpr) →
    meant (record { place = p; ty = t; kind = form.Print value }) ≡ meant_step (layer.Print (meant value)) t
meant_print p t value = search (rules, the_lemmas)

pub meant_show : (p : Place) (t : Ty) (text : Word) →
    meant (record { place = p; ty = t; kind = form.Show text }) ≡ meant_step (layer.Show text) t
meant_show p t text = search (rules, the_lemmas)

pub meant_read : (p : Place) (t : Ty) →
    meant (record { place = p; ty = t; kind = form.Read }) ≡ meant_step layer.Read t
meant_read p t = search (rules, the_lemmas)

pub does_block : (p : Place) (block : List TypedStmt) →
    does (record { place = p; kind = form'.Block block }) ≡ does_step (layer'.Block (map does block))
does_block p block = search (rules, tree.the_lemmas)

pub does_empty : (p : Place) →
    does (record { place = p; kind = form'.Empty }) ≡ does_step layer'.Empty
does_empty p = search (rules, tree.the_lemmas)

pub does_local : (p : Place) (slot : ℕ) (t : Ty) (value : Option TypedExpr) →
    does (record { place = p; kind = form'.Local slot t value }) ≡ does_step (layer'.Local slot t value)
does_local p slot t value = search (rules, tree.the_lemmas)

pub does_if : (p : Place) (test : TypedExpr) (first : TypedStmt) (second : Option TypedStmt) →
    does (record { place = p; kind = form'.If test first second }) ≡ does_step (layer'.If test (does first) (option_map does second))
does_if p test first second = search (rules, tree.the_lemmas)

pub does_while : (p : Place) (test : TypedExpr) (body : TypedStmt) →
    does (record { place = p; kind = form'.While test body }) ≡ does_step (layer'.While test (does body))
does_while p test body = search (rules, tree.the_lemmas)

pub does_for : (p : Place) (init : Option TypedStmt) (test : Option TypedExpr) (change : Option TypedStmt) (body : TypedStmt) →
    does (record { place = p; kind = form'.For init test change body }) ≡ does_step (layer'.For (option_map does init) test (option_map does change) (does body))
does_for p init test change body = search (rules, tree.the_lemmas)

pub does_break : (p : Place) →
    does (record { place = p; kind = form'.Break }) ≡ does_step layer'.Break
does_break p = search (rules, tree.the_lemmas)

pub does_continue : (p : Place) →
    does (record { place = p; kind = form'.Continue }) ≡ does_step layer'.Continue
does_continue p = search (rules, tree.the_lemmas)

pub does_return : (p : Place) (value : Option TypedExpr) →
    does (record { place = p; kind = form'.Return value }) ≡ does_step (layer'.Return value)
does_return p value = search (rules, tree.the_lemmas)

pub does_assign : (p : Place) (left : TypedExpr) (sign : ℕ) (right : TypedExpr) →
    does (record { place = p; kind = form'.Assign left sign right }) ≡ does_step (layer'.Assign left sign right)
does_assign p left sign right = search (rules, tree.the_lemmas)

pub does_bump : (p : Place) (left : TypedExpr) (up : Bool) →
    does (record { place = p; kind = form'.Bump left up }) ≡ does_step (layer'.Bump left up)
does_bump p left up = search (rules, tree.the_lemmas)

pub does_run : (p : Place) (value : TypedExpr) →
    does (record { place = p; kind = form'.Run value }) ≡ does_step (layer'.Run value)
does_run p value = search (rules, tree.the_lemmas)
