-- What is seen of an expression has a tree with at most twice as many nodes as are written.
use Rattle.std.proofs.Common.{◌≡◌, ℕ, ◌+◌, ◌*◌, ◌≤◌, Bool, true, false, List, [], ◌∷◌, ◌++◌, map, length, Option, Some, None, refl, sym, ap, subst, arith}
use Rattle.std.specs.Prelude.{◌==◌, sum, is_some, unwrap_or, if◌then◌else◌}
use Rattle.std.specs.Option.{option_map_or, option_and_then}
use Rattle.std.proofs.lemmas.Bool.{false≢true}
use Rattle.std.proofs.lemmas.List.Sums.{sum_by-cons}
use Rattle.jp_pred.specs.declared.ty.Ty.{Ty}
use Rattle.jp_pred.specs.declared.ty.Ty.TheVariants as ty
use Rattle.jp_pred.specs.Names.{Word, same, object}
use Rattle.iface_codec.specs.declared.iface.IfaceField.{IfaceField}
use Rattle.iface_codec.specs.declared.iface.IfaceMethod.{IfaceMethod}
use Rattle.jp_ast.specs.declared.token.Place.{Place}
use Rattle.jp_ast.specs.declared.sign.TheConstants as sign
use Rattle.jp_ast.specs.declared.expr.Expr.{Expr}
use Rattle.jp_ast.specs.declared.expr.ExprKind.{ExprKind, ExprKind-F}
use Rattle.jp_ast.specs.declared.expr.ExprKind.TheOpen as e
use Rattle.jp_ast.specs.declared.expr.ExprKind.TheFolds.{ind-Expr, fold-ExprKind, fold-roll-Expr, fold-roll-ExprKind, map-ExprKind}
use Rattle.jp_ast.specs.Counts as written
use Rattle.jp_meaning.specs.Classes.{is_static}
use Rattle.jp_meaning.specs.declared.expr.TypedExpr.{TypedExpr}
use Rattle.jp_meaning.specs.declared.expr.TypedKind.TheVariants as made
use Rattle.type_rules.specs.declared.fault.TypeFault.{TypeFault}
use Rattle.type_rules.specs.declared.scope.Scope.{Scope}
use Rattle.type_rules.specs.declared.seen.Known.{Known}
use Rattle.type_rules.specs.declared.seen.Role.{Role}
use Rattle.type_rules.specs.declared.seen.Role.TheVariants as role
use Rattle.type_rules.specs.declared.seen.Seen.{Seen}
use Rattle.type_rules.specs.declared.seen.Seen.TheVariants as seen
use Rattle.type_rules.specs.Types.{io, is_unknown}
use Rattle.type_rules.specs.Heads.{head_of, names_interface}
use Rattle.type_rules.specs.Lookups.{field_that, method_of, constructor_of}
use Rattle.type_rules.specs.Assigning.{an_array}
use Rattle.type_rules.specs.Signs.{group_of, result_of}
use Rattle.type_rules.specs.Names.{variable_of, own_field, class_of_value, called, super_method, is_text_call}
use Rattle.type_rules.specs.Nodes.{AtExpr}
use Rattle.type_rules.specs.Table.{own_faults}
use Rattle.type_rules.specs.Expressions.{Part, Parts, Layer, behind, argument_of, in_role, placed, seen_all, node_of, value, variable, of_value, of_found, arguments, this_at, own_field_value, named, larger, element_of, array_of, field_value, read_field, io_call, text_of, static_call, virtual_call, own_call, call_on, dot_call, resolved, part_of, part}
use Rattle.gen_bounds.specs.Nodes.{total, expr_nodes}
use Rattle.node_laws.proofs.CountedForms.{count_number, count_truth, count_null, count_this, count_local, count_unary, count_binary, count_cond, count_cast, count_instance, count_field, count_static, count_length, count_index, count_virtual, count_static_call, count_super_call, count_new, count_new_array, count_print, count_show, count_read}

pub some_is : {X : Type 0} (x y : X) → Some x ≡ Some y → x ≡ y
some_is {X = X} x y e = ap (λ (o : Option X). unwrap_or o x) e

pub none_is : {X A : Type 0} (x : X) → None ≡ Some x → A
none_is x e = absurd (false≢true (ap is_some e))

-- what is seen for so many written nodes
abbrev pub Few : ℕ → Seen → Type 0
Few k seen.Faulty = Unit {0}
Few k (seen.Value v) = expr_nodes v.expr ≤ 2 * k
Few k (seen.Class name) = Unit {0}
Few k (seen.Text text) = Unit {0}

by_value : (k l : ℕ) (s : Seen) (go : Known → Seen) → Few k s → ((v : Known) → expr_nodes v.expr ≤ 2 * k → Few l (go v)) → Few l (of_value s go)
by_value k l seen.Faulty go h f = tt
by_value k l (seen.Value v) go h f = f v h
by_value k l (seen.Class name) go h f = tt
by_value k l (seen.Text text) go h f = tt

by_option : {A : Type 0} (l : ℕ) (go : A → Seen) (o : Option A) (other : Seen) → ((x : A) → Few l (go x)) → Few l other → Few l (option_map_or go o other)
by_option l go None other f h = h
by_option l go (Some x) other f h = f x

by_found : {A : Type 0} (l : ℕ) (o : Option A) (go : A → Seen) → ((x : A) → Few l (go x)) → Few l (of_found o go)
by_found l o go f = by_option l go o seen.Faulty f tt

by_if : (l : ℕ) (b : Bool) (s t : Seen) → Few l s → Few l t → Few l (if b then s else t)
by_if l true s t h k = h
by_if l false s t h k = k

-- ARGUMENTS

abbrev pub AllFew : List ℕ → List Seen → Type 0
AllFew [] [] = Unit {0}
AllFew [] (s ∷ ss) = ⊥
AllFew (k ∷ ks) [] = ⊥
AllFew (k ∷ ks) (s ∷ ss) = Few k s × AllFew ks ss

pub total_more : (done : List TypedExpr) (x : TypedExpr) → total (map expr_nodes (done ++ x ∷ [])) ≡ total (map expr_nodes done) + expr_nodes x
total_more [] x = omega arith
total_more (d ∷ ds) x = let h = total_more ds x in omega arith

pub sum_cons : (k : ℕ) (ks : List ℕ) → sum (k ∷ ks) ≡ k + sum ks
sum_cons k ks = sum_by-cons (λ x. x) k ks

no_arguments : {A : Type 0} (ss : List Seen) (ts : List TypedExpr) → arguments None ss ≡ Some ts → A
no_arguments [] ts e = none_is ts e
no_arguments (s ∷ ss) ts e = no_arguments ss ts e

pub arguments_few : (ks : List ℕ) (ss : List Seen) (done ts : List TypedExpr) → AllFew ks ss → arguments (Some done) ss ≡ Some ts → total (map expr_nodes ts) ≤ total (map expr_nodes done) + 2 * sum ks
arguments_few [] [] done ts a e =
    let same : total (map expr_nodes done) ≡ total (map expr_nodes ts) = ap (λ (xs : List TypedExpr). total (map expr_nodes xs)) (some_is done ts e) in omega arith
arguments_few [] (s ∷ ss) done ts a e = absurd a
arguments_few (k ∷ ks) [] done ts a e = absurd a
arguments_few (k ∷ ks) (seen.Faulty ∷ ss) done ts a e = no_arguments ss ts e
arguments_few (k ∷ ks) (seen.Value v ∷ ss) done ts a e =
    let h = arguments_few ks ss (done ++ v.expr ∷ []) ts a.1 e in
    let f = total_more done v.expr in let g = sum_cons k ks in let few = a.0 in omega arith
arguments_few (k ∷ ks) (seen.Class name ∷ ss) done ts a e = no_arguments ss ts e
arguments_few (k ∷ ks) (seen.Text text ∷ ss) done ts a e = no_arguments ss ts e

by_arguments : (l : ℕ) (ks : List ℕ) (ss : List Seen) (go : List TypedExpr → Seen) → AllFew ks ss → ((ts : List TypedExpr) → total (map expr_nodes ts) ≤ 2 * sum ks → Few l (go ts)) → Few l (of_found (arguments (Some []) ss) go)
by_arguments l ks ss go a f = by_result (arguments (Some []) ss) refl where
  by_result : (o : Option (List TypedExpr)) → arguments (Some []) ss ≡ o → Few l (of_found o go)
  by_result None e = tt
  by_result (Some ts) e = f ts (let h = arguments_few ks ss [] ts a e in omega arith)

module _ (c : Scope) where
  -- NAMES

  this_nodes : (place : Place) → expr_nodes (this_at c place) ≡ 1
  this_nodes place = count_this place (ty.Class c.class)

  own_field_few : (place : Place) (name : Word) (f : Word × IfaceField) → Few 1 (own_field_value c place name f)
  own_field_few place name f =
      by_if 1 f.1.is_static (variable place f.1.ty (made.Static f.0 name)) (variable place f.1.ty (made.Field (this_at c place) f.0 name)) (let h = count_static place f.1.ty f.0 name in omega arith)
      (let h = count_field place f.1.ty (this_at c place) f.0 name in let g = this_nodes place in omega arith)

  named_few : (place : Place) (name : Word) → Few 1 (named c place name)
  named_few place name =
      by_option 1 (λ (v : ℕ × Ty). variable place v.1 (made.Local v.0)) (variable_of c name) (option_map_or (own_field_value c place name) (own_field c name) (seen.Class name)) (λ v. let h = count_local place v.1 v.0 in omega arith)
      (by_option 1 (own_field_value c place name) (own_field c name) (seen.Class name) (own_field_few place name) tt)

  -- FIELDS

  field_value_few : (place : Place) (k : ℕ) (v : Known) (name : Word) → expr_nodes v.expr ≤ 2 * k → Few (1 + k) (field_value c place v name)
  field_value_few place k v name h =
      by_if (1 + k) (is_unknown v.expr.ty) (variable place ty.Void (made.Length v.expr)) _ (let f = count_length place ty.Void v.expr in omega arith)
      (by_if (1 + k) (an_array v) (value place ty.Int (made.Length v.expr)) _ (let f = count_length place ty.Int v.expr in omega arith)
      (by_found (1 + k) (class_of_value v) _ (λ class. by_found (1 + k) (field_that false c.heads c.class class name) _ (λ f. let g = count_field place f.1.ty v.expr f.0 name in omega arith))))

  read_field_few : (place : Place) (k : ℕ) (o : Seen) (name : Word) → Few k o → Few (1 + k) (read_field c place o name)
  read_field_few place k seen.Faulty name h = tt
  read_field_few place k (seen.Value v) name h = field_value_few place k v name h
  read_field_few place k (seen.Class class) name h = by_found (1 + k) (field_that true c.heads c.class class name) _ (λ f. let g = count_static place f.1.ty f.0 name in omega arith)
  read_field_few place k (seen.Text text) name h = tt

  -- CALLS

  io_few : (place : Place) (k : ℕ) (name : Word) (ts : List TypedExpr) → total (map expr_nodes ts) ≤ 2 * k → Few (1 + k) (io_call place name ts)
  io_few place k name [] h = let f = count_read place ty.Int in omega arith
  io_few place k name (t ∷ ts) h = let f = count_print place ty.Void t in omega arith

  static_call_few : (place : Place) (k : ℕ) (class : Word) (m : IfaceMethod) (ts : List TypedExpr) → total (map expr_nodes ts) ≤ 2 * k → Few (1 + k) (static_call place class m ts)
  static_call_few place k class m ts h =
      by_if (1 + k) (same class io) (io_call place m.name ts) (value place m.result (made.CallStatic class m.name m.params ts)) (io_few place k m.name ts h)
      (let f = count_static_call place m.result class m.name m.params ts in omega arith)

  virtual_call_few : (place : Place) (k : ℕ) (o : TypedExpr) (class : Word) (m : IfaceMethod) (ts : List TypedExpr) → 1 + (expr_nodes o + total (map expr_nodes ts)) ≤ 2 * k → Few k (virtual_call c place o class m ts)
  virtual_call_few place k o class m ts h = let f = count_virtual place m.result o class (names_interface c.heads class) m.name m.params ts in omega arith

  own_call_few : (place : Place) (k : ℕ) (m : Word × IfaceMethod) (ts : List TypedExpr) → total (map expr_nodes ts) ≤ 2 * k → Few (1 + k) (own_call c place m ts)
  own_call_few place k m ts h =
      by_if (1 + k) (is_static m.1.kind) (static_call place m.0 m.1 ts) (virtual_call c place (this_at c place) c.class m.1 ts) (static_call_few place k m.0 m.1 ts h)
      (virtual_call_few place (1 + k) (this_at c place) c.class m.1 ts (let g = this_nodes place in omega arith))

  call_on_few : (place : Place) (k l : ℕ) (v : Known) (name : Word) (count : ℕ) (ts : List TypedExpr) → expr_nodes v.expr ≤ 2 * k → total (map expr_nodes ts) ≤ 2 * l → Few (1 + (k + l)) (call_on c place v name count ts)
  call_on_few place k l v name count ts h j =
      by_if (1 + (k + l)) (is_unknown v.expr.ty) (value place ty.Void (made.CallVirtual v.expr [] false name [] ts)) _ (let f = count_virtual place ty.Void v.expr [] false name [] ts in omega arith)
      (by_found (1 + (k + l)) (class_of_value v) _ (λ class. by_found (1 + (k + l)) (method_of c.heads c.class class name count) _ (λ m. virtual_call_few place (1 + (k + l)) v.expr class m.1 ts (omega arith))))

  -- more nodes are enough too
  more_few : (k l : ℕ) (s : Seen) → k ≤ l → Few k s → Few l s
  more_few k l seen.Faulty le h = tt
  more_few k l (seen.Value v) le h = omega arith
  more_few k l (seen.Class name) le h = tt
  more_few k l (seen.Text text) le h = tt

  dot_call_few : (place : Place) (k l : ℕ) (o : Seen) (name : Word) (count : ℕ) (ts : List TypedExpr) → Few k o → total (map expr_nodes ts) ≤ 2 * l → Few (1 + (k + l)) (dot_call c place o name count ts)
  dot_call_few place k l seen.Faulty name count ts h j = tt
  dot_call_few place k l (seen.Value v) name count ts h j = call_on_few place k l v name count ts h j
  dot_call_few place k l (seen.Class class) name count ts h j =
      by_found (1 + (k + l)) (method_of c.heads c.class class name count) _ (λ m. more_few (1 + l) (1 + (k + l)) (static_call place m.0 m.1 ts) (omega arith) (static_call_few place l m.0 m.1 ts j))
  dot_call_few place k l (seen.Text text) name count ts h j = tt

  -- THE FOLD

  abbrev pub FewPart : ℕ → (Role → Part) → Type 0
  FewPart k d = (r : Role) → Few k (d r).seen

  settle : (l : ℕ) (fs : List TypeFault) (s : Seen) → Few l s → Few l (elim fs [ [] ↦ s | _ ↦ seen.Faulty ])
  settle l [] s h = h
  settle l (x ∷ xs) s h = tt

  whole : (l : ℕ) (place : Place) (r : Role) (parts : Parts) → Few l (resolved c place (node_of parts)) → Few l (part_of c place r parts).seen
  whole l place r parts h = settle l (own_faults place (AtExpr c r (node_of parts))) (resolved c place (node_of parts)) h

  abbrev step : Layer → Place → Role → Part
  step l place r = part_of c place r (placed l)

  abbrev kind_part : ExprKind → Place → Role → Part
  kind_part = fold-ExprKind (Place → Role → Part) (Role → Part) step (λ x. x.kind x.place)

  abbrev kind_nodes : ExprKind → ℕ
  kind_nodes = fold-ExprKind ℕ ℕ written.expr_step (λ x. x.kind)

  abbrev FewKind : Type 0
  FewKind = (k : ExprKind) × ((place : Place) → FewPart (kind_nodes k) (kind_part k place))

  abbrev FewExpr : Type 0
  FewExpr = (x : Expr) × FewPart (written.expr_nodes x) (part c x)

  abbrev parts_in : Role → List FewExpr → List Part
  parts_in r xs = in_role r (map (part c) (map (λ (x : FewExpr). x.0) xs))

  abbrev nodes_in : List FewExpr → List ℕ
  nodes_in xs = map written.expr_nodes (map (λ (x : FewExpr). x.0) xs)

  all_parts : (r : Role) (xs : List FewExpr) → AllFew (nodes_in xs) (seen_all (parts_in r xs))
  all_parts r [] = tt
  all_parts r (x ∷ xs) = (x.1 r, all_parts r xs)

  layer : (y : ExprKind-F FewKind FewExpr) (place : Place) →
      FewPart (written.expr_step (map-ExprKind ExprKind Expr ℕ ℕ kind_nodes written.expr_nodes (map-ExprKind FewKind FewExpr ExprKind Expr (λ k. k.0) (λ x. x.0) y)))
      (step (map-ExprKind ExprKind Expr (Place → Role → Part) (Role → Part) kind_part (part c) (map-ExprKind FewKind FewExpr ExprKind Expr (λ k. k.0) (λ x. x.0) y)) place)
  layer (e.Number n hex) place r = whole 1 place r (e.Number n hex) (let h = count_number place ty.Int n hex in omega arith)
  layer (e.Truth truth) place r = whole 1 place r (e.Truth truth) (let h = count_truth place ty.Boolean truth in omega arith)
  layer e.Null place r = whole 1 place r e.Null (let h = count_null place (ty.Class object) in omega arith)
  layer (e.Text text) place r = whole 1 place r (e.Text text) tt
  layer e.This place r = whole 1 place r e.This (let h = this_nodes place in omega arith)
  layer (e.Var name) place r = whole 1 place r (e.Var name) (named_few place name)
  layer (e.Unary n right) place r =
      let k = written.expr_nodes right.0 in
      whole (1 + k) place r (e.Unary n (part c right.0 (behind n)))
      (by_value k (1 + k) (part c right.0 (behind n)).seen _ (right.1 (behind n)) (λ v h.
      let f = count_unary place (if n == sign.NOT then ty.Boolean else ty.Int) n v.expr in omega arith))
  layer (e.Binary n left right) place r =
      let k = written.expr_nodes left.0 in let l = written.expr_nodes right.0 in
      whole (1 + k + l) place r (e.Binary n (part c left.0 role.Operand) (part c right.0 role.Operand))
      (by_value k (1 + k + l) (part c left.0 role.Operand).seen _ (left.1 role.Operand) (λ v h.
      by_value l (1 + k + l) (part c right.0 role.Operand).seen _ (right.1 role.Operand) (λ u j.
      let f = count_binary place (result_of (group_of n) v.expr.ty u.expr.ty) n v.expr u.expr in omega arith)))
  layer (e.Cond test first second) place r =
      let k = written.expr_nodes test.0 in let l = written.expr_nodes first.0 in let q = written.expr_nodes second.0 in
      whole (1 + k + l + q) place r (e.Cond (part c test.0 role.Operand) (part c first.0 role.Operand) (part c second.0 role.Operand))
      (by_value k (1 + k + l + q) (part c test.0 role.Operand).seen _ (test.1 role.Operand) (λ t ht.
      by_value l (1 + k + l + q) (part c first.0 role.Operand).seen _ (first.1 role.Operand) (λ a ha.
      by_value q (1 + k + l + q) (part c second.0 role.Operand).seen _ (second.1 role.Operand) (λ b hb.
      let f = count_cond place (larger c a b).expr.ty t.expr a.expr b.expr in omega arith))))
  layer (e.Cast class operand) place r =
      let k = written.expr_nodes operand.0 in
      whole (1 + k) place r (e.Cast class (part c operand.0 role.Operand))
      (by_value k (1 + k) (part c operand.0 role.Operand).seen _ (operand.1 role.Operand) (λ v h.
      let f = count_cast place (ty.Class class) class v.expr in omega arith))
  layer (e.InstanceOf operand class) place r =
      let k = written.expr_nodes operand.0 in
      whole (1 + k) place r (e.InstanceOf (part c operand.0 role.Operand) class)
      (by_value k (1 + k) (part c operand.0 role.Operand).seen _ (operand.1 role.Operand) (λ v h.
      let f = count_instance place ty.Boolean v.expr class in omega arith))
  layer (e.Field object name) place r =
      let k = written.expr_nodes object.0 in
      whole (1 + k) place r (e.Field (part c object.0 role.BeforeDot) name) (read_field_few place k (part c object.0 role.BeforeDot).seen name (object.1 role.BeforeDot))
  layer (e.Index array index) place r =
      let k = written.expr_nodes array.0 in let l = written.expr_nodes index.0 in
      whole (1 + k + l) place r (e.Index (part c array.0 role.Operand) (part c index.0 role.Operand))
      (by_value k (1 + k + l) (part c array.0 role.Operand).seen _ (array.1 role.Operand) (λ v h.
      by_value l (1 + k + l) (part c index.0 role.Operand).seen _ (index.1 role.Operand) (λ u j.
      let f = count_index place (element_of v.expr.ty) v.expr u.expr in omega arith)))
  layer (e.Call None name args) place r =
      let ss = seen_all (parts_in role.Operand args) in let k = sum (nodes_in args) in
      whole (1 + 0 + k) place r (e.Call None name (parts_in role.Operand args))
      (by_arguments (1 + 0 + k) (nodes_in args) ss _ (all_parts role.Operand args) (λ ts h.
      by_found (1 + 0 + k) (called c None name (length ss)) _ (λ m. more_few (1 + k) (1 + 0 + k) (own_call c place m ts) (omega arith) (own_call_few place k m ts h))))
  layer (e.Call (Some object) name args) place r =
      let s : Seen = (part c object.0 role.BeforeDot).seen in
      let q : Role = argument_of (Some s) name in
      let ss = seen_all (parts_in q args) in let k = written.expr_nodes object.0 in let l = sum (nodes_in args) in
      whole (1 + k + l) place r (e.Call (Some (part c object.0 role.BeforeDot)) name (parts_in q args))
      (by_if (1 + k + l) (is_text_call (Some s) name) (value place ty.Void (made.Show (text_of ss))) _ (let f = count_show place ty.Void (text_of ss) in omega arith)
      (by_arguments (1 + k + l) (nodes_in args) ss _ (all_parts q args) (λ ts h.
      more_few (1 + (k + l)) (1 + k + l) (dot_call c place s name (length ss) ts) (omega arith) (dot_call_few place k l s name (length ss) ts (object.1 role.BeforeDot) h))))
  layer (e.SuperCall name args) place r =
      let ss = seen_all (parts_in role.Operand args) in let k = sum (nodes_in args) in
      whole (1 + k) place r (e.SuperCall name (parts_in role.Operand args))
      (by_arguments (1 + k) (nodes_in args) ss _ (all_parts role.Operand args) (λ ts h.
      by_found (1 + k) (super_method c name (length ss)) _ (λ m. let f = count_super_call place m.1.result m.0 name m.1.params ts in omega arith)))
  layer (e.New class args) place r =
      let ss = seen_all (parts_in role.Operand args) in let k = sum (nodes_in args) in
      whole (1 + k) place r (e.New class (parts_in role.Operand args))
      (by_arguments (1 + k) (nodes_in args) ss _ (all_parts role.Operand args) (λ ts h.
      by_found (1 + k) (option_and_then (λ h. constructor_of h (length ss)) (head_of c.heads class)) _ (λ params. let f = count_new place (ty.Class class) class params ts in omega arith)))
  layer (e.NewArray elem size) place r =
      let k = written.expr_nodes size.0 in
      whole (1 + k) place r (e.NewArray elem (part c size.0 role.Operand))
      (by_value k (1 + k) (part c size.0 role.Operand).seen _ (size.1 role.Operand) (λ v h.
      let f = count_new_array place (array_of elem) elem v.expr in omega arith))

  with_both : {A B : Type 0} (Q : A → B → Type 0) (x z : A) (y u : B) → x ≡ z → y ≡ u → Q z u → Q x y
  with_both Q x z y u e f q = subst (λ v. Q v y) (sym e) (subst (λ v. Q z v) (sym f) q)

  pub part_few : (x : Expr) → FewPart (written.expr_nodes x) (part c x)
  part_few = ind-Expr (λ k. (place : Place) → FewPart (kind_nodes k) (kind_part k place)) (λ x. FewPart (written.expr_nodes x) (part c x))
      (λ x y is. with_both (λ (f : ℕ) (g : Place → Role → Part). (place : Place) → FewPart f (g place)) _ _ _ _ (fold-roll-ExprKind ℕ ℕ written.expr_step (λ x. x.kind) x) (fold-roll-ExprKind (Place → Role → Part) (Role → Part) step (λ x. x.kind x.place) x)
      (subst (λ (z : ExprKind-F ExprKind Expr). (place : Place) → FewPart (written.expr_step (map-ExprKind ExprKind Expr ℕ ℕ kind_nodes written.expr_nodes z)) (step (map-ExprKind ExprKind Expr (Place → Role → Part) (Role → Part) kind_part (part c) z) place)) is (layer y)))
      (λ x y is. with_both FewPart _ _ _ _ (fold-roll-Expr ℕ ℕ written.expr_step (λ x. x.kind) x) (fold-roll-Expr (Place → Role → Part) (Role → Part) step (λ x. x.kind x.place) x)
      (subst (λ (z : e.Expr-F ExprKind Expr). FewPart (kind_nodes z.kind) (kind_part z.kind z.place)) is (y.kind.1 y.place)))
