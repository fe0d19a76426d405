-- What is seen of an expression has an encodable tree, where few enough variables are in scope and methods have few parameters.
use Rattle.std.proofs.Common.{◌≡◌, ℕ, ◌+◌, ◌≤◌, ◌<◌, Bool, true, false, List, [], ◌∷◌, ◌++◌, map, length, Option, Some, None, refl, sym, ◌∙◌, subst, arith}
use Rattle.std.specs.Prelude.{◌&&◌, ◌||◌, ◌==◌, nat_lt, not, if◌then◌else◌}
use Rattle.std.specs.List.{list_all}
use Rattle.std.specs.Option.{option_map_or, option_and_then}
use Rattle.std.proofs.lemmas.Bool.{lt-ltb}
use Rattle.jp_pred.specs.declared.ty.Ty.{Ty}
use Rattle.jp_pred.specs.declared.ty.Ty.TheVariants as ty
use Rattle.jp_pred.specs.Names.{Word, In, same, object}
use Rattle.iface_codec.specs.declared.iface.Iface.{Iface}
use Rattle.iface_codec.specs.declared.iface.IfaceField.{IfaceField}
use Rattle.iface_codec.specs.declared.iface.IfaceMethod.{IfaceMethod}
use Rattle.jp_ast.specs.declared.token.Place.{Place}
use Rattle.jp_ast.specs.declared.sign.TheConstants as sign
use Rattle.jp_ast.specs.declared.expr.Expr.{Expr}
use Rattle.jp_ast.specs.declared.expr.ExprKind.{ExprKind, ExprKind-F}
use Rattle.jp_ast.specs.declared.expr.ExprKind.TheOpen as e
use Rattle.jp_ast.specs.declared.expr.ExprKind.TheFolds.{ind-Expr, fold-ExprKind, fold-roll-Expr, fold-roll-ExprKind, map-ExprKind}
use Rattle.jp_meaning.specs.Classes.{is_static}
use Rattle.jp_meaning.specs.declared.expr.TypedExpr.{TypedExpr}
use Rattle.jp_meaning.specs.declared.expr.TypedKind.TheVariants as made
use Rattle.type_rules.specs.declared.fault.TypeFault.{TypeFault}
use Rattle.type_rules.specs.declared.scope.Scope.{Scope}
use Rattle.type_rules.specs.declared.scope.Variable.{Variable}
use Rattle.type_rules.specs.declared.seen.Known.{Known}
use Rattle.type_rules.specs.declared.seen.Role.{Role}
use Rattle.type_rules.specs.declared.seen.Role.TheVariants as role
use Rattle.type_rules.specs.declared.seen.Seen.{Seen}
use Rattle.type_rules.specs.declared.seen.Seen.TheVariants as seen
use Rattle.type_rules.specs.Types.{io, is_unknown}
use Rattle.type_rules.specs.Heads.{head_of, names_interface}
use Rattle.type_rules.specs.Lookups.{field_that, method_of, constructor_of}
use Rattle.type_rules.specs.Assigning.{an_array}
use Rattle.type_rules.specs.Signs.{group_of, result_of}
use Rattle.type_rules.specs.Names.{variable_from, receiver_slots, variable_of, own_field, class_of_value, called, super_method, is_text_call}
use Rattle.type_rules.specs.Nodes.{AtExpr}
use Rattle.type_rules.specs.Table.{own_faults}
use Rattle.type_rules.specs.Expressions.{Part, Parts, Layer, behind, argument_of, in_role, placed, seen_all, node_of, tree, value, variable, of_value, of_found, arguments, this_at, own_field_value, named, larger, element_of, array_of, field_value, read_field, io_call, text_of, static_call, virtual_call, own_call, call_on, dot_call, resolved, part_of, part}
use Rattle.type_rules.specs.Statements.{count}
use Rattle.calls_fit.proofs.Named.{some_is, none_is, all_in}
use Rattle.typed_fits.proofs.Looking.{method_in}
use Rattle.code_fits.specs.Encodable.{has_few, is_encodable}
use Rattle.typed_code.specs.Limits.{has_few_params}
use Rattle.typed_code.proofs.EncodableForms.{told_number, told_truth, told_null, told_this, told_local, told_unary, told_binary, told_cond, told_cast, told_instance, told_field, told_static, told_length, told_index, told_virtual, told_static_call, told_super_call, told_new, told_new_array, told_print, told_show, told_read}

pub and_so : (a b : Bool) → a ≡ true → b ≡ true → (a && b) ≡ true
and_so true b e f = f
and_so false b e f = e

-- of both
pub of_both : (a b : Bool) → (a && b) ≡ true → (a ≡ true) × (b ≡ true)
of_both true b e = (refl, e)
of_both false b e = absurd cc

or_so : (a b : Bool) → b ≡ true → (a || b) ≡ true
or_so true b e = refl
or_so false b e = e

mapped : (ts : List TypedExpr) → list_all is_encodable ts ≡ true → list_all (λ a. a) (map is_encodable ts) ≡ true
mapped [] h = refl
mapped (t ∷ ts) h = let g = of_both (is_encodable t) (list_all is_encodable ts) h in and_so (is_encodable t) (list_all (λ a. a) (map is_encodable ts)) g.0 (mapped ts g.1)

-- methods have few parameters
abbrev pub AreFew : List Iface → Type 0
AreFew heads = (h : Iface) → In h heads → list_all has_few_params h.methods ≡ true

abbrev pub Told : Seen → Type 0
Told seen.Faulty = Unit {0}
Told (seen.Value k) = is_encodable k.expr ≡ true
Told (seen.Class name) = Unit {0}
Told (seen.Text text) = Unit {0}

-- a tree of which so much is known
told_as : (x : TypedExpr) (b : Bool) → is_encodable x ≡ b → b ≡ true → is_encodable x ≡ true
told_as x b e h = e ∙ h

by_value : (s : Seen) (go : Known → Seen) → Told s → ((k : Known) → s ≡ seen.Value k → is_encodable k.expr ≡ true → Told (go k)) → Told (of_value s go)
by_value seen.Faulty go h f = tt
by_value (seen.Value k) go h f = f k refl h
by_value (seen.Class name) go h f = tt
by_value (seen.Text text) go h f = tt

by_found : {A : Type 0} (o : Option A) (go : A → Seen) → ((x : A) → o ≡ Some x → Told (go x)) → Told (of_found o go)
by_found None go f = tt
by_found (Some x) go f = f x refl

by_if : (b : Bool) (s t : Seen) → (b ≡ true → Told s) → (b ≡ false → Told t) → Told (if b then s else t)
by_if true s t h k = h refl
by_if false s t h k = k refl

-- ARGUMENTS

abbrev pub AllTold : List Seen → Type 0
AllTold [] = Unit {0}
AllTold (s ∷ ss) = Told s × AllTold ss

more_told : (done : List TypedExpr) (x : TypedExpr) → list_all is_encodable done ≡ true → is_encodable x ≡ true → list_all is_encodable (done ++ x ∷ []) ≡ true
more_told [] x h k = and_so (is_encodable x) true k refl
more_told (d ∷ ds) x h k = let g = of_both (is_encodable d) (list_all is_encodable ds) h in and_so (is_encodable d) (list_all is_encodable (ds ++ x ∷ [])) g.0 (more_told ds x g.1 k)

no_arguments : (ss : List Seen) (ts : List TypedExpr) → arguments None ss ≡ Some ts → ⊥
no_arguments [] ts e = none_is ts e
no_arguments (s ∷ ss) ts e = no_arguments ss ts e

pub arguments_told : (ss : List Seen) (done ts : List TypedExpr) → AllTold ss → list_all is_encodable done ≡ true → arguments (Some done) ss ≡ Some ts → list_all is_encodable ts ≡ true
arguments_told [] done ts a h e = subst (λ (xs : List TypedExpr). list_all is_encodable xs ≡ true) (some_is done ts e) h
arguments_told (seen.Faulty ∷ ss) done ts a h e = absurd (no_arguments ss ts e)
arguments_told (seen.Value k ∷ ss) done ts a h e = arguments_told ss (done ++ k.expr ∷ []) ts a.1 (more_told done k.expr h a.0) e
arguments_told (seen.Class name ∷ ss) done ts a h e = absurd (no_arguments ss ts e)
arguments_told (seen.Text text ∷ ss) done ts a h e = absurd (no_arguments ss ts e)

by_arguments : (ss : List Seen) (go : List TypedExpr → Seen) → AllTold ss → ((ts : List TypedExpr) → list_all is_encodable ts ≡ true → Told (go ts)) → Told (of_found (arguments (Some []) ss) go)
by_arguments ss go a f = by_found (arguments (Some []) ss) go (λ ts e. f ts (arguments_told ss [] ts a refl e))

-- a variable's slot
pub slots_below : (at : ℕ) (name : Word) (vs : List Variable) (v : ℕ × Ty) → variable_from at name vs ≡ Some v → v.0 < at + length vs
slots_below at name [] v e = none_is v e
slots_below at name (x ∷ xs) v e = by_name (same x.name name) (slots_below (at + 1) name xs v) e where
  by_name : (b : Bool) → (variable_from (at + 1) name xs ≡ Some v → v.0 < (at + 1) + length xs) → (if b then Some (at, x.ty) else variable_from (at + 1) name xs) ≡ Some v → v.0 < at + length (x ∷ xs)
  by_name true later e = let pair : ℕ × Ty = (at, x.ty) in subst (λ (z : ℕ × Ty). z.0 < at + length (x ∷ xs)) (some_is pair v e) (omega arith)
  by_name false later e = let l = later e in omega (arith, l)

-- so many variables that each slot can be told
abbrev pub IsRoomy : Scope → Type 0
IsRoomy c = receiver_slots c.is_static + count c ≤ 256

module _ (c : Scope) (few : AreFew c.heads) (room : IsRoomy c) where
  -- NAMES

  variable_told : (place : Place) (name : Word) (v : ℕ × Ty) → variable_of c name ≡ Some v → is_encodable (tree place v.1 (made.Local v.0)) ≡ true
  variable_told place name v e =
      let below = slots_below (receiver_slots c.is_static) name c.variables v e in
      told_local place v.1 v.0 ∙ lt-ltb v.0 256 (omega (arith, below, room))

  field_told : (place : Place) (t : Ty) (o : TypedExpr) (class name : Word) → is_encodable o ≡ true → is_encodable (tree place t (made.Field o class name)) ≡ true
  field_told place t o class name h = told_field place t o class name ∙ h

  this_told : (place : Place) → is_encodable (this_at c place) ≡ true
  this_told place = told_this place (ty.Class c.class)

  static_told : (place : Place) (t : Ty) (class name : Word) → is_encodable (tree place t (made.Static class name)) ≡ true
  static_told place t class name = told_static place t class name

  own_field_told : (place : Place) (name : Word) (f : Word × IfaceField) → Told (own_field_value c place name f)
  own_field_told place name f = by_if f.1.is_static _ _ (λ e. static_told place f.1.ty f.0 name) (λ e. field_told place f.1.ty (this_at c place) f.0 name (this_told place))

  named_told : (place : Place) (name : Word) → Told (named c place name)
  named_told place name = by_variable (variable_of c name) refl where
    by_field : (o : Option (Word × IfaceField)) → Told (option_map_or (own_field_value c place name) o (seen.Class name))
    by_field None = tt
    by_field (Some f) = own_field_told place name f

    by_variable : (o : Option (ℕ × Ty)) → variable_of c name ≡ o → Told (option_map_or (λ v. variable place v.1 (made.Local v.0)) o (option_map_or (own_field_value c place name) (own_field c name) (seen.Class name)))
    by_variable None e = by_field (own_field c name)
    by_variable (Some v) e = variable_told place name v e

  -- FIELDS

  length_told : (place : Place) (t : Ty) (a : TypedExpr) → is_encodable a ≡ true → is_encodable (tree place t (made.Length a)) ≡ true
  length_told place t a h = told_length place t a ∙ h

  field_value_told : (place : Place) (k : Known) (name : Word) → is_encodable k.expr ≡ true → Told (field_value c place k name)
  field_value_told place k name h =
      by_if (is_unknown k.expr.ty) _ _ (λ e. length_told place ty.Void k.expr h) (λ e.
      by_if (an_array k) _ _ (λ e. length_told place ty.Int k.expr h) (λ e.
      by_found (class_of_value k) _ (λ class e. by_found (field_that false c.heads c.class class name) _ (λ f e. field_told place f.1.ty k.expr f.0 name h))))

  read_field_told : (place : Place) (o : Seen) (name : Word) → Told o → Told (read_field c place o name)
  read_field_told place seen.Faulty name h = tt
  read_field_told place (seen.Value k) name h = field_value_told place k name h
  read_field_told place (seen.Class class) name h = by_found (field_that true c.heads c.class class name) _ (λ f e. static_told place f.1.ty f.0 name)
  read_field_told place (seen.Text text) name h = tt

  -- CALLS

  method_few : (class name : Word) (count : ℕ) (m : Word × IfaceMethod) → method_of c.heads c.class class name count ≡ Some m → has_few_params m.1 ≡ true
  method_few class name count m e = let g = method_in c.heads c.class class name count m e in all_in has_few_params g.0.methods (few g.0 g.1) g.2

  io_told : (place : Place) (name : Word) (ts : List TypedExpr) → list_all is_encodable ts ≡ true → Told (io_call place name ts)
  io_told place name [] h = told_read place ty.Int
  io_told place name (t ∷ ts) h = told_print place ty.Void t ∙ (of_both (is_encodable t) (list_all is_encodable ts) h).0

  static_call_told : (place : Place) (m : Word × IfaceMethod) (ts : List TypedExpr) → list_all is_encodable ts ≡ true → Told (static_call place m.0 m.1 ts)
  static_call_told place m ts h = by_if (same m.0 io) _ _ (λ e. io_told place m.1.name ts h) (λ e. told_static_call place m.1.result m.0 m.1.name m.1.params ts ∙ mapped ts h)

  virtual_told : (place : Place) (t : Ty) (o : TypedExpr) (class : Word) (is_interface : Bool) (name : Word) (params : List Ty) (ts : List TypedExpr) → is_encodable o ≡ true → list_all is_encodable ts ≡ true → has_few is_interface params ≡ true →
      is_encodable (tree place t (made.CallVirtual o class is_interface name params ts)) ≡ true
  virtual_told place t o class is_interface name params ts ho h f =
      told_virtual place t o class is_interface name params ts
      ∙ and_so (is_encodable o) (list_all (λ a. a) (map is_encodable ts) && has_few is_interface params) ho (and_so (list_all (λ a. a) (map is_encodable ts)) (has_few is_interface params) (mapped ts h) f)

  virtual_call_told : (place : Place) (o : TypedExpr) (class : Word) (m : IfaceMethod) (ts : List TypedExpr) → is_encodable o ≡ true → list_all is_encodable ts ≡ true → has_few_params m ≡ true → Told (virtual_call c place o class m ts)
  virtual_call_told place o class m ts ho h f = virtual_told place m.result o class (names_interface c.heads class) m.name m.params ts ho h (or_so (not (names_interface c.heads class)) (nat_lt (length m.params) 255) f)

  own_call_told : (place : Place) (m : Word × IfaceMethod) (ts : List TypedExpr) → list_all is_encodable ts ≡ true → has_few_params m.1 ≡ true → Told (own_call c place m ts)
  own_call_told place m ts h f = by_if (is_static m.1.kind) _ _ (λ e. static_call_told place m ts h) (λ e. virtual_call_told place (this_at c place) c.class m.1 ts (this_told place) h f)

  call_on_told : (place : Place) (k : Known) (name : Word) (count : ℕ) (ts : List TypedExpr) → is_encodable k.expr ≡ true → list_all is_encodable ts ≡ true → Told (call_on c place k name count ts)
  call_on_told place k name count ts ho h =
      by_if (is_unknown k.expr.ty) _ _
      (λ e. virtual_told place ty.Void k.expr [] false name [] ts ho h refl)
      (λ u. by_found (class_of_value k) _ (λ class ec. by_found (method_of c.heads c.class class name count) _ (λ m em. virtual_call_told place k.expr class m.1 ts ho h (method_few class name count m em))))

  dot_call_told : (place : Place) (o : Seen) (name : Word) (count : ℕ) (ts : List TypedExpr) → Told o → list_all is_encodable ts ≡ true → Told (dot_call c place o name count ts)
  dot_call_told place seen.Faulty name count ts ho h = tt
  dot_call_told place (seen.Value k) name count ts ho h = call_on_told place k name count ts ho h
  dot_call_told place (seen.Class class) name count ts ho h = by_found (method_of c.heads c.class class name count) _ (λ m em. static_call_told place m ts h)
  dot_call_told place (seen.Text text) name count ts ho h = tt

  -- a call of a name alone
  called_told : (place : Place) (name : Word) (count : ℕ) (ts : List TypedExpr) → list_all is_encodable ts ≡ true → Told (of_found (called c None name count) (λ m. own_call c place m ts))
  called_told place name count ts h = by_found (called c None name count) _ (λ m em. own_call_told place m ts h (method_few c.class name count m em))

  super_told : (place : Place) (name : Word) (count : ℕ) (ts : List TypedExpr) → list_all is_encodable ts ≡ true → Told (of_found (super_method c name count) (λ m. value place m.1.result (made.CallSuper m.0 name m.1.params ts)))
  super_told place name count ts h = by_found (super_method c name count) _ (λ m em. told_super_call place m.1.result m.0 name m.1.params ts ∙ mapped ts h)

  -- THE FOLD

  abbrev pub ToldPart : (Role → Part) → Type 0
  ToldPart d = (r : Role) → Told (d r).seen

  settle : (fs : List TypeFault) (s : Seen) → (fs ≡ [] → Told s) → Told (elim fs [ [] ↦ s | _ ↦ seen.Faulty ])
  settle [] s h = h refl
  settle (x ∷ xs) s h = tt

  whole : (place : Place) (r : Role) (parts : Parts) → (own_faults place (AtExpr c r (node_of parts)) ≡ [] → Told (resolved c place (node_of parts))) → Told (part_of c place r parts).seen
  whole place r parts h = settle (own_faults place (AtExpr c r (node_of parts))) (resolved c place (node_of parts)) h

  abbrev step : Layer → Place → Role → Part
  step l place r = part_of c place r (placed l)

  abbrev kind_part : ExprKind → Place → Role → Part
  kind_part = fold-ExprKind (Place → Role → Part) (Role → Part) step (λ x. x.kind x.place)

  abbrev ToldKind : Type 0
  ToldKind = (k : ExprKind) × ((place : Place) → ToldPart (kind_part k place))

  abbrev ToldExpr : Type 0
  ToldExpr = (x : Expr) × ToldPart (part c x)

  abbrev parts_in : Role → List ToldExpr → List Part
  parts_in r xs = in_role r (map (part c) (map (λ (x : ToldExpr). x.0) xs))

  all_parts : (r : Role) (xs : List ToldExpr) → AllTold (seen_all (parts_in r xs))
  all_parts r [] = tt
  all_parts r (x ∷ xs) = (x.1 r, all_parts r xs)

  layer : (y : ExprKind-F ToldKind ToldExpr) (place : Place) →
      ToldPart (step (map-ExprKind ExprKind Expr (Place → Role → Part) (Role → Part) kind_part (part c) (map-ExprKind ToldKind ToldExpr ExprKind Expr (λ k. k.0) (λ x. x.0) y)) place)
  layer (e.Number n hex) place r = whole place r (e.Number n hex) (λ o. told_as (tree place ty.Int (made.Number n hex)) true (told_number place ty.Int n hex) refl)
  layer (e.Truth truth) place r = whole place r (e.Truth truth) (λ o. told_as (tree place ty.Boolean (made.Truth truth)) true (told_truth place ty.Boolean truth) refl)
  layer e.Null place r = whole place r e.Null (λ o. told_as (tree place (ty.Class object) made.Null) true (told_null place (ty.Class object)) refl)
  layer (e.Text text) place r = whole place r (e.Text text) (λ o. tt)
  layer e.This place r = whole place r e.This (λ o. this_told place)
  layer (e.Var name) place r = whole place r (e.Var name) (λ o. named_told place name)
  layer (e.Unary n right) place r = whole place r (e.Unary n (part c right.0 (behind n))) (λ o.
      by_value (part c right.0 (behind n)).seen _ (right.1 (behind n)) (λ k ek h.
      told_as (tree place (if n == sign.NOT then ty.Boolean else ty.Int) (made.Unary n k.expr)) (is_encodable k.expr) (told_unary place (if n == sign.NOT then ty.Boolean else ty.Int) n k.expr) h))
  layer (e.Binary n left right) place r = whole place r (e.Binary n (part c left.0 role.Operand) (part c right.0 role.Operand)) (λ o.
      by_value (part c left.0 role.Operand).seen _ (left.1 role.Operand) (λ l el hl.
      by_value (part c right.0 role.Operand).seen _ (right.1 role.Operand) (λ m em hm.
      told_as (tree place (result_of (group_of n) l.expr.ty m.expr.ty) (made.Binary n l.expr m.expr)) ((is_encodable l.expr) && (is_encodable m.expr)) (told_binary place (result_of (group_of n) l.expr.ty m.expr.ty) n l.expr m.expr)
      (and_so (is_encodable l.expr) (is_encodable m.expr) hl hm))))
  layer (e.Cond test first second) place r = whole place r (e.Cond (part c test.0 role.Operand) (part c first.0 role.Operand) (part c second.0 role.Operand)) (λ o.
      by_value (part c test.0 role.Operand).seen _ (test.1 role.Operand) (λ t et ht.
      by_value (part c first.0 role.Operand).seen _ (first.1 role.Operand) (λ a ea ha.
      by_value (part c second.0 role.Operand).seen _ (second.1 role.Operand) (λ b eb hb.
      told_as (tree place (larger c a b).expr.ty (made.Cond t.expr a.expr b.expr)) ((is_encodable t.expr) && ((is_encodable a.expr) && (is_encodable b.expr))) (told_cond place (larger c a b).expr.ty t.expr a.expr b.expr)
      (and_so (is_encodable t.expr) ((is_encodable a.expr) && (is_encodable b.expr)) ht (and_so (is_encodable a.expr) (is_encodable b.expr) ha hb))))))
  layer (e.Cast class operand) place r = whole place r (e.Cast class (part c operand.0 role.Operand)) (λ o.
      by_value (part c operand.0 role.Operand).seen _ (operand.1 role.Operand) (λ k ek h.
      told_as (tree place (ty.Class class) (made.Cast class k.expr)) (is_encodable k.expr) (told_cast place (ty.Class class) class k.expr) h))
  layer (e.InstanceOf operand class) place r = whole place r (e.InstanceOf (part c operand.0 role.Operand) class) (λ o.
      by_value (part c operand.0 role.Operand).seen _ (operand.1 role.Operand) (λ k ek h.
      told_as (tree place ty.Boolean (made.InstanceOf k.expr class)) (is_encodable k.expr) (told_instance place ty.Boolean k.expr class) h))
  layer (e.Field object name) place r = whole place r (e.Field (part c object.0 role.BeforeDot) name) (λ o. read_field_told place (part c object.0 role.BeforeDot).seen name (object.1 role.BeforeDot))
  layer (e.Index array index) place r = whole place r (e.Index (part c array.0 role.Operand) (part c index.0 role.Operand)) (λ o.
      by_value (part c array.0 role.Operand).seen _ (array.1 role.Operand) (λ a ea ha.
      by_value (part c index.0 role.Operand).seen _ (index.1 role.Operand) (λ i ei hi.
      told_as (tree place (element_of a.expr.ty) (made.Index a.expr i.expr)) ((is_encodable a.expr) && (is_encodable i.expr)) (told_index place (element_of a.expr.ty) a.expr i.expr)
      (and_so (is_encodable a.expr) (is_encodable i.expr) ha hi))))
  layer (e.Call None name args) place r = whole place r (e.Call None name (parts_in role.Operand args)) (λ o.
      by_arguments (seen_all (parts_in role.Operand args)) _ (all_parts role.Operand args) (λ ts h. called_told place name (length (seen_all (parts_in role.Operand args))) ts h))
  layer (e.Call (Some object) name args) place r =
      let s : Seen = (part c object.0 role.BeforeDot).seen in
      let q : Role = argument_of (Some s) name in
      whole place r (e.Call (Some (part c object.0 role.BeforeDot)) name (parts_in q args)) (λ o.
      by_if (is_text_call (Some s) name) _ _
      (λ t. told_as (tree place ty.Void (made.Show (text_of (seen_all (parts_in q args))))) true (told_show place ty.Void (text_of (seen_all (parts_in q args)))) refl)
      (λ t. by_arguments (seen_all (parts_in q args)) _ (all_parts q args) (λ ts h.
      dot_call_told place s name (length (seen_all (parts_in q args))) ts (object.1 role.BeforeDot) h)))
  layer (e.SuperCall name args) place r = whole place r (e.SuperCall name (parts_in role.Operand args)) (λ o.
      by_arguments (seen_all (parts_in role.Operand args)) _ (all_parts role.Operand args) (λ ts h. super_told place name (length (seen_all (parts_in role.Operand args))) ts h))
  layer (e.New class args) place r = whole place r (e.New class (parts_in role.Operand args)) (λ o.
      by_arguments (seen_all (parts_in role.Operand args)) _ (all_parts role.Operand args) (λ ts h.
      by_found (option_and_then (λ h. constructor_of h (length (seen_all (parts_in role.Operand args)))) (head_of c.heads class)) _ (λ params ep.
      told_as (tree place (ty.Class class) (made.New class params ts)) (list_all (λ a. a) (map is_encodable ts)) (told_new place (ty.Class class) class params ts) (mapped ts h))))
  layer (e.NewArray elem size) place r = whole place r (e.NewArray elem (part c size.0 role.Operand)) (λ o.
      by_value (part c size.0 role.Operand).seen _ (size.1 role.Operand) (λ k ek h.
      told_as (tree place (array_of elem) (made.NewArray elem k.expr)) (is_encodable k.expr) (told_new_array place (array_of elem) elem k.expr) h))

  pub part_told : (x : Expr) → ToldPart (part c x)
  part_told = ind-Expr (λ k. (place : Place) → ToldPart (kind_part k place)) (λ x. ToldPart (part c x))
      (λ x y is. subst (λ (z : Place → Role → Part). (place : Place) → ToldPart (z place)) (sym (fold-roll-ExprKind (Place → Role → Part) (Role → Part) step (λ x. x.kind x.place) x))
      (subst (λ (z : ExprKind-F ExprKind Expr). (place : Place) → ToldPart (step (map-ExprKind ExprKind Expr (Place → Role → Part) (Role → Part) kind_part (part c) z) place)) is (layer y)))
      (λ x y is. subst ToldPart (sym (fold-roll-Expr (Place → Role → Part) (Role → Part) step (λ x. x.kind x.place) x))
      (subst (λ (z : e.Expr-F ExprKind Expr). ToldPart (kind_part z.kind z.place)) is (y.kind.1 y.place)))
