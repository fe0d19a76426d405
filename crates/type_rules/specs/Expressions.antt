-- Expressions: what is seen of one from outside, and the nodes of it. Of a part a node sees its type and its resolved tree, or
-- that there is a fault in it.
use Rattle.std.specs.Prelude.{ℕ, List, [], ◌∷◌, ◌++◌, map, length, true, false, ◌==◌, Option, Some, None, if◌then◌else◌}
use Rattle.std.specs.List.{flat_map}
use Rattle.std.specs.Option.{option_map, option_map_or, option_and_then}
use Rattle.jp_pred.specs.declared.ty.Ty.{Ty}
use Rattle.jp_pred.specs.declared.ty.Ty.TheVariants as ty
use Rattle.jp_pred.specs.Names.{Word, object, same}
use Rattle.iface_codec.specs.declared.iface.IfaceField.{IfaceField}
use Rattle.iface_codec.specs.declared.iface.IfaceMethod.{IfaceMethod}
use Rattle.jp_ast.specs.declared.token.Place.{Place}
use Rattle.jp_ast.specs.declared.sign.TheConstants as sign
use Rattle.jp_ast.specs.declared.expr.Expr.{Expr, fold-Expr}
use Rattle.jp_ast.specs.declared.expr.ExprKind.{ExprKind-F}
use Rattle.jp_ast.specs.declared.expr.ExprKind.TheOpen as e
use Rattle.jp_meaning.specs.Classes.{is_static}
use Rattle.jp_meaning.specs.declared.expr.TypedExpr.{TypedExpr}
use Rattle.jp_meaning.specs.declared.expr.TypedKind.{TypedKind}
use Rattle.jp_meaning.specs.declared.expr.TypedKind.TheVariants as made
use Rattle.type_rules.specs.declared.scope.Scope.{Scope}
use Rattle.type_rules.specs.declared.seen.Known.{Known}
use Rattle.type_rules.specs.declared.seen.Seen.{Seen}
use Rattle.type_rules.specs.declared.seen.Seen.TheVariants as seen
use Rattle.type_rules.specs.declared.seen.Role.{Role}
use Rattle.type_rules.specs.declared.seen.Role.TheVariants as role
use Rattle.type_rules.specs.Types.{io, is_unknown}
use Rattle.type_rules.specs.Heads.{names_interface}
use Rattle.type_rules.specs.Lookups.{field_that, method_of, constructor_of}
use Rattle.type_rules.specs.Heads.{head_of}
use Rattle.type_rules.specs.Assigning.{an_array, widens_to}
use Rattle.type_rules.specs.Signs.{group_of, result_of}
use Rattle.type_rules.specs.Names.{variable_of, own_field, class_of_value, called, super_method, is_text_call}
use Rattle.type_rules.specs.Nodes.{ExprNode, AtExpr, Visit}
use Rattle.type_rules.specs.Table.{own_faults}

-- THE WALK

-- what is seen of an expression, and the nodes of it
pub record Part : Type 0 where
  pub seen : Seen
  pub visits : List Visit

-- an expression whose parts are waiting for their roles
abbrev pub Layer : Type 0
Layer = ExprKind-F (Place → Role → Part) (Role → Part)

-- an expression with its parts
abbrev pub Parts : Type 0
Parts = ExprKind-F Part Part

-- the role of a sign's operand
abbrev pub behind : ℕ → Role
behind n = if n == sign.MINUS then role.Negated else role.Operand

-- the role of an argument of a call
abbrev pub argument_of : Option Seen → Word → Role
argument_of object name = if is_text_call object name then role.Shown else role.Operand

-- arguments in such a role
abbrev pub in_role : Role → List (Role → Part) → List Part
in_role r args = map (λ a. a r) args

-- each part in its role
abbrev pub placed : Layer → Parts
placed (e.Number value hex) = e.Number value hex
placed (e.Truth value) = e.Truth value
placed e.Null = e.Null
placed (e.Text text) = e.Text text
placed e.This = e.This
placed (e.Var name) = e.Var name
placed (e.Unary n right) = e.Unary n (right (behind n))
placed (e.Binary n left right) = e.Binary n (left role.Operand) (right role.Operand)
placed (e.Cond test first second) = e.Cond (test role.Operand) (first role.Operand) (second role.Operand)
placed (e.Cast class value) = e.Cast class (value role.Operand)
placed (e.InstanceOf value class) = e.InstanceOf (value role.Operand) class
placed (e.Field object name) = e.Field (object role.BeforeDot) name
placed (e.Index array index) = e.Index (array role.Operand) (index role.Operand)
placed (e.Call None name args) = e.Call None name (in_role role.Operand args)
placed (e.Call (Some object) name args) = before (object role.BeforeDot) where
  before : Part → Parts
  before o = e.Call (Some o) name (in_role (argument_of (Some o.seen) name) args)
placed (e.SuperCall name args) = e.SuperCall name (in_role role.Operand args)
placed (e.New class args) = e.New class (in_role role.Operand args)
placed (e.NewArray elem size) = e.NewArray elem (size role.Operand)

abbrev pub seen_all : List Part → List Seen
seen_all parts = map (λ p. p.seen) parts

-- the node, with what is seen of its parts
abbrev pub node_of : Parts → ExprNode
node_of (e.Number value hex) = e.Number value hex
node_of (e.Truth value) = e.Truth value
node_of e.Null = e.Null
node_of (e.Text text) = e.Text text
node_of e.This = e.This
node_of (e.Var name) = e.Var name
node_of (e.Unary n right) = e.Unary n right.seen
node_of (e.Binary n left right) = e.Binary n left.seen right.seen
node_of (e.Cond test first second) = e.Cond test.seen first.seen second.seen
node_of (e.Cast class value) = e.Cast class value.seen
node_of (e.InstanceOf value class) = e.InstanceOf value.seen class
node_of (e.Field object name) = e.Field object.seen name
node_of (e.Index array index) = e.Index array.seen index.seen
node_of (e.Call object name args) = e.Call (option_map (λ o. o.seen) object) name (seen_all args)
node_of (e.SuperCall name args) = e.SuperCall name (seen_all args)
node_of (e.New class args) = e.New class (seen_all args)
node_of (e.NewArray elem size) = e.NewArray elem size.seen

abbrev pub visits_all : List Part → List Visit
visits_all parts = flat_map (λ p. p.visits) parts

-- the nodes of the parts
abbrev pub visits_inside : Parts → List Visit
visits_inside (e.Unary n right) = right.visits
visits_inside (e.Binary n left right) = left.visits ++ right.visits
visits_inside (e.Cond test first second) = test.visits ++ (first.visits ++ second.visits)
visits_inside (e.Cast class value) = value.visits
visits_inside (e.InstanceOf value class) = value.visits
visits_inside (e.Field object name) = object.visits
visits_inside (e.Index array index) = array.visits ++ index.visits
visits_inside (e.Call object name args) = option_map_or (λ o. o.visits) object [] ++ visits_all args
visits_inside (e.SuperCall name args) = visits_all args
visits_inside (e.New class args) = visits_all args
visits_inside (e.NewArray elem size) = size.visits
visits_inside _ = []

-- THE RESOLVED TREE

-- a resolved expression
abbrev pub tree : Place → Ty → TypedKind → TypedExpr
tree p t kind = record { place = p; ty = t; kind = kind }

-- a value of a type
abbrev pub value : Place → Ty → TypedKind → Seen
value p t kind = seen.Value (record { is_null = false; is_variable = false; expr = tree p t kind })

-- the value of a local, parameter, alias, field or element
abbrev pub variable : Place → Ty → TypedKind → Seen
variable p t kind = seen.Value (record { is_null = false; is_variable = true; expr = tree p t kind })

-- what a value leads to
abbrev pub of_value : Seen → (Known → Seen) → Seen
of_value (seen.Value k) go = go k
of_value _ go = seen.Faulty

-- what is found leads on
abbrev pub of_found : {A : Type 0} → Option A → (A → Seen) → Seen
of_found found go = option_map_or go found seen.Faulty

abbrev pub with_argument : Option (List TypedExpr) → Seen → Option (List TypedExpr)
with_argument (Some done) (seen.Value k) = Some (done ++ k.expr ∷ [])
with_argument _ _ = None

-- the resolved arguments behind those so far, where each is a value
abbrev pub arguments : Option (List TypedExpr) → List Seen → Option (List TypedExpr)
arguments done [] = done
arguments done (a ∷ more) = arguments (with_argument done a) more

-- `this`
abbrev pub this_at : Scope → Place → TypedExpr
this_at s p = tree p (ty.Class s.class) made.This

-- a field of the scope's class, by its name alone
abbrev pub own_field_value : Scope → Place → Word → Word × IfaceField → Seen
own_field_value s p name f =
    if f.1.is_static then variable p f.1.ty (made.Static f.0 name) else variable p f.1.ty (made.Field (this_at s p) f.0 name)

-- a name: a variable, then a field, then a class
abbrev pub named : Scope → Place → Word → Seen
named s p name = option_map_or (λ v. variable p v.1 (made.Local v.0))
    (variable_of s name) (option_map_or (own_field_value s p name) (own_field s name) (seen.Class name))

-- The type of `?:`, of which one arm's type is assignable to the other's: the larger. Where one isn't known the whole isn't
abbrev pub larger : Scope → Known → Known → Known
larger s a b =
    if is_unknown a.expr.ty then a else if is_unknown b.expr.ty then b else if widens_to s.heads a b then b else a

abbrev pub chosen : Scope → Place → Known → Known → Known → Seen
chosen s p test first second =
    seen.Value (record { is_null = (larger s first second).is_null; is_variable = false; expr = tree p (larger s first second).expr.ty (made.Cond test.expr first.expr second.expr) })

-- the type of an array's elements
abbrev pub element_of : Ty → Ty
element_of ty.IntArray = ty.Int
element_of ty.BooleanArray = ty.Boolean
element_of (ty.ClassArray name) = ty.Class name
element_of _ = ty.Void

-- the type of an array with such elements
abbrev pub array_of : Ty → Ty
array_of ty.Int = ty.IntArray
array_of ty.Boolean = ty.BooleanArray
array_of (ty.Class name) = ty.ClassArray name
array_of _ = ty.Void

-- a field of a value: an array's length, or a field of an object; of a value of unknown type nothing is known
abbrev pub field_value : Scope → Place → Known → Word → Seen
field_value s p k name =
    if is_unknown k.expr.ty then variable p ty.Void (made.Length k.expr)
    else if an_array k then value p ty.Int (made.Length k.expr)
    else of_found (class_of_value k) (λ class. of_found (field_that false s.heads s.class class name) (λ f. variable p f.1.ty (made.Field k.expr f.0 name)))

-- a field behind a dot
abbrev pub read_field : Scope → Place → Seen → Word → Seen
read_field s p (seen.Class class) name =
    of_found (field_that true s.heads s.class class name) (λ f. variable p f.1.ty (made.Static f.0 name))
read_field s p object name = of_value object (λ k. field_value s p k name)

-- a call of a method of Io, which are three
abbrev pub io_call : Place → Word → List TypedExpr → Seen
io_call p name [] = value p ty.Int made.Read
io_call p name (a ∷ more) = value p ty.Void (made.Print a)

-- the text that is shown
abbrev pub text_of : List Seen → Word
text_of (seen.Text text ∷ more) = text
text_of _ = []

-- a call of a static method of a class that declares it
abbrev pub static_call : Place → Word → IfaceMethod → List TypedExpr → Seen
static_call p class m args =
    if same class io then io_call p m.name args else value p m.result (made.CallStatic class m.name m.params args)

-- a call of a family on an object of a class
abbrev pub virtual_call : Scope → Place → TypedExpr → Word → IfaceMethod → List TypedExpr → Seen
virtual_call s p o class m args =
    value p m.result (made.CallVirtual o class (names_interface s.heads class) m.name m.params args)

-- a call without anything before it
abbrev pub own_call : Scope → Place → Word × IfaceMethod → List TypedExpr → Seen
own_call s p m args = if is_static m.1.kind then static_call p m.0 m.1 args else virtual_call s p (this_at s p) s.class m.1 args

-- a call on a value; on one of unknown type nothing is known
abbrev pub call_on : Scope → Place → Known → Word → ℕ → List TypedExpr → Seen
call_on s p k name count args =
    if is_unknown k.expr.ty then value p ty.Void (made.CallVirtual k.expr [] false name [] args)
    else of_found (class_of_value k) (λ class. of_found (method_of s.heads s.class class name count) (λ m. virtual_call s p k.expr class m.1 args))

-- a call behind a dot
abbrev pub dot_call : Scope → Place → Seen → Word → ℕ → List TypedExpr → Seen
dot_call s p (seen.Class class) name count args = of_found (method_of s.heads s.class class name count) (λ m. static_call p m.0 m.1 args)
dot_call s p object name count args = of_value object (λ k. call_on s p k name count args)

-- the resolved node, where it has no fault and each part is a value
abbrev pub resolved : Scope → Place → ExprNode → Seen
resolved s p (e.Number n hex) = value p ty.Int (made.Number n hex)
resolved s p (e.Truth truth) = value p ty.Boolean (made.Truth truth)
resolved s p e.Null = seen.Value (record { is_null = true; is_variable = false; expr = tree p (ty.Class object) made.Null })
resolved s p (e.Text text) = seen.Text text
resolved s p e.This = value p (ty.Class s.class) made.This
resolved s p (e.Var name) = named s p name
resolved s p (e.Unary n right) = of_value right (λ r. value p (if n == sign.NOT then ty.Boolean else ty.Int) (made.Unary n r.expr))
resolved s p (e.Binary n left right) =
    of_value left (λ l. of_value right (λ r. value p (result_of (group_of n) l.expr.ty r.expr.ty) (made.Binary n l.expr r.expr)))
resolved s p (e.Cond test first second) = of_value test (λ t. of_value first (λ a. of_value second (λ b. chosen s p t a b)))
resolved s p (e.Cast class operand) = of_value operand (λ k. value p (ty.Class class) (made.Cast class k.expr))
resolved s p (e.InstanceOf operand class) = of_value operand (λ k. value p ty.Boolean (made.InstanceOf k.expr class))
resolved s p (e.Field object name) = read_field s p object name
resolved s p (e.Index array index) = of_value array (λ a. of_value index (λ i. variable p (element_of a.expr.ty) (made.Index a.expr i.expr)))
resolved s p (e.Call None name args) =
    of_found (arguments (Some []) args) (λ ts. of_found (called s None name (length args)) (λ m. own_call s p m ts))
resolved s p (e.Call (Some object) name args) =
    if is_text_call (Some object) name then value p ty.Void (made.Show (text_of args))
    else of_found (arguments (Some []) args) (λ ts. dot_call s p object name (length args) ts)
resolved s p (e.SuperCall name args) =
    of_found (arguments (Some []) args) (λ ts. of_found (super_method s name (length args)) (λ m. value p m.1.result (made.CallSuper m.0 name m.1.params ts)))
resolved s p (e.New class args) =
    of_found (arguments (Some []) args) (λ ts. of_found (option_and_then (λ h. constructor_of h (length args)) (head_of s.heads class))
    (λ params. value p (ty.Class class) (made.New class params ts)))
resolved s p (e.NewArray elem size) = of_value size (λ k. value p (array_of elem) (made.NewArray elem k.expr))

-- THE FOLD

-- a node that has no fault is seen as it is resolved
abbrev pub part_of : Scope → Place → Role → Parts → Part
part_of s p r parts = record {
  seen = elim (own_faults p (AtExpr s r (node_of parts))) [ [] ↦ resolved s p (node_of parts) | _ ↦ seen.Faulty ];
  visits = visits_inside parts ++ record { place = p; node = AtExpr s r (node_of parts) } ∷ [];
}

-- an expression in a role
abbrev pub part : Scope → Expr → Role → Part
part s = fold-Expr (Place → Role → Part) (Role → Part) (λ l p r. part_of s p r (placed l)) (λ x. x.kind x.place)
