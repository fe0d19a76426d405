-- What the evaluation of an expression does. It goes from left to right.
use Rattle.std.specs.Prelude.{ℕ, zero, suc, ℤ, pos, negsuc, List, [], ◌∷◌, Bool, true, false, not, ◌&&◌, Option, Some, None, option_and_then, slice_get, if◌then◌else◌, cond}
use Rattle.std.specs.Option.{option_map_or}
use Rattle.std.specs.Int.{w32, int_wrap}
use Rattle.jp_pred.specs.declared.ty.Ty.{Ty}
use Rattle.jp_pred.specs.Names.{Word, object, same}
use Rattle.jp_pred.specs.Kinds.{is_reference}
use Rattle.jp_store.specs.declared.value.Value.{Value}
use Rattle.jp_store.specs.declared.value.Value.TheVariants.{Int, Null}
use Rattle.jp_store.specs.declared.value.Kind.{Kind}
use Rattle.jp_store.specs.declared.value.Kind.TheVariants.{Number, Reference}
use Rattle.jp_store.specs.declared.value.ElementKind.{ElementKind}
use Rattle.jp_store.specs.declared.outcome.Outcome.{Outcome}
use Rattle.jp_store.specs.declared.outcome.Outcome.TheVariants.{Fine, Wrong}
use Rattle.jp_store.specs.declared.operator.BinaryOp.TheVariants.{Xor}
use Rattle.jp_store.specs.declared.operator.Test.{Test}
use Rattle.jp_store.specs.declared.operator.Test.TheVariants.{Equal, NotEqual, Less, GreaterOrEqual, Greater, LessOrEqual}
use Rattle.jp_store.specs.Outcome.{then_with}
use Rattle.jp_store.specs.Arith.{binary, negated, compares, sames, of_truth, is_kind, on_int}
use Rattle.jp_store.specs.Classes.{Key}
use Rattle.jp_store.specs.Work.{GetField, GetStatic, MakeObject, MakeArray, GetElem, Length, InstanceOf, Cast, where_true}
use Rattle.jp_meaning.specs.declared.expr.TypedExpr.{TypedExpr, fold-TypedExpr}
use Rattle.jp_meaning.specs.declared.expr.TypedKind.{TypedKind-F}
use Rattle.jp_meaning.specs.declared.expr.TypedKind.TheOpen as form
use Rattle.jp_does.specs.Does.{Gives, Prints, Shows, Reads, Works, Calls, Stuck, then_do, do_of, found}
use Rattle.jp_meaning.specs.Does.{StaticMethod, Constructor, OfClass, OfInterface, OfSuperclass, Does, receiver_of, calls_on}
use Rattle.jp_meaning.specs.Descriptors.{internal_name, method_of, constructor_of, key_of, kind_of_type, element_kind_of, elements_of}
use Rattle.jp_meaning.specs.Signs.{Prefix, Plus, Minus, Not, Complement, Infix, Operates, Compares, AndThen, OrElse, prefix_of, infix_of}

-- what the locals hold; nothing is stored in one that is `None`
abbrev pub Locals : Type 0
Locals = List (Option Value)

-- a value of that kind
abbrev pub of_kind : Kind → Value → Outcome Value
of_kind kind v = where_true (is_kind kind v) (Fine v)

-- a value, where it is of that kind
abbrev pub fits : Kind → Value → Does Value
fits kind v = do_of (of_kind kind v) Gives

-- a value, where it is of that type's kind
abbrev pub typed : Ty → Value → Does Value
typed t v = found (kind_of_type t) (λ kind. fits kind v)

-- the answer of a call with such a result
abbrev pub fit : Option Kind → Value → Does Value
fit None v = Gives Null
fit (Some kind) v = fits kind v

-- whether a value is of a type's kind
abbrev pub is_of : Ty → Value → Bool
is_of t v = option_map_or (λ kind. is_kind kind v) (kind_of_type t) false

-- whether values are as many as the types, and each of its own's kind
abbrev pub are_of : List Ty → List Value → Bool
are_of [] [] = true
are_of [] (v ∷ vs) = false
are_of (t ∷ ts) [] = false
are_of (t ∷ ts) (v ∷ vs) = is_of t v && are_of ts vs

-- a condition without which it is stuck
abbrev pub where_so : {A : Type 0} → Bool → Does A → Does A
where_so so d = cond so d Stuck

-- a number other than 0 is true
abbrev pub is_true : ℤ → Bool
is_true (pos zero) = false
is_true (pos (suc n)) = true
is_true (negsuc n) = true

-- a condition's truth
abbrev pub truth_of : Value → Outcome Bool
truth_of = on_int (λ n. Fine (is_true n))

-- one of two, by a condition's value
abbrev pub by_truth : {A : Type 0} → Does Value → Does A → Does A → Does A
by_truth test first second = then_do test (λ v. do_of (truth_of v) (λ x. cond x first second))

-- a condition's value, as 0 or 1
abbrev pub as_truth : Does Value → Does Value
as_truth test = then_do test (λ v. do_of (truth_of v) (λ x. Gives (of_truth x)))

-- a condition's value, turned round
abbrev pub as_untruth : Does Value → Does Value
as_untruth test = then_do test (λ v. do_of (truth_of v) (λ x. Gives (of_truth (not x))))

-- the value of a local that holds such a kind of value
abbrev pub local_value : ℕ → Kind → Locals → Does Value
local_value slot kind env = found (option_and_then (λ v. v) (slice_get env slot)) (fits kind)

-- what is assigned to
pub data Spot : Type 0 where
  Slot : ℕ → Kind → Spot
  FieldOf : Value → Key → Spot
  StaticAt : Key → Spot
  ElementOf : ElementKind → Value → Value → Spot

-- What is done to evaluate an expression, given the locals, and what is done to evaluate the parts of one that is
-- assigned to
pub record Meant : Type 0 where
  pub ty : Ty
  pub value : Locals → Does Value
  pub spot : Locals → Does Spot

-- the values of expressions, from left to right
abbrev pub values_of : List Meant → Locals → Does (List Value)
values_of [] env = Gives []
values_of (e ∷ es) env = then_do (e.value env) (λ v. then_do (values_of es env) (λ vs. Gives (v ∷ vs)))

-- the value of an operator's operand
abbrev pub prefixed : Prefix → Does Value → Does Value
prefixed Plus operand = then_do operand (λ v. do_of (on_int (λ n. Fine (Int n)) v) Gives)
prefixed Minus operand = then_do operand (λ v. do_of (negated v) Gives)
prefixed Complement operand = then_do operand (λ v. do_of (binary Xor v (Int (negsuc 0))) Gives)
prefixed Not operand = as_untruth operand

-- whether two references are the same, or aren't
abbrev pub compares_references : Test → Value → Value → Outcome Bool
compares_references Equal x y = sames x y
compares_references NotEqual x y = then_with (sames x y) (λ same. Fine (not same))
compares_references Less x y = Wrong
compares_references GreaterOrEqual x y = Wrong
compares_references Greater x y = Wrong
compares_references LessOrEqual x y = Wrong

-- a comparison of two values of such a type
abbrev pub compares_at : Ty → Test → Value → Value → Outcome Bool
compares_at t test x y = if is_reference t then compares_references test x y else compares test x y

-- the value of an operator between two operands, of which the left one has the type
abbrev pub infixed : Infix → Ty → Does Value → Does Value → Does Value
infixed (Operates op) t left right = then_do left (λ x. then_do right (λ y. do_of (binary op x y) Gives))
infixed (Compares test) t left right =
    then_do left (λ x. then_do right (λ y. do_of (compares_at t test x y) (λ truth. Gives (of_truth truth))))
infixed AndThen t left right = by_truth left (as_truth right) (Gives (of_truth false))
infixed OrElse t left right = by_truth left (Gives (of_truth true)) (as_truth right)

-- runs the constructor of Object, which has no parameters and does nothing
abbrev pub construct_object : List Ty → Value → Does Value
construct_object [] o = do_of (receiver_of o) (λ r. Gives Null)
construct_object (t ∷ ts) o = Stuck

-- runs a constructor on a new object
abbrev pub construct : Word → List Ty → Value → List Value → Does Value
construct class params o args =
    where_so (are_of params args)
    (cond (same class object) (construct_object params o) (calls_on (Constructor (constructor_of class params)) o args))

-- what is done to evaluate an expression of a form and a type
abbrev pub value_step : TypedKind-F (Ty → Meant) Meant → Ty → Locals → Does Value
value_step (form.Number value hex) t env = Gives (Int (int_wrap w32 (pos value)))
value_step (form.Truth value) t env = Gives (of_truth value)
value_step form.Null t env = Gives Null
value_step form.This t env = local_value 0 Reference env
value_step (form.Local slot) t env = found (kind_of_type t) (λ kind. local_value slot kind env)
value_step (form.Unary sign right) t env = found (prefix_of sign) (λ op. prefixed op (right.value env))
value_step (form.Binary sign left right) t env = found (infix_of sign) (λ op. infixed op left.ty (left.value env) (right.value env))
value_step (form.Cond test first second) t env = by_truth (test.value env) (first.value env) (second.value env)
value_step (form.Cast class value) t env = then_do (value.value env) (λ v. Works (Cast v (internal_name class)) (fits Reference))
value_step (form.InstanceOf value class) t env = then_do (value.value env) (λ v. Works (InstanceOf v (internal_name class)) (fits Number))
value_step (form.Field object class name) t env = then_do (object.value env) (λ o. Works (GetField o (key_of class name t)) (typed t))
value_step (form.Static class name) t env = Works (GetStatic (key_of class name t)) (typed t)
value_step (form.Length array) t env = then_do (array.value env) (λ a. Works (Length a) (fits Number))
value_step (form.Index array index) t env =
    then_do (array.value env) (λ a. then_do (index.value env) (λ i. Works (GetElem (element_kind_of t) a i) (typed t)))
value_step (form.CallVirtual object class is_interface name params args) t env =
    then_do (object.value env) (λ o. then_do (values_of args env) (λ vs. where_so (are_of params vs)
    (then_do (calls_on (cond is_interface (OfInterface (method_of class name params t)) (OfClass (method_of class name params t))) o vs) (fit (kind_of_type t)))))
value_step (form.CallStatic class name params args) t env =
    then_do (values_of args env) (λ vs. where_so (are_of params vs)
    (Calls (record { target = StaticMethod (method_of class name params t); args = vs }) (fit (kind_of_type t))))
value_step (form.CallSuper class name params args) t env =
    then_do (local_value 0 Reference env) (λ o. then_do (values_of args env) (λ vs. where_so (are_of params vs)
    (then_do (calls_on (OfSuperclass (method_of class name params t)) o vs) (fit (kind_of_type t)))))
value_step (form.New class params args) t env =
    Works (MakeObject (internal_name class)) (λ v. then_do (fits Reference v) (λ o. then_do (values_of args env) (λ vs.
    then_do (construct class params o vs) (λ done. Gives o))))
value_step (form.NewArray elem size) t env =
    then_do (size.value env) (λ n. found (elements_of elem) (λ elements. Works (MakeArray elements n) (fits Reference)))
value_step (form.Print value) t env = then_do (value.value env) (λ v. do_of (on_int Fine v) (λ n. Prints n (Gives Null)))
value_step (form.Show text) t env = Shows text (Gives Null)
value_step form.Read t env = Reads (λ n. Gives (Int n))

-- what is done to evaluate the parts of what is assigned to: a local, a field, a static field or an element
abbrev pub spot_step : TypedKind-F (Ty → Meant) Meant → Ty → Locals → Does Spot
spot_step (form.Local slot) t env = found (kind_of_type t) (λ kind. Gives (Slot slot kind))
spot_step (form.Field object class name) t env = then_do (object.value env) (λ o. Gives (FieldOf o (key_of class name t)))
spot_step (form.Static class name) t env = Gives (StaticAt (key_of class name t))
spot_step (form.Index array index) t env =
    then_do (array.value env) (λ a. then_do (index.value env) (λ i. Gives (ElementOf (element_kind_of t) a i)))
spot_step _ t env = Stuck

-- an expression of a form and a type
abbrev pub meant_step : TypedKind-F (Ty → Meant) Meant → Ty → Meant
meant_step kind t = record { ty = t; value = value_step kind t; spot = spot_step kind t }

-- what an expression means
abbrev pub meant : TypedExpr → Meant
meant = fold-TypedExpr (Ty → Meant) Meant meant_step (λ e. e.kind e.ty)

-- what is done to evaluate an expression, given the locals
abbrev pub value_of : TypedExpr → Locals → Does Value
value_of e = (meant e).value
