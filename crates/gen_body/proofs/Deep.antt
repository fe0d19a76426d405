-- A member reaches its limit only behind as many turns as its loops may make.
use Rattle.std.proofs.Common.{ℕ, zero, suc, ◌-◌, ◌≤◌, List, [], ◌∷◌, map, Option, Some, None, sym, subst, arith}
use Rattle.std.specs.Prelude.{pos, Bool, true, false, cond, slice_get, option_and_then}
use Rattle.jp_pred.specs.declared.ty.Ty.{Ty}
use Rattle.jp_pred.specs.declared.path.Path.{Path}
use Rattle.jp_pred.specs.declared.path.PathStep.{PathStep}
use Rattle.jp_pred.specs.declared.hier.Hier.{Hier}
use Rattle.jp_pred.specs.Names.{Word, object, same}
use Rattle.iface_codec.specs.declared.iface.Iface.{Iface}
use Rattle.iface_codec.specs.declared.iface.IfaceMethod.{IfaceMethod}
use Rattle.jp_store.specs.declared.value.Value.{Value}
use Rattle.jp_store.specs.declared.value.Value.TheVariants.{Int, Null}
use Rattle.jp_store.specs.declared.value.Kind.{Kind}
use Rattle.jp_store.specs.declared.value.Kind.TheVariants.{Number, Reference}
use Rattle.jp_store.specs.declared.operator.BinaryOp.{BinaryOp}
use Rattle.jp_store.specs.declared.operator.BinaryOp.TheVariants.{Add, Subtract}
use Rattle.jp_store.specs.declared.outcome.Outcome.{Outcome}
use Rattle.jp_store.specs.declared.outcome.Outcome.TheVariants.{Fine, Trap, Wrong}
use Rattle.jp_store.specs.Arith.{binary, default_of, of_truth, on_int}
use Rattle.jp_does.specs.Does.{Gives, Traps, Ticks, Prints, Shows, Reads, Works, Calls, Limit, Stuck, then_do, do_of, found}
use Rattle.jp_meaning.specs.declared.expr.TypedExpr.{TypedExpr}
use Rattle.jp_meaning.specs.declared.expr.TypedKind.{TypedKind, TypedKind-F}
use Rattle.jp_meaning.specs.declared.expr.TypedKind.TheOpen as expr
use Rattle.jp_meaning.specs.declared.expr.TypedKind.TheFolds as expr_fold
use Rattle.jp_meaning.specs.declared.stmt.TypedStmt.{TypedStmt}
use Rattle.jp_meaning.specs.declared.stmt.TypedStmtKind.{TypedStmtKind, TypedStmtKind-F}
use Rattle.jp_meaning.specs.declared.stmt.TypedStmtKind.TheOpen as stmt
use Rattle.jp_meaning.specs.declared.stmt.TypedStmtKind.TheFolds as stmt_fold
use Rattle.jp_meaning.specs.declared.unit.TypedMember.{TypedMember}
use Rattle.jp_meaning.specs.declared.unit.TypedPart.{TypedPart}
use Rattle.jp_meaning.specs.declared.unit.TypedPart.TheVariants as part
use Rattle.jp_meaning.specs.Does.{Target, Does, Constructor, receiver_of, call_on, calls_on}
use Rattle.jp_meaning.specs.Descriptors.{kind_of_type, constructor_of, elements_of}
use Rattle.jp_meaning.specs.Signs.{Prefix, Plus, Minus, Not, Complement, Infix, Operates, Compares, AndThen, OrElse, prefix_of, infix_of, Change, Becomes, Changes, change_of}
use Rattle.jp_meaning.specs.Expressions.{Locals, of_kind, fits, typed, fit, are_of, where_so, truth_of, by_truth, as_truth, local_value, Spot, Slot, FieldOf, StaticAt, ElementOf, Meant, values_of, prefixed, compares_at, infixed, construct_object, construct, meant_step, meant, value_of}
use Rattle.jp_meaning.specs.Statements.{Left, Goes, Breaks, Continues, Returned, go_on, around, skip, turns, in_order, test_of, put_local, read_spot, put_spot, assign, bump, declare, leave, does_step, does, block_does}
use Rattle.jp_meaning.specs.Members.{step_type, read_steps, read_path, read_alias, read_aliases, locals_of, leaves, returned, super_first, statements_do, part_does, member_does}
use Rattle.code_trace.specs.Follows.{IsDeep}
use Rattle.code_trace.proofs.Traces.{less_deep}

then_deep : {A B : Type 0} (d : Does A) (go : A → Does B) (n : ℕ) → IsDeep n d → ((a : A) → IsDeep n (go a)) → IsDeep n (then_do d go)
then_deep (Gives a) go n h k = k a
then_deep (Traps t) go n h k = tt
then_deep (Ticks d) go n h k = then_deep d go (n - 1) h (λ a. less_deep (go a) (n - 1) n (omega arith) (k a))
then_deep (Prints v d) go n h k = then_deep d go n h k
then_deep (Shows v d) go n h k = then_deep d go n h k
then_deep (Reads d) go n h k = λ v. then_deep (d v) go n (h v) k
then_deep (Works op d) go n h k = λ v. then_deep (d v) go n (h v) k
then_deep (Calls c d) go n h k = λ v. then_deep (d v) go n (h v) k
then_deep Limit go n h k = h
then_deep Stuck go n h k = tt

do_deep : {A B : Type 0} (r : Outcome A) (go : A → Does B) (n : ℕ) → ((a : A) → IsDeep n (go a)) → IsDeep n (do_of r go)
do_deep (Fine a) go n h = h a
do_deep (Trap k) go n h = tt
do_deep Wrong go n h = tt

found_deep : {A B : Type 0} (o : Option A) (go : A → Does B) (n : ℕ) → ((a : A) → IsDeep n (go a)) → IsDeep n (found o go)
found_deep None go n h = tt
found_deep (Some a) go n h = h a

so_deep : {A : Type 0} (b : Bool) (d : Does A) (n : ℕ) → IsDeep n d → IsDeep n (where_so b d)
so_deep true d n h = h
so_deep false d n h = tt

cond_deep : {A : Type 0} (b : Bool) (d e : Does A) (n : ℕ) → IsDeep n d → IsDeep n e → IsDeep n (cond b d e)
cond_deep true d e n h k = h
cond_deep false d e n h k = k

fits_deep : (kind : Kind) (v : Value) (n : ℕ) → IsDeep n (fits kind v)
fits_deep kind v n = do_deep (of_kind kind v) Gives n (λ u. tt)

typed_deep : (t : Ty) (v : Value) (n : ℕ) → IsDeep n (typed t v)
typed_deep t v n = found_deep (kind_of_type t) (λ kind. fits kind v) n (λ kind. fits_deep kind v n)

fit_deep : (o : Option Kind) (v : Value) (n : ℕ) → IsDeep n (fit o v)
fit_deep None v n = tt
fit_deep (Some kind) v n = fits_deep kind v n

by_deep : {A : Type 0} (t : Does Value) (a b : Does A) (n : ℕ) → IsDeep n t → IsDeep n a → IsDeep n b → IsDeep n (by_truth t a b)
by_deep t a b n ht ha hb = then_deep t (λ v. do_of (truth_of v) (λ x. cond x a b)) n ht (λ v. do_deep (truth_of v) (λ x. cond x a b) n (λ x. cond_deep x a b n ha hb))

truth_deep : (t : Does Value) (n : ℕ) → IsDeep n t → IsDeep n (as_truth t)
truth_deep t n h = then_deep t (λ v. do_of (truth_of v) (λ x. Gives (of_truth x))) n h (λ v. do_deep (truth_of v) (λ x. Gives (of_truth x)) n (λ x. tt))

local_deep : (slot : ℕ) (kind : Kind) (env : Locals) (n : ℕ) → IsDeep n (local_value slot kind env)
local_deep slot kind env n = found_deep (option_and_then (λ v. v) (slice_get env slot)) (fits kind) n (λ v. fits_deep kind v n)

calls_deep : (target : Target) (o : Value) (vs : List Value) (n : ℕ) → IsDeep n (calls_on target o vs)
calls_deep target o vs n = do_deep (call_on target o vs) (λ call. Calls call Gives) n (λ call v. tt)

object_deep : (params : List Ty) (o : Value) (n : ℕ) → IsDeep n (construct_object params o)
object_deep [] o n = do_deep (receiver_of o) (λ r. Gives Null) n (λ r. tt)
object_deep (t ∷ ts) o n = tt

construct_deep : (class : Word) (params : List Ty) (o : Value) (vs : List Value) (n : ℕ) → IsDeep n (construct class params o vs)
construct_deep class params o vs n =
    so_deep (are_of params vs) (cond (same class object) (construct_object params o) (calls_on (Constructor (constructor_of class params)) o vs)) n
    (cond_deep (same class object) (construct_object params o) (calls_on (Constructor (constructor_of class params)) o vs) n (object_deep params o n) (calls_deep (Constructor (constructor_of class params)) o vs n))

-- an expression, and the parts of what is assigned to, spend no tick and have no limit
record Calm (m : Meant) : Type 0 where
  value : (env : Locals) (n : ℕ) → IsDeep n (m.value env)
  spot : (env : Locals) (n : ℕ) → IsDeep n (m.spot env)

prefixed_deep : (op : Prefix) (d : Does Value) (n : ℕ) → IsDeep n d → IsDeep n (prefixed op d)
prefixed_deep Plus d n h = then_deep d _ n h (λ v. do_deep _ Gives n (λ u. tt))
prefixed_deep Minus d n h = then_deep d _ n h (λ v. do_deep _ Gives n (λ u. tt))
prefixed_deep Complement d n h = then_deep d _ n h (λ v. do_deep _ Gives n (λ u. tt))
prefixed_deep Not d n h = then_deep d (λ v. do_of (truth_of v) (λ x. Gives (of_truth _))) n h (λ v. do_deep (truth_of v) _ n (λ x. tt))

infixed_deep : (op : Infix) (t : Ty) (d e : Does Value) (n : ℕ) → IsDeep n d → IsDeep n e → IsDeep n (infixed op t d e)
infixed_deep (Operates op) t d e n h k = then_deep d (λ x. then_do e (λ y. do_of (binary op x y) Gives)) n h (λ x. then_deep e (λ y. do_of (binary op x y) Gives) n k (λ y. do_deep (binary op x y) Gives n (λ u. tt)))
infixed_deep (Compares test) t d e n h k =
    then_deep d (λ x. then_do e (λ y. do_of (compares_at t test x y) (λ z. Gives (of_truth z)))) n h (λ x. then_deep e (λ y. do_of (compares_at t test x y) (λ z. Gives (of_truth z))) n k (λ y. do_deep (compares_at t test x y) (λ z. Gives (of_truth z)) n (λ u. tt)))
infixed_deep AndThen t d e n h k = by_deep d (as_truth e) (Gives (of_truth false)) n h (truth_deep e n k) tt
infixed_deep OrElse t d e n h k = by_deep d (Gives (of_truth true)) (as_truth e) n h tt (truth_deep e n k)

abbrev kind_meant : TypedKind → Ty → Meant
kind_meant = expr_fold.fold-TypedKind (Ty → Meant) Meant meant_step (λ e. e.kind e.ty)

abbrev CalmKind : Type 0
CalmKind = (k : TypedKind) × ((t : Ty) → Calm (kind_meant k t))

abbrev CalmExpr : Type 0
CalmExpr = (e : TypedExpr) × Calm (meant e)

row_deep : (es : List CalmExpr) (env : Locals) (n : ℕ) → IsDeep n (values_of (map meant (map (λ e. e.0) es)) env)
row_deep [] env n = tt
row_deep (e ∷ es) env n =
    then_deep ((meant e.0).value env) (λ v. then_do (values_of (map meant (map (λ e. e.0) es)) env) (λ vs. Gives (v ∷ vs))) n (e.1.value env n) (λ v.
    then_deep (values_of (map meant (map (λ e. e.0) es)) env) (λ vs. Gives (v ∷ vs)) n (row_deep es env n) (λ vs. tt))

layer : (y : TypedKind-F CalmKind CalmExpr) (t : Ty) →
    Calm (meant_step (expr_fold.map-TypedKind TypedKind TypedExpr (Ty → Meant) Meant kind_meant meant (expr_fold.map-TypedKind CalmKind CalmExpr TypedKind TypedExpr (λ e. e.0) (λ e. e.0) y)) t)
layer (expr.Number value hex) t = record { value = λ env n. tt; spot = λ env n. tt }
layer (expr.Truth value) t = record { value = λ env n. tt; spot = λ env n. tt }
layer expr.Null t = record { value = λ env n. tt; spot = λ env n. tt }
layer expr.This t = record { value = λ env n. local_deep 0 Reference env n; spot = λ env n. tt }
layer (expr.Local slot) t = record {
  value = λ env n. found_deep (kind_of_type t) (λ kind. local_value slot kind env) n (λ kind. local_deep slot kind env n);
  spot = λ env n. found_deep (kind_of_type t) (λ kind. Gives (Slot slot kind)) n (λ kind. tt);
}
layer (expr.Unary sign right) t = record {
  value = λ env n. found_deep (prefix_of sign) (λ op. prefixed op ((meant right.0).value env)) n (λ op. prefixed_deep op ((meant right.0).value env) n (right.1.value env n));
  spot = λ env n. tt;
}
layer (expr.Binary sign left right) t = record {
  value = λ env n. found_deep (infix_of sign) (λ op. infixed op (meant left.0).ty ((meant left.0).value env) ((meant right.0).value env)) n (λ op. infixed_deep op (meant left.0).ty ((meant left.0).value env) ((meant right.0).value env) n (left.1.value env n) (right.1.value env n));
  spot = λ env n. tt;
}
layer (expr.Cond test first second) t = record {
  value = λ env n. by_deep ((meant test.0).value env) ((meant first.0).value env) ((meant second.0).value env) n (test.1.value env n) (first.1.value env n) (second.1.value env n);
  spot = λ env n. tt;
}
layer (expr.Cast class value) t = record {
  value = λ env n. then_deep ((meant value.0).value env) _ n (value.1.value env n) (λ v u. fits_deep Reference u n);
  spot = λ env n. tt;
}
layer (expr.InstanceOf value class) t = record {
  value = λ env n. then_deep ((meant value.0).value env) _ n (value.1.value env n) (λ v u. fits_deep Number u n);
  spot = λ env n. tt;
}
layer (expr.Field object class name) t = record {
  value = λ env n. then_deep ((meant object.0).value env) _ n (object.1.value env n) (λ v u. typed_deep t u n);
  spot = λ env n. then_deep ((meant object.0).value env) _ n (object.1.value env n) (λ v. tt);
}
layer (expr.Static class name) t = record { value = λ env n u. typed_deep t u n; spot = λ env n. tt }
layer (expr.Length array) t = record {
  value = λ env n. then_deep ((meant array.0).value env) _ n (array.1.value env n) (λ v u. fits_deep Number u n);
  spot = λ env n. tt;
}
layer (expr.Index array index) t = record {
  value = λ env n. then_deep ((meant array.0).value env) _ n (array.1.value env n) (λ a. then_deep ((meant index.0).value env) _ n (index.1.value env n) (λ i u. typed_deep t u n));
  spot = λ env n. then_deep ((meant array.0).value env) _ n (array.1.value env n) (λ a. then_deep ((meant index.0).value env) _ n (index.1.value env n) (λ i. tt));
}
layer (expr.CallVirtual object class is_interface name params args) t = record {
  value = λ env n. then_deep ((meant object.0).value env) _ n (object.1.value env n) (λ o. then_deep (values_of (map meant (map (λ e. e.0) args)) env) _ n (row_deep args env n) (λ vs.
      so_deep (are_of params vs) _ n (then_deep (calls_on _ o vs) (fit (kind_of_type t)) n (calls_deep _ o vs n) (λ v. fit_deep (kind_of_type t) v n))));
  spot = λ env n. tt;
}
layer (expr.CallStatic class name params args) t = record {
  value = λ env n. then_deep (values_of (map meant (map (λ e. e.0) args)) env) _ n (row_deep args env n) (λ vs. so_deep (are_of params vs) _ n (λ v. fit_deep (kind_of_type t) v n));
  spot = λ env n. tt;
}
layer (expr.CallSuper class name params args) t = record {
  value = λ env n. then_deep (local_value 0 Reference env) _ n (local_deep 0 Reference env n) (λ o. then_deep (values_of (map meant (map (λ e. e.0) args)) env) _ n (row_deep args env n) (λ vs.
      so_deep (are_of params vs) _ n (then_deep (calls_on _ o vs) (fit (kind_of_type t)) n (calls_deep _ o vs n) (λ v. fit_deep (kind_of_type t) v n))));
  spot = λ env n. tt;
}
layer (expr.New class params args) t = record {
  value = λ env n v. then_deep (fits Reference v) _ n (fits_deep Reference v n) (λ o. then_deep (values_of (map meant (map (λ e. e.0) args)) env) _ n (row_deep args env n) (λ vs.
      then_deep (construct class params o vs) (λ done. Gives o) n (construct_deep class params o vs n) (λ done. tt)));
  spot = λ env n. tt;
}
layer (expr.NewArray elem size) t = record {
  value = λ env n. then_deep ((meant size.0).value env) _ n (size.1.value env n) (λ v. found_deep (elements_of elem) _ n (λ elements u. fits_deep Reference u n));
  spot = λ env n. tt;
}
layer (expr.Print value) t = record {
  value = λ env n. then_deep ((meant value.0).value env) _ n (value.1.value env n) (λ v. do_deep (on_int Fine v) (λ k. Prints k (Gives Null)) n (λ k. tt));
  spot = λ env n. tt;
}
layer (expr.Show text) t = record { value = λ env n. tt; spot = λ env n. tt }
layer expr.Read t = record { value = λ env n k. tt; spot = λ env n. tt }

expr_calm : (e : TypedExpr) → Calm (meant e)
expr_calm = expr_fold.ind-TypedExpr (λ k. (t : Ty) → Calm (kind_meant k t)) (λ e. Calm (meant e))
    (λ x y is. subst (λ (f : Ty → Meant). (t : Ty) → Calm (f t)) (sym (expr_fold.fold-roll-TypedKind (Ty → Meant) Meant meant_step (λ e. e.kind e.ty) x))
    (subst (λ (z : TypedKind-F TypedKind TypedExpr). (t : Ty) → Calm (meant_step (expr_fold.map-TypedKind TypedKind TypedExpr (Ty → Meant) Meant kind_meant meant z) t)) is (layer y)))
    (λ x y is. subst Calm (sym (expr_fold.fold-roll-TypedExpr (Ty → Meant) Meant meant_step (λ e. e.kind e.ty) x))
    (subst (λ (z : expr.TypedExpr-F TypedKind TypedExpr). Calm (kind_meant z.kind z.ty)) is (y.kind.1 y.ty)))

value_deep : (e : TypedExpr) (env : Locals) (n : ℕ) → IsDeep n (value_of e env)
value_deep e env n = (expr_calm e).value env n

values_deep : (es : List TypedExpr) (env : Locals) (n : ℕ) → IsDeep n (values_of (map meant es) env)
values_deep [] env n = tt
values_deep (e ∷ es) env n =
    then_deep (value_of e env) (λ v. then_do (values_of (map meant es) env) (λ vs. Gives (v ∷ vs))) n (value_deep e env n) (λ v. then_deep (values_of (map meant es) env) (λ vs. Gives (v ∷ vs)) n (values_deep es env n) (λ vs. tt))

put_local_deep : (slot : ℕ) (kind : Kind) (v : Value) (env : Locals) (n : ℕ) → IsDeep n (put_local slot kind v env)
put_local_deep slot kind v env n = do_deep (of_kind kind v) _ n (λ u. found_deep (slice_get env slot) _ n (λ old. tt))

read_deep : (t : Ty) (spot : Spot) (env : Locals) (n : ℕ) → IsDeep n (read_spot t spot env)
read_deep t (Slot slot kind) env n = local_deep slot kind env n
read_deep t (FieldOf o key) env n = λ v. typed_deep t v n
read_deep t (StaticAt key) env n = λ v. typed_deep t v n
read_deep t (ElementOf kind a i) env n = λ v. typed_deep t v n

put_deep : (spot : Spot) (v : Value) (env : Locals) (n : ℕ) → IsDeep n (put_spot spot v env)
put_deep (Slot slot kind) v env n = put_local_deep slot kind v env n
put_deep (FieldOf o key) v env n = λ u. tt
put_deep (StaticAt key) v env n = λ u. tt
put_deep (ElementOf kind a i) v env n = λ u. tt

assign_deep : (change : Change) (left right : Meant) → Calm left → Calm right → (env : Locals) (n : ℕ) → IsDeep n (assign change left right env)
assign_deep Becomes left right h k env n = then_deep (left.spot env) _ n (h.spot env n) (λ spot. then_deep (right.value env) _ n (k.value env n) (λ v. put_deep spot v env n))
assign_deep (Changes op) left right h k env n =
    then_deep (left.spot env) _ n (h.spot env n) (λ spot. then_deep (read_spot left.ty spot env) _ n (read_deep left.ty spot env n) (λ x. then_deep (right.value env) _ n (k.value env n) (λ y. do_deep (binary op x y) _ n (λ v. put_deep spot v env n))))

bump_deep : (op : BinaryOp) (left : Meant) → Calm left → (env : Locals) (n : ℕ) → IsDeep n (bump op left env)
bump_deep op left h env n =
    then_deep (left.spot env) _ n (h.spot env n) (λ spot. then_deep (read_spot left.ty spot env) _ n (read_deep left.ty spot env n) (λ x. do_deep (binary op x (Int (pos 1))) _ n (λ v. put_deep spot v env n)))

declare_deep : (slot : ℕ) (t : Ty) (value : Option TypedExpr) (env : Locals) (n : ℕ) → IsDeep n (declare slot t value env)
declare_deep slot t None env n = found_deep (kind_of_type t) _ n (λ kind. put_local_deep slot kind (default_of kind) env n)
declare_deep slot t (Some value) env n = found_deep (kind_of_type t) _ n (λ kind. then_deep (value_of value env) _ n (value_deep value env n) (λ v. put_local_deep slot kind v env n))

leave_deep : (value : Option TypedExpr) (env : Locals) (n : ℕ) → IsDeep n (leave value env)
leave_deep None env n = tt
leave_deep (Some value) env n = then_deep (value_of value env) _ n (value_deep value env n) (λ v. found_deep (kind_of_type value.ty) _ n (λ kind. do_deep (of_kind kind v) _ n (λ u. tt)))

go_on_deep : (next : Locals → Does Left) (n : ℕ) → ((env : Locals) → IsDeep n (next env)) → (l : Left) → IsDeep n (go_on next l)
go_on_deep next n h (Goes env) = h env
go_on_deep next n h (Breaks env) = tt
go_on_deep next n h (Continues env) = tt
go_on_deep next n h (Returned v) = tt

around_deep : (next : Locals → Does Left) (n : ℕ) → ((env : Locals) → IsDeep n (next env)) → (l : Left) → IsDeep n (around next l)
around_deep next n h (Goes env) = h env
around_deep next n h (Breaks env) = tt
around_deep next n h (Continues env) = h env
around_deep next n h (Returned v) = tt

turns_deep : (k n : ℕ) → n ≤ k → (test : Locals → Does Value) (change body : Locals → Does Left) → ((env : Locals) (n : ℕ) → IsDeep n (test env)) → ((env : Locals) → IsDeep k (change env)) → ((env : Locals) → IsDeep k (body env)) → (env : Locals) → IsDeep n (turns n test change body env)
turns_deep k zero le test change body ht hc hb env = omega arith
turns_deep k (suc n) le test change body ht hc hb env =
    let go = λ (after : Locals). then_do (change after) (go_on (turns n test change body)) in
    by_deep (test env) (Ticks (then_do (body env) (around go))) (skip env) (suc n) (ht env (suc n))
    (then_deep (body env) (around go) (suc n - 1) (less_deep (body env) (suc n - 1) k (omega (arith, le)) (hb env)) (around_deep go (suc n - 1) (λ after.
    then_deep (change after) (go_on (turns n test change body)) (suc n - 1) (less_deep (change after) (suc n - 1) k (omega (arith, le)) (hc after)) (go_on_deep (turns n test change body) (suc n - 1) (λ e.
    less_deep (turns n test change body e) (suc n - 1) n (omega arith) (turns_deep k n (omega (arith, le)) test change body ht hc hb e)))))) tt

abbrev Turned : Type 0
Turned = ℕ → Locals → Does Left

abbrev DeepMade : Turned → Type 0
DeepMade d = (n : ℕ) (env : Locals) → IsDeep n (d n env)

abbrev kind_does : TypedStmtKind → Turned
kind_does = stmt_fold.fold-TypedStmtKind Turned Turned does_step (λ s. s.kind)

abbrev DeepKind : Type 0
DeepKind = (k : TypedStmtKind) × DeepMade (kind_does k)

abbrev DeepStmt : Type 0
DeepStmt = (s : TypedStmt) × DeepMade (does s)

order_deep : (ss : List DeepStmt) → DeepMade (in_order (map does (map (λ e. e.0) ss)))
order_deep [] n env = tt
order_deep (s ∷ ss) n env = then_deep (does s.0 n env) (go_on (in_order (map does (map (λ e. e.0) ss)) n)) n (s.1 n env) (go_on_deep (in_order (map does (map (λ e. e.0) ss)) n) n (λ e. order_deep ss n e))

test_deep : (test : Option TypedExpr) (env : Locals) (n : ℕ) → IsDeep n (test_of test env)
test_deep None env n = tt
test_deep (Some test) env n = value_deep test env n

skip_deep : (n : ℕ) (env : Locals) → IsDeep n (skip env)
skip_deep n env = tt

for_deep : (init change body : Turned) (test : Option TypedExpr) → DeepMade init → DeepMade change → DeepMade body → DeepMade (λ n env. then_do (init n env) (go_on (turns n (test_of test) (change n) (body n))))
for_deep init change body test hi hc hb n env =
    then_deep (init n env) (go_on (turns n (test_of test) (change n) (body n))) n (hi n env) (go_on_deep (turns n (test_of test) (change n) (body n)) n (λ e.
    turns_deep n n (omega arith) (test_of test) (change n) (body n) (test_deep test) (hc n) (hb n) e))

stmt_layer : (y : TypedStmtKind-F DeepKind DeepStmt) →
    DeepMade (does_step (stmt_fold.map-TypedStmtKind TypedStmtKind TypedStmt Turned Turned kind_does does (stmt_fold.map-TypedStmtKind DeepKind DeepStmt TypedStmtKind TypedStmt (λ e. e.0) (λ e. e.0) y)))
stmt_layer (stmt.Block block) n env = order_deep block n env
stmt_layer stmt.Empty n env = tt
stmt_layer (stmt.Local slot t value) n env = declare_deep slot t value env n
stmt_layer (stmt.If test first None) n env = by_deep (value_of test env) (does first.0 n env) (skip env) n (value_deep test env n) (first.1 n env) tt
stmt_layer (stmt.If test first (Some second)) n env = by_deep (value_of test env) (does first.0 n env) (does second.0 n env) n (value_deep test env n) (first.1 n env) (second.1 n env)
stmt_layer (stmt.While test body) n env = turns_deep n n (omega arith) (value_of test) skip (does body.0 n) (value_deep test) (skip_deep n) (body.1 n) env
stmt_layer (stmt.For None test None body) n env = for_deep (λ n env. skip env) (λ n env. skip env) (does body.0) test skip_deep skip_deep body.1 n env
stmt_layer (stmt.For None test (Some change) body) n env = for_deep (λ n env. skip env) (does change.0) (does body.0) test skip_deep change.1 body.1 n env
stmt_layer (stmt.For (Some init) test None body) n env = for_deep (does init.0) (λ n env. skip env) (does body.0) test init.1 skip_deep body.1 n env
stmt_layer (stmt.For (Some init) test (Some change) body) n env = for_deep (does init.0) (does change.0) (does body.0) test init.1 change.1 body.1 n env
stmt_layer stmt.Break n env = tt
stmt_layer stmt.Continue n env = tt
stmt_layer (stmt.Return value) n env = leave_deep value env n
stmt_layer (stmt.Assign left sign right) n env = found_deep (change_of sign) (λ change. assign change (meant left) (meant right) env) n (λ change. assign_deep change (meant left) (meant right) (expr_calm left) (expr_calm right) env n)
stmt_layer (stmt.Bump left up) n env = bump_deep (cond up Add Subtract) (meant left) (expr_calm left) env n
stmt_layer (stmt.Run value) n env = then_deep (value_of value env) (λ v. skip env) n (value_deep value env n) (λ v. tt)

does_deep : (s : TypedStmt) → DeepMade (does s)
does_deep = stmt_fold.ind-TypedStmt (λ k. DeepMade (kind_does k)) (λ s. DeepMade (does s))
    (λ x y is. subst DeepMade (sym (stmt_fold.fold-roll-TypedStmtKind Turned Turned does_step (λ s. s.kind) x))
    (subst (λ (z : TypedStmtKind-F TypedStmtKind TypedStmt). DeepMade (does_step (stmt_fold.map-TypedStmtKind TypedStmtKind TypedStmt Turned Turned kind_does does z))) is (stmt_layer y)))
    (λ x y is. subst DeepMade (sym (stmt_fold.fold-roll-TypedStmt Turned Turned does_step (λ s. s.kind) x))
    (subst (λ (z : stmt.TypedStmt-F TypedStmtKind TypedStmt). DeepMade (kind_does z.kind)) is y.kind.1))

block_deep : (ss : List TypedStmt) → DeepMade (block_does ss)
block_deep [] n env = tt
block_deep (s ∷ ss) n env = then_deep (does s n env) (go_on (block_does ss n)) n (does_deep s n env) (go_on_deep (block_does ss n) n (λ e. block_deep ss n e))

leaves_deep : (result : Option Kind) (v : Option Value) (n : ℕ) → IsDeep n (leaves result v)
leaves_deep None None n = tt
leaves_deep None (Some v) n = tt
leaves_deep (Some kind) None n = tt
leaves_deep (Some kind) (Some v) n = fits_deep kind v n

returned_deep : (result : Option Kind) (l : Left) (n : ℕ) → IsDeep n (returned result l)
returned_deep result (Goes env) n = leaves_deep result None n
returned_deep result (Breaks env) n = tt
returned_deep result (Continues env) n = tt
returned_deep result (Returned v) n = leaves_deep result v n

statements_deep : (result : Option Kind) (m : TypedMember) (n : ℕ) (env : Locals) → IsDeep n (statements_do result m n env)
statements_deep result m n env = then_deep (block_does m.block n env) (returned result) n (block_deep m.block n env) (λ l. returned_deep result l n)

steps_deep : (hier : Hier) (steps : List PathStep) (v : Value) (n : ℕ) → IsDeep n (read_steps hier steps v)
steps_deep hier [] v n = tt
steps_deep hier (s ∷ ss) v n = then_deep (fits Reference v) _ n (fits_deep Reference v n) (λ o. found_deep (step_type hier s) _ n (λ t u. then_deep (typed t u) (read_steps hier ss) n (typed_deep t u n) (λ x. steps_deep hier ss x n)))

alias_deep : (hier : Hier) (alias : Path × Ty) (vs : List Value) (n : ℕ) → IsDeep n (read_alias hier alias vs)
alias_deep hier alias vs n = then_deep (read_path hier alias.0 vs) (typed alias.1) n (found_deep (slice_get vs alias.0.root) (read_steps hier alias.0.steps) n (λ v. steps_deep hier alias.0.steps v n)) (λ u. typed_deep alias.1 u n)

aliases_deep : (hier : Hier) (aliases : List (Path × Ty)) (vs : List Value) (n : ℕ) → IsDeep n (read_aliases hier aliases vs)
aliases_deep hier [] vs n = tt
aliases_deep hier (alias ∷ more) vs n = then_deep (read_alias hier alias vs) _ n (alias_deep hier alias vs n) (λ v. then_deep (read_aliases hier more vs) _ n (aliases_deep hier more vs n) (λ rest. tt))

super_deep : (head : Iface) (m : TypedMember) (env : Locals) (n : ℕ) → IsDeep n (super_first head m env)
super_deep head m env n =
    found_deep head.superclass _ n (λ superclass. then_deep (local_value 0 Reference env) _ n (local_deep 0 Reference env n) (λ o. then_deep (values_of (map meant m.super_args) env) _ n (values_deep m.super_args env n) (λ args. construct_deep superclass m.super_params o args n)))

part_deep : (hier : Hier) (head : Iface) (m : TypedMember) (p : TypedPart) (n : ℕ) (vs : List Value) → IsDeep n (part_does hier head m p n vs)
part_deep hier head m (part.Field at) n vs = tt
part_deep hier head m (part.Method at) n vs =
    found_deep {A = IfaceMethod} (slice_get head.methods at) _ n (λ method. then_deep (read_aliases hier method.aliases vs) _ n (aliases_deep hier method.aliases vs n) (λ more. statements_deep (kind_of_type method.result) m n _))
part_deep hier head m (part.Constructor at) n vs = then_deep (super_first head m (locals_of m vs)) _ n (super_deep head m (locals_of m vs) n) (λ done. statements_deep None m n _)

pub member_deep : (hier : Hier) (head : Iface) (m : TypedMember) (n : ℕ) (vs : List Value) → IsDeep n (member_does hier head m n vs)
member_deep hier head m n vs = part_deep hier head m m.part n vs
