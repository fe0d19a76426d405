-- A member with n turns for its loops reaches its limit behind n ticks at the earliest.
use Rattle.std.proofs.Common.{ℕ, zero, suc, ◌-◌, ◌≤◌, List, [], ◌∷◌, ◌++◌, map, Option, Some, None, subst, sym, arith}
use Rattle.std.specs.Prelude.{ℤ, pos, negsuc, Bool, true, false, not, cond, option_and_then, slice_get, slice_set}
use Rattle.jp_pred.specs.declared.hier.Hier.{Hier}
use Rattle.jp_pred.specs.declared.path.Path.{Path}
use Rattle.jp_pred.specs.declared.path.PathStep.{PathStep}
use Rattle.jp_pred.specs.declared.ty.Ty.{Ty}
use Rattle.jp_pred.specs.Names.{Word, object, same}
use Rattle.iface_codec.specs.declared.iface.Iface.{Iface}
use Rattle.iface_codec.specs.declared.iface.IfaceMethod.{IfaceMethod}
use Rattle.jp_store.specs.declared.value.Value.{Value}
use Rattle.jp_store.specs.declared.value.Value.TheVariants.{Int, Null}
use Rattle.jp_store.specs.declared.value.TrapKind.{TrapKind}
use Rattle.jp_store.specs.declared.value.Kind.{Kind}
use Rattle.jp_store.specs.declared.value.Kind.TheVariants.{Number, Reference}
use Rattle.jp_store.specs.declared.operator.BinaryOp.{BinaryOp}
use Rattle.jp_store.specs.declared.operator.BinaryOp.TheVariants.{Add, Subtract, Xor}
use Rattle.jp_store.specs.declared.outcome.Outcome.{Outcome}
use Rattle.jp_store.specs.declared.outcome.Outcome.TheVariants.{Fine, Trap, Wrong}
use Rattle.jp_store.specs.Arith.{binary, negated, on_int, of_truth, default_of}
use Rattle.jp_store.specs.Work.{Op, GetField, MakeArray}
use Rattle.jp_does.specs.Does.{Gives, Traps, Ticks, Prints, Shows, Reads, Works, Calls, Limit, Stuck, then_do, do_of, found}
use Rattle.jp_meaning.specs.declared.expr.TypedExpr.{TypedExpr}
use Rattle.jp_meaning.specs.declared.expr.TypedKind.{TypedKind, TypedKind-F}
use Rattle.jp_meaning.specs.declared.expr.TypedKind.TheOpen as ex
use Rattle.jp_meaning.specs.declared.expr.TypedKind.TheFolds.{ind-TypedExpr, fold-TypedKind, fold-roll-TypedExpr, fold-roll-TypedKind, map-TypedKind}
use Rattle.jp_meaning.specs.declared.stmt.TypedStmt.{TypedStmt}
use Rattle.jp_meaning.specs.declared.stmt.TypedStmtKind.{TypedStmtKind, TypedStmtKind-F}
use Rattle.jp_meaning.specs.declared.stmt.TypedStmtKind.TheOpen as form
use Rattle.jp_meaning.specs.declared.stmt.TypedStmtKind.TheFolds.{ind-TypedStmt, fold-TypedStmtKind, fold-roll-TypedStmt, fold-roll-TypedStmtKind, map-TypedStmtKind}
use Rattle.jp_meaning.specs.declared.unit.TypedMember.{TypedMember}
use Rattle.jp_meaning.specs.declared.unit.TypedPart.{TypedPart}
use Rattle.jp_meaning.specs.declared.unit.TypedPart.TheVariants as part
use Rattle.jp_meaning.specs.Signs.{Prefix, Plus, Minus, Not, Complement, Infix, Operates, Compares, AndThen, OrElse, prefix_of, infix_of, Change, Becomes, Changes, change_of}
use Rattle.jp_meaning.specs.Does.{Target, Constructor, Call, Does, receiver_of, call_on, calls_on}
use Rattle.jp_meaning.specs.Descriptors.{constructor_of, key_of, kind_of_type, elements_of}
use Rattle.jp_meaning.specs.Expressions.{Locals, of_kind, fits, typed, fit, truth_of, by_truth, as_truth, as_untruth, local_value, Spot, Slot, FieldOf, StaticAt, ElementOf, Meant, values_of, prefixed, infixed, construct, meant_step, meant, value_of, are_of, compares_at, where_so, value_step, spot_step}
use Rattle.jp_meaning.specs.Statements.{Left, Goes, Breaks, Continues, Returned, go_on, around, turns, skip, in_order, test_of, put_local, read_spot, put_spot, assign, bump, declare, leave, does_step, does, block_does}
use Rattle.jp_meaning.specs.Members.{step_type, read_steps, read_path, read_alias, read_aliases, locals_of, leaves, returned, super_first, statements_do, part_does, member_does}
use Rattle.code_trace.specs.Follows.{IsDeep}

then_deep : {A B : Type 0} (k : ℕ) (d : Does A) (go : A → Does B) → IsDeep k d → ((j : ℕ) → j ≤ k → (a : A) → IsDeep j (go a)) → IsDeep k (then_do d go)
then_deep k (Gives a) go x h = h k (omega arith) a
then_deep k (Traps t) go x h = tt
then_deep k (Ticks d) go x h = then_deep (k - 1) d go x (λ j le a. h j (omega arith) a)
then_deep k (Prints n d) go x h = then_deep k d go x h
then_deep k (Shows n d) go x h = then_deep k d go x h
then_deep k (Reads d) go x h = λ v. then_deep k (d v) go (x v) h
then_deep k (Works op d) go x h = λ v. then_deep k (d v) go (x v) h
then_deep k (Calls c d) go x h = λ v. then_deep k (d v) go (x v) h
then_deep k Limit go x h = x
then_deep k Stuck go x h = tt

-- it has no limit
record Free {A : Type 0} (d : Does A) : Type 0 where
  at : (k : ℕ) → IsDeep k d

gives : {A : Type 0} (a : A) → Free {A = A} (Gives a)
gives a = record { at = λ k. tt }

traps : {A : Type 0} (kind : TrapKind) → Free {A = A} (Traps kind)
traps kind = record { at = λ k. tt }

stuck : {A : Type 0} → Free {A = A} Stuck
stuck = record { at = λ k. tt }

prints : {A : Type 0} (n : ℤ) (d : Does A) → Free d → Free (Prints n d)
prints n d x = record { at = λ k. x.at k }

shows : {A : Type 0} (text : List ℕ) (d : Does A) → Free d → Free (Shows text d)
shows text d x = record { at = λ k. x.at k }

reads : {A : Type 0} (d : ℤ → Does A) → ((n : ℤ) → Free (d n)) → Free (Reads d)
reads d x = record { at = λ k n. (x n).at k }

working : {A : Type 0} (op : Op) (d : Value → Does A) → ((v : Value) → Free (d v)) → Free (Works op d)
working op d x = record { at = λ k v. (x v).at k }

calling : {A : Type 0} (c : Call) (d : Value → Does A) → ((v : Value) → Free (d v)) → Free (Calls c d)
calling c d x = record { at = λ k v. (x v).at k }

then_free : {A B : Type 0} (d : Does A) (go : A → Does B) → Free d → ((a : A) → Free (go a)) → Free (then_do d go)
then_free d go x h = record { at = λ k. then_deep k d go (x.at k) (λ j le a. (h a).at j) }

do_free : {A B : Type 0} (r : Outcome A) (go : A → Does B) → ((a : A) → Free (go a)) → Free (do_of r go)
do_free (Fine a) go h = h a
do_free (Trap kind) go h = traps kind
do_free Wrong go h = stuck

found_free : {A B : Type 0} (o : Option A) (go : A → Does B) → ((a : A) → Free (go a)) → Free (found o go)
found_free None go h = stuck
found_free (Some a) go h = h a

cond_free : {A : Type 0} (b : Bool) (d e : Does A) → Free d → Free e → Free (cond b d e)
cond_free true d e x y = x
cond_free false d e x y = y

fits_free : (kind : Kind) (v : Value) → Free (fits kind v)
fits_free kind v = do_free (of_kind kind v) Gives gives

typed_free : (t : Ty) (v : Value) → Free (typed t v)
typed_free t v = found_free (kind_of_type t) (λ kind. fits kind v) (λ kind. fits_free kind v)

fit_free : (kind : Option Kind) (v : Value) → Free (fit kind v)
fit_free None v = gives Null
fit_free (Some kind) v = fits_free kind v

truth_free : {A : Type 0} (t : Does Value) (a b : Does A) → Free t → Free a → Free b → Free (by_truth t a b)
truth_free t a b x y z = then_free t _ x (λ v. do_free (truth_of v) (λ c. cond c a b) (λ c. cond_free c a b y z))

as_free : (t : Does Value) → Free t → Free (as_truth t)
as_free t x = then_free t _ x (λ v. do_free (truth_of v) (λ c. Gives (of_truth c)) (λ c. gives (of_truth c)))

un_free : (t : Does Value) → Free t → Free (as_untruth t)
un_free t x = then_free t _ x (λ v. do_free (truth_of v) (λ c. Gives (of_truth (not c))) (λ c. gives (of_truth (not c))))

local_free : (slot : ℕ) (kind : Kind) (env : Locals) → Free (local_value slot kind env)
local_free slot kind env = found_free (option_and_then (λ v. v) (slice_get env slot)) (fits kind) (fits_free kind)

calls_free : (target : Target) (o : Value) (vs : List Value) → Free (calls_on target o vs)
calls_free target o vs = do_free (call_on target o vs) (λ call. Calls call Gives) (λ call. calling call Gives gives)

prefixed_free : (p : Prefix) (d : Does Value) → Free d → Free (prefixed p d)
prefixed_free Plus d x = then_free d (λ v. do_of (on_int (λ n. Fine (Int n)) v) Gives) x (λ v. do_free (on_int (λ n. Fine (Int n)) v) Gives gives)
prefixed_free Minus d x = then_free d (λ v. do_of (negated v) Gives) x (λ v. do_free (negated v) Gives gives)
prefixed_free Complement d x = then_free d (λ v. do_of (binary Xor v (Int (negsuc 0))) Gives) x (λ v. do_free (binary Xor v (Int (negsuc 0))) Gives gives)
prefixed_free Not d x = un_free d x

infixed_free : (p : Infix) (t : Ty) (c d : Does Value) → Free c → Free d → Free (infixed p t c d)
infixed_free (Operates op) t c d x y = then_free c (λ v. then_do d (λ u. do_of (binary op v u) Gives)) x (λ v. then_free d (λ u. do_of (binary op v u) Gives) y (λ u. do_free (binary op v u) Gives gives))
infixed_free (Compares test) t c d x y =
    then_free c (λ v. then_do d (λ u. do_of (compares_at t test v u) (λ truth. Gives (of_truth truth)))) x (λ v.
    then_free d (λ u. do_of (compares_at t test v u) (λ truth. Gives (of_truth truth))) y (λ u.
    do_free (compares_at t test v u) (λ truth. Gives (of_truth truth)) (λ truth. gives (of_truth truth))))
infixed_free AndThen t c d x y = truth_free c _ _ x (as_free d y) (gives (of_truth false))
infixed_free OrElse t c d x y = truth_free c _ _ x (gives (of_truth true)) (as_free d y)

object_free : (o : Value) → Free (do_of (receiver_of o) (λ r. Gives Null))
object_free o = do_free (receiver_of o) (λ r. Gives Null) (λ r. gives Null)

construct_free : (class : Word) (params : List Ty) (o : Value) (args : List Value) → Free (construct class params o args)
construct_free class [] o args = cond_free (are_of [] args) _ _ (cond_free (same class object) _ _ (object_free o) (calls_free (Constructor (constructor_of class [])) o args)) stuck
construct_free class (t ∷ ts) o args = cond_free (are_of (t ∷ ts) args) _ _ (cond_free (same class object) _ _ stuck (calls_free (Constructor (constructor_of class (t ∷ ts))) o args)) stuck

-- the parts of an expression have no limit
record FreeMeant (m : Meant) : Type 0 where
  value : (env : Locals) → Free (m.value env)
  spot : (env : Locals) → Free (m.spot env)

abbrev FreeAt : (Ty → Meant) → Type 0
FreeAt m = (t : Ty) → FreeMeant (m t)

abbrev kind_meant : TypedKind → Ty → Meant
kind_meant = fold-TypedKind (Ty → Meant) Meant meant_step (λ e. e.kind e.ty)

abbrev FreeKind : Type 0
FreeKind = (k : TypedKind) × FreeAt (kind_meant k)

abbrev FreeExpr : Type 0
FreeExpr = (e : TypedExpr) × FreeMeant (meant e)

values_free : (es : List FreeExpr) (env : Locals) → Free (values_of (map meant (map (λ e. e.0) es)) env)
values_free [] env = gives []
values_free (e ∷ es) env =
    let rest = values_of (map meant (map (λ (x : FreeExpr). x.0) es)) env in
    then_free ((meant e.0).value env) (λ v. then_do rest (λ vs. Gives (v ∷ vs))) (e.1.value env) (λ v. then_free rest (λ vs. Gives (v ∷ vs)) (values_free es env) (λ vs. gives (v ∷ vs)))

abbrev part_of : TypedKind-F FreeKind FreeExpr → TypedKind-F (Ty → Meant) Meant
part_of y = map-TypedKind TypedKind TypedExpr (Ty → Meant) Meant kind_meant meant (map-TypedKind FreeKind FreeExpr TypedKind TypedExpr (λ e. e.0) (λ e. e.0) y)

where_free : {A : Type 0} (b : Bool) (d : Does A) → Free d → Free (where_so b d)
where_free b d x = cond_free b d Stuck x stuck

value_layer : (y : TypedKind-F FreeKind FreeExpr) (t : Ty) (env : Locals) → Free (value_step (part_of y) t env)
value_layer (ex.Number value hex) t env = gives _
value_layer (ex.Truth value) t env = gives _
value_layer ex.Null t env = gives _
value_layer ex.This t env = local_free 0 Reference env
value_layer (ex.Local slot) t env = found_free (kind_of_type t) (λ kind. local_value slot kind env) (λ kind. local_free slot kind env)
value_layer (ex.Unary sign right) t env = found_free (prefix_of sign) (λ op. prefixed op ((meant right.0).value env)) (λ op. prefixed_free op _ (right.1.value env))
value_layer (ex.Binary sign left right) t env = found_free (infix_of sign) (λ op. infixed op (meant left.0).ty ((meant left.0).value env) ((meant right.0).value env)) (λ op. infixed_free op _ _ _ (left.1.value env) (right.1.value env))
value_layer (ex.Cond test first second) t env = truth_free _ _ _ (test.1.value env) (first.1.value env) (second.1.value env)
value_layer (ex.Cast class value) t env = then_free _ _ (value.1.value env) (λ v. working _ _ (fits_free Reference))
value_layer (ex.InstanceOf value class) t env = then_free _ _ (value.1.value env) (λ v. working _ _ (fits_free Number))
value_layer (ex.Field o class name) t env = then_free _ _ (o.1.value env) (λ v. working _ _ (typed_free t))
value_layer (ex.Static class name) t env = working _ _ (typed_free t)
value_layer (ex.Length array) t env = then_free _ _ (array.1.value env) (λ v. working _ _ (fits_free Number))
value_layer (ex.Index array index) t env = then_free _ _ (array.1.value env) (λ v. then_free _ _ (index.1.value env) (λ i. working _ _ (typed_free t)))
value_layer (ex.CallVirtual o class is_interface name params args) t env =
    then_free _ _ (o.1.value env) (λ r. then_free _ _ (values_free args env) (λ vs. where_free (are_of params vs) _ (then_free _ _ (calls_free _ r vs) (fit_free (kind_of_type t)))))
value_layer (ex.CallStatic class name params args) t env =
    then_free _ _ (values_free args env) (λ vs. where_free (are_of params vs) _ (calling _ _ (fit_free (kind_of_type t))))
value_layer (ex.CallSuper class name params args) t env =
    then_free _ _ (local_free 0 Reference env) (λ r. then_free _ _ (values_free args env) (λ vs. where_free (are_of params vs) _ (then_free _ _ (calls_free _ r vs) (fit_free (kind_of_type t)))))
value_layer (ex.New class params args) t env =
    working _ _ (λ v. then_free _ _ (fits_free Reference v) (λ o. then_free _ _ (values_free args env) (λ vs. then_free _ _ (construct_free class params o vs) (λ done. gives o))))
value_layer (ex.NewArray elem size) t env =
    then_free _ _ (size.1.value env) (λ n. found_free (elements_of elem) (λ elements. Works (MakeArray elements n) (fits Reference)) (λ elements. working _ _ (fits_free Reference)))
value_layer (ex.Print value) t env = then_free _ _ (value.1.value env) (λ v. do_free (on_int Fine v) (λ n. Prints n (Gives Null)) (λ n. prints n _ (gives Null)))
value_layer (ex.Show text) t env = shows text _ (gives Null)
value_layer ex.Read t env = reads _ (λ n. gives (Int n))

spot_layer : (y : TypedKind-F FreeKind FreeExpr) (t : Ty) (env : Locals) → Free (spot_step (part_of y) t env)
spot_layer (ex.Local slot) t env = found_free (kind_of_type t) (λ kind. Gives (Slot slot kind)) (λ kind. gives (Slot slot kind))
spot_layer (ex.Field o class name) t env = then_free _ _ (o.1.value env) (λ v. gives _)
spot_layer (ex.Static class name) t env = gives _
spot_layer (ex.Index array index) t env = then_free _ _ (array.1.value env) (λ v. then_free _ _ (index.1.value env) (λ i. gives _))
spot_layer (ex.Number value hex) t env = stuck
spot_layer (ex.Truth value) t env = stuck
spot_layer ex.Null t env = stuck
spot_layer ex.This t env = stuck
spot_layer (ex.Unary sign right) t env = stuck
spot_layer (ex.Binary sign left right) t env = stuck
spot_layer (ex.Cond test first second) t env = stuck
spot_layer (ex.Cast class value) t env = stuck
spot_layer (ex.InstanceOf value class) t env = stuck
spot_layer (ex.Length array) t env = stuck
spot_layer (ex.CallVirtual o class is_interface name params args) t env = stuck
spot_layer (ex.CallStatic class name params args) t env = stuck
spot_layer (ex.CallSuper class name params args) t env = stuck
spot_layer (ex.New class params args) t env = stuck
spot_layer (ex.NewArray elem size) t env = stuck
spot_layer (ex.Print value) t env = stuck
spot_layer (ex.Show text) t env = stuck
spot_layer ex.Read t env = stuck

meant_layer : (y : TypedKind-F FreeKind FreeExpr) → FreeAt (meant_step (part_of y))
meant_layer y t = record { value = value_layer y t; spot = spot_layer y t }

meant_free : (e : TypedExpr) → FreeMeant (meant e)
meant_free = ind-TypedExpr (λ k. FreeAt (kind_meant k)) (λ e. FreeMeant (meant e))
    (λ x y is. subst FreeAt (sym (fold-roll-TypedKind (Ty → Meant) Meant meant_step (λ e. e.kind e.ty) x))
    (subst (λ (z : TypedKind-F TypedKind TypedExpr). FreeAt (meant_step (map-TypedKind TypedKind TypedExpr (Ty → Meant) Meant kind_meant meant z))) is (meant_layer y)))
    (λ x y is. subst FreeMeant (sym (fold-roll-TypedExpr (Ty → Meant) Meant meant_step (λ e. e.kind e.ty) x))
    (subst (λ (z : ex.TypedExpr-F TypedKind TypedExpr). FreeMeant (kind_meant z.kind z.ty)) is (y.kind.1 y.ty)))

exprs_free : (es : List TypedExpr) (env : Locals) → Free (values_of (map meant es) env)
exprs_free [] env = gives []
exprs_free (e ∷ es) env = then_free ((meant e).value env) (λ v. then_do (values_of (map meant es) env) (λ vs. Gives (v ∷ vs))) ((meant_free e).value env) (λ v. then_free (values_of (map meant es) env) (λ vs. Gives (v ∷ vs)) (exprs_free es env) (λ vs. gives (v ∷ vs)))

-- it reaches its limit behind k ticks at the earliest
record Late {A : Type 0} (k : ℕ) (d : Does A) : Type 0 where
  at : IsDeep k d

late : {A : Type 0} (k : ℕ) {d : Does A} → Free d → Late k d
late k x = record { at = x.at k }

then_late : {A B : Type 0} (k : ℕ) {d : Does A} (go : A → Does B) → Late k d → ((j : ℕ) → j ≤ k → (a : A) → Late j (go a)) → Late k (then_do d go)
then_late k {d = d} go x h = record { at = then_deep k d go x.at (λ j le a. (h j le a).at) }

abbrev Turned : Type 0
Turned = ℕ → Locals → Does Left

-- with n turns it reaches its limit behind n ticks at the earliest
abbrev Sure : Turned → Type 0
Sure d = (k n : ℕ) → k ≤ n → (env : Locals) → Late k (d n env)

skips : (k : ℕ) (env : Locals) → Late k (skip env)
skips k env = record { at = tt }

on_late : (k : ℕ) (next : Locals → Does Left) → ((env : Locals) → Late k (next env)) → (l : Left) → Late k (go_on next l)
on_late k next h (Goes env) = h env
on_late k next h (Breaks env) = late k (gives _)
on_late k next h (Continues env) = late k (gives _)
on_late k next h (Returned v) = late k (gives _)

around_late : (k : ℕ) (next : Locals → Does Left) → ((env : Locals) → Late k (next env)) → (l : Left) → Late k (around next l)
around_late k next h (Goes env) = h env
around_late k next h (Breaks env) = late k (gives _)
around_late k next h (Continues env) = h env
around_late k next h (Returned v) = late k (gives _)

truth_late : {A : Type 0} (k : ℕ) (t : Does Value) (a b : Does A) → Free t → ((j : ℕ) → j ≤ k → Late j a) → ((j : ℕ) → j ≤ k → Late j b) → Late k (by_truth t a b)
truth_late k t a b x y z = then_late k _ (late k x) (λ j le v. picked j le (truth_of v)) where
  chosen : (j : ℕ) → j ≤ k → (c : Bool) → Late j (cond c a b)
  chosen j le true = y j le
  chosen j le false = z j le

  picked : (j : ℕ) → j ≤ k → (r : Outcome Bool) → Late j (do_of r (λ x. cond x a b))
  picked j le (Fine c) = chosen j le c
  picked j le (Trap kind) = late j (traps kind)
  picked j le Wrong = late j stuck

ticks_late : {A : Type 0} (k : ℕ) {d : Does A} → Late (k - 1) d → Late k (Ticks d)
ticks_late k x = record { at = x.at }

turns_late : (k n : ℕ) → k ≤ n → (test : Locals → Does Value) (change body : Locals → Does Left) → ((env : Locals) → Free (test env)) →
    ((j : ℕ) → j ≤ k → (env : Locals) → Late j (change env)) → ((j : ℕ) → j ≤ k → (env : Locals) → Late j (body env)) → (env : Locals) → Late k (turns n test change body env)
turns_late k zero le test change body x y z env = record { at = omega arith }
turns_late k (suc n) le test change body x y z env =
    truth_late k (test env) _ _ (x env)
    (λ j l. ticks_late j (then_late (j - 1) _ (z (j - 1) (omega arith) env) (λ i m. around_late i _ (λ after. then_late i _ (y i (omega arith) after)
    (λ h q. on_late h _ (turns_late h n (omega arith) test change body x (λ a b. y a (omega arith)) (λ a b. z a (omega arith))))))))
    (λ j l. skips j env)

put_free : (slot : ℕ) (kind : Kind) (v : Value) (env : Locals) → Free (put_local slot kind v env)
put_free slot kind v env =
    do_free (of_kind kind v) (λ w. found (slice_get env slot) (λ old. Gives (Goes (slice_set env slot (Some w))))) (λ w.
    found_free (slice_get env slot) (λ old. Gives (Goes (slice_set env slot (Some w)))) (λ old. gives (Goes (slice_set env slot (Some w)))))

read_free : (t : Ty) (s : Spot) (env : Locals) → Free (read_spot t s env)
read_free t (Slot slot kind) env = local_free slot kind env
read_free t (FieldOf o key) env = working _ _ (typed_free t)
read_free t (StaticAt key) env = working _ _ (typed_free t)
read_free t (ElementOf kind a i) env = working _ _ (typed_free t)

spot_free : (s : Spot) (v : Value) (env : Locals) → Free (put_spot s v env)
spot_free (Slot slot kind) v env = put_free slot kind v env
spot_free (FieldOf o key) v env = working _ _ (λ u. gives (Goes env))
spot_free (StaticAt key) v env = working _ _ (λ u. gives (Goes env))
spot_free (ElementOf kind a i) v env = working _ _ (λ u. gives (Goes env))

assign_free : (c : Change) (l r : Meant) → FreeMeant l → FreeMeant r → (env : Locals) → Free (assign c l r env)
assign_free Becomes l r x y env = then_free (l.spot env) (λ s. then_do (r.value env) (λ v. put_spot s v env)) (x.spot env) (λ s. then_free (r.value env) (λ v. put_spot s v env) (y.value env) (λ v. spot_free s v env))
assign_free (Changes op) l r x y env =
    then_free (l.spot env) _ (x.spot env) (λ s. then_free (read_spot l.ty s env) (λ u. then_do (r.value env) (λ v. do_of (binary op u v) (λ w. put_spot s w env))) (read_free l.ty s env) (λ u.
    then_free (r.value env) (λ v. do_of (binary op u v) (λ w. put_spot s w env)) (y.value env) (λ v. do_free (binary op u v) (λ w. put_spot s w env) (λ w. spot_free s w env))))

bump_free : (op : BinaryOp) (l : Meant) → FreeMeant l → (env : Locals) → Free (bump op l env)
bump_free op l x env =
    then_free (l.spot env) _ (x.spot env) (λ s. then_free (read_spot l.ty s env) (λ u. do_of (binary op u (Int (pos 1))) (λ w. put_spot s w env)) (read_free l.ty s env) (λ u.
    do_free (binary op u (Int (pos 1))) (λ w. put_spot s w env) (λ w. spot_free s w env)))

declare_free : (slot : ℕ) (t : Ty) (value : Option TypedExpr) (env : Locals) → Free (declare slot t value env)
declare_free slot t None env = found_free (kind_of_type t) (λ kind. put_local slot kind (default_of kind) env) (λ kind. put_free slot kind (default_of kind) env)
declare_free slot t (Some value) env =
    found_free (kind_of_type t) (λ kind. then_do (value_of value env) (λ v. put_local slot kind v env)) (λ kind.
    then_free (value_of value env) (λ v. put_local slot kind v env) ((meant_free value).value env) (λ v. put_free slot kind v env))

leave_free : (value : Option TypedExpr) (env : Locals) → Free (leave value env)
leave_free None env = gives _
leave_free (Some value) env =
    then_free (value_of value env) _ ((meant_free value).value env) (λ v. found_free (kind_of_type value.ty) (λ kind. do_of (of_kind kind v) (λ w. Gives (Returned (Some w)))) (λ kind.
    do_free (of_kind kind v) (λ w. Gives (Returned (Some w))) (λ w. gives (Returned (Some w)))))

test_free : (test : Option TypedExpr) (env : Locals) → Free (test_of test env)
test_free None env = gives _
test_free (Some test) env = (meant_free test).value env

abbrev kind_does : TypedStmtKind → Turned
kind_does = fold-TypedStmtKind Turned Turned does_step (λ s. s.kind)

abbrev SureKind : Type 0
SureKind = (k : TypedStmtKind) × Sure (kind_does k)

abbrev SureStmt : Type 0
SureStmt = (s : TypedStmt) × Sure (does s)

order_sure : (ss : List SureStmt) → Sure (in_order (map does (map (λ e. e.0) ss)))
order_sure [] k n le env = skips k env
order_sure (s ∷ ss) k n le env = then_late k _ (s.1 k n le env) (λ j l. on_late j _ (order_sure ss j n (omega arith)))

layer : (y : TypedStmtKind-F SureKind SureStmt) →
    Sure (does_step (map-TypedStmtKind TypedStmtKind TypedStmt Turned Turned kind_does does (map-TypedStmtKind SureKind SureStmt TypedStmtKind TypedStmt (λ e. e.0) (λ e. e.0) y)))
layer (form.Block block) k n le env = order_sure block k n le env
layer form.Empty k n le env = skips k env
layer (form.Local slot t value) k n le env = late k (declare_free slot t value env)
layer (form.If test first None) k n le env = truth_late k _ _ _ ((meant_free test).value env) (λ j l. first.1 j n (omega arith) env) (λ j l. skips j env)
layer (form.If test first (Some second)) k n le env = truth_late k _ _ _ ((meant_free test).value env) (λ j l. first.1 j n (omega arith) env) (λ j l. second.1 j n (omega arith) env)
layer (form.While test body) k n le env = turns_late k n le (value_of test) skip _ (meant_free test).value (λ j l. skips j) (λ j l. body.1 j n (omega arith)) env
layer (form.For None test None body) k n le env = turns_late k n le (test_of test) _ _ (test_free test) (λ j l. skips j) (λ j l. body.1 j n (omega arith)) env
layer (form.For None test (Some change) body) k n le env = turns_late k n le (test_of test) _ _ (test_free test) (λ j l. change.1 j n (omega arith)) (λ j l. body.1 j n (omega arith)) env
layer (form.For (Some init) test None body) k n le env =
    then_late k _ (init.1 k n le env) (λ j l. on_late j _ (turns_late j n (omega arith) (test_of test) _ _ (test_free test) (λ i m. skips i) (λ i m. body.1 i n (omega arith))))
layer (form.For (Some init) test (Some change) body) k n le env =
    then_late k _ (init.1 k n le env) (λ j l. on_late j _ (turns_late j n (omega arith) (test_of test) _ _ (test_free test) (λ i m. change.1 i n (omega arith)) (λ i m. body.1 i n (omega arith))))
layer form.Break k n le env = late k (gives _)
layer form.Continue k n le env = late k (gives _)
layer (form.Return value) k n le env = late k (leave_free value env)
layer (form.Assign left sign right) k n le env =
    late k (found_free (change_of sign) (λ change. assign change (meant left) (meant right) env) (λ change. assign_free change _ _ (meant_free left) (meant_free right) env))
layer (form.Bump left up) k n le env = late k (bump_free (cond up Add Subtract) _ (meant_free left) env)
layer (form.Run value) k n le env = late k (then_free (value_of value env) (λ v. skip env) ((meant_free value).value env) (λ v. gives (Goes env)))

does_sure : (s : TypedStmt) → Sure (does s)
does_sure = ind-TypedStmt (λ k. Sure (kind_does k)) (λ s. Sure (does s))
    (λ x y is. subst Sure (sym (fold-roll-TypedStmtKind Turned Turned does_step (λ s. s.kind) x))
    (subst (λ (z : TypedStmtKind-F TypedStmtKind TypedStmt). Sure (does_step (map-TypedStmtKind TypedStmtKind TypedStmt Turned Turned kind_does does z))) is (layer y)))
    (λ x y is. subst Sure (sym (fold-roll-TypedStmt Turned Turned does_step (λ s. s.kind) x))
    (subst (λ (z : form.TypedStmt-F TypedStmtKind TypedStmt). Sure (kind_does z.kind)) is y.kind.1))

block_sure : (ss : List TypedStmt) → Sure (block_does ss)
block_sure [] k n le env = skips k env
block_sure (s ∷ ss) k n le env = then_late k _ (does_sure s k n le env) (λ j l. on_late j _ (block_sure ss j n (omega arith)))

leaves_free : (result : Option Kind) (v : Option Value) → Free (leaves result v)
leaves_free None None = gives _
leaves_free None (Some v) = stuck
leaves_free (Some kind) None = stuck
leaves_free (Some kind) (Some v) = fits_free kind v

returned_free : (result : Option Kind) (l : Left) → Free (returned result l)
returned_free result (Goes env) = leaves_free result None
returned_free result (Breaks env) = stuck
returned_free result (Continues env) = stuck
returned_free result (Returned v) = leaves_free result v

statements_late : (result : Option Kind) (m : TypedMember) (k n : ℕ) → k ≤ n → (env : Locals) → Late k (statements_do result m n env)
statements_late result m k n le env = then_late k (returned result) (block_sure m.block k n le env) (λ j l left. late j (returned_free result left))

steps_free : (hier : Hier) (ss : List PathStep) (v : Value) → Free (read_steps hier ss v)
steps_free hier [] v = gives v
steps_free hier (s ∷ ss) v =
    then_free (fits Reference v) _ (fits_free Reference v) (λ o. found_free (step_type hier s) (λ t. Works (GetField o (key_of s.class s.field t)) (λ u. then_do (typed t u) (read_steps hier ss))) (λ t.
    working _ _ (λ u. then_free (typed t u) (read_steps hier ss) (typed_free t u) (steps_free hier ss))))

path_free : (hier : Hier) (path : Path) (vs : List Value) → Free (read_path hier path vs)
path_free hier path vs = found_free (slice_get vs path.root) (read_steps hier path.steps) (steps_free hier path.steps)

alias_free : (hier : Hier) (a : Path × Ty) (vs : List Value) → Free (read_alias hier a vs)
alias_free hier a vs = then_free (read_path hier a.0 vs) (typed a.1) (path_free hier a.0 vs) (typed_free a.1)

aliases_free : (hier : Hier) (as' : List (Path × Ty)) (vs : List Value) → Free (read_aliases hier as' vs)
aliases_free hier [] vs = gives []
aliases_free hier (a ∷ as') vs =
    then_free (read_alias hier a vs) (λ v. then_do (read_aliases hier as' vs) (λ rest. Gives (v ∷ rest))) (alias_free hier a vs) (λ v.
    then_free (read_aliases hier as' vs) (λ rest. Gives (v ∷ rest)) (aliases_free hier as' vs) (λ rest. gives (v ∷ rest)))

super_free : (head : Iface) (m : TypedMember) (env : Locals) → Free (super_first head m env)
super_free head m env =
    found_free head.superclass (λ c. then_do (local_value 0 Reference env) (λ o. then_do (values_of (map meant m.super_args) env) (λ args. construct c m.super_params o args))) (λ c.
    then_free (local_value 0 Reference env) (λ o. then_do (values_of (map meant m.super_args) env) (λ args. construct c m.super_params o args)) (local_free 0 Reference env) (λ o.
    then_free (values_of (map meant m.super_args) env) (λ args. construct c m.super_params o args) (exprs_free m.super_args env) (λ args. construct_free c m.super_params o args)))

part_late : (hier : Hier) (head : Iface) (m : TypedMember) (p : TypedPart) (k n : ℕ) → k ≤ n → (vs : List Value) → Late k (part_does hier head m p n vs)
part_late hier head m (part.Field at) k n le vs = late k stuck
part_late hier head m (part.Method at) k n le vs = by_method (slice_get head.methods at) where
  by_method : (o : Option IfaceMethod) → Late k (found o (λ method. then_do (read_aliases hier method.aliases vs) (λ more. statements_do (kind_of_type method.result) m n (locals_of m (vs ++ more)))))
  by_method None = late k stuck
  by_method (Some method) = then_late k _ (late k (aliases_free hier method.aliases vs)) (λ j l more. statements_late (kind_of_type method.result) m j n (omega arith) (locals_of m (vs ++ more)))
part_late hier head m (part.Constructor at) k n le vs =
    then_late k (λ done. statements_do None m n (locals_of m vs)) (late k (super_free head m (locals_of m vs))) (λ j l done. statements_late None m j n (omega arith) (locals_of m vs))

pub member_deep : (hier : Hier) (head : Iface) (m : TypedMember) (k n : ℕ) → k ≤ n → (vs : List Value) → IsDeep k (member_does hier head m n vs)
member_deep hier head m k n le vs = (part_late hier head m m.part k n le vs).at
