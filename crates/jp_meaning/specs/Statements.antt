-- What a statement does, and how it leaves.
use Rattle.std.specs.Prelude.{ℕ, zero, suc, pos, List, [], ◌∷◌, true, Option, Some, None, slice_get, slice_set, cond, map}
use Rattle.jp_pred.specs.declared.ty.Ty.{Ty}
use Rattle.jp_store.specs.declared.value.Value.{Value}
use Rattle.jp_store.specs.declared.value.Value.TheVariants.{Int}
use Rattle.jp_store.specs.declared.value.Kind.{Kind}
use Rattle.jp_store.specs.declared.operator.BinaryOp.{BinaryOp}
use Rattle.jp_store.specs.declared.operator.BinaryOp.TheVariants.{Add, Subtract}
use Rattle.jp_store.specs.Arith.{binary, default_of, of_truth}
use Rattle.jp_store.specs.Work.{GetField, PutField, GetStatic, PutStatic, GetElem, PutElem}
use Rattle.jp_meaning.specs.declared.expr.TypedExpr.{TypedExpr}
use Rattle.jp_meaning.specs.declared.stmt.TypedStmt.{TypedStmt, fold-TypedStmt}
use Rattle.jp_meaning.specs.declared.stmt.TypedStmtKind.{TypedStmtKind-F}
use Rattle.jp_meaning.specs.declared.stmt.TypedStmtKind.TheOpen as form
use Rattle.jp_does.specs.Does.{Gives, Ticks, Works, Limit, then_do, do_of, found}
use Rattle.jp_meaning.specs.Does.{Does}
use Rattle.jp_meaning.specs.Descriptors.{kind_of_type}
use Rattle.jp_meaning.specs.Signs.{Change, Becomes, Changes, change_of}
use Rattle.jp_meaning.specs.Expressions.{Locals, of_kind, typed, by_truth, local_value, Spot, Slot, FieldOf, StaticAt, ElementOf, Meant, meant, value_of}

-- how a statement leaves: it goes on with these locals, here or at the end or the next turn of the nearest loop, or the
-- method returns
pub data Left : Type 0 where
  Goes : Locals → Left
  Breaks : Locals → Left
  Continues : Locals → Left
  Returned : Option Value → Left

-- goes on after a statement
abbrev pub go_on : (Locals → Does Left) → Left → Does Left
go_on next (Goes env) = next env
go_on next (Breaks env) = Gives (Breaks env)
go_on next (Continues env) = Gives (Continues env)
go_on next (Returned v) = Gives (Returned v)

-- goes on after a loop's body
abbrev pub around : (Locals → Does Left) → Left → Does Left
around next (Goes env) = next env
around next (Breaks env) = Gives (Goes env)
around next (Continues env) = next env
around next (Returned v) = Gives (Returned v)

-- nothing
abbrev pub skip : Locals → Does Left
skip env = Gives (Goes env)

-- At most n turns of a loop: a test and, where it was true, a tick, the body and the change. Without turns left it is at
-- its limit before the test
abbrev pub turns : ℕ → (Locals → Does Value) → (Locals → Does Left) → (Locals → Does Left) → Locals → Does Left
turns zero test change body env = Limit
turns (suc n) test change body env =
    by_truth (test env) (Ticks (then_do (body env) (around (λ after. then_do (change after) (go_on (turns n test change body)))))) (skip env)

-- one statement after the other
abbrev pub in_order : List (ℕ → Locals → Does Left) → ℕ → Locals → Does Left
in_order [] n env = skip env
in_order (s ∷ ss) n env = then_do (s n env) (go_on (in_order ss n))

-- a statement that may be left out
abbrev pub or_skip : Option (ℕ → Locals → Does Left) → ℕ → Locals → Does Left
or_skip None n env = skip env
or_skip (Some s) n env = s n env

-- a loop's test, which is true where it is left out
abbrev pub test_of : Option TypedExpr → Locals → Does Value
test_of None env = Gives (of_truth true)
test_of (Some test) env = value_of test env

-- a local holds a value of its kind from here on
abbrev pub put_local : ℕ → Kind → Value → Locals → Does Left
put_local slot kind v env = do_of (of_kind kind v) (λ w. found (slice_get env slot) (λ old. Gives (Goes (slice_set env slot (Some w)))))

-- the value so far of what is assigned to, which has the type
abbrev pub read_spot : Ty → Spot → Locals → Does Value
read_spot t (Slot slot kind) env = local_value slot kind env
read_spot t (FieldOf o key) env = Works (GetField o key) (typed t)
read_spot t (StaticAt key) env = Works (GetStatic key) (typed t)
read_spot t (ElementOf kind a i) env = Works (GetElem kind a i) (typed t)

-- its new value
abbrev pub put_spot : Spot → Value → Locals → Does Left
put_spot (Slot slot kind) v env = put_local slot kind v env
put_spot (FieldOf o key) v env = Works (PutField o key v) (λ done. skip env)
put_spot (StaticAt key) v env = Works (PutStatic key v) (λ done. skip env)
put_spot (ElementOf kind a i) v env = Works (PutElem kind a i v) (λ done. skip env)

-- `=`, `+=` or `-=`: the parts on the left, with a change what is there, the right side, and then the new value
abbrev pub assign : Change → Meant → Meant → Locals → Does Left
assign Becomes left right env = then_do (left.spot env) (λ spot. then_do (right.value env) (λ v. put_spot spot v env))
assign (Changes op) left right env =
    then_do (left.spot env) (λ spot. then_do (read_spot left.ty spot env) (λ x. then_do (right.value env) (λ y.
    do_of (binary op x y) (λ v. put_spot spot v env))))

-- `++` or `--`
abbrev pub bump : BinaryOp → Meant → Locals → Does Left
bump op left env =
    then_do (left.spot env) (λ spot. then_do (read_spot left.ty spot env) (λ x. do_of (binary op x (Int (pos 1))) (λ v. put_spot spot v env)))

-- a declared local holds its value, or that with which its type starts
abbrev pub declare : ℕ → Ty → Option TypedExpr → Locals → Does Left
declare slot t None env = found (kind_of_type t) (λ kind. put_local slot kind (default_of kind) env)
declare slot t (Some value) env = found (kind_of_type t) (λ kind. then_do (value_of value env) (λ v. put_local slot kind v env))

-- the method returns, with or without a value of its expression's kind
abbrev pub leave : Option TypedExpr → Locals → Does Left
leave None env = Gives (Returned None)
leave (Some value) env =
    then_do (value_of value env) (λ v. found (kind_of_type value.ty) (λ kind. do_of (of_kind kind v) (λ w. Gives (Returned (Some w)))))

-- what a statement of a form does, where each loop makes at most n turns
abbrev pub does_step : TypedStmtKind-F (ℕ → Locals → Does Left) (ℕ → Locals → Does Left) → ℕ → Locals → Does Left
does_step (form.Block block) n env = in_order block n env
does_step form.Empty n env = skip env
does_step (form.Local slot t value) n env = declare slot t value env
does_step (form.If test first second) n env = by_truth (value_of test env) (first n env) (or_skip second n env)
does_step (form.While test body) n env = turns n (value_of test) skip (body n) env
does_step (form.For init test change body) n env =
    then_do (or_skip init n env) (go_on (turns n (test_of test) (or_skip change n) (body n)))
does_step form.Break n env = Gives (Breaks env)
does_step form.Continue n env = Gives (Continues env)
does_step (form.Return value) n env = leave value env
does_step (form.Assign left sign right) n env = found (change_of sign) (λ change. assign change (meant left) (meant right) env)
does_step (form.Bump left up) n env = bump (cond up Add Subtract) (meant left) env
does_step (form.Run value) n env = then_do (value_of value env) (λ v. skip env)

-- what a statement does, where each loop makes at most n turns
abbrev pub does : TypedStmt → ℕ → Locals → Does Left
does = fold-TypedStmt (ℕ → Locals → Does Left) (ℕ → Locals → Does Left) does_step (λ s. s.kind)

-- what the statements of a block do
abbrev pub block_does : List TypedStmt → ℕ → Locals → Does Left
block_does block = in_order (map does block)
