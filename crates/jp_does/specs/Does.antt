-- What an evaluation does, whoever carries it out: it gives a value, or does something and goes on.
use Rattle.std.specs.Prelude.{ℤ, ℕ, List, Option, Some, None}
use Rattle.jp_store.specs.declared.value.Value.{Value}
use Rattle.jp_store.specs.declared.value.TrapKind.{TrapKind}
use Rattle.jp_store.specs.declared.outcome.Outcome.{Outcome}
use Rattle.jp_store.specs.declared.outcome.Outcome.TheVariants.{Fine, Trap, Wrong}
use Rattle.jp_store.specs.Work.{Op}

-- what an evaluation with calls of such a form does
pub data Does (C A : Type 0) : Type 0 where
  Gives : A → Does C A
  Traps : TrapKind → Does C A
  -- it spends a tick and goes on
  Ticks : Does C A → Does C A
  -- it writes a number in decimal, or a text's bytes
  Prints : ℤ → Does C A → Does C A
  Shows : List ℕ → Does C A → Does C A
  -- it takes the next byte of the input, or -1 at its end
  Reads : (ℤ → Does C A) → Does C A
  -- it does this to objects, arrays or static fields, and goes on with the answer
  Works : Op → (Value → Does C A) → Does C A
  Calls : C → (Value → Does C A) → Does C A
  -- as much is done as may be done
  Limit : Does C A
  -- a named thing isn't there, or a value is of another kind
  Stuck : Does C A

-- goes on with what is given
abbrev pub then_do : {C A B : Type 0} → Does C A → (A → Does C B) → Does C B
then_do (Gives a) go = go a
then_do (Traps kind) go = Traps kind
then_do (Ticks d) go = Ticks (then_do d go)
then_do (Prints n d) go = Prints n (then_do d go)
then_do (Shows text d) go = Shows text (then_do d go)
then_do (Reads d) go = Reads (λ n. then_do (d n) go)
then_do (Works op d) go = Works op (λ v. then_do (d v) go)
then_do (Calls call d) go = Calls call (λ v. then_do (d v) go)
then_do Limit go = Limit
then_do Stuck go = Stuck

-- goes on with what an operation comes to
abbrev pub do_of : {C A B : Type 0} → Outcome A → (A → Does C B) → Does C B
do_of (Fine a) go = go a
do_of (Trap kind) go = Traps kind
do_of Wrong go = Stuck

-- goes on with what is looked up
abbrev pub found : {C A B : Type 0} → Option A → (A → Does C B) → Does C B
found None go = Stuck
found (Some a) go = go a

-- does this to objects, arrays or static fields, and gives the answer
abbrev pub works : {C : Type 0} → Op → Does C Value
works op = Works op Gives
