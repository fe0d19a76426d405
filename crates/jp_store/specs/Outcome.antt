-- What an operation comes to.
use Rattle.std.specs.Prelude.{Option, Some, None}
use Rattle.jp_store.specs.declared.outcome.Outcome.{Outcome}
use Rattle.jp_store.specs.declared.outcome.Outcome.TheVariants.{Fine, Trap, Wrong}

-- an operation on what another one comes to
abbrev pub then_with : {A B : Type 0} → Outcome A → (A → Outcome B) → Outcome B
then_with (Fine a) go = go a
then_with (Trap kind) go = Trap kind
then_with Wrong go = Wrong

-- an operation on what is looked up
abbrev pub on_some : {A B : Type 0} → Option A → (A → Outcome B) → Outcome B
on_some None go = Wrong
on_some (Some a) go = go a
