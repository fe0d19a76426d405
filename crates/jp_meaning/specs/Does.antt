-- What is called, and what an evaluation with such calls does.
use Rattle.std.specs.Prelude.{ℕ, List, ◌∷◌}
use Rattle.jp_store.specs.declared.value.Value.{Value}
use Rattle.jp_store.specs.declared.value.Value.TheVariants.{Int, Long, Null, Ref, Text}
use Rattle.jp_store.specs.declared.value.TrapKind.TheVariants.{NullReference}
use Rattle.jp_store.specs.declared.outcome.Outcome.{Outcome}
use Rattle.jp_store.specs.declared.outcome.Outcome.TheVariants.{Fine, Trap, Wrong}
use Rattle.jp_store.specs.Outcome.{then_with}
use Rattle.jp_does.specs.Does.{Does as Doing, Gives, Calls, do_of}

-- a method as code names it
pub record Method : Type 0 where
  pub class : List ℕ
  pub name : List ℕ
  pub descriptor : List ℕ

-- what is called: a static method; a constructor; a family of a class or of an interface, by the receiver's class; or
-- a family of the direct superclass
pub data Target : Type 0 where
  StaticMethod : Method → Target
  Constructor : Method → Target
  OfClass : Method → Target
  OfInterface : Method → Target
  OfSuperclass : Method → Target

-- a call; the receiver, if there is one, stands first
pub record Call : Type 0 where
  pub target : Target
  pub args : List Value

-- what an evaluation does
abbrev pub Does : Type 0 → Type 0
Does A = Doing Call A

-- a receiver, which null can't be
abbrev pub receiver_of : Value → Outcome Value
receiver_of (Ref o) = Fine (Ref o)
receiver_of Null = Trap NullReference
receiver_of (Int n) = Wrong
receiver_of (Long n) = Wrong
receiver_of (Text t) = Wrong

-- a call on a receiver
abbrev pub call_on : Target → Value → List Value → Outcome Call
call_on target receiver args = then_with (receiver_of receiver) (λ o. Fine (record { target = target; args = o ∷ args }))

-- makes a call, and gives the answer
abbrev pub calls_on : Target → Value → List Value → Does Value
calls_on target receiver args = do_of (call_on target receiver args) (λ call. Calls call Gives)
