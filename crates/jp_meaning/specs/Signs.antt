-- The signs of operators, by their numbers in the list of signs.
use Rattle.std.specs.Prelude.{ℕ, ◌==◌, List, [], ◌∷◌, Option, Some, None, if◌then◌else◌}
use Rattle.jp_store.specs.declared.operator.BinaryOp.{BinaryOp}
use Rattle.jp_store.specs.declared.operator.BinaryOp.TheVariants.{Add, Subtract, Multiply, Divide, Remainder, ShiftLeft, ShiftRight, ShiftRightUnsigned, And, Or, Xor}
use Rattle.jp_store.specs.declared.operator.Test.{Test}
use Rattle.jp_store.specs.declared.operator.Test.TheVariants.{Equal, NotEqual, Less, GreaterOrEqual, Greater, LessOrEqual}

-- an operator in front of its operand
pub data Prefix : Type 0 where
  Plus : Prefix
  Minus : Prefix
  Not : Prefix
  Complement : Prefix

-- an operator between its operands: one with an int or a boolean as its result, a comparison, or one that evaluates
-- its right operand only where the left one doesn't decide
pub data Infix : Type 0 where
  Operates : BinaryOp → Infix
  Compares : Test → Infix
  AndThen : Infix
  OrElse : Infix

-- how `=`, `+=` or `-=` changes a variable
pub data Change : Type 0 where
  Becomes : Change
  Changes : BinaryOp → Change

-- what stands beside a number in a list
abbrev pub beside : {A : Type 0} → ℕ → List (ℕ × A) → Option A
beside n [] = None
beside n (entry ∷ more) = if entry.0 == n then Some entry.1 else beside n more

-- `! ~ + -`
abbrev pub prefix_of : ℕ → Option Prefix
prefix_of sign = beside sign ((12, Not) ∷ (13, Complement) ∷ (16, Plus) ∷ (17, Minus) ∷ [])

-- `+ - * / % & | ^ << >> >>>`, `< > == != <= >=`, `&& ||`
abbrev pub infix_of : ℕ → Option Infix
infix_of sign = beside sign (
    (16, Operates Add) ∷ (17, Operates Subtract) ∷ (18, Operates Multiply) ∷ (19, Operates Divide) ∷ (20, Operates Remainder) ∷
    (21, Operates And) ∷ (22, Operates Or) ∷ (23, Operates Xor) ∷
    (31, Operates ShiftLeft) ∷ (32, Operates ShiftRight) ∷ (33, Operates ShiftRightUnsigned) ∷
    (10, Compares Less) ∷ (11, Compares Greater) ∷ (25, Compares Equal) ∷ (26, Compares NotEqual) ∷ (27, Compares LessOrEqual) ∷
    (28, Compares GreaterOrEqual) ∷ (29, AndThen) ∷ (30, OrElse) ∷ [])

-- `= += -=`
abbrev pub change_of : ℕ → Option Change
change_of sign = beside sign ((9, Becomes) ∷ (34, Changes Add) ∷ (35, Changes Subtract) ∷ [])
