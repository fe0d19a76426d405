-- Values that take one place of the stack, and tests.
use Rattle.std.proofs.Common.{◌≡◌, zero, suc, Bool, true, false, not, ◌||◌, refl, sym, arith, rules}
use Rattle.std.specs.Prelude.{ℤ, pos, negsuc, Option, Some, None}
use Rattle.std.proofs.lemmas.Bool.{false≢true, true≢false}
use Rattle.jp_pred.specs.declared.ty.Ty.{Ty}
use Rattle.jp_pred.specs.declared.ty.Ty.TheVariants as ty
use Rattle.jp_store.specs.declared.value.Value.{Value}
use Rattle.jp_store.specs.declared.value.Value.TheVariants.{Int, Long, Null, Ref, Text}
use Rattle.jp_store.specs.declared.value.Kind.{Kind}
use Rattle.jp_store.specs.declared.value.Kind.TheVariants.{Number, LongNumber, Reference}
use Rattle.jp_store.specs.declared.operator.BinaryOp.{BinaryOp}
use Rattle.jp_store.specs.declared.operator.BinaryOp.TheVariants.{Add, Subtract, Multiply, Divide, Remainder, ShiftLeft, ShiftRight, ShiftRightUnsigned, And, Or, Xor}
use Rattle.jp_store.specs.declared.operator.Test.{Test}
use Rattle.jp_store.specs.declared.operator.Test.TheVariants.{Equal, NotEqual, Less, GreaterOrEqual, Greater, LessOrEqual}
use Rattle.jp_store.specs.Arith.{quotient_of, remainder_of, passes, on_numbers, divided, binary, negated, is_kind, width_of}
use Rattle.jp_meaning.specs.Descriptors.{kind_of_type}
use Rattle.jp_meaning.specs.Expressions.{is_true}
use Rattle.code_trace.proofs.Follow.{Gives_as}
use Rattle.gen_body.specs.Codes.{opposite}

-- it takes one place
abbrev pub IsNarrow : Value → Type 0
IsNarrow v = width_of v ≡ 1

-- a kind of which each value does
abbrev pub IsShort : Kind → Type 0
IsShort Number = Unit {0}
IsShort LongNumber = ⊥
IsShort Reference = Unit {0}

abbrev pub IsShortIf : Option Kind → Type 0
IsShortIf None = Unit {0}
IsShortIf (Some kind) = IsShort kind

pub of_short : (kind : Kind) → IsShort kind → (v : Value) → is_kind kind v ≡ true → IsNarrow v
of_short kind h (Int n) e = refl
of_short Number h (Long n) e = absurd (false≢true e)
of_short LongNumber h (Long n) e = absurd h
of_short Reference h (Long n) e = absurd (false≢true e)
of_short kind h Null e = refl
of_short kind h (Ref o) e = refl
of_short kind h (Text t) e = refl

pub types_short : (t : Ty) → IsShortIf (kind_of_type t)
types_short ty.Void = tt
types_short ty.Int = tt
types_short ty.Boolean = tt
types_short (ty.Class name) = tt
types_short ty.IntArray = tt
types_short ty.BooleanArray = tt
types_short (ty.ClassArray name) = tt

divided_narrow : (go : ℤ → ℤ → ℤ) (x y : ℤ) → Gives_as IsNarrow (divided go x y)
divided_narrow go x (pos zero) = tt
divided_narrow go x (pos (suc y)) = refl
divided_narrow go x (negsuc y) = refl

numbers_narrow : (op : BinaryOp) (x y : ℤ) → Gives_as IsNarrow (on_numbers op x y)
numbers_narrow Add x y = refl
numbers_narrow Subtract x y = refl
numbers_narrow Multiply x y = refl
numbers_narrow Divide x y = divided_narrow quotient_of x y
numbers_narrow Remainder x y = divided_narrow remainder_of x y
numbers_narrow ShiftLeft x y = refl
numbers_narrow ShiftRight x y = refl
numbers_narrow ShiftRightUnsigned x y = refl
numbers_narrow And x y = refl
numbers_narrow Or x y = refl
numbers_narrow Xor x y = refl

-- what an operator gives takes one place
pub binary_narrow : (op : BinaryOp) (x y : Value) → Gives_as IsNarrow (binary op x y)
binary_narrow op (Int x) (Int y) = numbers_narrow op x y
binary_narrow op (Int x) (Long y) = tt
binary_narrow op (Int x) Null = tt
binary_narrow op (Int x) (Ref y) = tt
binary_narrow op (Int x) (Text y) = tt
binary_narrow op (Long x) y = tt
binary_narrow op Null y = tt
binary_narrow op (Ref x) y = tt
binary_narrow op (Text x) y = tt

pub negated_narrow : (x : Value) → Gives_as IsNarrow (negated x)
negated_narrow (Int x) = refl
negated_narrow (Long x) = tt
negated_narrow Null = tt
negated_narrow (Ref x) = tt
negated_narrow (Text x) = tt

-- a number isn't 0 where it is true
pub not_zero : (n : ℤ) → passes NotEqual n (pos 0) ≡ is_true n
not_zero (pos zero) = refl
not_zero (pos (suc n)) = search (rules, arith)
not_zero (negsuc n) = search (rules, arith)

pub is_zero : (n : ℤ) → passes Equal n (pos 0) ≡ not (is_true n)
is_zero (pos zero) = refl
is_zero (pos (suc n)) = search (rules, arith)
is_zero (negsuc n) = search (rules, arith)

twice : (b : Bool) → not (not b) ≡ b
twice true = refl
twice false = refl

-- one test passes where the opposite doesn't
pub opposite_passes : (test : Test) (x y : ℤ) → passes (opposite test) x y ≡ not (passes test x y)
opposite_passes Equal x y = refl
opposite_passes NotEqual x y = sym (twice _)
opposite_passes Less x y = refl
opposite_passes GreaterOrEqual x y = sym (twice _)
opposite_passes Greater x y = refl
opposite_passes LessOrEqual x y = sym (twice _)

pub neither : (a b : Bool) → (a || b) ≡ false → (a ≡ false) × (b ≡ false)
neither true b e = absurd (true≢false e)
neither false b e = (refl, e)
