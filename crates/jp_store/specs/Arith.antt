-- Whole numbers of 32 and 64 bits, and operations on values (JVM specification, second edition, chapter 6).
use Rattle.std.specs.Prelude.{ℕ, zero, suc, ℤ, pos, negsuc, ◌+ℤ◌, ◌-ℤ◌, ◌*ℤ◌, ◌&&◌, neg_ℤ, ◌/◌, ◌%◌, ◌^◌, Bool, true, false, not, int_lt, int_rem, nat_eq, if◌then◌else◌}
use Rattle.std.specs.Int.{w32, w64, int_wrap, int_wrapping_div, int_shl, int_shr, cast_unsigned, cast_signed, int_bit_and, int_bit_or, int_bit_xor}
use Rattle.jp_store.specs.declared.value.Value.{Value}
use Rattle.jp_store.specs.declared.value.Value.TheVariants.{Int, Long, Null, Ref, Text}
use Rattle.jp_store.specs.declared.value.TrapKind.TheVariants.{DivideByZero}
use Rattle.jp_store.specs.declared.value.Kind.{Kind}
use Rattle.jp_store.specs.declared.value.Kind.TheVariants.{Number, LongNumber, Reference}
use Rattle.jp_store.specs.declared.outcome.Outcome.{Outcome}
use Rattle.jp_store.specs.declared.outcome.Outcome.TheVariants.{Fine, Trap, Wrong}
use Rattle.jp_store.specs.declared.operator.BinaryOp.{BinaryOp}
use Rattle.jp_store.specs.declared.operator.BinaryOp.TheVariants.{Add, Subtract, Multiply, Divide, Remainder, ShiftLeft, ShiftRight, ShiftRightUnsigned, And, Or, Xor}
use Rattle.jp_store.specs.declared.operator.Test.{Test}
use Rattle.jp_store.specs.declared.operator.Test.TheVariants.{Equal, NotEqual, Less, GreaterOrEqual, Greater, LessOrEqual}

abbrev pub sum_of : ℤ → ℤ → ℤ
sum_of x y = int_wrap w32 (x +ℤ y)

abbrev pub difference_of : ℤ → ℤ → ℤ
difference_of x y = int_wrap w32 (x -ℤ y)

abbrev pub product_of : ℤ → ℤ → ℤ
product_of x y = int_wrap w32 (x *ℤ y)

-- towards zero; the least number divided by -1 is itself
abbrev pub quotient_of : ℤ → ℤ → ℤ
quotient_of x y = int_wrapping_div w32 x y

abbrev pub remainder_of : ℤ → ℤ → ℤ
remainder_of x y = int_wrap w32 (int_rem x y)

abbrev pub negation_of : ℤ → ℤ
negation_of x = int_wrap w32 (neg_ℤ x)

-- a distance counts by its low five bits
abbrev pub distance_of : ℤ → ℕ
distance_of y = cast_unsigned w32 y % 32

abbrev pub shifted_left : ℤ → ℤ → ℤ
shifted_left x y = int_shl w32 x (distance_of y)

abbrev pub shifted_right : ℤ → ℤ → ℤ
shifted_right x y = int_shr x (distance_of y)

-- with zeros from the left
abbrev pub shifted_right_unsigned : ℤ → ℤ → ℤ
shifted_right_unsigned x y = cast_signed w32 (cast_unsigned w32 x / 2 ^ distance_of y)

abbrev pub long_sum_of : ℤ → ℤ → ℤ
long_sum_of x y = int_wrap w64 (x +ℤ y)

abbrev pub long_product_of : ℤ → ℤ → ℤ
long_product_of x y = int_wrap w64 (x *ℤ y)

-- -1, 0 or 1, as x is less than y, equal or greater
abbrev pub order_of : ℤ → ℤ → ℤ
order_of x y = if int_lt x y then negsuc 0 else (if int_lt y x then pos 1 else pos 0)

-- whether two numbers pass a test
abbrev pub passes : Test → ℤ → ℤ → Bool
passes Equal x y = not (int_lt x y) && not (int_lt y x)
passes NotEqual x y = not (not (int_lt x y) && not (int_lt y x))
passes Less x y = int_lt x y
passes GreaterOrEqual x y = not (int_lt x y)
passes Greater x y = int_lt y x
passes LessOrEqual x y = not (int_lt y x)

-- an operation on two ints
abbrev pub on_ints : {A : Type 0} → (ℤ → ℤ → Outcome A) → Value → Value → Outcome A
on_ints go (Int x) (Int y) = go x y
on_ints go (Int x) (Long y) = Wrong
on_ints go (Int x) Null = Wrong
on_ints go (Int x) (Ref y) = Wrong
on_ints go (Int x) (Text y) = Wrong
on_ints go (Long x) y = Wrong
on_ints go Null y = Wrong
on_ints go (Ref x) y = Wrong
on_ints go (Text x) y = Wrong

-- an operation on two longs
abbrev pub on_longs : {A : Type 0} → (ℤ → ℤ → Outcome A) → Value → Value → Outcome A
on_longs go (Long x) (Long y) = go x y
on_longs go (Long x) (Int y) = Wrong
on_longs go (Long x) Null = Wrong
on_longs go (Long x) (Ref y) = Wrong
on_longs go (Long x) (Text y) = Wrong
on_longs go (Int x) y = Wrong
on_longs go Null y = Wrong
on_longs go (Ref x) y = Wrong
on_longs go (Text x) y = Wrong

-- an operation on an int
abbrev pub on_int : {A : Type 0} → (ℤ → Outcome A) → Value → Outcome A
on_int go (Int x) = go x
on_int go (Long x) = Wrong
on_int go Null = Wrong
on_int go (Ref x) = Wrong
on_int go (Text x) = Wrong

-- by a divisor that is not 0
abbrev pub divided : (ℤ → ℤ → ℤ) → ℤ → ℤ → Outcome Value
divided go x (pos zero) = Trap DivideByZero
divided go x (pos (suc y)) = Fine (Int (go x (pos (suc y))))
divided go x (negsuc y) = Fine (Int (go x (negsuc y)))

-- an operator on two numbers
abbrev pub on_numbers : BinaryOp → ℤ → ℤ → Outcome Value
on_numbers Add x y = Fine (Int (sum_of x y))
on_numbers Subtract x y = Fine (Int (difference_of x y))
on_numbers Multiply x y = Fine (Int (product_of x y))
on_numbers Divide x y = divided quotient_of x y
on_numbers Remainder x y = divided remainder_of x y
on_numbers ShiftLeft x y = Fine (Int (shifted_left x y))
on_numbers ShiftRight x y = Fine (Int (shifted_right x y))
on_numbers ShiftRightUnsigned x y = Fine (Int (shifted_right_unsigned x y))
on_numbers And x y = Fine (Int (int_bit_and w32 x y))
on_numbers Or x y = Fine (Int (int_bit_or w32 x y))
on_numbers Xor x y = Fine (Int (int_bit_xor w32 x y))

-- an operator on two ints
abbrev pub binary : BinaryOp → Value → Value → Outcome Value
binary op = on_ints (on_numbers op)

-- an int with the other sign
abbrev pub negated : Value → Outcome Value
negated = on_int (λ x. Fine (Int (negation_of x)))

-- an int as a long
abbrev pub widened : Value → Outcome Value
widened = on_int (λ x. Fine (Long x))

abbrev pub long_sums : Value → Value → Outcome Value
long_sums = on_longs (λ x y. Fine (Long (long_sum_of x y)))

abbrev pub long_products : Value → Value → Outcome Value
long_products = on_longs (λ x y. Fine (Long (long_product_of x y)))

-- how two longs compare, as an int
abbrev pub long_orders : Value → Value → Outcome Value
long_orders = on_longs (λ x y. Fine (Int (order_of x y)))

-- whether two ints pass a test
abbrev pub compares : Test → Value → Value → Outcome Bool
compares test = on_ints (λ x y. Fine (passes test x y))

-- whether two references are the same
abbrev pub sames : Value → Value → Outcome Bool
sames Null Null = Fine true
sames Null (Ref y) = Fine false
sames Null (Int y) = Wrong
sames Null (Long y) = Wrong
sames Null (Text y) = Wrong
sames (Ref x) Null = Fine false
sames (Ref x) (Ref y) = Fine (nat_eq x y)
sames (Ref x) (Int y) = Wrong
sames (Ref x) (Long y) = Wrong
sames (Ref x) (Text y) = Wrong
sames (Int x) y = Wrong
sames (Long x) y = Wrong
sames (Text x) y = Wrong

-- a boolean is the int 0 or 1
abbrev pub of_truth : Bool → Value
of_truth true = Int (pos 1)
of_truth false = Int (pos 0)

-- whether a value is of a kind; a literal text is of none
abbrev pub is_kind : Kind → Value → Bool
is_kind Number (Int n) = true
is_kind Number (Long n) = false
is_kind Number Null = false
is_kind Number (Ref o) = false
is_kind Number (Text t) = false
is_kind LongNumber (Int n) = false
is_kind LongNumber (Long n) = true
is_kind LongNumber Null = false
is_kind LongNumber (Ref o) = false
is_kind LongNumber (Text t) = false
is_kind Reference (Int n) = false
is_kind Reference (Long n) = false
is_kind Reference Null = true
is_kind Reference (Ref o) = true
is_kind Reference (Text t) = false

-- what a variable of a kind starts as
abbrev pub default_of : Kind → Value
default_of Number = Int (pos 0)
default_of LongNumber = Long (pos 0)
default_of Reference = Null

-- how many places of a stack a value takes
abbrev pub width_of : Value → ℕ
width_of (Int n) = 1
width_of (Long n) = 2
width_of Null = 1
width_of (Ref o) = 1
width_of (Text t) = 1
