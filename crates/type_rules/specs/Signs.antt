-- What the signs of operators take and give.
use Rattle.std.specs.Prelude.{ℕ, List, [], ◌∷◌, Bool, ◌==◌, true, false, if◌then◌else◌}
use Rattle.std.specs.List.{list_any}
use Rattle.jp_pred.specs.declared.ty.Ty.{Ty}
use Rattle.jp_pred.specs.declared.ty.Ty.TheVariants as ty
use Rattle.jp_ast.specs.declared.sign.TheConstants as sign
use Rattle.type_rules.specs.Types.{is_unknown}

-- The groups of signs between two operands: those that take and give ints; comparisons by size; `& | ^`; `&& ||`; `== !=`
pub data Group : Type 0 where
  Arithmetic : Group
  Order : Group
  Bits : Group
  Logic : Group
  Equality : Group

abbrev pub is_one_of : List ℕ → ℕ → Bool
is_one_of signs n = list_any (λ m. m == n) signs

-- `< > <= >=`, `& | ^`, `&& ||`, `== !=`, and else one of `+ - * / % << >> >>>`
abbrev pub group_of : ℕ → Group
group_of n =
    if is_one_of (sign.LESS ∷ sign.GREATER ∷ sign.AT_MOST ∷ sign.AT_LEAST ∷ []) n then Order
    else if is_one_of (sign.BIT_AND ∷ sign.BIT_OR ∷ sign.BIT_XOR ∷ []) n then Bits
    else if is_one_of (sign.AND ∷ sign.OR ∷ []) n then Logic
    else if is_one_of (sign.EQUAL ∷ sign.NOT_EQUAL ∷ []) n then Equality
    else Arithmetic

abbrev pub takes_ints : Group → Bool
takes_ints Arithmetic = true
takes_ints Order = true
takes_ints Bits = false
takes_ints Logic = false
takes_ints Equality = false

abbrev pub is_bits : Group → Bool
is_bits Bits = true
is_bits _ = false

abbrev pub is_logic : Group → Bool
is_logic Logic = true
is_logic _ = false

abbrev pub is_equality : Group → Bool
is_equality Equality = true
is_equality _ = false

-- the type of the whole, by those of the operands; of bits none is known where one of theirs isn't
abbrev pub result_of : Group → Ty → Ty → Ty
result_of Arithmetic t u = ty.Int
result_of Order t u = ty.Boolean
result_of Bits t u = if is_unknown u then ty.Void else t
result_of Logic t u = ty.Boolean
result_of Equality t u = ty.Boolean
