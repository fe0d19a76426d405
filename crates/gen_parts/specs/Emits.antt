-- What the writer of members has written.
use Rattle.std.specs.Prelude.{ℕ, ◌+◌, max, List, [], ◌∷◌, ◌++◌, Bool, true, false, Option, Some, None, ◌≡◌, map}
use Rattle.jp_pred.specs.declared.ty.Ty.{Ty}
use Rattle.jp_store.specs.declared.operator.Test.{Test}
use Rattle.jp_meaning.specs.declared.expr.TypedExpr.{TypedExpr, fold-TypedExpr}
use Rattle.jp_meaning.specs.declared.expr.TypedKind.{TypedKind-F}
use Rattle.jp_meaning.specs.declared.expr.TypedKind.TheOpen as form
use Rattle.jp_meaning.specs.Signs.{Prefix, Plus, Minus, Not, Complement, Infix, Operates, Compares, AndThen, OrElse, prefix_of, infix_of}
use Rattle.jvm_table.specs.declared.instr.Instr.TheVariants.{PushNull, PopTop}
use Rattle.jvm_table.specs.declared.instr.Jump.{Jump}
use Rattle.jvm_table.specs.declared.instr.Jump.TheVariants.{Always}
use Rattle.code_asm.specs.Items.{Item, Plain, Branch, Mark}
use Rattle.code_asm.specs.Lines.{lines_of}
use Rattle.gen_body.specs.Codes.{Codes, Coded, Row, row_codes, Literal, Zero, Nil, Anything, jump_by_zero, jump_by_null}
use Rattle.gen_body.specs.Statements.{Part}
use Rattle.gen_code.specs.declared.body.Body.{Body}
use Rattle.gen_code.specs.Emitted.{code_of, Shape, shape_of}

-- A part was written: its lines stand behind those before, its labels are taken, and the places that it needs were answered
pub record Puts (old new : Body) (places : ℕ) (part : Part) : Type 0 where
  pub lines : new.lines.items ≡ old.lines.items ++ lines_of part.items
  pub labels : new.labels ≡ part.next
  pub need : places ≡ part.need

-- items were written, without a label
pub record Adds (old new : Body) (items : List Item) : Type 0 where
  pub lines : new.lines.items ≡ old.lines.items ++ lines_of items
  pub labels : new.labels ≡ old.labels

-- the code of an expression without what stands for a value that it hasn't
abbrev pub core_of : Bool → Codes → List Item
core_of true c = c.done
core_of false c = c.value

-- what stands for a value that an expression hasn't, and what drops one that it has
abbrev pub null_for : Bool → List Item
null_for true = Plain PushNull ∷ []
null_for false = []

abbrev pub drop_for : Bool → List Item
drop_for true = []
drop_for false = Plain PopTop ∷ []

abbrev pub core_step : Coded → Shape → ℕ → Part
core_step c s n = let d = c.codes n in record { items = core_of s.void d; next = d.next; need = d.need }

-- an expression's code, by what is wanted of it: the value alone if it has one, a value, nothing, a jump
abbrev pub core_part : TypedExpr → ℕ → Part
core_part e n = core_step (code_of e) (shape_of e) n

abbrev pub value_step : Codes → Part
value_step c = record { items = c.value; next = c.next; need = c.need }

abbrev pub value_part : TypedExpr → ℕ → Part
value_part e n = value_step ((code_of e).codes n)

abbrev pub done_part : TypedExpr → ℕ → Part
done_part e n = let c = (code_of e).codes n in record { items = c.done; next = c.next; need = c.need }

abbrev pub test_step : Codes → Bool → ℕ → Part
test_step c want to = record { items = c.test want to; next = c.next; need = c.need }

abbrev pub test_part : TypedExpr → Bool → ℕ → ℕ → Part
test_part e want to n = test_step ((code_of e).codes n) want to

-- the code of expressions, one after the other
abbrev pub row_step : Row → Part
row_step r = record { items = r.items; next = r.next; need = r.need }

abbrev pub all_part : List TypedExpr → ℕ → Part
all_part es n = row_step (row_codes (map code_of es) n)

-- whether an operator is a condition, whose value is made by its test
abbrev pub judges_prefix : Option Prefix → Bool
judges_prefix None = false
judges_prefix (Some Plus) = false
judges_prefix (Some Minus) = false
judges_prefix (Some Not) = true
judges_prefix (Some Complement) = false

abbrev pub judges_infix : Option Infix → Bool
judges_infix None = false
judges_infix (Some (Operates op)) = false
judges_infix (Some (Compares test)) = true
judges_infix (Some AndThen) = true
judges_infix (Some OrElse) = true

abbrev pub judges_step : TypedKind-F (Ty → Bool) Bool → Ty → Bool
judges_step (form.Unary sign right) t = judges_prefix (prefix_of sign)
judges_step (form.Binary sign left right) t = judges_infix (infix_of sign)
judges_step _ t = false

-- whether an expression is a condition with an operator
unfoldable pub judges : TypedExpr → Bool
judges = fold-TypedExpr (Ty → Bool) Bool judges_step (λ e. e.kind e.ty)

-- whether a comparison is one with 0 or null, which has an instruction of its own, and that instruction's jump
abbrev pub is_alone : Bool → Literal → Bool
is_alone false Zero = true
is_alone true Nil = true
is_alone true Zero = false
is_alone true Anything = false
is_alone false Nil = false
is_alone false Anything = false

abbrev pub jump_alone : Bool → Test → Bool → Jump
jump_alone true test want = jump_by_null test want
jump_alone false test want = jump_by_zero test want

-- THE FORMS OF PARTS

-- items alone, of which one pushes a value
abbrev pub leaf_part : List Item → ℕ → Part
leaf_part xs n = record { items = xs; next = n; need = 1 }

-- a value, and items behind it
abbrev pub one_part : TypedExpr → List Item → ℕ → Part
one_part y xs n = let c = value_part y n in record { items = c.items ++ xs; next = c.next; need = c.need }

-- values, and items behind them
abbrev pub row_part : List TypedExpr → List Item → ℕ → Part
row_part ys xs n = let r = all_part ys n in record { items = r.items ++ xs; next = r.next; need = r.need }

-- values between items, of which the first push so many others
abbrev pub between_part : List Item → ℕ → List TypedExpr → List Item → ℕ → Part
between_part front below ys xs n = let r = all_part ys n in record { items = front ++ (r.items ++ xs); next = r.next; need = below + r.need }

-- the same with so many places at least
abbrev pub at_least : ℕ → Part → Part
at_least places part = record { items = part.items; next = part.next; need = max part.need places }

-- What stands behind a part that needs so many places, with its labels from a number on. Its need is that of both
abbrev pub Tail : Type 0
Tail = ℕ → ℕ → Part

abbrev pub chained : Part → Tail → Part
chained one tail = let behind = tail one.need one.next in record { items = one.items ++ behind.items; next = behind.next; need = behind.need }

-- a second value, and items behind it
abbrev pub second_part : TypedExpr → List Item → Tail
second_part z xs first n = let d = value_part z n in record { items = d.items ++ xs; next = d.next; need = max first (1 + d.need) }

-- the arguments of a receiver, and items behind them
abbrev pub received_part : List TypedExpr → List Item → Tail
received_part ys xs first n = let r = all_part ys n in record { items = r.items ++ xs; next = r.next; need = max (max first (1 + r.need)) 1 }

-- the second of two values, where the test goes to a label where it is false
abbrev pub otherwise_part : TypedExpr → ℕ → ℕ → Tail
otherwise_part z label tested first n =
    let f = value_part z n in record { items = Branch Always (label + 1) ∷ Mark label ∷ (f.items ++ Mark (label + 1) ∷ []); next = f.next; need = max tested (max first f.need) }

-- where the first of two tests goes, if it is as decides both: to where both go, if that is wanted, and else over the second
abbrev pub first_goes : Bool → Bool → ℕ → ℕ → ℕ
first_goes true true to skip = to
first_goes false false to skip = to
first_goes true false to skip = skip
first_goes false true to skip = skip

abbrev pub skipped : Bool → Bool → ℕ → List Item
skipped true true skip = []
skipped false false skip = []
skipped true false skip = Mark skip ∷ []
skipped false true skip = Mark skip ∷ []

-- the second of two tests
abbrev pub other_part : TypedExpr → Bool → Bool → ℕ → ℕ → Tail
other_part z decides want to skip first n =
    let d = test_part z want to n in record { items = d.items ++ skipped decides want skip; next = d.next; need = max (max first d.need) 1 }

-- items were written, without a label, and so many places were answered
pub record Ends (old new : Body) (items : List Item) (places wanted : ℕ) : Type 0 where
  pub lines : new.lines.items ≡ old.lines.items ++ lines_of items
  pub labels : new.labels ≡ old.labels
  pub need : places ≡ wanted
