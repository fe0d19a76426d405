-- Signs and literals as the writer of code has them, and the code of expressions by a name that proofs can keep closed.
use Rattle.std.specs.Prelude.{ℕ, ◌∷◌, [], List, Bool, true, false, is_none, Option, Some, None, ◌≡◌, ◌++◌}
use Rattle.jp_pred.specs.declared.ty.Ty.{Ty}
use Rattle.jp_store.specs.declared.value.Kind.{Kind}
use Rattle.jp_store.specs.Work.{NamedElement}
use Rattle.jvm_table.specs.Descriptors.{width_of_kind}
use Rattle.jp_meaning.specs.declared.expr.TypedExpr.{TypedExpr, fold-TypedExpr}
use Rattle.jp_meaning.specs.declared.expr.TypedKind.{TypedKind-F}
use Rattle.jp_meaning.specs.declared.expr.TypedKind.TheOpen as form
use Rattle.jp_meaning.specs.Descriptors.{key_of, kind_of_type, element_kind_of}
use Rattle.jp_meaning.specs.Signs.{Prefix, Plus, Minus, Not, Complement, Infix, Operates, Compares, AndThen, OrElse, Change, Becomes, Changes}
use Rattle.jvm_table.specs.declared.instr.Instr.TheVariants.{Load, PushNull, PopTop}
use Rattle.code_asm.specs.Items.{Item, Plain, Branch}
use Rattle.gen_body.specs.Codes.{Codes, Place, LocalAt, FieldAt, StaticAt, ElementAt, Nowhere, Coded, Literal, Zero, Nil, Anything, make_array, coded, jump_where}
use Rattle.gen_code.specs.declared.signs.Prefix.{Prefix as PrefixSign}
use Rattle.gen_code.specs.declared.signs.Prefix.TheVariants as front
use Rattle.gen_code.specs.declared.signs.Infix.{Infix as InfixSign}
use Rattle.gen_code.specs.declared.signs.Infix.TheVariants as between
use Rattle.gen_code.specs.declared.signs.Change.{Change as ChangeSign}
use Rattle.gen_code.specs.declared.signs.Change.TheVariants as change
use Rattle.gen_code.specs.declared.literals.Literal.{Literal as KnownLiteral}
use Rattle.gen_code.specs.declared.literals.Literal.TheVariants as known

-- the signs in front of an operand
abbrev pub prefix_as : PrefixSign → Prefix
prefix_as front.Plus = Plus
prefix_as front.Minus = Minus
prefix_as front.Not = Not
prefix_as front.Complement = Complement

-- the signs between two operands
abbrev pub infix_as : InfixSign → Infix
infix_as (between.Operates op) = Operates op
infix_as (between.Compares test) = Compares test
infix_as between.AndThen = AndThen
infix_as between.OrElse = OrElse

-- the signs of an assignment
abbrev pub change_as : ChangeSign → Change
change_as change.Becomes = Becomes
change_as (change.Changes op) = Changes op

-- what an expression is known to be
abbrev pub literal_as : KnownLiteral → Literal
literal_as known.Zero = Zero
literal_as known.Nil = Nil
literal_as known.Anything = Anything

-- the code of an expression
unfoldable pub code_of : TypedExpr → Coded
code_of = coded

-- what the writer of code sees of an expression: whether it leaves nothing on the stack, as a call without a result or a
-- print does; whether it has an operator; and the place that is assigned to, if it is one
pub record Shape : Type 0 where
  pub void : Bool
  pub operates : Bool
  pub place : Place

-- a local of a kind
abbrev pub local_place : Option Kind → ℕ → Place
local_place None slot = Nowhere
local_place (Some kind) slot = LocalAt slot kind

-- an expression with a value, one that has one or none, and one that is assigned to
abbrev pub giving : Shape
giving = record { void = false; operates = false; place = Nowhere }

abbrev pub calling : Bool → Shape
calling void = record { void = void; operates = false; place = Nowhere }

abbrev pub operating : Shape
operating = record { void = false; operates = true; place = Nowhere }

abbrev pub assigned : Place → Shape
assigned place = record { void = false; operates = false; place = place }

-- the shape of an expression of a form and a type
abbrev pub shape_step : TypedKind-F (Ty → Shape) Shape → Ty → Shape
shape_step (form.Number value hex) t = giving
shape_step (form.Truth value) t = giving
shape_step form.Null t = giving
shape_step form.This t = giving
shape_step (form.Local slot) t = assigned (local_place (kind_of_type t) slot)
shape_step (form.Unary sign right) t = operating
shape_step (form.Binary sign left right) t = operating
shape_step (form.Cond test first second) t = giving
shape_step (form.Cast class value) t = giving
shape_step (form.InstanceOf value class) t = giving
shape_step (form.Field object class name) t = assigned (FieldAt (key_of class name t))
shape_step (form.Static class name) t = assigned (StaticAt (key_of class name t))
shape_step (form.Length array) t = giving
shape_step (form.Index array index) t = assigned (ElementAt (element_kind_of t))
shape_step (form.CallVirtual object class is_interface name params args) t = calling (is_none (kind_of_type t))
shape_step (form.CallStatic class name params args) t = calling (is_none (kind_of_type t))
shape_step (form.CallSuper class name params args) t = calling (is_none (kind_of_type t))
shape_step (form.New class params args) t = giving
shape_step (form.NewArray elem size) t = giving
shape_step (form.Print value) t = calling true
shape_step (form.Show text) t = calling true
shape_step form.Read t = giving

-- the shape of an expression
unfoldable pub shape_of : TypedExpr → Shape
shape_of = fold-TypedExpr (Ty → Shape) Shape shape_step (λ e. e.kind e.ty)

-- makes an array of the elements, if there are such
abbrev pub array_items : Option NamedElement → List Item
array_items None = []
array_items (Some elements) = make_array elements ∷ []

-- how many places a value takes, if it is one
abbrev pub places_for : Option Kind → ℕ
places_for None = 0
places_for (Some kind) = width_of_kind kind

-- the value of a root of paths, if it is of a kind
abbrev pub root_code : ℕ → Option Kind → List Item
root_code root None = []
root_code root (Some kind) = Plain (Load kind root) ∷ []

-- what drops a value stands behind what pushes it
abbrev pub IsFull : Codes → Type 0
IsFull c = c.done ≡ c.value ++ Plain PopTop ∷ []

-- what goes on by a value stands behind what pushes it
abbrev pub JumpsByValue : Codes → Type 0
JumpsByValue c = (want : Bool) (label : ℕ) → c.test want label ≡ c.value ++ Branch (jump_where want) label ∷ []

-- The code is of the shape: one that leaves nothing has null pushed where a value is wanted, any other is dropped where none
-- is; without an operator its test jumps by its value; and what is assigned to is its place
pub record HasShape (c : Coded) (s : Shape) : Type 0 where
  pub void : (n : ℕ) → s.void ≡ true → (c.codes n).value ≡ (c.codes n).done ++ Plain PushNull ∷ []
  pub full : (n : ℕ) → s.void ≡ false → IsFull (c.codes n)
  pub jumps : (n : ℕ) → s.operates ≡ false → JumpsByValue (c.codes n)
  pub place : (n : ℕ) → (c.spot n).place ≡ s.place

-- the code of an expression is of its shape
abbrev pub CodeHasItsShape : Type 0
CodeHasItsShape = (e : TypedExpr) → HasShape (code_of e) (shape_of e)
