-- The code of expressions.
use Rattle.std.specs.Prelude.{ℕ, ◌+◌, max, ℤ, pos, negsuc, List, [], ◌∷◌, ◌++◌, Bool, true, false, not, ◌&&◌, ◌==◌, Option, Some, None, cond, int_lt, codes}
use Rattle.std.specs.Int.{w32, int_wrap}
use Rattle.std.specs.List.{filter_map}
use Rattle.jp_pred.specs.declared.ty.Ty.{Ty}
use Rattle.jp_pred.specs.declared.ty.Ty.TheVariants as ty
use Rattle.jp_pred.specs.Names.{Word, object, same}
use Rattle.jp_pred.specs.Kinds.{is_reference}
use Rattle.jp_store.specs.declared.value.Kind.{Kind}
use Rattle.jp_store.specs.declared.value.Kind.TheVariants.{Reference}
use Rattle.jp_store.specs.declared.value.ElementKind.{ElementKind}
use Rattle.jp_store.specs.declared.operator.BinaryOp.TheVariants.{Xor}
use Rattle.jp_store.specs.declared.operator.Test.{Test}
use Rattle.jp_store.specs.declared.operator.Test.TheVariants.{Equal, NotEqual, Less, GreaterOrEqual, Greater, LessOrEqual}
use Rattle.jp_store.specs.Classes.{Key, object_name}
use Rattle.jp_store.specs.Work.{NamedElement, IntElements, BooleanElements, ClassElements}
use Rattle.jp_meaning.specs.declared.expr.TypedExpr.{TypedExpr, fold-TypedExpr}
use Rattle.jp_meaning.specs.declared.expr.TypedKind.{TypedKind-F}
use Rattle.jp_meaning.specs.declared.expr.TypedKind.TheOpen as form
use Rattle.jp_meaning.specs.Does.{Method}
use Rattle.jp_meaning.specs.Descriptors.{internal_name, method_of, constructor_of, key_of, kind_of_type, element_kind_of, elements_of}
use Rattle.jp_meaning.specs.Signs.{Prefix, Plus, Minus, Not, Complement, Infix, Operates, Compares, AndThen, OrElse, prefix_of, infix_of}
use Rattle.jvm_table.specs.declared.instr.Instr.TheVariants.{PushNull, PushInt, Load, LoadElement, MakeNumbers, MakeTruths, ArrayLength, PopTop, Dup, Binary, Negate}
use Rattle.jvm_table.specs.declared.instr.Jump.{Jump}
use Rattle.jvm_table.specs.declared.instr.Jump.TheVariants.{Always, IfZero, IfInts, IfSame, IfNull}
use Rattle.jvm_table.specs.declared.instr.ConstantUse.TheVariants.{PushConstant, GetStatic, GetField, InvokeVirtual, InvokeSpecial, InvokeStatic, MakeObject, MakeReferences, CheckCast, InstanceOf}
use Rattle.jvm_table.specs.Descriptors.{Signature}
use Rattle.code_trace.specs.Calls.{key_of_method}
use Rattle.code_asm.specs.Items.{Wanted, IntOf, TextOf, FieldOf, ClassOf, MethodOf, FamilyOf, BuiltIn, Item, Plain, Uses, CallsInterface, Branch, Mark}

-- An expression's code: what pushes its value; what goes to a label where a condition is as wanted, and else on; and
-- what leaves nothing. `next` is the first label that is free behind it, and `need` is how many places of the stack it
-- takes at most
pub record Codes : Type 0 where
  pub value : List Item
  pub test : Bool → ℕ → List Item
  pub done : List Item
  pub next : ℕ
  pub need : ℕ

-- a jump where an int on top is another than 0, or is 0
abbrev pub jump_where : Bool → Jump
jump_where true = IfZero NotEqual
jump_where false = IfZero Equal

-- the code of an expression with a value
abbrev pub plain : List Item → ℕ → ℕ → Codes
plain items need next = record {
  value = items;
  test = λ want label. items ++ Branch (jump_where want) label ∷ [];
  done = items ++ Plain PopTop ∷ [];
  next = next;
  need = need;
}

-- the code of an expression without a value
abbrev pub void : List Item → ℕ → ℕ → Codes
void items need next = record {
  value = items ++ Plain PushNull ∷ [];
  test = λ want label. (items ++ Plain PushNull ∷ []) ++ Branch (jump_where want) label ∷ [];
  done = items;
  next = next;
  need = max need 1;
}

-- 1 or 0, from a test on
abbrev pub choose_truth : ℕ → List Item
choose_truth n = Plain (PushInt (pos 1)) ∷ Branch Always (n + 1) ∷ Mark n ∷ Plain (PushInt (pos 0)) ∷ Mark (n + 1) ∷ []

-- the code of a condition, by its test, with two labels from n on
abbrev pub judged : (Bool → ℕ → List Item) → ℕ → ℕ → ℕ → Codes
judged test n need next = record {
  value = test false n ++ choose_truth n;
  test = test;
  done = (test false n ++ choose_truth n) ++ Plain PopTop ∷ [];
  next = next;
  need = max need 1;
}

-- the second test where the first is true, and else false
abbrev pub and_test : (Bool → ℕ → List Item) → (Bool → ℕ → List Item) → ℕ → Bool → ℕ → List Item
and_test first second skip true label = first false skip ++ (second true label ++ Mark skip ∷ [])
and_test first second skip false label = first false label ++ second false label

-- the second test where the first is false, and else true
abbrev pub or_test : (Bool → ℕ → List Item) → (Bool → ℕ → List Item) → ℕ → Bool → ℕ → List Item
or_test first second skip true label = first true label ++ second true label
or_test first second skip false label = first true skip ++ (second false label ++ Mark skip ∷ [])

-- one of two, by a test, with two labels from n on
abbrev pub choice : (Bool → ℕ → List Item) → List Item → List Item → ℕ → List Item
choice test first second n = test false n ++ (first ++ (Branch Always (n + 1) ∷ Mark n ∷ (second ++ Mark (n + 1) ∷ [])))

-- whether an int fits two bytes
abbrev pub is_short : ℤ → Bool
is_short n = not (int_lt n (negsuc 32767)) && int_lt n (pos 32768)

-- pushes an int
abbrev pub push_int : ℤ → Item
push_int n = cond (is_short n) (Plain (PushInt n)) (Uses PushConstant (IntOf n))

-- the test that passes where the other doesn't
abbrev pub opposite : Test → Test
opposite Equal = NotEqual
opposite NotEqual = Equal
opposite Less = GreaterOrEqual
opposite GreaterOrEqual = Less
opposite Greater = LessOrEqual
opposite LessOrEqual = Greater

abbrev pub is_equal : Test → Bool
is_equal Equal = true
is_equal NotEqual = false
is_equal Less = false
is_equal GreaterOrEqual = false
is_equal Greater = false
is_equal LessOrEqual = false

-- a jump where two references, or two ints, pass a test as is wanted
abbrev pub jump_by : Bool → Test → Bool → Jump
jump_by true test true = IfSame (is_equal test)
jump_by true test false = IfSame (not (is_equal test))
jump_by false test true = IfInts test
jump_by false test false = IfInts (opposite test)

-- a jump where an int passes a test against 0, or a reference one against null, as is wanted
abbrev pub jump_by_zero : Test → Bool → Jump
jump_by_zero test true = IfZero test
jump_by_zero test false = IfZero (opposite test)

abbrev pub jump_by_null : Test → Bool → Jump
jump_by_null test true = IfNull (is_equal test)
jump_by_null test false = IfNull (not (is_equal test))

-- the signature of a method
abbrev pub signature_for : List Ty → Ty → Signature
signature_for params result = record { parameters = filter_map kind_of_type params; result = kind_of_type result }

-- a static method or a constructor, and a family, as code names them
abbrev pub named : Method → List Ty → Ty → Wanted
named m params result = MethodOf (key_of_method m) (signature_for params result)

abbrev pub family : Method → List Ty → Ty → Wanted
family m params result = FamilyOf (key_of_method m) (signature_for params result)

-- calls a family of a class or of an interface
abbrev pub virtual_call : Bool → Method → List Ty → Ty → Item
virtual_call true m params result = CallsInterface (key_of_method m) (signature_for params result)
virtual_call false m params result = Uses InvokeVirtual (named m params result)

-- runs a constructor
abbrev pub construction : Word → List Ty → Item
construction class params =
    Uses InvokeSpecial (cond (same class object)
    (BuiltIn (record { class = object_name; name = codes "<init>"; descriptor = codes "()V" })) (named (constructor_of class params) params ty.Void))

-- a method of the class `Io`
abbrev pub io : List ℕ → List ℕ → Item
io name descriptor = Uses InvokeStatic (BuiltIn (record { class = codes "Io"; name = name; descriptor = descriptor }))

-- the code of a call, by what its result is
abbrev pub called : Option Kind → List Item → ℕ → ℕ → Codes
called (Some kind) items need next = plain items (max need 1) next
called None items need next = void items need next

-- makes an array of the elements
abbrev pub make_array : NamedElement → Item
make_array IntElements = Plain MakeNumbers
make_array BooleanElements = Plain MakeTruths
make_array (ClassElements name) = Uses MakeReferences (ClassOf name)

-- where a value is stored: in a local, a field of the object on the stack, a static field, or an element of the array
-- and the index on the stack
pub data Place : Type 0 where
  LocalAt : ℕ → Kind → Place
  FieldAt : Key → Place
  StaticAt : Key → Place
  ElementAt : ElementKind → Place
  Nowhere : Place

-- the code that pushes the parts of what is assigned to
pub record SpotCodes : Type 0 where
  pub items : List Item
  pub next : ℕ
  pub need : ℕ
  pub place : Place

-- what an expression is known to be: the number 0, null, or anything
pub data Literal : Type 0 where
  Zero : Literal
  Nil : Literal
  Anything : Literal

-- the code of an expression with its labels from a number on, and of the parts of one that is assigned to
pub record Coded : Type 0 where
  pub ty : Ty
  pub literal : Literal
  pub codes : ℕ → Codes
  pub spot : ℕ → SpotCodes

-- the code of expressions, one after the other
pub record Row : Type 0 where
  pub items : List Item
  pub next : ℕ
  pub need : ℕ

abbrev pub row_codes : List Coded → ℕ → Row
row_codes [] n = record { items = []; next = n; need = 0 }
row_codes (e ∷ es) n =
    let c = e.codes n in let r = row_codes es c.next in
    record { items = c.value ++ r.items; next = r.next; need = max c.need (1 + r.need) }

-- the code of an expression that means nothing
abbrev pub no_code : ℕ → Codes
no_code n = plain [] 0 n

-- the code of an operator in front of its operand
abbrev pub prefix_codes : Option Prefix → Coded → ℕ → Codes
prefix_codes None right n = no_code n
prefix_codes (Some Plus) right n = let c = right.codes n in plain c.value c.need c.next
prefix_codes (Some Minus) right n = let c = right.codes n in plain (c.value ++ Plain Negate ∷ []) c.need c.next
prefix_codes (Some Complement) right n =
    let c = right.codes n in plain (c.value ++ (Plain (PushInt (negsuc 0)) ∷ Plain (Binary Xor) ∷ [])) (max c.need 2) c.next
prefix_codes (Some Not) right n = let c = right.codes (n + 2) in judged (λ want label. c.test (not want) label) n c.need c.next

-- the code of a comparison of two operands, and of one with 0 or null
abbrev pub compare_both : Bool → Test → Coded → Coded → ℕ → Codes
compare_both references test left right n =
    let c = left.codes (n + 2) in let d = right.codes c.next in
    judged (λ want label. c.value ++ (d.value ++ Branch (jump_by references test want) label ∷ [])) n (max c.need (1 + d.need)) d.next

abbrev pub compare_codes : Bool → Literal → Test → Coded → Coded → ℕ → Codes
compare_codes false Zero test left right n =
    let c = left.codes (n + 2) in judged (λ want label. c.value ++ Branch (jump_by_zero test want) label ∷ []) n c.need c.next
compare_codes true Nil test left right n =
    let c = left.codes (n + 2) in judged (λ want label. c.value ++ Branch (jump_by_null test want) label ∷ []) n c.need c.next
compare_codes true Zero test left right n = compare_both true test left right n
compare_codes true Anything test left right n = compare_both true test left right n
compare_codes false Nil test left right n = compare_both false test left right n
compare_codes false Anything test left right n = compare_both false test left right n

-- the code of an operator between two operands
abbrev pub infix_codes : Option Infix → Coded → Coded → ℕ → Codes
infix_codes None left right n = no_code n
infix_codes (Some (Operates op)) left right n =
    let c = left.codes n in let d = right.codes c.next in
    plain (c.value ++ (d.value ++ Plain (Binary op) ∷ [])) (max c.need (1 + d.need)) d.next
infix_codes (Some (Compares test)) left right n = compare_codes (is_reference left.ty) right.literal test left right n
infix_codes (Some AndThen) left right n =
    let c = left.codes (n + 3) in let d = right.codes c.next in judged (and_test c.test d.test (n + 2)) n (max c.need d.need) d.next
infix_codes (Some OrElse) left right n =
    let c = left.codes (n + 3) in let d = right.codes c.next in judged (or_test c.test d.test (n + 2)) n (max c.need d.need) d.next

-- loads a local of a kind
abbrev pub local_codes : Option Kind → ℕ → ℕ → Codes
local_codes None slot n = no_code n
local_codes (Some kind) slot n = plain (Plain (Load kind slot) ∷ []) 1 n

-- makes an array of so many elements
abbrev pub array_codes : Option NamedElement → Codes → Codes
array_codes None size = plain size.value size.need size.next
array_codes (Some elements) size = plain (size.value ++ make_array elements ∷ []) size.need size.next

-- the code of an expression of a form and a type
abbrev pub codes_step : TypedKind-F (Ty → Coded) Coded → Ty → ℕ → Codes
codes_step (form.Number value hex) t n = plain (push_int (int_wrap w32 (pos value)) ∷ []) 1 n
codes_step (form.Truth value) t n = plain (Plain (PushInt (cond value (pos 1) (pos 0))) ∷ []) 1 n
codes_step form.Null t n = plain (Plain PushNull ∷ []) 1 n
codes_step form.This t n = plain (Plain (Load Reference 0) ∷ []) 1 n
codes_step (form.Local slot) t n = local_codes (kind_of_type t) slot n
codes_step (form.Unary sign right) t n = prefix_codes (prefix_of sign) right n
codes_step (form.Binary sign left right) t n = infix_codes (infix_of sign) left right n
codes_step (form.Cond test first second) t n =
    let c = test.codes (n + 2) in let d = first.codes c.next in let e = second.codes d.next in
    plain (choice c.test d.value e.value n) (max c.need (max d.need e.need)) e.next
codes_step (form.Cast class value) t n = let c = value.codes n in plain (c.value ++ Uses CheckCast (ClassOf (internal_name class)) ∷ []) c.need c.next
codes_step (form.InstanceOf value class) t n =
    let c = value.codes n in plain (c.value ++ Uses InstanceOf (ClassOf (internal_name class)) ∷ []) c.need c.next
codes_step (form.Field object class name) t n = let c = object.codes n in plain (c.value ++ Uses GetField (FieldOf (key_of class name t)) ∷ []) c.need c.next
codes_step (form.Static class name) t n = plain (Uses GetStatic (FieldOf (key_of class name t)) ∷ []) 1 n
codes_step (form.Length array) t n = let c = array.codes n in plain (c.value ++ Plain ArrayLength ∷ []) c.need c.next
codes_step (form.Index array index) t n =
    let c = array.codes n in let d = index.codes c.next in
    plain (c.value ++ (d.value ++ Plain (LoadElement (element_kind_of t)) ∷ [])) (max c.need (1 + d.need)) d.next
codes_step (form.CallVirtual object class is_interface name params args) t n =
    let c = object.codes n in let r = row_codes args c.next in
    called (kind_of_type t) (c.value ++ (r.items ++ virtual_call is_interface (method_of class name params t) params t ∷ [])) (max c.need (1 + r.need)) r.next
codes_step (form.CallStatic class name params args) t n =
    let r = row_codes args n in
    called (kind_of_type t) (r.items ++ Uses InvokeStatic (named (method_of class name params t) params t) ∷ []) r.need r.next
codes_step (form.CallSuper class name params args) t n =
    let r = row_codes args n in
    called (kind_of_type t) (Plain (Load Reference 0) ∷ (r.items ++ Uses InvokeSpecial (family (method_of class name params t) params t) ∷ [])) (1 + r.need) r.next
codes_step (form.New class params args) t n =
    let r = row_codes args n in
    plain (Uses MakeObject (ClassOf (internal_name class)) ∷ Plain Dup ∷ (r.items ++ construction class params ∷ [])) (2 + r.need) r.next
codes_step (form.NewArray elem size) t n = array_codes (elements_of elem) (size.codes n)
codes_step (form.Print value) t n = let c = value.codes n in void (c.value ++ io (codes "print") (codes "(I)V") ∷ []) c.need c.next
codes_step (form.Show text) t n = void (Uses PushConstant (TextOf text) ∷ io (codes "text") (codes "(Ljava/lang/String;)V") ∷ []) 1 n
codes_step form.Read t n = plain (io (codes "read") (codes "()I") ∷ []) 1 n

-- what can't be assigned to
abbrev pub no_spot : ℕ → SpotCodes
no_spot n = record { items = []; next = n; need = 0; place = Nowhere }

abbrev pub local_spot : Option Kind → ℕ → ℕ → SpotCodes
local_spot None slot n = no_spot n
local_spot (Some kind) slot n = record { items = []; next = n; need = 0; place = LocalAt slot kind }

-- the code of the parts of what is assigned to
abbrev pub spot_codes_step : TypedKind-F (Ty → Coded) Coded → Ty → ℕ → SpotCodes
spot_codes_step (form.Local slot) t n = local_spot (kind_of_type t) slot n
spot_codes_step (form.Field object class name) t n =
    let c = object.codes n in record { items = c.value; next = c.next; need = c.need; place = FieldAt (key_of class name t) }
spot_codes_step (form.Static class name) t n = record { items = []; next = n; need = 0; place = StaticAt (key_of class name t) }
spot_codes_step (form.Index array index) t n =
    let c = array.codes n in let d = index.codes c.next in
    record { items = c.value ++ d.value; next = d.next; need = max c.need (1 + d.need); place = ElementAt (element_kind_of t) }
spot_codes_step _ t n = no_spot n

-- what an expression of a form is known to be
abbrev pub literal_of : TypedKind-F (Ty → Coded) Coded → Literal
literal_of (form.Number value hex) = cond (value == 0) Zero Anything
literal_of form.Null = Nil
literal_of _ = Anything

-- an expression of a form and a type
abbrev pub coded_step : TypedKind-F (Ty → Coded) Coded → Ty → Coded
coded_step kind t = record { ty = t; literal = literal_of kind; codes = codes_step kind t; spot = spot_codes_step kind t }

-- the code of an expression
abbrev pub coded : TypedExpr → Coded
coded = fold-TypedExpr (Ty → Coded) Coded coded_step (λ e. e.kind e.ty)
