-- What the shape of an expression says of its code.
use Rattle.std.proofs.Common.{◌≡◌, ℕ, List, [], ◌∷◌, ◌++◌, Bool, true, false, Option, Some, None, refl, sym, subst}
use Rattle.std.specs.Prelude.{is_none}
use Rattle.jp_pred.specs.declared.ty.Ty.{Ty}
use Rattle.jp_pred.specs.Kinds.{is_reference}
use Rattle.jp_store.specs.declared.value.Kind.{Kind}
use Rattle.jp_store.specs.declared.operator.Test.{Test}
use Rattle.jp_store.specs.Work.{NamedElement}
use Rattle.jp_meaning.specs.declared.expr.TypedExpr.{TypedExpr, fold-TypedExpr}
use Rattle.jp_meaning.specs.declared.expr.TypedKind.{TypedKind, TypedKind-F}
use Rattle.jp_meaning.specs.declared.expr.TypedKind.TheOpen as form
use Rattle.jp_meaning.specs.declared.expr.TypedKind.TheFolds.{ind-TypedExpr, fold-TypedKind, fold-roll-TypedExpr, fold-roll-TypedKind, map-TypedKind}
use Rattle.jp_meaning.specs.Descriptors.{kind_of_type, elements_of}
use Rattle.jp_meaning.specs.Signs.{Prefix, Plus, Minus, Not, Complement, Infix, Operates, Compares, AndThen, OrElse, prefix_of, infix_of}
use Rattle.jvm_table.specs.declared.instr.Instr.TheVariants.{PushNull}
use Rattle.code_asm.specs.Items.{Item, Plain}
use Rattle.gen_body.specs.Codes.{Codes, Literal, Zero, Nil, Anything, Coded, called, local_codes, local_spot, prefix_codes, infix_codes, compare_codes, array_codes, coded_step, coded}
use Rattle.gen_code.specs.Emitted.{Shape, shape_step, shape_of, code_of, local_place, IsFull, JumpsByValue, HasShape, CodeHasItsShape}

prefix_full : (p : Option Prefix) (right : Coded) (n : ℕ) → IsFull (prefix_codes p right n)
prefix_full None right n = refl
prefix_full (Some Plus) right n = refl
prefix_full (Some Minus) right n = refl
prefix_full (Some Not) right n = refl
prefix_full (Some Complement) right n = refl

compare_full : (b : Bool) (l : Literal) (test : Test) (left right : Coded) (n : ℕ) → IsFull (compare_codes b l test left right n)
compare_full false Zero test left right n = refl
compare_full true Nil test left right n = refl
compare_full true Zero test left right n = refl
compare_full true Anything test left right n = refl
compare_full false Nil test left right n = refl
compare_full false Anything test left right n = refl

infix_full : (i : Option Infix) (left right : Coded) (n : ℕ) → IsFull (infix_codes i left right n)
infix_full None left right n = refl
infix_full (Some (Operates op)) left right n = refl
infix_full (Some (Compares test)) left right n = compare_full (is_reference left.ty) right.literal test left right n
infix_full (Some AndThen) left right n = refl
infix_full (Some OrElse) left right n = refl

local_full : (k : Option Kind) (slot n : ℕ) → IsFull (local_codes k slot n)
local_full None slot n = refl
local_full (Some kind) slot n = refl

local_jumps : (k : Option Kind) (slot n : ℕ) → JumpsByValue (local_codes k slot n)
local_jumps None slot n = λ want label. refl
local_jumps (Some kind) slot n = λ want label. refl

local_place_is : (k : Option Kind) (slot n : ℕ) → (local_spot k slot n).place ≡ local_place k slot
local_place_is None slot n = refl
local_place_is (Some kind) slot n = refl

array_full : (e : Option NamedElement) (size : Codes) → IsFull (array_codes e size)
array_full None size = refl
array_full (Some elements) size = refl

array_jumps : (e : Option NamedElement) (size : Codes) → JumpsByValue (array_codes e size)
array_jumps None size = λ want label. refl
array_jumps (Some elements) size = λ want label. refl

called_void : (k : Option Kind) (items : List Item) (need next : ℕ) → is_none k ≡ true → (called k items need next).value ≡ (called k items need next).done ++ Plain PushNull ∷ []
called_void None items need next e = refl
called_void (Some kind) items need next e = absurd cc

called_full : (k : Option Kind) (items : List Item) (need next : ℕ) → is_none k ≡ false → IsFull (called k items need next)
called_full None items need next e = absurd cc
called_full (Some kind) items need next e = refl

called_jumps : (k : Option Kind) (items : List Item) (need next : ℕ) → JumpsByValue (called k items need next)
called_jumps None items need next = λ want label. refl
called_jumps (Some kind) items need next = λ want label. refl

abbrev kind_coded : TypedKind → Ty → Coded
kind_coded = fold-TypedKind (Ty → Coded) Coded coded_step (λ e. e.kind e.ty)

abbrev kind_shape : TypedKind → Ty → Shape
kind_shape = fold-TypedKind (Ty → Shape) Shape shape_step (λ e. e.kind e.ty)

abbrev whole_coded : TypedExpr → Coded
whole_coded = coded

abbrev whole_shape : TypedExpr → Shape
whole_shape = fold-TypedExpr (Ty → Shape) Shape shape_step (λ e. e.kind e.ty)

layer : (z : TypedKind-F TypedKind TypedExpr) (t : Ty) →
    HasShape (coded_step (map-TypedKind TypedKind TypedExpr (Ty → Coded) Coded kind_coded whole_coded z) t) (shape_step (map-TypedKind TypedKind TypedExpr (Ty → Shape) Shape kind_shape whole_shape z) t)
layer (form.Number value hex) t = record {
  void = λ n e. absurd cc;
  full = λ n e. refl;
  jumps = λ n e. λ want label. refl;
  place = λ n. refl;
}
layer (form.Truth value) t = record {
  void = λ n e. absurd cc;
  full = λ n e. refl;
  jumps = λ n e. λ want label. refl;
  place = λ n. refl;
}
layer form.Null t = record {
  void = λ n e. absurd cc;
  full = λ n e. refl;
  jumps = λ n e. λ want label. refl;
  place = λ n. refl;
}
layer form.This t = record {
  void = λ n e. absurd cc;
  full = λ n e. refl;
  jumps = λ n e. λ want label. refl;
  place = λ n. refl;
}
layer (form.Local slot) t = record {
  void = λ n e. absurd cc;
  full = λ n e. local_full (kind_of_type t) slot n;
  jumps = λ n e. local_jumps (kind_of_type t) slot n;
  place = λ n. local_place_is (kind_of_type t) slot n;
}
layer (form.Unary sign right) t = record {
  void = λ n e. absurd cc;
  full = λ n e. prefix_full (prefix_of sign) _ n;
  jumps = λ n e. absurd cc;
  place = λ n. refl;
}
layer (form.Binary sign left right) t = record {
  void = λ n e. absurd cc;
  full = λ n e. infix_full (infix_of sign) _ _ n;
  jumps = λ n e. absurd cc;
  place = λ n. refl;
}
layer (form.Cond test first second) t = record {
  void = λ n e. absurd cc;
  full = λ n e. refl;
  jumps = λ n e. λ want label. refl;
  place = λ n. refl;
}
layer (form.Cast class value) t = record {
  void = λ n e. absurd cc;
  full = λ n e. refl;
  jumps = λ n e. λ want label. refl;
  place = λ n. refl;
}
layer (form.InstanceOf value class) t = record {
  void = λ n e. absurd cc;
  full = λ n e. refl;
  jumps = λ n e. λ want label. refl;
  place = λ n. refl;
}
layer (form.Field object class name) t = record {
  void = λ n e. absurd cc;
  full = λ n e. refl;
  jumps = λ n e. λ want label. refl;
  place = λ n. refl;
}
layer (form.Static class name) t = record {
  void = λ n e. absurd cc;
  full = λ n e. refl;
  jumps = λ n e. λ want label. refl;
  place = λ n. refl;
}
layer (form.Length array) t = record {
  void = λ n e. absurd cc;
  full = λ n e. refl;
  jumps = λ n e. λ want label. refl;
  place = λ n. refl;
}
layer (form.Index array index) t = record {
  void = λ n e. absurd cc;
  full = λ n e. refl;
  jumps = λ n e. λ want label. refl;
  place = λ n. refl;
}
layer (form.CallVirtual object class is_interface name params args) t = record {
  void = λ n e. called_void (kind_of_type t) _ _ _ e;
  full = λ n e. called_full (kind_of_type t) _ _ _ e;
  jumps = λ n e. called_jumps (kind_of_type t) _ _ _;
  place = λ n. refl;
}
layer (form.CallStatic class name params args) t = record {
  void = λ n e. called_void (kind_of_type t) _ _ _ e;
  full = λ n e. called_full (kind_of_type t) _ _ _ e;
  jumps = λ n e. called_jumps (kind_of_type t) _ _ _;
  place = λ n. refl;
}
layer (form.CallSuper class name params args) t = record {
  void = λ n e. called_void (kind_of_type t) _ _ _ e;
  full = λ n e. called_full (kind_of_type t) _ _ _ e;
  jumps = λ n e. called_jumps (kind_of_type t) _ _ _;
  place = λ n. refl;
}
layer (form.New class params args) t = record {
  void = λ n e. absurd cc;
  full = λ n e. refl;
  jumps = λ n e. λ want label. refl;
  place = λ n. refl;
}
layer (form.NewArray elem size) t = record {
  void = λ n e. absurd cc;
  full = λ n e. array_full (elements_of elem) _;
  jumps = λ n e. array_jumps (elements_of elem) _;
  place = λ n. refl;
}
layer (form.Print value) t = record {
  void = λ n e. refl;
  full = λ n e. absurd cc;
  jumps = λ n e. λ want label. refl;
  place = λ n. refl;
}
layer (form.Show text) t = record {
  void = λ n e. refl;
  full = λ n e. absurd cc;
  jumps = λ n e. λ want label. refl;
  place = λ n. refl;
}
layer form.Read t = record {
  void = λ n e. absurd cc;
  full = λ n e. refl;
  jumps = λ n e. λ want label. refl;
  place = λ n. refl;
}

with_both : {A B : Type 0} (Q : A → B → Type 0) (a c : A) (b d : B) → a ≡ c → b ≡ d → Q c d → Q a b
with_both Q a c b d e f q = subst (λ x. Q x b) (sym e) (subst (λ y. Q c y) (sym f) q)

expr_fits : (e : TypedExpr) → HasShape (whole_coded e) (whole_shape e)
expr_fits = ind-TypedExpr (λ k. (t : Ty) → HasShape (kind_coded k t) (kind_shape k t)) (λ e. HasShape (whole_coded e) (whole_shape e))
    (λ x y is. with_both (λ (f : Ty → Coded) (g : Ty → Shape). (t : Ty) → HasShape (f t) (g t)) _ _ _ _ (fold-roll-TypedKind (Ty → Coded) Coded coded_step (λ e. e.kind e.ty) x) (fold-roll-TypedKind (Ty → Shape) Shape shape_step (λ e. e.kind e.ty) x) (layer x))
    (λ x y is. with_both HasShape _ _ _ _ (fold-roll-TypedExpr (Ty → Coded) Coded coded_step (λ e. e.kind e.ty) x) (fold-roll-TypedExpr (Ty → Shape) Shape shape_step (λ e. e.kind e.ty) x)
    (subst (λ (z : form.TypedExpr-F TypedKind TypedExpr). HasShape (kind_coded z.kind z.ty) (kind_shape z.kind z.ty)) is (y.kind.1 y.ty)))

-- the code of an expression is of its shape
pub code_fits : CodeHasItsShape
unfolding code_of shape_of
code_fits e = expr_fits e
