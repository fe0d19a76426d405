-- Conditions with an operator, and what else jumps by its value.
use Rattle.std.proofs.Common.{◌≡◌, ℕ, ◌+◌, List, [], ◌∷◌, ◌++◌, Bool, true, false, not, Option, Some, None, refl, sym, ap, ◌∙◌, subst}
use Rattle.std.specs.Prelude.{max, is_none}
use Rattle.jp_pred.specs.declared.ty.Ty.{Ty}
use Rattle.jp_pred.specs.Kinds.{is_reference}
use Rattle.jp_store.specs.declared.value.Kind.{Kind}
use Rattle.jp_store.specs.declared.operator.Test.{Test}
use Rattle.jp_store.specs.Work.{NamedElement}
use Rattle.jp_meaning.specs.declared.expr.TypedExpr.{TypedExpr, fold-TypedExpr}
use Rattle.jp_meaning.specs.declared.expr.TypedKind.{TypedKind, TypedKind-F}
use Rattle.jp_meaning.specs.declared.expr.TypedKind.TheVariants as form
use Rattle.jp_meaning.specs.declared.expr.TypedKind.TheOpen as e
use Rattle.jp_meaning.specs.declared.expr.TypedKind.TheFolds.{ind-TypedExpr, fold-TypedKind, fold-roll-TypedExpr, fold-roll-TypedKind, map-TypedKind}
use Rattle.jp_meaning.specs.Descriptors.{kind_of_type, elements_of}
use Rattle.jp_meaning.specs.Signs.{Prefix, Plus, Minus, Not, Complement, Infix, Operates, Compares, AndThen, OrElse, prefix_of, infix_of}
use Rattle.code_asm.specs.Items.{Item, Branch}
use Rattle.gen_body.specs.Codes.{Codes, Literal, Zero, Nil, Anything, Coded, choose_truth, jump_by, called, local_codes, prefix_codes, infix_codes, compare_codes, array_codes, coded_step, coded}
use Rattle.gen_body.specs.Statements.{Part}
use Rattle.gen_code.specs.Emitted.{code_of, JumpsByValue}
use Rattle.gen_parts.specs.Emits.{judges, judges_step, judges_prefix, judges_infix, is_alone, jump_alone, test_step, test_part, value_step, value_part}
use Rattle.gen_expr.proofs.Walks.{walk, walk_unary, walk_binary}

-- what is a condition has its value by its test, and what is none jumps by its value
record Tells (c : Coded) (b : Bool) : Type 0 where
  jumps : (n : ℕ) → b ≡ false → JumpsByValue (c.codes n)
  tells : (n : ℕ) → b ≡ true → (c.codes n).value ≡ (c.codes n).test false n ++ choose_truth n

prefix_jumps : (p : Option Prefix) (right : Coded) (n : ℕ) → judges_prefix p ≡ false → JumpsByValue (prefix_codes p right n)
prefix_jumps None right n h = λ want label. refl
prefix_jumps (Some Plus) right n h = λ want label. refl
prefix_jumps (Some Minus) right n h = λ want label. refl
prefix_jumps (Some Not) right n h = absurd cc
prefix_jumps (Some Complement) right n h = λ want label. refl

prefix_tells : (p : Option Prefix) (right : Coded) (n : ℕ) → judges_prefix p ≡ true → (prefix_codes p right n).value ≡ (prefix_codes p right n).test false n ++ choose_truth n
prefix_tells None right n h = absurd cc
prefix_tells (Some Plus) right n h = absurd cc
prefix_tells (Some Minus) right n h = absurd cc
prefix_tells (Some Not) right n h = refl
prefix_tells (Some Complement) right n h = absurd cc

compare_tells : (b : Bool) (l : Literal) (test : Test) (left right : Coded) (n : ℕ) → (compare_codes b l test left right n).value ≡ (compare_codes b l test left right n).test false n ++ choose_truth n
compare_tells false Zero test left right n = refl
compare_tells true Nil test left right n = refl
compare_tells true Zero test left right n = refl
compare_tells true Anything test left right n = refl
compare_tells false Nil test left right n = refl
compare_tells false Anything test left right n = refl

infix_jumps : (i : Option Infix) (left right : Coded) (n : ℕ) → judges_infix i ≡ false → JumpsByValue (infix_codes i left right n)
infix_jumps None left right n h = λ want label. refl
infix_jumps (Some (Operates op)) left right n h = λ want label. refl
infix_jumps (Some (Compares test)) left right n h = absurd cc
infix_jumps (Some AndThen) left right n h = absurd cc
infix_jumps (Some OrElse) left right n h = absurd cc

infix_tells : (i : Option Infix) (left right : Coded) (n : ℕ) → judges_infix i ≡ true → (infix_codes i left right n).value ≡ (infix_codes i left right n).test false n ++ choose_truth n
infix_tells None left right n h = absurd cc
infix_tells (Some (Operates op)) left right n h = absurd cc
infix_tells (Some (Compares test)) left right n h = compare_tells (is_reference left.ty) right.literal test left right n
infix_tells (Some AndThen) left right n h = refl
infix_tells (Some OrElse) left right n h = refl

local_jumps : (k : Option Kind) (slot n : ℕ) → JumpsByValue (local_codes k slot n)
local_jumps None slot n = λ want label. refl
local_jumps (Some kind) slot n = λ want label. refl

array_jumps : (e : Option NamedElement) (size : Codes) → JumpsByValue (array_codes e size)
array_jumps None size = λ want label. refl
array_jumps (Some elements) size = λ want label. refl

called_jumps : (k : Option Kind) (items : List Item) (need next : ℕ) → JumpsByValue (called k items need next)
called_jumps None items need next = λ want label. refl
called_jumps (Some kind) items need next = λ want label. refl

abbrev kind_coded : TypedKind → Ty → Coded
kind_coded = fold-TypedKind (Ty → Coded) Coded coded_step (λ e. e.kind e.ty)

abbrev kind_judges : TypedKind → Ty → Bool
kind_judges = fold-TypedKind (Ty → Bool) Bool judges_step (λ e. e.kind e.ty)

abbrev whole_judges : TypedExpr → Bool
whole_judges = fold-TypedExpr (Ty → Bool) Bool judges_step (λ e. e.kind e.ty)

plainly : (c : Coded) → ((n : ℕ) → JumpsByValue (c.codes n)) → Tells c false
plainly c h = record { jumps = λ n e. h n; tells = λ n e. absurd cc }

layer : (z : TypedKind-F TypedKind TypedExpr) (t : Ty) →
    Tells (coded_step (map-TypedKind TypedKind TypedExpr (Ty → Coded) Coded kind_coded coded z) t) (judges_step (map-TypedKind TypedKind TypedExpr (Ty → Bool) Bool kind_judges whole_judges z) t)
layer (e.Number value hex) t = plainly _ (λ n want label. refl)
layer (e.Truth value) t = plainly _ (λ n want label. refl)
layer e.Null t = plainly _ (λ n want label. refl)
layer e.This t = plainly _ (λ n want label. refl)
layer (e.Local slot) t = plainly _ (λ n. local_jumps (kind_of_type t) slot n)
layer (e.Unary sign right) t = record { jumps = λ n h. prefix_jumps (prefix_of sign) _ n h; tells = λ n h. prefix_tells (prefix_of sign) _ n h }
layer (e.Binary sign left right) t = record { jumps = λ n h. infix_jumps (infix_of sign) _ _ n h; tells = λ n h. infix_tells (infix_of sign) _ _ n h }
layer (e.Cond test first second) t = plainly _ (λ n want label. refl)
layer (e.Cast class value) t = plainly _ (λ n want label. refl)
layer (e.InstanceOf value class) t = plainly _ (λ n want label. refl)
layer (e.Field object class name) t = plainly _ (λ n want label. refl)
layer (e.Static class name) t = plainly _ (λ n want label. refl)
layer (e.Length array) t = plainly _ (λ n want label. refl)
layer (e.Index array index) t = plainly _ (λ n want label. refl)
layer (e.CallVirtual object class is_interface name params args) t = plainly _ (λ n. called_jumps (kind_of_type t) _ _ _)
layer (e.CallStatic class name params args) t = plainly _ (λ n. called_jumps (kind_of_type t) _ _ _)
layer (e.CallSuper class name params args) t = plainly _ (λ n. called_jumps (kind_of_type t) _ _ _)
layer (e.New class params args) t = plainly _ (λ n want label. refl)
layer (e.NewArray elem size) t = plainly _ (λ n. array_jumps (elements_of elem) _)
layer (e.Print value) t = plainly _ (λ n want label. refl)
layer (e.Show text) t = plainly _ (λ n want label. refl)
layer e.Read t = plainly _ (λ n want label. refl)

with_both : {A B : Type 0} (Q : A → B → Type 0) (a c : A) (b d : B) → a ≡ c → b ≡ d → Q c d → Q a b
with_both Q a c b d e f q = subst (λ x. Q x b) (sym e) (subst (λ y. Q c y) (sym f) q)

whole_fits : (x : TypedExpr) → Tells (coded x) (whole_judges x)
whole_fits = ind-TypedExpr (λ k. (t : Ty) → Tells (kind_coded k t) (kind_judges k t)) (λ x. Tells (coded x) (whole_judges x))
    (λ x y is. with_both (λ (f : Ty → Coded) (g : Ty → Bool). (t : Ty) → Tells (f t) (g t)) _ _ _ _ (fold-roll-TypedKind (Ty → Coded) Coded coded_step (λ e. e.kind e.ty) x) (fold-roll-TypedKind (Ty → Bool) Bool judges_step (λ e. e.kind e.ty) x) (layer x))
    (λ x y is. with_both Tells _ _ _ _ (fold-roll-TypedExpr (Ty → Coded) Coded coded_step (λ e. e.kind e.ty) x) (fold-roll-TypedExpr (Ty → Bool) Bool judges_step (λ e. e.kind e.ty) x)
    (subst (λ (z : e.TypedExpr-F TypedKind TypedExpr). Tells (kind_coded z.kind z.ty) (kind_judges z.kind z.ty)) is (y.kind.1 y.ty)))

judging : (x : TypedExpr) → Tells (code_of x) (judges x)
unfolding code_of judges
judging x = whole_fits x

-- what is no condition jumps by its value
pub jumps_by_value : (x : TypedExpr) (n : ℕ) → judges x ≡ false → JumpsByValue ((code_of x).codes n)
jumps_by_value x n h = (judging x).jumps n h

-- the value of a condition is made by its test
pub judged_value : (x : TypedExpr) (n : ℕ) → judges x ≡ true → ((code_of x).codes n).value ≡ ((code_of x).codes n).test false n ++ choose_truth n
judged_value x n h = (judging x).tells n h

-- WHAT AN OPERATOR IS

module _ (x : TypedExpr) where
  pub judges_unary : (sign : ℕ) (y : TypedExpr) → x.kind ≡ form.Unary sign y → judges x ≡ judges_prefix (prefix_of sign)
  unfolding judges
  judges_unary sign y h = walk_unary judges_step x sign y h

  pub judges_binary : (sign : ℕ) (y z : TypedExpr) → x.kind ≡ form.Binary sign y z → judges x ≡ judges_infix (infix_of sign)
  unfolding judges
  judges_binary sign y z h = walk_binary judges_step x sign y z h

  pub value_binary : (n sign : ℕ) (y z : TypedExpr) → x.kind ≡ form.Binary sign y z → value_part x n ≡ value_step (infix_codes (infix_of sign) (code_of y) (code_of z) n)
  unfolding code_of
  value_binary n sign y z h = ap (λ (c : Coded). value_step (c.codes n)) (walk_binary coded_step x sign y z h)

  test_unary : (n : ℕ) (want : Bool) (to sign : ℕ) (y : TypedExpr) → x.kind ≡ form.Unary sign y → test_part x want to n ≡ test_step (prefix_codes (prefix_of sign) (code_of y) n) want to
  unfolding code_of
  test_unary n want to sign y h = ap (λ (c : Coded). test_step (c.codes n) want to) (walk_unary coded_step x sign y h)

  pub test_binary : (n : ℕ) (want : Bool) (to sign : ℕ) (y z : TypedExpr) → x.kind ≡ form.Binary sign y z → test_part x want to n ≡ test_step (infix_codes (infix_of sign) (code_of y) (code_of z) n) want to
  unfolding code_of
  test_binary n want to sign y z h = ap (λ (c : Coded). test_step (c.codes n) want to) (walk_binary coded_step x sign y z h)

not_test : (p : Option Prefix) (right : Coded) (n : ℕ) (want : Bool) (to : ℕ) → judges_prefix p ≡ true → test_step (prefix_codes p right n) want to ≡
    (let c = right.codes (n + 2) in record { items = c.test (not want) to; next = c.next; need = max c.need 1 })
not_test None right n want to h = absurd cc
not_test (Some Plus) right n want to h = absurd cc
not_test (Some Minus) right n want to h = absurd cc
not_test (Some Not) right n want to h = refl
not_test (Some Complement) right n want to h = absurd cc

-- the test of `!`
pub test_not : (x : TypedExpr) (n : ℕ) (want : Bool) (to sign : ℕ) (y : TypedExpr) → x.kind ≡ form.Unary sign y → judges x ≡ true → test_part x want to n ≡
    (let c = test_part y (not want) to (n + 2) in record { items = c.items; next = c.next; need = max c.need 1 })
test_not x n want to sign y h j = test_unary x n want to sign y h ∙ not_test (prefix_of sign) (code_of y) n want to (sym (judges_unary x sign y h) ∙ j)

-- the test of a comparison with 0 or null, and of one of two operands
pub compare_alone : (b : Bool) (l : Literal) (test : Test) (left right : Coded) (n : ℕ) (want : Bool) (to : ℕ) → is_alone b l ≡ true → test_step (compare_codes b l test left right n) want to ≡
    (let c = left.codes (n + 2) in record { items = c.value ++ Branch (jump_alone b test want) to ∷ []; next = c.next; need = max c.need 1 })
compare_alone false Zero test left right n want to h = refl
compare_alone true Nil test left right n want to h = refl
compare_alone true Zero test left right n want to h = absurd cc
compare_alone true Anything test left right n want to h = absurd cc
compare_alone false Nil test left right n want to h = absurd cc
compare_alone false Anything test left right n want to h = absurd cc

pub compare_two : (b : Bool) (l : Literal) (test : Test) (left right : Coded) (n : ℕ) (want : Bool) (to : ℕ) → is_alone b l ≡ false → test_step (compare_codes b l test left right n) want to ≡
    (let c = left.codes (n + 2) in let d = right.codes c.next in record { items = c.value ++ (d.value ++ Branch (jump_by b test want) to ∷ []); next = d.next; need = max (max c.need (1 + d.need)) 1 })
compare_two false Zero test left right n want to h = absurd cc
compare_two true Nil test left right n want to h = absurd cc
compare_two true Zero test left right n want to h = refl
compare_two true Anything test left right n want to h = refl
compare_two false Nil test left right n want to h = refl
compare_two false Anything test left right n want to h = refl
