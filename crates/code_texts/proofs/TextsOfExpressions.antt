-- The texts in the code of expressions with short names fit.
use Rattle.std.proofs.Common.{◌≡◌, ℕ, ◌+◌, Bool, true, false, ◌&&◌, List, [], ◌∷◌, ◌++◌, map, Option, refl, sym, subst}
use Rattle.std.specs.Prelude.{pos, max, codes}
use Rattle.std.specs.Int.{w32, int_wrap}
use Rattle.std.specs.List.{list_all}
use Rattle.class_form.proofs.Facts.{both, and_both}
use Rattle.jp_pred.specs.declared.ty.Ty.{Ty}
use Rattle.jp_meaning.specs.declared.expr.TypedExpr.{TypedExpr}
use Rattle.jp_meaning.specs.declared.expr.TypedKind.{TypedKind, TypedKind-F}
use Rattle.jp_meaning.specs.declared.expr.TypedKind.TheOpen as form
use Rattle.jp_meaning.specs.declared.expr.TypedKind.TheFolds.{ind-TypedExpr, fold-TypedKind, fold-roll-TypedExpr, fold-roll-TypedKind, map-TypedKind}
use Rattle.jp_meaning.specs.Descriptors.{kind_of_type}
use Rattle.jp_meaning.specs.Signs.{prefix_of, infix_of}
use Rattle.jp_store.specs.declared.value.Kind.{Kind}
use Rattle.jp_store.specs.declared.value.Kind.TheVariants.{Reference}
use Rattle.jvm_table.specs.declared.instr.ConstantUse.TheVariants.{PushConstant, MakeObject}
use Rattle.jvm_table.specs.declared.instr.Instr.TheVariants.{Load, Dup}
use Rattle.code_asm.specs.Items.{TextOf, Wanted, Item, Plain, Uses}
use Rattle.gen_body.specs.Codes.{Codes, Row, Coded, plain, io, called, choice, row_codes, coded_step, coded}
use Rattle.code_texts.specs.Short.{is_short, names_short, has_short_params, is_short_call, expr_step, is_short_expr}
use Rattle.code_texts.specs.Fitting.{text_fits_in}
use Rattle.code_texts.proofs.Texts.{literal}
use Rattle.code_texts.proofs.TextsOfForms.{Fit, Each, joined, before, single, behind, class_fits, field_fits, method_fits, virtual_fits, construction_fits, int_fits, FitCodes, plain_fits, void_fits, called_fits, choice_fits, PlaceFits, prefix_fits, infix_fits, local_fits, local_spot_fits, local_place, elements_fit}

-- what is known of the code of an expression that passes a test
pub record FitIf (passes : Bool) (k : Coded) : Type 0 where
  pub codes : passes ≡ true → (n : ℕ) → FitCodes (k.codes n)
  pub spot : passes ≡ true → (n : ℕ) → Each (k.spot n).items
  pub place : passes ≡ true → (n : ℕ) → PlaceFits (k.spot n).place

abbrev kind_short : TypedKind → Ty → Bool
kind_short = fold-TypedKind (Ty → Bool) Bool (λ kind t. expr_step kind t) (λ e. e.kind e.ty)

abbrev kind_coded : TypedKind → Ty → Coded
kind_coded = fold-TypedKind (Ty → Coded) Coded coded_step (λ e. e.kind e.ty)

abbrev FitKind : Type 0
FitKind = (k : TypedKind) × ((t : Ty) → FitIf (kind_short k t) (kind_coded k t))

abbrev FitExpr : Type 0
FitExpr = (e : TypedExpr) × FitIf (is_short_expr e) (coded e)

abbrev all_short : List FitExpr → Bool
all_short es = list_all (λ a. a) (map is_short_expr (map (λ e. e.0) es))

abbrev row_of : List FitExpr → ℕ → Row
row_of es = row_codes (map coded (map (λ e. e.0) es))

row_fits : (es : List FitExpr) → all_short es ≡ true → (n : ℕ) → Each (row_of es n).items
row_fits [] e n = refl
row_fits (x ∷ xs) e n =
    let h = both (is_short_expr x.0) (all_short xs) e in
    joined ((coded x.0).codes n).value (row_of xs ((coded x.0).codes n).next).items (x.1.codes h.0 n).value (row_fits xs h.1 ((coded x.0).codes n).next)

one : (item : Item) (n : ℕ) → Fit item → FitCodes (plain (item ∷ []) 1 n)
one item n h = plain_fits (item ∷ []) 1 n (single item h)

-- one part, and an item behind it
then_one : (c : Codes) (item : Item) → FitCodes c → Fit item → FitCodes (plain (c.value ++ item ∷ []) c.need c.next)
then_one c item h i = plain_fits (c.value ++ item ∷ []) c.need c.next (behind c.value item h.value i)

cond_fits : (c d e : Codes) (n : ℕ) → FitCodes c → FitCodes d → FitCodes e → FitCodes (plain (choice c.test d.value e.value n) (max c.need (max d.need e.need)) e.next)
cond_fits c d e n h i j = plain_fits _ _ _ (choice_fits c.test d.value e.value n (h.test false n) i.value j.value)

index_fits : (c d : Codes) (item : Item) → FitCodes c → FitCodes d → Fit item → FitCodes (plain (c.value ++ (d.value ++ item ∷ [])) (max c.need (1 + d.need)) d.next)
index_fits c d item h i j = plain_fits _ _ _ (joined c.value (d.value ++ item ∷ []) h.value (behind d.value item i.value j))

-- a call behind its arguments
call_fits : (o : Option Kind) (r : Row) (item : Item) (need : ℕ) → Each r.items → Fit item → FitCodes (called o (r.items ++ item ∷ []) need r.next)
call_fits o r item need h i = called_fits o (r.items ++ item ∷ []) need r.next (behind r.items item h i)

on_fits : (o : Option Kind) (c : Codes) (r : Row) (item : Item) → FitCodes c → Each r.items → Fit item → FitCodes (called o (c.value ++ (r.items ++ item ∷ [])) (max c.need (1 + r.need)) r.next)
on_fits o c r item h i j = called_fits o (c.value ++ (r.items ++ item ∷ [])) _ _ (joined c.value (r.items ++ item ∷ []) h.value (behind r.items item i j))

super_fits : (o : Option Kind) (r : Row) (item : Item) → Each r.items → Fit item → FitCodes (called o (Plain (Load Reference 0) ∷ (r.items ++ item ∷ [])) (1 + r.need) r.next)
super_fits o r item h i = called_fits o (Plain (Load Reference 0) ∷ (r.items ++ item ∷ [])) _ _ (behind r.items item h i)

new_fits : (class : Wanted) (r : Row) (item : Item) → Fit (Uses MakeObject class) → Each r.items → Fit item → FitCodes (plain (Uses MakeObject class ∷ Plain Dup ∷ (r.items ++ item ∷ [])) (2 + r.need) r.next)
new_fits class r item h i j = plain_fits (Uses MakeObject class ∷ Plain Dup ∷ (r.items ++ item ∷ [])) _ _ (before (Uses MakeObject class) (Plain Dup ∷ (r.items ++ item ∷ [])) h (behind r.items item i j))

layer : (y : TypedKind-F FitKind FitExpr) (t : Ty) →
    FitIf (expr_step (map-TypedKind TypedKind TypedExpr (Ty → Bool) Bool kind_short is_short_expr (map-TypedKind FitKind FitExpr TypedKind TypedExpr (λ e. e.0) (λ e. e.0) y)) t)
    (coded_step (map-TypedKind TypedKind TypedExpr (Ty → Coded) Coded kind_coded coded (map-TypedKind FitKind FitExpr TypedKind TypedExpr (λ e. e.0) (λ e. e.0) y)) t)
layer (form.Number value hex) t = record { codes = λ e n. one _ n (int_fits (int_wrap w32 (pos value))); spot = λ e n. refl; place = λ e n. tt }
layer (form.Truth value) t = record { codes = λ e n. one _ n refl; spot = λ e n. refl; place = λ e n. tt }
layer form.Null t = record { codes = λ e n. one _ n refl; spot = λ e n. refl; place = λ e n. tt }
layer form.This t = record { codes = λ e n. one _ n refl; spot = λ e n. refl; place = λ e n. tt }
layer (form.Local slot) t = record {
  codes = λ e n. local_fits (kind_of_type t) slot n;
  spot = λ e n. local_spot_fits (kind_of_type t) slot n;
  place = λ e n. local_place (kind_of_type t) slot n;
}
layer (form.Unary sign right) t = record { codes = λ e n. prefix_fits (prefix_of sign) (coded right.0) (right.1.codes e) n; spot = λ e n. refl; place = λ e n. tt }
layer (form.Binary sign left right) t = record {
  codes = λ e n.
      let h = both (is_short_expr left.0) (is_short_expr right.0) e in
      infix_fits (infix_of sign) (coded left.0) (coded right.0) (left.1.codes h.0) (right.1.codes h.1) n;
  spot = λ e n. refl;
  place = λ e n. tt;
}
layer (form.Cond test first second) t = record {
  codes = λ e n.
      let h = both (is_short_expr test.0) (is_short_expr first.0 && is_short_expr second.0) e in
      let i = both (is_short_expr first.0) (is_short_expr second.0) h.1 in
      let c = (coded test.0).codes (n + 2) in let d = (coded first.0).codes c.next in
      cond_fits c d ((coded second.0).codes d.next) n (test.1.codes h.0 (n + 2)) (first.1.codes i.0 c.next) (second.1.codes i.1 d.next);
  spot = λ e n. refl;
  place = λ e n. tt;
}
layer (form.Cast class value) t = record {
  codes = λ e n.
      let h = both (is_short_expr value.0) (is_short class) e in
      then_one ((coded value.0).codes n) _ (value.1.codes h.0 n) (class_fits class h.1);
  spot = λ e n. refl;
  place = λ e n. tt;
}
layer (form.InstanceOf value class) t = record {
  codes = λ e n.
      let h = both (is_short_expr value.0) (is_short class) e in
      then_one ((coded value.0).codes n) _ (value.1.codes h.0 n) (class_fits class h.1);
  spot = λ e n. refl;
  place = λ e n. tt;
}
layer (form.Field target class name) t =
    let key = is_short class && (is_short name && names_short t) in
    record {
      codes = λ e n.
          let h = both (is_short_expr target.0) key e in
          then_one ((coded target.0).codes n) _ (target.1.codes h.0 n) (field_fits class name t h.1);
      spot = λ e n. let h = both (is_short_expr target.0) key e in (target.1.codes h.0 n).value;
      place = λ e n. let h = both (is_short_expr target.0) key e in field_fits class name t h.1;
    }
layer (form.Static class name) t = record {
  codes = λ e n. one _ n (field_fits class name t e);
  spot = λ e n. refl;
  place = λ e n. field_fits class name t e;
}
layer (form.Length array) t = record { codes = λ e n. then_one ((coded array.0).codes n) _ (array.1.codes e n) refl; spot = λ e n. refl; place = λ e n. tt }
layer (form.Index array index) t = record {
  codes = λ e n.
      let h = both (is_short_expr array.0) (is_short_expr index.0) e in let c = (coded array.0).codes n in
      index_fits c ((coded index.0).codes c.next) _ (array.1.codes h.0 n) (index.1.codes h.1 c.next) refl;
  spot = λ e n.
      let h = both (is_short_expr array.0) (is_short_expr index.0) e in let c = (coded array.0).codes n in
      joined c.value ((coded index.0).codes c.next).value (array.1.codes h.0 n).value (index.1.codes h.1 c.next).value;
  place = λ e n. tt;
}
layer (form.CallVirtual target class is_interface name params args) t = record {
  codes = λ e n.
      let h = both (is_short_expr target.0) (all_short args && is_short_call class name params t) e in
      let i = both (all_short args) (is_short_call class name params t) h.1 in
      let c = (coded target.0).codes n in
      on_fits (kind_of_type t) c (row_of args c.next) _ (target.1.codes h.0 n) (row_fits args i.0 c.next) (virtual_fits is_interface class name params t i.1);
  spot = λ e n. refl;
  place = λ e n. tt;
}
layer (form.CallStatic class name params args) t = record {
  codes = λ e n.
      let h = both (all_short args) (is_short_call class name params t) e in
      call_fits (kind_of_type t) (row_of args n) _ _ (row_fits args h.0 n) (method_fits class name params t h.1);
  spot = λ e n. refl;
  place = λ e n. tt;
}
layer (form.CallSuper class name params args) t = record {
  codes = λ e n.
      let h = both (all_short args) (is_short_call class name params t) e in
      super_fits (kind_of_type t) (row_of args n) _ (row_fits args h.0 n) (method_fits class name params t h.1);
  spot = λ e n. refl;
  place = λ e n. tt;
}
layer (form.New class params args) t = record {
  codes = λ e n.
      let h = both (all_short args) (is_short class && has_short_params params) e in
      let i = both (is_short class) (has_short_params params) h.1 in
      new_fits _ (row_of args n) _ (class_fits class i.0) (row_fits args h.0 n) (construction_fits class params i.0 i.1);
  spot = λ e n. refl;
  place = λ e n. tt;
}
layer (form.NewArray elem size) t = record {
  codes = λ e n.
      let h = both (is_short_expr size.0) (names_short elem) e in elements_fit elem h.1 ((coded size.0).codes n) (size.1.codes h.0 n);
  spot = λ e n. refl;
  place = λ e n. tt;
}
layer (form.Print value) t = record {
  codes = λ e n. void_fits _ _ _ (behind ((coded value.0).codes n).value _ (value.1.codes e n).value refl);
  spot = λ e n. refl;
  place = λ e n. tt;
}
layer (form.Show text) t = record {
  codes = λ e n.
      let shown = io (codes "text") (codes "(Ljava/lang/String;)V") in
      void_fits (Uses PushConstant (TextOf text) ∷ shown ∷ []) 1 n (before (Uses PushConstant (TextOf text)) (shown ∷ []) (and_both (text_fits_in text) true (literal text e) refl) refl);
  spot = λ e n. refl;
  place = λ e n. tt;
}
layer form.Read t = record { codes = λ e n. one _ n refl; spot = λ e n. refl; place = λ e n. tt }

-- what holds of two values holds of their equals
pub with_two : {A B : Type 0} (Q : A → B → Type 0) (a c : A) (b d : B) → a ≡ c → b ≡ d → Q c d → Q a b
with_two Q a c b d h i q = subst (λ w. Q w b) (sym h) (subst (λ x. Q c x) (sym i) q)

pub expr_fits : (e : TypedExpr) → FitIf (is_short_expr e) (coded e)
expr_fits = ind-TypedExpr (λ k. (t : Ty) → FitIf (kind_short k t) (kind_coded k t)) (λ e. FitIf (is_short_expr e) (coded e))
    (λ x y is. with_two (λ (f : Ty → Bool) (g : Ty → Coded). (t : Ty) → FitIf (f t) (g t)) _ _ _ _ (fold-roll-TypedKind (Ty → Bool) Bool (λ kind t. expr_step kind t) (λ e. e.kind e.ty) x) (fold-roll-TypedKind (Ty → Coded) Coded coded_step (λ e. e.kind e.ty) x)
    (subst (λ (z : TypedKind-F TypedKind TypedExpr). (t : Ty) → FitIf (expr_step (map-TypedKind TypedKind TypedExpr (Ty → Bool) Bool kind_short is_short_expr z) t) (coded_step (map-TypedKind TypedKind TypedExpr (Ty → Coded) Coded kind_coded coded z) t)) is (layer y)))
    (λ x y is. with_two FitIf _ _ _ _ (fold-roll-TypedExpr (Ty → Bool) Bool (λ kind t. expr_step kind t) (λ e. e.kind e.ty) x) (fold-roll-TypedExpr (Ty → Coded) Coded coded_step (λ e. e.kind e.ty) x)
    (subst (λ (z : form.TypedExpr-F TypedKind TypedExpr). FitIf (kind_short z.kind z.ty) (kind_coded z.kind z.ty)) is (y.kind.1 y.ty)))

-- the expressions of a list
pub list_fits : (es : List TypedExpr) → list_all is_short_expr es ≡ true → (n : ℕ) → Each (row_codes (map coded es) n).items
list_fits [] e n = refl
list_fits (x ∷ xs) e n =
    let h = both (is_short_expr x) (list_all is_short_expr xs) e in
    joined ((coded x).codes n).value (row_codes (map coded xs) ((coded x).codes n).next).items ((expr_fits x).codes h.0 n).value (list_fits xs h.1 ((coded x).codes n).next)
