-- The code of expressions has labels of its own.
use Rattle.std.proofs.Common.{◌≡◌, ℕ, ◌+◌, Bool, true, false, List, [], ◌∷◌, ◌++◌, map, Option, Some, None, sym, subst}
use Rattle.std.specs.Prelude.{ℤ, pos, cond, max}
use Rattle.std.specs.Int.{w32, int_wrap}
use Rattle.jp_pred.specs.declared.ty.Ty.{Ty}
use Rattle.jp_pred.specs.Names.{Word}
use Rattle.jp_store.specs.declared.value.Kind.{Kind}
use Rattle.jp_meaning.specs.declared.expr.TypedExpr.{TypedExpr}
use Rattle.jp_meaning.specs.declared.expr.TypedKind.{TypedKind, TypedKind-F}
use Rattle.jp_meaning.specs.declared.expr.TypedKind.TheOpen as form
use Rattle.jp_meaning.specs.declared.expr.TypedKind.TheFolds.{ind-TypedExpr, fold-TypedKind, fold-roll-TypedExpr, fold-roll-TypedKind, map-TypedKind}
use Rattle.jp_meaning.specs.Does.{Method}
use Rattle.jp_meaning.specs.Descriptors.{method_of, kind_of_type, elements_of}
use Rattle.jp_meaning.specs.Signs.{prefix_of, infix_of}
use Rattle.jvm_table.specs.declared.instr.Instr.{Instr}
use Rattle.jvm_table.specs.declared.instr.Instr.TheVariants.{PushInt}
use Rattle.jvm_table.specs.declared.instr.ConstantUse.{ConstantUse}
use Rattle.jvm_table.specs.declared.instr.ConstantUse.TheVariants.{PushConstant}
use Rattle.code_asm.specs.Items.{Wanted, IntOf, Item, Plain, Uses}
use Rattle.gen_body.specs.Codes.{Codes, Row, Coded, is_short, plain as codes_plain, called as codes_called, construction, virtual_call, no_spot, local_spot, row_codes, coded_step, coded}
use Rattle.code_fits.proofs.Labels as labels

module _ (label : ℕ) (P : ℕ → Type 0) where
  abbrev Own : ℕ → ℕ → List Item → Type 0
  Own = labels.Own label P (Unit {0})

  abbrev OwnCodes : ℕ → Codes → Type 0
  OwnCodes = labels.OwnCodes label P

  -- an expression, and the parts of what is assigned to
  pub record OwnCoded (x : Coded) : Type 0 where
    pub codes : (n : ℕ) → OwnCodes n (x.codes n)
    pub spot : (n : ℕ) → Own n (x.spot n).next (x.spot n).items

  join : {n m k : ℕ} {a b : List Item} → Own n m a → Own m k b → Own n k (a ++ b)
  join {n} {m} {k} {a} {b} h j = labels.joined label P (Unit {0}) n m k a b h j

  plain : {items : List Item} {need next n : ℕ} → Own n next items → OwnCodes n (codes_plain items need next)
  plain {items} {need} {next} {n} h = labels.plain_own label P items need next n h

  nothing : (n : ℕ) → Own n n []
  nothing = labels.no_items label P (Unit {0})

  quiet : (n : ℕ) (instr : Instr) → Own n n (Plain instr ∷ [])
  quiet = labels.quiet label P (Unit {0})

  uses : (n : ℕ) (use_ : ConstantUse) (wanted : Wanted) → Own n n (Uses use_ wanted ∷ [])
  uses = labels.uses label P (Unit {0})

  no_spot_own : (n : ℕ) → Own n (no_spot n).next (no_spot n).items
  no_spot_own n = nothing n

  local_spot_own : (o : Option Kind) (slot n : ℕ) → Own n (local_spot o slot n).next (local_spot o slot n).items
  local_spot_own None slot n = nothing n
  local_spot_own (Some kind) slot n = nothing n

  int_own : (x : Bool) (v : ℤ) (n : ℕ) → Own n n (cond x (Plain (PushInt v)) (Uses PushConstant (IntOf v)) ∷ [])
  int_own true v n = quiet n _
  int_own false v n = uses n _ _

  virtual_own : (is_interface : Bool) (m : Method) (params : List Ty) (t : Ty) (n : ℕ) → Own n n (virtual_call is_interface m params t ∷ [])
  virtual_own true m params t n = labels.calls label P (Unit {0}) n _ _
  virtual_own false m params t n = uses n _ _

  pub construction_own : (class : Word) (params : List Ty) (n : ℕ) → Own n n (construction class params ∷ [])
  construction_own class params n = uses n _ _

  abbrev kind_coded : TypedKind → Ty → Coded
  kind_coded = fold-TypedKind (Ty → Coded) Coded coded_step (λ e. e.kind e.ty)

  abbrev OwnKind : Type 0
  OwnKind = (k : TypedKind) × ((t : Ty) → OwnCoded (kind_coded k t))

  abbrev OwnExpr : Type 0
  OwnExpr = (e : TypedExpr) × OwnCoded (coded e)

  abbrev row_of : List OwnExpr → ℕ → Row
  row_of es = row_codes (map coded (map (λ e. e.0) es))

  row_own : (es : List OwnExpr) (n : ℕ) → Own n (row_of es n).next (row_of es n).items
  row_own [] n = nothing n
  row_own (x ∷ xs) n = let c = (coded x.0).codes n in join (x.1.codes n).value (row_own xs c.next)

  called : {items : List Item} {next n : ℕ} (o : Option Kind) (need : ℕ) → Own n next items → OwnCodes n (codes_called o items need next)
  called {items} {next} {n} o need h = labels.called_own label P o items need next n h

  layer : (y : TypedKind-F OwnKind OwnExpr) (t : Ty) →
      OwnCoded (coded_step (map-TypedKind TypedKind TypedExpr (Ty → Coded) Coded kind_coded coded (map-TypedKind OwnKind OwnExpr TypedKind TypedExpr (λ e. e.0) (λ e. e.0) y)) t)
  layer (form.Number value hex) t = record { codes = λ n. plain (int_own (is_short (int_wrap w32 (pos value))) (int_wrap w32 (pos value)) n); spot = no_spot_own }
  layer (form.Truth value) t = record { codes = λ n. plain (quiet n _); spot = no_spot_own }
  layer form.Null t = record { codes = λ n. plain (quiet n _); spot = no_spot_own }
  layer form.This t = record { codes = λ n. plain (quiet n _); spot = no_spot_own }
  layer (form.Local slot) t = record { codes = labels.local_own label P (kind_of_type t) slot; spot = local_spot_own (kind_of_type t) slot }
  layer (form.Unary sign right) t = record { codes = labels.prefix_own label P (prefix_of sign) (coded right.0) right.1.codes; spot = no_spot_own }
  layer (form.Binary sign left right) t =
      record { codes = labels.infix_own label P (infix_of sign) (coded left.0) (coded right.0) left.1.codes right.1.codes; spot = no_spot_own }
  layer (form.Cond test first second) t = record {
    codes = λ n. let c = (coded test.0).codes (n + 2) in let d = (coded first.0).codes c.next in let e = (coded second.0).codes d.next in
        plain {need = max c.need (max d.need e.need)} (labels.choice_own label P (Unit {0}) c.test d.value e.value n c.next d.next e.next ((test.1.codes (n + 2)).test false n) (first.1.codes c.next).value (second.1.codes d.next).value);
    spot = no_spot_own;
  }
  layer (form.Cast class value) t = record { codes = λ n. plain (join (value.1.codes n).value (uses ((coded value.0).codes n).next _ _)); spot = no_spot_own }
  layer (form.InstanceOf value class) t = record { codes = λ n. plain (join (value.1.codes n).value (uses ((coded value.0).codes n).next _ _)); spot = no_spot_own }
  layer (form.Field target class name) t = record {
    codes = λ n. plain (join (target.1.codes n).value (uses ((coded target.0).codes n).next _ _));
    spot = λ n. (target.1.codes n).value;
  }
  layer (form.Static class name) t = record { codes = λ n. plain (uses n _ _); spot = nothing }
  layer (form.Length array) t = record { codes = λ n. plain (join (array.1.codes n).value (quiet ((coded array.0).codes n).next _)); spot = no_spot_own }
  layer (form.Index array index) t = record {
    codes = λ n. let c = (coded array.0).codes n in
        plain (join (array.1.codes n).value (join (index.1.codes c.next).value (quiet ((coded index.0).codes c.next).next _)));
    spot = λ n. let c = (coded array.0).codes n in join (array.1.codes n).value (index.1.codes c.next).value;
  }
  layer (form.CallVirtual target class is_interface name params args) t = record {
    codes = λ n. let c = (coded target.0).codes n in
        called (kind_of_type t) _ (join (target.1.codes n).value (join (row_own args c.next) (virtual_own is_interface (method_of class name params t) params t (row_of args c.next).next)));
    spot = no_spot_own;
  }
  layer (form.CallStatic class name params args) t = record {
    codes = λ n. called (kind_of_type t) _ (join (row_own args n) (uses (row_of args n).next _ _));
    spot = no_spot_own;
  }
  layer (form.CallSuper class name params args) t = record {
    codes = λ n. called (kind_of_type t) _ (join (quiet n _) (join (row_own args n) (uses (row_of args n).next _ _)));
    spot = no_spot_own;
  }
  layer (form.New class params args) t = record {
    codes = λ n. plain (join (uses n _ _) (join (quiet n _) (join (row_own args n) (construction_own class params (row_of args n).next))));
    spot = no_spot_own;
  }
  layer (form.NewArray elem size) t = record { codes = λ n. labels.array_own label P (elements_of elem) ((coded size.0).codes n) n (size.1.codes n); spot = no_spot_own }
  layer (form.Print value) t = record {
    codes = λ n. labels.void_own label P _ _ _ n (join (value.1.codes n).value (uses ((coded value.0).codes n).next _ _));
    spot = no_spot_own;
  }
  layer (form.Show text) t = record { codes = λ n. labels.void_own label P _ 1 n n (join (uses n _ _) (uses n _ _)); spot = no_spot_own }
  layer form.Read t = record { codes = λ n. plain (uses n _ _); spot = no_spot_own }

  with_one : {A : Type 0} (Q : A → Type 0) (x z : A) → x ≡ z → Q z → Q x
  with_one Q x z e q = subst (λ v. Q v) (sym e) q

  pub expr_own : (e : TypedExpr) → OwnCoded (coded e)
  expr_own = ind-TypedExpr (λ k. (t : Ty) → OwnCoded (kind_coded k t)) (λ e. OwnCoded (coded e))
      (λ x y is. with_one (λ (g : Ty → Coded). (t : Ty) → OwnCoded (g t)) _ _ (fold-roll-TypedKind (Ty → Coded) Coded coded_step (λ e. e.kind e.ty) x)
      (subst (λ (z : TypedKind-F TypedKind TypedExpr). (t : Ty) → OwnCoded (coded_step (map-TypedKind TypedKind TypedExpr (Ty → Coded) Coded kind_coded coded z) t)) is (layer y)))
      (λ x y is. with_one OwnCoded _ _ (fold-roll-TypedExpr (Ty → Coded) Coded coded_step (λ e. e.kind e.ty) x)
      (subst (λ (z : form.TypedExpr-F TypedKind TypedExpr). OwnCoded (kind_coded z.kind z.ty)) is (y.kind.1 y.ty)))

  -- the expressions of a list
  pub list_own : (es : List TypedExpr) (n : ℕ) → Own n (row_codes (map coded es) n).next (row_codes (map coded es) n).items
  list_own [] n = nothing n
  list_own (x ∷ xs) n = let c = (coded x).codes n in join ((expr_own x).codes n).value (list_own xs c.next)
