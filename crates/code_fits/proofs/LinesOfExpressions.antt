-- The items of encodable expressions have opcodes, and name methods with the signatures of their descriptors where they fit.
use Rattle.std.proofs.Common.{◌≡◌, ℕ, ◌+◌, Bool, true, false, ◌&&◌, List, [], ◌∷◌, ◌++◌, map, Option, refl, sym, subst}
use Rattle.std.specs.Prelude.{pos, max}
use Rattle.std.specs.Int.{w32, int_wrap}
use Rattle.std.specs.List.{list_all}
use Rattle.jp_pred.specs.declared.ty.Ty.{Ty}
use Rattle.jp_meaning.specs.declared.expr.TypedExpr.{TypedExpr}
use Rattle.jp_meaning.specs.declared.expr.TypedKind.{TypedKind, TypedKind-F}
use Rattle.jp_meaning.specs.declared.expr.TypedKind.TheOpen as form
use Rattle.jp_meaning.specs.declared.expr.TypedKind.TheFolds.{ind-TypedExpr, fold-TypedKind, fold-roll-TypedExpr, fold-roll-TypedKind, map-TypedKind}
use Rattle.jp_meaning.specs.Descriptors.{internal_name, word_of, kind_of_type, elements_of}
use Rattle.jp_meaning.specs.Signs.{prefix_of, infix_of}
use Rattle.jp_meaning.specs.Run.{Program}
use Rattle.iface_codec.specs.declared.iface.Iface.{Iface}
use Rattle.jp_store.specs.declared.value.Kind.{Kind}
use Rattle.jp_store.specs.declared.value.Kind.TheVariants.{Reference}
use Rattle.jvm_table.specs.declared.instr.ConstantUse.TheVariants.{InvokeSpecial, InvokeStatic, MakeObject}
use Rattle.jvm_table.specs.declared.instr.Instr.TheVariants.{Load, Dup}
use Rattle.code_asm.specs.Items.{Wanted, Item, Plain, Uses}
use Rattle.gen_body.specs.Names.{are_nameable, is_result}
use Rattle.gen_body.specs.Codes.{Codes, Row, Coded, plain, called, choice, row_codes, coded_step, coded}
use Rattle.calls_fit.specs.Fitting.{Checked, all_fit, is_whole_above, check, expr_step as checked_step}
use Rattle.code_fits.specs.Encodable.{has_few, expr_step, is_encodable}
use Rattle.code_fits.specs.Ordinary.{is_ordinary, is_ordinary_family, is_distinct, calls_ordinary, expr_step as ordinary_step}
use Rattle.code_fits.proofs.Lines as lines
use Rattle.code_fits.proofs.Lines.{single_type, both_if}

module _ (G F : Type 0) (p : Program) (head : Iface) (r : Bool) where
  abbrev Each : List Item → Type 0
  Each = lines.Each G F

  abbrev checks : TypedExpr → Checked
  checks = check p head r

  -- the code of an expression that is encodable under the one premise, and under the other fits and calls ordinary methods
  pub record FitIf (x : Checked) (o y : Bool) (k : Coded) : Type 0 where
    pub codes : (F → x.fits ≡ true) → (F → o ≡ true) → (G → y ≡ true) → (n : ℕ) → lines.FitCodes G F (k.codes n)
    pub spot : (F → x.fits ≡ true) → (F → o ≡ true) → (G → y ≡ true) → (n : ℕ) → Each (k.spot n).items
    pub place : (G → y ≡ true) → (n : ℕ) → lines.PlaceFits G F (k.spot n).place

  abbrev kind_checked : TypedKind → Ty → Checked
  kind_checked = fold-TypedKind (Ty → Checked) Checked (checked_step p head r) (λ e. e.kind e.ty)

  abbrev kind_ordinary : TypedKind → Bool
  kind_ordinary = fold-TypedKind Bool Bool ordinary_step (λ e. e.kind)

  abbrev kind_encodable : TypedKind → Bool
  kind_encodable = fold-TypedKind Bool Bool expr_step (λ e. e.kind)

  abbrev kind_coded : TypedKind → Ty → Coded
  kind_coded = fold-TypedKind (Ty → Coded) Coded coded_step (λ e. e.kind e.ty)

  abbrev FitKind : Type 0
  FitKind = (k : TypedKind) × ((t : Ty) → FitIf (kind_checked k t) (kind_ordinary k) (kind_encodable k) (kind_coded k t))

  abbrev FitExpr : Type 0
  FitExpr = (e : TypedExpr) × FitIf (checks e) (calls_ordinary e) (is_encodable e) (coded e)

  abbrev given : List FitExpr → Bool
  given es = all_fit (map checks (map (λ e. e.0) es))

  abbrev usual : List FitExpr → Bool
  usual es = list_all (λ a. a) (map calls_ordinary (map (λ e. e.0) es))

  abbrev told : List FitExpr → Bool
  told es = list_all (λ a. a) (map is_encodable (map (λ e. e.0) es))

  abbrev row_of : List FitExpr → ℕ → Row
  row_of es = row_codes (map coded (map (λ e. e.0) es))

  row_fits : (es : List FitExpr) → (F → given es ≡ true) → (F → usual es ≡ true) → (G → told es ≡ true) → (n : ℕ) → Each (row_of es n).items
  row_fits [] e o g n = tt
  row_fits (x ∷ xs) e o g n =
      let h = both_if F (checks x.0).fits (given xs) e in let u = both_if F (calls_ordinary x.0) (usual xs) o in let i = both_if G (is_encodable x.0) (told xs) g in
      lines.joined G F ((coded x.0).codes n).value _ (x.1.codes h.0 u.0 i.0 n).value (row_fits xs h.1 u.1 i.1 ((coded x.0).codes n).next)

  -- one part, and an item behind it that is fit by itself
  behind : (k : Coded) (item : Item) (n : ℕ) → lines.FitCodes G F (k.codes n) → lines.Fit G F item → Each ((k.codes n).value ++ item ∷ [])
  behind k item n h i = lines.joined G F (k.codes n).value (item ∷ []) h.value (i, tt)

  one : (item : Item) (n : ℕ) → lines.Fit G F item → lines.FitCodes G F (plain (item ∷ []) 1 n)
  one item n h = lines.plain_fits G F (item ∷ []) 1 n (h, tt)

  then_one : (k : Coded) (item : Item) (n : ℕ) → lines.FitCodes G F (k.codes n) → lines.Fit G F item → lines.FitCodes G F (plain ((k.codes n).value ++ item ∷ []) (k.codes n).need (k.codes n).next)
  then_one k item n h i = lines.plain_fits G F ((k.codes n).value ++ item ∷ []) (k.codes n).need (k.codes n).next (behind k item n h i)

  cond_fits : (c d e : Codes) (n : ℕ) → lines.FitCodes G F c → lines.FitCodes G F d → lines.FitCodes G F e → lines.FitCodes G F (plain (choice c.test d.value e.value n) (max c.need (max d.need e.need)) e.next)
  cond_fits c d e n h i j = lines.plain_fits G F _ _ _ (lines.choice_fits G F c.test d.value e.value n (h.test false n) i.value j.value)

  index_fits : (c d : Codes) (item : Item) → lines.FitCodes G F c → lines.FitCodes G F d → lines.Fit G F item → lines.FitCodes G F (plain (c.value ++ (d.value ++ item ∷ [])) (max c.need (1 + d.need)) d.next)
  index_fits c d item h i j = lines.plain_fits G F _ _ _ (lines.joined G F c.value _ h.value (lines.joined G F d.value _ i.value (j, tt)))

  -- a call behind its arguments
  call_fits : (o : Option Kind) (r : Row) (item : Item) (need : ℕ) → Each r.items → lines.Fit G F item → lines.FitCodes G F (called o (r.items ++ item ∷ []) need r.next)
  call_fits o r item need h i = lines.called_fits G F o _ need r.next (lines.joined G F r.items _ h (i, tt))

  on_fits : (o : Option Kind) (c : Codes) (r : Row) (item : Item) → lines.FitCodes G F c → Each r.items → lines.Fit G F item → lines.FitCodes G F (called o (c.value ++ (r.items ++ item ∷ [])) (max c.need (1 + r.need)) r.next)
  on_fits o c r item h i j = lines.called_fits G F o _ _ _ (lines.joined G F c.value _ h.value (lines.joined G F r.items _ i (j, tt)))

  super_fits : (o : Option Kind) (r : Row) (item : Item) → Each r.items → lines.Fit G F item → lines.FitCodes G F (called o (Plain (Load Reference 0) ∷ (r.items ++ item ∷ [])) (1 + r.need) r.next)
  super_fits o r item h i = lines.called_fits G F o _ _ _ ((λ z. refl, λ f. tt), lines.joined G F r.items _ h (i, tt))

  new_fits : (class : Wanted) (r : Row) (item : Item) → lines.Fit G F (Uses MakeObject class) → Each r.items → lines.Fit G F item → lines.FitCodes G F (plain (Uses MakeObject class ∷ Plain Dup ∷ (r.items ++ item ∷ [])) (2 + r.need) r.next)
  new_fits class r item h i j = lines.plain_fits G F _ _ _ (h, ((λ z. refl, λ f. tt), lines.joined G F r.items _ i (j, tt)))

  layer : (y : TypedKind-F FitKind FitExpr) (t : Ty) →
      FitIf (checked_step p head r (map-TypedKind TypedKind TypedExpr (Ty → Checked) Checked kind_checked checks (map-TypedKind FitKind FitExpr TypedKind TypedExpr (λ e. e.0) (λ e. e.0) y)) t)
      (ordinary_step (map-TypedKind TypedKind TypedExpr Bool Bool kind_ordinary calls_ordinary (map-TypedKind FitKind FitExpr TypedKind TypedExpr (λ e. e.0) (λ e. e.0) y)))
      (expr_step (map-TypedKind TypedKind TypedExpr Bool Bool kind_encodable is_encodable (map-TypedKind FitKind FitExpr TypedKind TypedExpr (λ e. e.0) (λ e. e.0) y)))
      (coded_step (map-TypedKind TypedKind TypedExpr (Ty → Coded) Coded kind_coded coded (map-TypedKind FitKind FitExpr TypedKind TypedExpr (λ e. e.0) (λ e. e.0) y)) t)
  layer (form.Number value hex) t = record { codes = λ e o g n. one _ n (lines.int_fits G F (int_wrap w32 (pos value))); spot = λ e o g n. tt; place = λ g n. tt }
  layer (form.Truth value) t = record { codes = λ e o g n. one _ n (lines.truth_fits G F value); spot = λ e o g n. tt; place = λ g n. tt }
  layer form.Null t = record { codes = λ e o g n. one _ n (λ z. refl, λ f. tt); spot = λ e o g n. tt; place = λ g n. tt }
  layer form.This t = record { codes = λ e o g n. one _ n (λ z. refl, λ f. tt); spot = λ e o g n. tt; place = λ g n. tt }
  layer (form.Local slot) t = record {
    codes = λ e o g n. lines.local_fits G F (kind_of_type t) (single_type t) slot g n;
    spot = λ e o g n. lines.local_spot_fits G F (kind_of_type t) slot n;
    place = λ g n. lines.local_place G F (kind_of_type t) (single_type t) slot g n;
  }
  layer (form.Unary sign right) t = record { codes = λ e o g n. lines.prefix_fits G F (prefix_of sign) (coded right.0) (right.1.codes e o g) n; spot = λ e o g n. tt; place = λ g n. tt }
  layer (form.Binary sign left right) t = record {
    codes = λ e o g n.
        let h = both_if F (checks left.0).fits (checks right.0).fits e in
        let u = both_if F (calls_ordinary left.0) (calls_ordinary right.0) o in
        let i = both_if G (is_encodable left.0) (is_encodable right.0) g in
        lines.infix_fits G F (infix_of sign) (coded left.0) (coded right.0) (left.1.codes h.0 u.0 i.0) (right.1.codes h.1 u.1 i.1) n;
    spot = λ e o g n. tt;
    place = λ g n. tt;
  }
  layer (form.Cond test first second) t = record {
    codes = λ e o g n.
        let h = both_if F (checks test.0).fits ((checks first.0).fits && (checks second.0).fits) e in
        let i = both_if F (checks first.0).fits (checks second.0).fits h.1 in
        let u = both_if F (calls_ordinary test.0) (calls_ordinary first.0 && calls_ordinary second.0) o in
        let v = both_if F (calls_ordinary first.0) (calls_ordinary second.0) u.1 in
        let j = both_if G (is_encodable test.0) (is_encodable first.0 && is_encodable second.0) g in
        let k = both_if G (is_encodable first.0) (is_encodable second.0) j.1 in
        let c = (coded test.0).codes (n + 2) in let d = (coded first.0).codes c.next in
        cond_fits c d ((coded second.0).codes d.next) n (test.1.codes h.0 u.0 j.0 (n + 2)) (first.1.codes i.0 v.0 k.0 c.next) (second.1.codes i.1 v.1 k.1 d.next);
    spot = λ e o g n. tt;
    place = λ g n. tt;
  }
  layer (form.Cast class value) t = record { codes = λ e o g n. then_one (coded value.0) _ n (value.1.codes e o g n) (λ z. refl, λ f. tt); spot = λ e o g n. tt; place = λ g n. tt }
  layer (form.InstanceOf value class) t = record { codes = λ e o g n. then_one (coded value.0) _ n (value.1.codes e o g n) (λ z. refl, λ f. tt); spot = λ e o g n. tt; place = λ g n. tt }
  layer (form.Field target class name) t = record {
    codes = λ e o g n. then_one (coded target.0) _ n (target.1.codes e o g n) (λ z. refl, λ f. tt);
    spot = λ e o g n. (target.1.codes e o g n).value;
    place = λ g n. tt;
  }
  layer (form.Static class name) t = record { codes = λ e o g n. one _ n (λ z. refl, λ f. tt); spot = λ e o g n. tt; place = λ g n. tt }
  layer (form.Length array) t = record { codes = λ e o g n. then_one (coded array.0) _ n (array.1.codes e o g n) (λ z. refl, λ f. tt); spot = λ e o g n. tt; place = λ g n. tt }
  layer (form.Index array index) t =
      record {
        codes = λ e o g n.
            let h = both_if F (checks array.0).fits (checks index.0).fits e in
            let u = both_if F (calls_ordinary array.0) (calls_ordinary index.0) o in
            let i = both_if G (is_encodable array.0) (is_encodable index.0) g in let c = (coded array.0).codes n in
            index_fits c ((coded index.0).codes c.next) _ (array.1.codes h.0 u.0 i.0 n) (index.1.codes h.1 u.1 i.1 c.next) (λ z. refl, λ f. tt);
        spot = λ e o g n.
            let h = both_if F (checks array.0).fits (checks index.0).fits e in
            let u = both_if F (calls_ordinary array.0) (calls_ordinary index.0) o in
            let i = both_if G (is_encodable array.0) (is_encodable index.0) g in let c = (coded array.0).codes n in
            lines.joined G F c.value _ (array.1.codes h.0 u.0 i.0 n).value (index.1.codes h.1 u.1 i.1 c.next).value;
        place = λ g n. tt;
      }
  layer (form.CallVirtual target class is_interface name params args) t =
      let named = are_nameable params && is_result t in
      record {
        codes = λ e o g n.
            let h = both_if F (checks target.0).fits (given args && named) e in let i = both_if F (given args) named h.1 in
            let u = both_if F (calls_ordinary target.0) (usual args && is_ordinary class name) o in let v = both_if F (usual args) (is_ordinary class name) u.1 in
            let j = both_if G (is_encodable target.0) (told args && has_few is_interface params) g in let k = both_if G (told args) (has_few is_interface params) j.1 in
            let c = (coded target.0).codes n in
            on_fits (kind_of_type t) c (row_of args c.next) _ (target.1.codes h.0 u.0 j.0 n) (row_fits args i.0 v.0 k.0 c.next) (lines.virtual_fits G F is_interface class name params t i.1 v.1 k.1);
        spot = λ e o g n. tt;
        place = λ g n. tt;
      }
  layer (form.CallStatic class name params args) t =
      let named = are_nameable params && is_result t in
      record {
        codes = λ e o g n.
            let h = both_if F (given args) named e in let u = both_if F (usual args) (is_ordinary class name) o in
            call_fits (kind_of_type t) (row_of args n) _ _ (row_fits args h.0 u.0 g n) (lines.named_fits G F InvokeStatic class name params t h.1 u.1);
        spot = λ e o g n. tt;
        place = λ g n. tt;
      }
  layer (form.CallSuper class name params args) t =
      let named = are_nameable params && is_result t in
      let above = is_whole_above p head (word_of (internal_name class)) in
      record {
        codes = λ e o g n.
            let h = both_if F (given args && named) (r && above) e in let i = both_if F (given args) named h.0 in
            let u = both_if F (usual args) (is_ordinary_family class name) o in
            super_fits (kind_of_type t) (row_of args n) _ (row_fits args i.0 u.0 g n) (lines.family_fits G F InvokeSpecial class name params t i.1 u.1);
        spot = λ e o g n. tt;
        place = λ g n. tt;
      }
  layer (form.New class params args) t = record {
    codes = λ e o g n.
        let h = both_if F (given args) (are_nameable params) e in let u = both_if F (usual args) (is_distinct class) o in
        new_fits _ (row_of args n) _ (λ z. refl, λ f. tt) (row_fits args h.0 u.0 g n) (lines.construction_fits G F class params h.1 u.1);
    spot = λ e o g n. tt;
    place = λ g n. tt;
  }
  layer (form.NewArray elem size) t = record { codes = λ e o g n. lines.elements_fit G F (elements_of elem) ((coded size.0).codes n) (size.1.codes e o g n); spot = λ e o g n. tt; place = λ g n. tt }
  layer (form.Print value) t = record { codes = λ e o g n. lines.void_fits G F _ _ _ (behind (coded value.0) _ n (value.1.codes e o g n) (λ z. refl, λ f. tt)); spot = λ e o g n. tt; place = λ g n. tt }
  layer (form.Show text) t = record { codes = λ e o g n. lines.void_fits G F _ 1 n ((λ z. refl, λ f. tt), ((λ z. refl, λ f. tt), tt)); spot = λ e o g n. tt; place = λ g n. tt }
  layer form.Read t = record { codes = λ e o g n. one _ n (λ z. refl, λ f. tt); spot = λ e o g n. tt; place = λ g n. tt }

  with_four : {A B C D : Type 0} (Q : A → B → C → D → Type 0) (a e : A) (b f : B) (c g : C) (d h : D) → a ≡ e → b ≡ f → c ≡ g → d ≡ h → Q e f g h → Q a b c d
  with_four Q a e b f c g d h i j k l q = subst (λ w. Q w b c d) (sym i) (subst (λ x. Q e x c d) (sym j) (subst (λ y. Q e f y d) (sym k) (subst (λ z. Q e f g z) (sym l) q)))

  pub expr_fits : (e : TypedExpr) → FitIf (checks e) (calls_ordinary e) (is_encodable e) (coded e)
  expr_fits = ind-TypedExpr (λ k. (t : Ty) → FitIf (kind_checked k t) (kind_ordinary k) (kind_encodable k) (kind_coded k t)) (λ e. FitIf (checks e) (calls_ordinary e) (is_encodable e) (coded e))
      (λ x y is. with_four (λ (f : Ty → Checked) (o b : Bool) (g : Ty → Coded). (t : Ty) → FitIf (f t) o b (g t)) _ _ _ _ _ _ _ _ (fold-roll-TypedKind (Ty → Checked) Checked (checked_step p head r) (λ e. e.kind e.ty) x) (fold-roll-TypedKind Bool Bool ordinary_step (λ e. e.kind) x) (fold-roll-TypedKind Bool Bool expr_step (λ e. e.kind) x) (fold-roll-TypedKind (Ty → Coded) Coded coded_step (λ e. e.kind e.ty) x)
      (subst (λ (z : TypedKind-F TypedKind TypedExpr). (t : Ty) → FitIf (checked_step p head r (map-TypedKind TypedKind TypedExpr (Ty → Checked) Checked kind_checked checks z) t) (ordinary_step (map-TypedKind TypedKind TypedExpr Bool Bool kind_ordinary calls_ordinary z)) (expr_step (map-TypedKind TypedKind TypedExpr Bool Bool kind_encodable is_encodable z)) (coded_step (map-TypedKind TypedKind TypedExpr (Ty → Coded) Coded kind_coded coded z) t)) is (layer y)))
      (λ x y is. with_four FitIf _ _ _ _ _ _ _ _ (fold-roll-TypedExpr (Ty → Checked) Checked (checked_step p head r) (λ e. e.kind e.ty) x) (fold-roll-TypedExpr Bool Bool ordinary_step (λ e. e.kind) x) (fold-roll-TypedExpr Bool Bool expr_step (λ e. e.kind) x) (fold-roll-TypedExpr (Ty → Coded) Coded coded_step (λ e. e.kind e.ty) x)
      (subst (λ (z : form.TypedExpr-F TypedKind TypedExpr). FitIf (kind_checked z.kind z.ty) (kind_ordinary z.kind) (kind_encodable z.kind) (kind_coded z.kind z.ty)) is (y.kind.1 y.ty)))

  -- the expressions of a list
  pub list_fits : (es : List TypedExpr) → (F → all_fit (map checks es) ≡ true) → (F → list_all calls_ordinary es ≡ true) → (G → list_all is_encodable es ≡ true) → (n : ℕ) → Each (row_codes (map coded es) n).items
  list_fits [] e o g n = tt
  list_fits (x ∷ xs) e o g n =
      let h = both_if F (checks x).fits (all_fit (map checks xs)) e in let u = both_if F (calls_ordinary x) (list_all calls_ordinary xs) o in let i = both_if G (is_encodable x) (list_all is_encodable xs) g in
      lines.joined G F ((coded x).codes n).value _ ((expr_fits x).codes h.0 u.0 i.0 n).value (list_fits xs h.1 u.1 i.1 ((coded x).codes n).next)
