-- The code of expressions is short for their nodes.
use Rattle.std.proofs.Common.{◌≡◌, ℕ, ◌+◌, ◌*◌, ◌≤◌, false, List, [], ◌∷◌, ◌++◌, map, Option, refl, sym, subst, arith}
use Rattle.std.specs.Prelude.{max, pos}
use Rattle.std.specs.Int.{w32, int_wrap}
use Rattle.jp_pred.specs.declared.ty.Ty.{Ty}
use Rattle.jp_store.specs.declared.value.Kind.{Kind}
use Rattle.jp_store.specs.declared.value.Kind.TheVariants.{Reference}
use Rattle.jp_store.specs.declared.value.ElementKind.{ElementKind}
use Rattle.jp_store.specs.Classes.{Key}
use Rattle.jp_meaning.specs.declared.expr.TypedExpr.{TypedExpr}
use Rattle.jp_meaning.specs.declared.expr.TypedKind.{TypedKind, TypedKind-F}
use Rattle.jp_meaning.specs.declared.expr.TypedKind.TheOpen as form
use Rattle.jp_meaning.specs.declared.expr.TypedKind.TheFolds.{ind-TypedExpr, fold-TypedKind, fold-roll-TypedExpr, fold-roll-TypedKind, map-TypedKind}
use Rattle.jp_meaning.specs.Descriptors.{method_of, kind_of_type, elements_of}
use Rattle.jp_meaning.specs.Signs.{prefix_of, infix_of}
use Rattle.jvm_table.specs.declared.instr.Instr.TheVariants.{Load, Dup}
use Rattle.jvm_table.specs.declared.instr.ConstantUse.{ConstantUse}
use Rattle.code_asm.specs.Items.{Wanted, Item, Plain, Uses}
use Rattle.gen_body.specs.Codes.{Codes, SpotCodes, Row, Coded, FieldAt, StaticAt, ElementAt, plain, void, called, no_spot, push_int, virtual_call, choice, row_codes, coded_step, coded}
use Rattle.gen_bounds.specs.Nodes.{total, expr_step, expr_nodes}
use Rattle.gen_bounds.proofs.Weights as weights
use Rattle.gen_bounds.proofs.Weights.{weigh_join, weigh_end, weigh_both, weigh_choice, int_weight, virtual_weight}
use Rattle.gen_bounds.proofs.Forms as forms

module _ (a i m node : ℕ) (fair : 4 * a + 3 * m ≤ node) (calls : i ≤ a + a) where
  abbrev w : List Item → ℕ
  w = forms.w a i m node fair

  abbrev ShortCodes : ℕ → ℕ → Codes → Type 0
  ShortCodes = forms.ShortCodes a i m node fair

  abbrev ShortSpot : ℕ → ℕ → SpotCodes → Type 0
  ShortSpot = forms.ShortSpot a i m node fair

  abbrev pub ShortCoded : ℕ → Coded → Type 0
  ShortCoded = forms.ShortCoded a i m node fair

  abbrev pub ShortRow : ℕ → ℕ → Row → Type 0
  ShortRow = forms.ShortRow a i m node fair

  abbrev kind_nodes : TypedKind → ℕ
  kind_nodes = fold-TypedKind ℕ ℕ expr_step (λ e. e.kind)

  abbrev kind_coded : TypedKind → Ty → Coded
  kind_coded = fold-TypedKind (Ty → Coded) Coded coded_step (λ e. e.kind e.ty)

  abbrev ShortKind : Type 0
  ShortKind = (k : TypedKind) × ((t : Ty) → ShortCoded (kind_nodes k) (kind_coded k t))

  abbrev ShortExpr : Type 0
  ShortExpr = (e : TypedExpr) × ShortCoded (expr_nodes e) (coded e)

  -- one expression in front of others
  in_front : (k l n : ℕ) (x : Coded) (xs : List Coded) → ShortCoded k x → ShortRow l (x.codes n).next (row_codes xs (x.codes n).next) → ShortRow (k + l) n (row_codes (x ∷ xs) n)
  in_front k l n x xs h j =
      let c = x.codes n in let r = row_codes xs c.next in let p = h.codes n in
      let some = h.some in
      record { items = let e = weigh_join a i m c.value r.items in omega arith; next = omega arith; need = omega arith }

  empty_row : (n : ℕ) → ShortRow 0 n (row_codes [] n)
  empty_row n = record { items = omega arith; next = omega arith; need = omega arith }

  abbrev row_nodes : List ShortExpr → ℕ
  row_nodes es = total (map expr_nodes (map (λ e. e.0) es))

  abbrev row_of : List ShortExpr → ℕ → Row
  row_of es = row_codes (map coded (map (λ e. e.0) es))

  row_short : (es : List ShortExpr) (n : ℕ) → ShortRow (row_nodes es) n (row_of es n)
  row_short [] n = empty_row n
  row_short (x ∷ xs) n =
      in_front (expr_nodes x.0) (row_nodes xs) n (coded x.0) (map coded (map (λ e. e.0) xs)) x.1 (row_short xs ((coded x.0).codes n).next)

  cond_short : (c d e : Codes) (k l j n : ℕ) → ShortCodes k (n + 2) c → ShortCodes l c.next d → ShortCodes j d.next e → ShortCodes (1 + (k + (l + j))) n (plain (choice c.test d.value e.value n) (max c.need (max d.need e.need)) e.next)
  cond_short c d e k l j n h f g =
      let t = h.test false n in let u = weigh_choice a i m c.test d.value e.value n in
      forms.plain_short a i m node fair _ (max c.need (max d.need e.need)) e.next (1 + (k + (l + j))) n (omega arith) (omega arith) (omega arith)

  index_short : (c d : Codes) (item : Item) (k l n : ℕ) → 1 ≤ l → weights.weight a i m item ≡ a → ShortCodes k n c → ShortCodes l c.next d → ShortCodes (1 + (k + l)) n (plain (c.value ++ (d.value ++ item ∷ [])) (max c.need (1 + d.need)) d.next)
  index_short c d item k l n some e h f =
      let u = weigh_both a i m c.value d.value item in
      forms.plain_short a i m node fair _ (max c.need (1 + d.need)) d.next (1 + (k + l)) n (omega arith) (omega arith) (omega arith)

  index_spot : (c d : Codes) (kind : ElementKind) (k l n : ℕ) → 1 ≤ k → 1 ≤ l → ShortCodes k n c → ShortCodes l c.next d → ShortSpot (1 + (k + l)) n (record { items = c.value ++ d.value; next = d.next; need = max c.need (1 + d.need); place = ElementAt kind })
  index_spot c d kind k l n some more h f =
      let u = weigh_join a i m c.value d.value in
      record { items = omega arith; next = omega arith; need = omega arith; parts = omega arith }

  field_spot : (c : Codes) (key : Key) (k n : ℕ) → 1 ≤ k → ShortCodes k n c → ShortSpot (1 + k) n (record { items = c.value; next = c.next; need = c.need; place = FieldAt key })
  field_spot c key k n some h = record { items = omega arith; next = omega arith; need = omega arith; parts = omega arith }

  static_spot : (key : Key) (n : ℕ) → ShortSpot 1 n (record { items = []; next = n; need = 0; place = StaticAt key })
  static_spot key n = record { items = omega arith; next = omega arith; need = omega arith; parts = omega arith }

  -- a call of a family, on an object
  virtual_short : (o : Option Kind) (c : Codes) (r : Row) (item : Item) (k l n : ℕ) → weights.weight a i m item ≤ a + a → ShortCodes k n c → ShortRow l c.next r → ShortCodes (1 + (k + l)) n (called o (c.value ++ (r.items ++ item ∷ [])) (max c.need (1 + r.need)) r.next)
  virtual_short o c r item k l n e h f =
      let u = weigh_both a i m c.value r.items item in
      forms.called_short a i m node fair o _ (max c.need (1 + r.need)) r.next (1 + (k + l)) n (omega arith) (omega arith) (omega arith)

  static_short : (o : Option Kind) (r : Row) (use_ : ConstantUse) (wanted : Wanted) (k n : ℕ) → ShortRow k n r → ShortCodes (1 + k) n (called o (r.items ++ Uses use_ wanted ∷ []) r.need r.next)
  static_short o r use_ wanted k n h =
      let u = weigh_end a i m r.items (Uses use_ wanted) in
      forms.called_short a i m node fair o _ r.need r.next (1 + k) n (omega arith) (omega arith) (omega arith)

  super_short : (o : Option Kind) (r : Row) (use_ : ConstantUse) (wanted : Wanted) (k n : ℕ) → ShortRow k n r → ShortCodes (1 + k) n (called o (Plain (Load Reference 0) ∷ (r.items ++ Uses use_ wanted ∷ [])) (1 + r.need) r.next)
  super_short o r use_ wanted k n h =
      let u = weigh_end a i m r.items (Uses use_ wanted) in
      forms.called_short a i m node fair o _ (1 + r.need) r.next (1 + k) n (omega arith) (omega arith) (omega arith)

  new_short : (r : Row) (first last : ConstantUse) (class wanted : Wanted) (k n : ℕ) → ShortRow k n r → ShortCodes (1 + k) n (plain (Uses first class ∷ Plain Dup ∷ (r.items ++ Uses last wanted ∷ [])) (2 + r.need) r.next)
  new_short r first last class wanted k n h =
      let u = weigh_end a i m r.items (Uses last wanted) in
      forms.plain_short a i m node fair _ (2 + r.need) r.next (1 + k) n (omega arith) (omega arith) (omega arith)

  print_short : (c : Codes) (use_ : ConstantUse) (wanted : Wanted) (k n : ℕ) → 1 ≤ k → ShortCodes k n c → ShortCodes (1 + k) n (void (c.value ++ Uses use_ wanted ∷ []) c.need c.next)
  print_short c use_ wanted k n some h =
      let u = weigh_end a i m c.value (Uses use_ wanted) in
      forms.void_short a i m node fair _ c.need c.next (1 + k) n (omega arith) (omega arith) (omega arith)

  show_short : (first last : ConstantUse) (text wanted : Wanted) (n : ℕ) → ShortCodes 1 n (void (Uses first text ∷ Uses last wanted ∷ []) 1 n)
  show_short first last text wanted n = forms.void_short a i m node fair _ 1 n 1 n (omega arith) (omega arith) (omega arith)

  single : (item : Item) (n : ℕ) → weights.weight a i m item ≤ a → ShortCodes 1 n (plain (item ∷ []) 1 n)
  single = forms.single_short a i m node fair

  behind : (c : Codes) (item : Item) (k n : ℕ) → ShortCodes k n c → weights.weight a i m item ≤ a → ShortCodes (1 + k) n (plain (c.value ++ item ∷ []) c.need c.next)
  behind = forms.behind_short a i m node fair

  unassigned : (k n : ℕ) → ShortSpot (1 + k) n (no_spot n)
  unassigned = forms.no_spot_short a i m node fair

  layer : (y : TypedKind-F ShortKind ShortExpr) (t : Ty) →
      ShortCoded (expr_step (map-TypedKind TypedKind TypedExpr ℕ ℕ kind_nodes expr_nodes (map-TypedKind ShortKind ShortExpr TypedKind TypedExpr (λ e. e.0) (λ e. e.0) y)))
      (coded_step (map-TypedKind TypedKind TypedExpr (Ty → Coded) Coded kind_coded coded (map-TypedKind ShortKind ShortExpr TypedKind TypedExpr (λ e. e.0) (λ e. e.0) y)) t)
  layer (form.Number value hex) t = record { some = omega arith; codes = λ n. single (push_int (int_wrap w32 (pos value))) n (let e = int_weight a i m (int_wrap w32 (pos value)) in omega arith); spot = unassigned 0 }
  layer (form.Truth value) t = record { some = omega arith; codes = λ n. single _ n (omega arith); spot = unassigned 0 }
  layer form.Null t = record { some = omega arith; codes = λ n. single _ n (omega arith); spot = unassigned 0 }
  layer form.This t = record { some = omega arith; codes = λ n. single _ n (omega arith); spot = unassigned 0 }
  layer (form.Local slot) t = record { some = omega arith; codes = forms.local_short a i m node fair (kind_of_type t) slot; spot = forms.local_spot_short a i m node fair (kind_of_type t) slot }
  layer (form.Unary sign right) t =
      record { some = omega arith; codes = forms.prefix_short a i m node fair (prefix_of sign) (coded right.0) (expr_nodes right.0) right.1; spot = unassigned (expr_nodes right.0) }
  layer (form.Binary sign left right) t =
      record {
        some = omega arith;
        codes = forms.infix_short a i m node fair (infix_of sign) (coded left.0) (coded right.0) (expr_nodes left.0) (expr_nodes right.0) left.1 right.1;
        spot = unassigned (expr_nodes left.0 + expr_nodes right.0);
      }
  layer (form.Cond test first second) t =
      let k = expr_nodes test.0 in let l = expr_nodes first.0 in let j = expr_nodes second.0 in
      record {
        some = omega arith;
        codes = λ n. let c = (coded test.0).codes (n + 2) in let d = (coded first.0).codes c.next in let e = (coded second.0).codes d.next in
            cond_short c d e k l j n (test.1.codes (n + 2)) (first.1.codes c.next) (second.1.codes d.next);
        spot = unassigned (k + (l + j));
      }
  layer (form.Cast class value) t =
      let k = expr_nodes value.0 in
      record { some = omega arith; codes = λ n. behind ((coded value.0).codes n) _ k n (value.1.codes n) (omega arith); spot = unassigned k }
  layer (form.InstanceOf value class) t =
      let k = expr_nodes value.0 in
      record { some = omega arith; codes = λ n. behind ((coded value.0).codes n) _ k n (value.1.codes n) (omega arith); spot = unassigned k }
  layer (form.Field target class name) t =
      let k = expr_nodes target.0 in
      record {
        some = omega arith;
        codes = λ n. behind ((coded target.0).codes n) _ k n (target.1.codes n) (omega arith);
        spot = λ n. field_spot ((coded target.0).codes n) _ k n target.1.some (target.1.codes n);
      }
  layer (form.Static class name) t = record { some = omega arith; codes = λ n. single _ n (omega arith); spot = static_spot _ }
  layer (form.Length array) t =
      let k = expr_nodes array.0 in
      record { some = omega arith; codes = λ n. behind ((coded array.0).codes n) _ k n (array.1.codes n) (omega arith); spot = unassigned k }
  layer (form.Index array index) t =
      let k = expr_nodes array.0 in let l = expr_nodes index.0 in
      record {
        some = omega arith;
        codes = λ n. let c = (coded array.0).codes n in let d = (coded index.0).codes c.next in
            index_short c d _ k l n index.1.some refl (array.1.codes n) (index.1.codes c.next);
        spot = λ n. let c = (coded array.0).codes n in let d = (coded index.0).codes c.next in
            index_spot c d _ k l n array.1.some index.1.some (array.1.codes n) (index.1.codes c.next);
      }
  layer (form.CallVirtual target class is_interface name params args) t =
      let k = expr_nodes target.0 in let l = row_nodes args in
      record {
        some = omega arith;
        codes = λ n. let c = (coded target.0).codes n in let r = row_of args c.next in
            virtual_short (kind_of_type t) c r (virtual_call is_interface (method_of class name params t) params t) k l n (virtual_weight a i m calls is_interface (method_of class name params t) params t) (target.1.codes n) (row_short args c.next);
        spot = unassigned (k + l);
      }
  layer (form.CallStatic class name params args) t =
      record { some = omega arith; codes = λ n. static_short (kind_of_type t) (row_of args n) _ _ (row_nodes args) n (row_short args n); spot = unassigned (row_nodes args) }
  layer (form.CallSuper class name params args) t =
      record { some = omega arith; codes = λ n. super_short (kind_of_type t) (row_of args n) _ _ (row_nodes args) n (row_short args n); spot = unassigned (row_nodes args) }
  layer (form.New class params args) t =
      record { some = omega arith; codes = λ n. new_short (row_of args n) _ _ _ _ (row_nodes args) n (row_short args n); spot = unassigned (row_nodes args) }
  layer (form.NewArray elem size) t =
      let k = expr_nodes size.0 in
      record { some = omega arith; codes = λ n. forms.array_short a i m node fair (elements_of elem) ((coded size.0).codes n) k n (size.1.codes n); spot = unassigned k }
  layer (form.Print value) t =
      let k = expr_nodes value.0 in
      record { some = omega arith; codes = λ n. print_short ((coded value.0).codes n) _ _ k n value.1.some (value.1.codes n); spot = unassigned k }
  layer (form.Show text) t = record { some = omega arith; codes = λ n. show_short _ _ _ _ n; spot = unassigned 0 }
  layer form.Read t = record { some = omega arith; codes = λ n. single _ n (omega arith); spot = unassigned 0 }

  with_both : {A B : Type 0} (Q : A → B → Type 0) (x z : A) (y u : B) → x ≡ z → y ≡ u → Q z u → Q x y
  with_both Q x z y u e f q = subst (λ v. Q v y) (sym e) (subst (λ v. Q z v) (sym f) q)

  pub expr_short : (e : TypedExpr) → ShortCoded (expr_nodes e) (coded e)
  expr_short = ind-TypedExpr (λ k. (t : Ty) → ShortCoded (kind_nodes k) (kind_coded k t)) (λ e. ShortCoded (expr_nodes e) (coded e))
      (λ x y is. with_both (λ (f : ℕ) (g : Ty → Coded). (t : Ty) → ShortCoded f (g t)) _ _ _ _ (fold-roll-TypedKind ℕ ℕ expr_step (λ e. e.kind) x) (fold-roll-TypedKind (Ty → Coded) Coded coded_step (λ e. e.kind e.ty) x)
      (subst (λ (z : TypedKind-F TypedKind TypedExpr). (t : Ty) → ShortCoded (expr_step (map-TypedKind TypedKind TypedExpr ℕ ℕ kind_nodes expr_nodes z)) (coded_step (map-TypedKind TypedKind TypedExpr (Ty → Coded) Coded kind_coded coded z) t)) is (layer y)))
      (λ x y is. with_both ShortCoded _ _ _ _ (fold-roll-TypedExpr ℕ ℕ expr_step (λ e. e.kind) x) (fold-roll-TypedExpr (Ty → Coded) Coded coded_step (λ e. e.kind e.ty) x)
      (subst (λ (z : form.TypedExpr-F TypedKind TypedExpr). ShortCoded (kind_nodes z.kind) (kind_coded z.kind z.ty)) is (y.kind.1 y.ty)))

  -- the expressions of a list
  pub list_short : (es : List TypedExpr) (n : ℕ) → ShortRow (total (map expr_nodes es)) n (row_codes (map coded es) n)
  list_short [] n = empty_row n
  list_short (x ∷ xs) n = in_front (expr_nodes x) (total (map expr_nodes xs)) n (coded x) (map coded xs) (expr_short x) (list_short xs ((coded x).codes n).next)
