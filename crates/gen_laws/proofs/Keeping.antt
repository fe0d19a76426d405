-- The code of expressions that fit leaves the receiver alone.
use Rattle.std.proofs.Common.{◌≡◌, ℕ, ◌+◌, Bool, true, false, not, ◌&&◌, ◌||◌, List, [], ◌∷◌, ◌++◌, map, Option, Some, None, refl, sym, ap, ◌∙◌, subst}
use Rattle.std.specs.Prelude.{ℤ, pos, ◌==◌, cond, max, codes}
use Rattle.std.specs.Int.{w32, int_wrap}
use Rattle.std.specs.List.{list_all}
use Rattle.class_form.proofs.Facts.{both}
use Rattle.jp_pred.specs.declared.ty.Ty.{Ty}
use Rattle.jp_pred.specs.declared.ty.Ty.TheVariants as ty
use Rattle.jp_pred.specs.Names.{Word, object, same}
use Rattle.jp_pred.specs.Kinds.{is_reference}
use Rattle.iface_codec.specs.declared.iface.Iface.{Iface}
use Rattle.jp_store.specs.declared.value.Kind.{Kind}
use Rattle.jp_store.specs.declared.operator.Test.{Test}
use Rattle.jp_store.specs.Classes.{object_name}
use Rattle.jp_store.specs.Work.{NamedElement, IntElements, BooleanElements, ClassElements}
use Rattle.jp_meaning.specs.declared.expr.TypedExpr.{TypedExpr}
use Rattle.jp_meaning.specs.declared.expr.TypedKind.{TypedKind, TypedKind-F}
use Rattle.jp_meaning.specs.declared.expr.TypedKind.TheOpen as form
use Rattle.jp_meaning.specs.declared.expr.TypedKind.TheFolds.{ind-TypedExpr, fold-TypedKind, fold-roll-TypedExpr, fold-roll-TypedKind, map-TypedKind}
use Rattle.jp_meaning.specs.Does.{Method}
use Rattle.jp_meaning.specs.Descriptors.{internal_name, word_of, method_of, constructor_of, kind_of_type, elements_of}
use Rattle.jp_meaning.specs.Signs.{Prefix, Plus, Minus, Not, Complement, Infix, Operates, Compares, AndThen, OrElse, prefix_of, infix_of}
use Rattle.jp_meaning.specs.Run.{Program}
use Rattle.jvm_table.specs.declared.instr.Instr.TheVariants.{PushInt}
use Rattle.jvm_table.specs.declared.instr.ConstantUse.TheVariants.{PushConstant, InvokeSpecial}
use Rattle.code_asm.specs.Items.{IntOf, BuiltIn, Item, Plain, Uses, Branch}
use Rattle.gen_body.specs.Names.{are_nameable, is_result}
use Rattle.gen_body.specs.Codes.{Codes, plain, void, judged, choose_truth, and_test, or_test, choice, is_short, construction, named, virtual_call, called, make_array, Place, LocalAt, FieldAt, StaticAt, ElementAt, Nowhere, Literal, Zero, Nil, Anything, Coded, row_codes, prefix_codes, infix_codes, compare_both, compare_codes, local_codes, array_codes, local_spot, coded_step, coded}
use Rattle.gen_body.specs.Correct.{keeps}
use Rattle.calls_fit.specs.Fitting.{Checked, all_fit, is_whole_above, expr_step, check}

pub or_true : (b : Bool) → (b || true) ≡ true
or_true true = refl
or_true false = refl

module _ (r : Bool) where
  -- each item leaves the receiver alone
  abbrev pub Keep : List Item → Type 0
  Keep [] = Unit {0}
  Keep (item ∷ items) = (keeps r item ≡ true) × Keep items

  pub keep_all : (items : List Item) → Keep items → list_all (keeps r) items ≡ true
  keep_all [] h = refl
  keep_all (item ∷ items) h = ap (λ b. b && list_all (keeps r) items) h.0 ∙ keep_all items h.1

  pub joined : (a b : List Item) → Keep a → Keep b → Keep (a ++ b)
  joined [] b h k = k
  joined (item ∷ a) b h k = (h.0, joined a b h.1 k)

  -- an instruction that stores in no local, and one whose constant is no family
  pub plain_ok : (not r || true) ≡ true
  plain_ok = or_true (not r)

  pub uses_ok : (r || true) ≡ true
  uses_ok = or_true r

  pub record KeepCodes (c : Codes) : Type 0 where
    pub value : Keep c.value
    pub test : (want : Bool) (label : ℕ) → Keep (c.test want label)
    pub done : Keep c.done

  pub plain_keeps : (items : List Item) (need next : ℕ) → Keep items → KeepCodes (plain items need next)
  plain_keeps items need next h = record {
    value = h;
    test = λ want label. joined items (Branch _ label ∷ []) h (refl, tt);
    done = joined items _ h (plain_ok, tt);
  }

  pub void_keeps : (items : List Item) (need next : ℕ) → Keep items → KeepCodes (void items need next)
  void_keeps items need next h =
      let v = joined items _ h (plain_ok, tt) in
      record { value = v; test = λ want label. joined _ (Branch _ label ∷ []) v (refl, tt); done = h }

  choose_keeps : (n : ℕ) → Keep (choose_truth n)
  choose_keeps n = (plain_ok, (refl, (refl, (plain_ok, (refl, tt)))))

  pub judged_keeps : (test : Bool → ℕ → List Item) (n need next : ℕ) → ((want : Bool) (label : ℕ) → Keep (test want label)) → KeepCodes (judged test n need next)
  judged_keeps test n need next h =
      let v = joined (test false n) (choose_truth n) (h false n) (choose_keeps n) in
      record { value = v; test = h; done = joined _ _ v (plain_ok, tt) }

  pub called_keeps : (o : Option Kind) (items : List Item) (need next : ℕ) → Keep items → KeepCodes (called o items need next)
  called_keeps None items need next h = void_keeps items need next h
  called_keeps (Some kind) items need next h = plain_keeps items (max need 1) next h

  pub choice_keeps : (test : Bool → ℕ → List Item) (a b : List Item) (n : ℕ) → Keep (test false n) → Keep a → Keep b → Keep (choice test a b n)
  choice_keeps test a b n h k l = joined (test false n) _ h (joined a _ k (refl, (refl, joined b _ l (refl, tt))))

  -- a local is the first where it is said to be
  abbrev pub FirstIs : Bool → Place → Type 0
  FirstIs first (LocalAt slot kind) = (slot == 0) ≡ first
  FirstIs first (FieldAt key) = Unit {0}
  FirstIs first (StaticAt key) = Unit {0}
  FirstIs first (ElementAt kind) = Unit {0}
  FirstIs first Nowhere = Unit {0}

  int_ok : (x : Bool) (n : ℤ) → keeps r (cond x (Plain (PushInt n)) (Uses PushConstant (IntOf n))) ≡ true
  int_ok true n = plain_ok
  int_ok false n = uses_ok

  virtual_ok : (is_interface : Bool) (m : Method) (params : List Ty) (t : Ty) → keeps r (virtual_call is_interface m params t) ≡ true
  virtual_ok true m params t = refl
  virtual_ok false m params t = uses_ok

  pub construction_ok : (class : Word) (params : List Ty) → keeps r (construction class params) ≡ true
  construction_ok class params = by_class (same class object) where
    by_class : (x : Bool) → keeps r (Uses InvokeSpecial (cond x (BuiltIn (record { class = object_name; name = codes "<init>"; descriptor = codes "()V" })) (named (constructor_of class params) params ty.Void))) ≡ true
    by_class true = uses_ok
    by_class false = uses_ok

  array_ok : (elements : NamedElement) → keeps r (make_array elements) ≡ true
  array_ok IntElements = plain_ok
  array_ok BooleanElements = plain_ok
  array_ok (ClassElements name) = uses_ok

  and_keeps : (a b : Bool → ℕ → List Item) (skip : ℕ) → ((want : Bool) (label : ℕ) → Keep (a want label)) → ((want : Bool) (label : ℕ) → Keep (b want label)) → (want : Bool) (label : ℕ) → Keep (and_test a b skip want label)
  and_keeps a b skip h k true label = joined (a false skip) _ (h false skip) (joined (b true label) _ (k true label) (refl, tt))
  and_keeps a b skip h k false label = joined (a false label) _ (h false label) (k false label)

  or_keeps : (a b : Bool → ℕ → List Item) (skip : ℕ) → ((want : Bool) (label : ℕ) → Keep (a want label)) → ((want : Bool) (label : ℕ) → Keep (b want label)) → (want : Bool) (label : ℕ) → Keep (or_test a b skip want label)
  or_keeps a b skip h k true label = joined (a true label) _ (h true label) (k true label)
  or_keeps a b skip h k false label = joined (a true skip) _ (h true skip) (joined (b false label) _ (k false label) (refl, tt))

  module _ (p : Program) (head : Iface) where
    -- the code of an expression that fits leaves the receiver alone, and that of the parts of what is assigned to
    pub record KeptIf (x : Checked) (k : Coded) : Type 0 where
      pub codes : x.fits ≡ true → (n : ℕ) → KeepCodes (k.codes n)
      pub spot : x.fits ≡ true → (n : ℕ) → Keep (k.spot n).items
      pub place : (n : ℕ) → FirstIs x.is_first (k.spot n).place

    prefix_keeps : (o : Option Prefix) (x : Checked) (k : Coded) → KeptIf x k → x.fits ≡ true → (n : ℕ) → KeepCodes (prefix_codes o k n)
    prefix_keeps None x k h e n = plain_keeps [] 0 n tt
    prefix_keeps (Some Plus) x k h e n = plain_keeps _ _ _ (h.codes e n).value
    prefix_keeps (Some Minus) x k h e n = plain_keeps _ _ _ (joined (k.codes n).value _ (h.codes e n).value (plain_ok, tt))
    prefix_keeps (Some Complement) x k h e n = plain_keeps _ _ _ (joined (k.codes n).value _ (h.codes e n).value (plain_ok, (plain_ok, tt)))
    prefix_keeps (Some Not) x k h e n = judged_keeps _ n _ _ (λ want label. (h.codes e (n + 2)).test (not want) label)

    both_keep : (references : Bool) (test : Test) (x y : Checked) (k l : Coded) → KeptIf x k → KeptIf y l → x.fits ≡ true → y.fits ≡ true → (n : ℕ) → KeepCodes (compare_both references test k l n)
    both_keep references test x y k l h i e f n =
        judged_keeps _ n _ _ (λ want label. joined (k.codes (n + 2)).value _ (h.codes e (n + 2)).value (joined (l.codes (k.codes (n + 2)).next).value _ (i.codes f (k.codes (n + 2)).next).value (refl, tt)))

    compare_keeps : (references : Bool) (literal : Literal) (test : Test) (x y : Checked) (k l : Coded) → KeptIf x k → KeptIf y l → x.fits ≡ true → y.fits ≡ true → (n : ℕ) → KeepCodes (compare_codes references literal test k l n)
    compare_keeps false Zero test x y k l h i e f n = judged_keeps _ n _ _ (λ want label. joined (k.codes (n + 2)).value _ (h.codes e (n + 2)).value (refl, tt))
    compare_keeps true Nil test x y k l h i e f n = judged_keeps _ n _ _ (λ want label. joined (k.codes (n + 2)).value _ (h.codes e (n + 2)).value (refl, tt))
    compare_keeps true Zero test x y k l h i e f n = both_keep true test x y k l h i e f n
    compare_keeps true Anything test x y k l h i e f n = both_keep true test x y k l h i e f n
    compare_keeps false Nil test x y k l h i e f n = both_keep false test x y k l h i e f n
    compare_keeps false Anything test x y k l h i e f n = both_keep false test x y k l h i e f n

    infix_keeps : (o : Option Infix) (x y : Checked) (k l : Coded) → KeptIf x k → KeptIf y l → x.fits ≡ true → y.fits ≡ true → (n : ℕ) → KeepCodes (infix_codes o k l n)
    infix_keeps None x y k l h i e f n = plain_keeps [] 0 n tt
    infix_keeps (Some (Operates op)) x y k l h i e f n = plain_keeps _ _ _ (joined (k.codes n).value _ (h.codes e n).value (joined (l.codes (k.codes n).next).value _ (i.codes f (k.codes n).next).value (plain_ok, tt)))
    infix_keeps (Some (Compares test)) x y k l h i e f n = compare_keeps (is_reference k.ty) l.literal test x y k l h i e f n
    infix_keeps (Some AndThen) x y k l h i e f n = judged_keeps _ n _ _ (and_keeps _ _ (n + 2) (h.codes e (n + 3)).test (i.codes f (k.codes (n + 3)).next).test)
    infix_keeps (Some OrElse) x y k l h i e f n = judged_keeps _ n _ _ (or_keeps _ _ (n + 2) (h.codes e (n + 3)).test (i.codes f (k.codes (n + 3)).next).test)

    abbrev kind_checked : TypedKind → Ty → Checked
    kind_checked = fold-TypedKind (Ty → Checked) Checked (expr_step p head r) (λ e. e.kind e.ty)

    abbrev kind_coded : TypedKind → Ty → Coded
    kind_coded = fold-TypedKind (Ty → Coded) Coded coded_step (λ e. e.kind e.ty)

    abbrev KeptKind : Type 0
    KeptKind = (k : TypedKind) × ((t : Ty) → KeptIf (kind_checked k t) (kind_coded k t))

    abbrev KeptExpr : Type 0
    KeptExpr = (e : TypedExpr) × KeptIf (check p head r e) (coded e)

    row_keeps : (es : List KeptExpr) → all_fit (map (check p head r) (map (λ e. e.0) es)) ≡ true → (n : ℕ) → Keep (row_codes (map coded (map (λ e. e.0) es)) n).items
    row_keeps [] e n = tt
    row_keeps (x ∷ xs) e n =
        let h = both (check p head r x.0).fits (all_fit (map (check p head r) (map (λ e. e.0) xs))) e in
        joined ((coded x.0).codes n).value _ (x.1.codes h.0 n).value (row_keeps xs h.1 ((coded x.0).codes n).next)

    local_keeps : (o : Option Kind) (slot n : ℕ) → KeepCodes (local_codes o slot n)
    local_keeps None slot n = plain_keeps [] 0 n tt
    local_keeps (Some kind) slot n = plain_keeps _ 1 n (plain_ok, tt)

    local_spot_keeps : (o : Option Kind) (slot n : ℕ) → Keep (local_spot o slot n).items
    local_spot_keeps None slot n = tt
    local_spot_keeps (Some kind) slot n = tt

    local_first : (o : Option Kind) (slot n : ℕ) → FirstIs (slot == 0) (local_spot o slot n).place
    local_first None slot n = tt
    local_first (Some kind) slot n = refl

    array_keeps : (o : Option NamedElement) (c : Codes) → KeepCodes c → KeepCodes (array_codes o c)
    array_keeps None c h = plain_keeps _ _ _ h.value
    array_keeps (Some elements) c h = plain_keeps _ _ _ (joined c.value _ h.value (array_ok elements, tt))

    layer : (y : TypedKind-F KeptKind KeptExpr) (t : Ty) →
        KeptIf (expr_step p head r (map-TypedKind TypedKind TypedExpr (Ty → Checked) Checked kind_checked (check p head r) (map-TypedKind KeptKind KeptExpr TypedKind TypedExpr (λ e. e.0) (λ e. e.0) y)) t)
        (coded_step (map-TypedKind TypedKind TypedExpr (Ty → Coded) Coded kind_coded coded (map-TypedKind KeptKind KeptExpr TypedKind TypedExpr (λ e. e.0) (λ e. e.0) y)) t)
    layer (form.Number value hex) t = record { codes = λ e n. plain_keeps _ 1 n (int_ok (is_short (int_wrap w32 (pos value))) (int_wrap w32 (pos value)), tt); spot = λ e n. tt; place = λ n. tt }
    layer (form.Truth value) t = record { codes = λ e n. plain_keeps _ 1 n (plain_ok, tt); spot = λ e n. tt; place = λ n. tt }
    layer form.Null t = record { codes = λ e n. plain_keeps _ 1 n (plain_ok, tt); spot = λ e n. tt; place = λ n. tt }
    layer form.This t = record { codes = λ e n. plain_keeps _ 1 n (plain_ok, tt); spot = λ e n. tt; place = λ n. tt }
    layer (form.Local slot) t = record { codes = λ e n. local_keeps (kind_of_type t) slot n; spot = λ e n. local_spot_keeps (kind_of_type t) slot n; place = λ n. local_first (kind_of_type t) slot n }
    layer (form.Unary sign right) t = record { codes = λ e n. prefix_keeps (prefix_of sign) (check p head r right.0) (coded right.0) right.1 e n; spot = λ e n. tt; place = λ n. tt }
    layer (form.Binary sign left right) t =
        record {
          codes = λ e n. let h = both (check p head r left.0).fits (check p head r right.0).fits e in
              infix_keeps (infix_of sign) (check p head r left.0) (check p head r right.0) (coded left.0) (coded right.0) left.1 right.1 h.0 h.1 n;
          spot = λ e n. tt;
          place = λ n. tt;
        }
    layer (form.Cond test first second) t =
        record {
          codes = λ e n.
              let h = both (check p head r test.0).fits ((check p head r first.0).fits && (check p head r second.0).fits) e in
              let i = both (check p head r first.0).fits (check p head r second.0).fits h.1 in
              let c = (coded test.0).codes (n + 2) in let d = (coded first.0).codes c.next in
              plain_keeps _ _ _ (choice_keeps c.test d.value _ n ((test.1.codes h.0 (n + 2)).test false n) (first.1.codes i.0 c.next).value (second.1.codes i.1 d.next).value);
          spot = λ e n. tt;
          place = λ n. tt;
        }
    layer (form.Cast class value) t = record { codes = λ e n. plain_keeps _ _ _ (joined ((coded value.0).codes n).value _ (value.1.codes e n).value (uses_ok, tt)); spot = λ e n. tt; place = λ n. tt }
    layer (form.InstanceOf value class) t = record { codes = λ e n. plain_keeps _ _ _ (joined ((coded value.0).codes n).value _ (value.1.codes e n).value (uses_ok, tt)); spot = λ e n. tt; place = λ n. tt }
    layer (form.Field target class name) t = record {
      codes = λ e n. plain_keeps _ _ _ (joined ((coded target.0).codes n).value _ (target.1.codes e n).value (uses_ok, tt));
      spot = λ e n. (target.1.codes e n).value;
      place = λ n. tt;
    }
    layer (form.Static class name) t = record { codes = λ e n. plain_keeps _ 1 n (uses_ok, tt); spot = λ e n. tt; place = λ n. tt }
    layer (form.Length array) t = record { codes = λ e n. plain_keeps _ _ _ (joined ((coded array.0).codes n).value _ (array.1.codes e n).value (plain_ok, tt)); spot = λ e n. tt; place = λ n. tt }
    layer (form.Index array index) t = record {
      codes = λ e n. let h = both (check p head r array.0).fits (check p head r index.0).fits e in let c = (coded array.0).codes n in
          plain_keeps _ _ _ (joined c.value _ (array.1.codes h.0 n).value (joined ((coded index.0).codes c.next).value _ (index.1.codes h.1 c.next).value (plain_ok, tt)));
      spot = λ e n. let h = both (check p head r array.0).fits (check p head r index.0).fits e in let c = (coded array.0).codes n in
          joined c.value _ (array.1.codes h.0 n).value (index.1.codes h.1 c.next).value;
      place = λ n. tt;
    }
    layer (form.CallVirtual target class is_interface name params args) t =
        let named = are_nameable params && is_result t in
        let given = all_fit (map (check p head r) (map (λ e. e.0) args)) in
        record {
          codes = λ e n.
              let h = both (check p head r target.0).fits (given && named) e in let i = both given named h.1 in
              let c = (coded target.0).codes n in
              called_keeps (kind_of_type t) _ _ _ (joined c.value _ (target.1.codes h.0 n).value (joined (row_codes (map coded (map (λ e. e.0) args)) c.next).items _ (row_keeps args i.0 c.next) (virtual_ok is_interface (method_of class name params t) params t, tt)));
          spot = λ e n. tt;
          place = λ n. tt;
        }
    layer (form.CallStatic class name params args) t =
        let named = are_nameable params && is_result t in
        let given = all_fit (map (check p head r) (map (λ e. e.0) args)) in
        record {
          codes = λ e n. let h = both given named e in
              called_keeps (kind_of_type t) _ _ _ (joined (row_codes (map coded (map (λ e. e.0) args)) n).items _ (row_keeps args h.0 n) (uses_ok, tt));
          spot = λ e n. tt;
          place = λ n. tt;
        }
    layer (form.CallSuper class name params args) t =
        let named = are_nameable params && is_result t in
        let given = all_fit (map (check p head r) (map (λ e. e.0) args)) in
        let above = is_whole_above p head (word_of (internal_name class)) in
        record {
          codes = λ e n.
              let h = both (given && named) (r && above) e in let i = both given named h.0 in let received = (both r above h.1).0 in
              called_keeps (kind_of_type t) _ _ _ (plain_ok, joined (row_codes (map coded (map (λ e. e.0) args)) n).items _ (row_keeps args i.0 n) (ap (λ b. b || not true) received, tt));
          spot = λ e n. tt;
          place = λ n. tt;
        }
    layer (form.New class params args) t =
        let given = all_fit (map (check p head r) (map (λ e. e.0) args)) in
        record {
          codes = λ e n. let h = both given (are_nameable params) e in
              plain_keeps _ _ _ (uses_ok, (plain_ok, joined (row_codes (map coded (map (λ e. e.0) args)) n).items _ (row_keeps args h.0 n) (construction_ok class params, tt)));
          spot = λ e n. tt;
          place = λ n. tt;
        }
    layer (form.NewArray elem size) t = record { codes = λ e n. array_keeps (elements_of elem) ((coded size.0).codes n) (size.1.codes e n); spot = λ e n. tt; place = λ n. tt }
    layer (form.Print value) t = record { codes = λ e n. void_keeps _ _ _ (joined ((coded value.0).codes n).value _ (value.1.codes e n).value (uses_ok, tt)); spot = λ e n. tt; place = λ n. tt }
    layer (form.Show text) t = record { codes = λ e n. void_keeps _ 1 n (uses_ok, (uses_ok, tt)); spot = λ e n. tt; place = λ n. tt }
    layer form.Read t = record { codes = λ e n. plain_keeps _ 1 n (uses_ok, tt); spot = λ e n. tt; place = λ n. tt }

    with_both : {A B : Type 0} (Q : A → B → Type 0) (a c : A) (b d : B) → a ≡ c → b ≡ d → Q c d → Q a b
    with_both Q a c b d e f q = subst (λ x. Q x b) (sym e) (subst (λ y. Q c y) (sym f) q)

    pub expr_keeps : (e : TypedExpr) → KeptIf (check p head r e) (coded e)
    expr_keeps = ind-TypedExpr (λ k. (t : Ty) → KeptIf (kind_checked k t) (kind_coded k t)) (λ e. KeptIf (check p head r e) (coded e))
        (λ x y is. with_both (λ (f : Ty → Checked) (g : Ty → Coded). (t : Ty) → KeptIf (f t) (g t)) _ _ _ _ (fold-roll-TypedKind (Ty → Checked) Checked (expr_step p head r) (λ e. e.kind e.ty) x) (fold-roll-TypedKind (Ty → Coded) Coded coded_step (λ e. e.kind e.ty) x)
        (subst (λ (z : TypedKind-F TypedKind TypedExpr). (t : Ty) → KeptIf (expr_step p head r (map-TypedKind TypedKind TypedExpr (Ty → Checked) Checked kind_checked (check p head r) z) t) (coded_step (map-TypedKind TypedKind TypedExpr (Ty → Coded) Coded kind_coded coded z) t)) is (layer y)))
        (λ x y is. with_both KeptIf _ _ _ _ (fold-roll-TypedExpr (Ty → Checked) Checked (expr_step p head r) (λ e. e.kind e.ty) x) (fold-roll-TypedExpr (Ty → Coded) Coded coded_step (λ e. e.kind e.ty) x)
        (subst (λ (z : form.TypedExpr-F TypedKind TypedExpr). KeptIf (kind_checked z.kind z.ty) (kind_coded z.kind z.ty)) is (y.kind.1 y.ty)))
