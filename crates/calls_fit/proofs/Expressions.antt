-- Expressions that fit call with what is declared.
use Rattle.std.proofs.Common.{◌≡◌, ◌⊎◌, ℕ, Bool, true, false, List, [], ◌∷◌, map, Option, Some, None, refl, sym, ap, ◌∙◌, subst, inl, inr}
use Rattle.std.specs.Prelude.{cond, not, ◌&&◌, ◌==◌}
use Rattle.std.specs.Option.{option_map_or}
use Rattle.std.proofs.lemmas.Bool.{false≢true}
use Rattle.jp_pred.specs.declared.ty.Ty.{Ty}
use Rattle.jp_pred.specs.Names.{Word, same, object}
use Rattle.jp_pred.specs.Hierarchy.{Ascends, stop, up, is_below}
use Rattle.jp_pred.proofs.Ascents.{same_true, same_refl}
use Rattle.iface_codec.specs.declared.iface.Iface.{Iface}
use Rattle.jp_store.specs.declared.value.Value.{Value}
use Rattle.jp_store.specs.declared.value.Value.TheVariants.{Int, Long, Null, Ref, Text}
use Rattle.jp_store.specs.declared.value.Kind.TheVariants.{Number, Reference}
use Rattle.jp_store.specs.declared.outcome.Outcome.TheVariants.{Fine}
use Rattle.jp_store.specs.Arith.{binary, of_truth, on_int}
use Rattle.jp_store.specs.Work.{GetField, GetStatic, GetElem, MakeArray, Length, InstanceOf, Cast}
use Rattle.jp_does.specs.Does.{Gives, Prints, then_do, do_of}
use Rattle.jp_meaning.specs.declared.expr.TypedExpr.{TypedExpr}
use Rattle.jp_meaning.specs.declared.expr.TypedKind.{TypedKind, TypedKind-F}
use Rattle.jp_meaning.specs.declared.expr.TypedKind.TheOpen as expr
use Rattle.jp_meaning.specs.declared.expr.TypedKind.TheFolds as expr_fold
use Rattle.jp_meaning.specs.declared.unit.TypedClass.{TypedClass}
use Rattle.jp_meaning.specs.Does.{Target, Does, StaticMethod, Constructor, OfClass, OfInterface, OfSuperclass, receiver_of, calls_on}
use Rattle.jp_meaning.specs.Descriptors.{internal_name, word_of, method_of, constructor_of, key_of, kind_of_type, element_kind_of, elements_of}
use Rattle.jp_meaning.specs.Signs.{Prefix, Plus, Minus, Not, Complement, Infix, Operates, Compares, AndThen, OrElse, prefix_of, infix_of}
use Rattle.jp_meaning.specs.Expressions.{Locals, fits, typed, fit, are_of, truth_of, as_truth, local_value, Spot, Slot, FieldOf, StaticAt, ElementOf, Meant, values_of, prefixed, compares_at, infixed, construct_object, construct, meant_step, meant}
use Rattle.jp_meaning.specs.Classes.{class_in, hier_in}
use Rattle.jp_does.specs.OpenTrace.{rest_of}
use Rattle.std.specs.Fmt.{signed_decimal}
use Rattle.jp_meaning.specs.Run.{World, Program, class_of_value, receiver_class, write}
use Rattle.gen_body.specs.Names.{are_nameable, is_result}
use Rattle.code_trace.specs.Given.{IsUnder}
use Rattle.whole_program.specs.Fits.{Fits, is_whole}
use Rattle.calls_fit.specs.Fitting.{ProgramFits, Checked, all_fit, is_whole_above, expr_step, check}
use Rattle.calls_fit.proofs.Named.{first_true, second_true, first_of, second_of, both_are, is_parent, through}
use Rattle.calls_fit.proofs.Entering.{is_under, is_below_so, chain_enters, static_call_enters, maker_enters}
use Rattle.calls_fit.proofs.Grows.{IsKeptIn}
use Rattle.calls_fit.proofs.Sure.{Sure, then_sure, do_sure, found_sure, so_sure, cond_sure, fits_sure, typed_sure, fit_sure, by_sure, Here, Holds, here_kept, work_sure, make_sure, call_sure, local_sure, this_sure}

-- the class of the members that are looked at
pub record Inside (p : Program) (head : Iface) : Type 0 where
  pub class : TypedClass
  pub named : class_in p.classes head.name ≡ Some class
  pub head_is : class.head ≡ head
  pub other : same head.name object ≡ false

-- the receiver, if there is one, is an object of the class or of one below it
abbrev pub IsRightReceiver : Program → Iface → Bool → Word → Type 0
IsRightReceiver p head receiver own = receiver ≡ true → (own ≡ head.name) ⊎ (is_below (hier_in p.classes) own head.name ≡ true)

-- what is assigned to isn't the receiver
abbrev pub IsApart : Bool → Spot → Type 0
IsApart receiver (Slot slot kind) = (receiver && slot == 0) ≡ false
IsApart receiver (FieldOf o key) = Unit {0}
IsApart receiver (StaticAt key) = Unit {0}
IsApart receiver (ElementOf kind a i) = Unit {0}

module _ (p : Program) (f : ProgramFits p) (n : ℕ) (head : Iface) (at : Inside p head) (receiver : Bool) (this : Value) (own : Word) (right : IsRightReceiver p head receiver own) where
  abbrev H : List (Value × Word) → World → Type 0
  H = Here receiver this own

  abbrev S : {A : Type 0} → Does A → World → (A → World → Type 0) → Type 0
  S = Sure p n head

  -- a call on a receiver
  on_receiver : (ks : List (Value × Word)) (target : Target) (o : Value) (vs : List Value) (w : World) → H ks w → ((k : ℕ) → o ≡ Ref k → Fits p head (record { target = target; args = Ref k ∷ vs }) w.store) → S (calls_on target o vs) w (λ v u. H ks u)
  on_receiver ks target (Ref k) vs w i h = call_sure p n head receiver this own ks (record { target = target; args = Ref k ∷ vs }) Gives w (λ v u. H ks u) i (h k refl) (λ v u j. j)
  on_receiver ks target Null vs w i h = tt
  on_receiver ks target (Int m) vs w i h = tt
  on_receiver ks target (Long m) vs w i h = tt
  on_receiver ks target (Text t) vs w i h = tt

  -- a constructor on an object of its class or of one below it
  pub construct_sure : (ks : List (Value × Word)) (class : Word) (params : List Ty) (o : Value) (vs : List Value) (w : World) → are_nameable params ≡ true → H ks w → ((k : ℕ) → o ≡ Ref k → IsUnder (hier_in p.classes) w.store (Ref k ∷ vs) (word_of (internal_name class))) → S (construct class params o vs) w (λ v u. H ks u)
  construct_sure ks class params o vs w named i under =
      so_sure p n head (are_of params vs) (cond (same class object) (construct_object params o) (calls_on (Constructor (constructor_of class params)) o vs)) w (λ v u. H ks u) (λ given.
      cond_sure p n head (same class object) (construct_object params o) (calls_on (Constructor (constructor_of class params)) o vs) w (λ v u. H ks u) (object_sure params)
      (on_receiver ks (Constructor (constructor_of class params)) o vs w i (λ k e. (refl, λ q x. maker_enters p f class params named k vs w.store given (under k e) q x)))) where
        object_sure : (ts : List Ty) → S (construct_object ts o) w (λ v u. H ks u)
        object_sure [] = do_sure p n head (receiver_of o) (λ r. Gives Null) w (λ v u. H ks u) (λ r. i)
        object_sure (t ∷ ts) = tt

  -- the receiver's class is below the superclass
  pub above_own : (above : Word) → receiver ≡ true → head.superclass ≡ Some above → Ascends (hier_in p.classes) own above
  above_own above r e = elim (is_below_so p f own head.name (right r)) [
    | inl a ↦ through a (up (is_parent p.classes head.name above at.class at.named (ap (λ (x : Iface). x.superclass) at.head_is ∙ e)) stop)
    | inr q ↦ absurd (false≢true (sym at.other ∙ ap (λ (x : Word). same x object) q ∙ same_refl object))
  ]

  superclass_is : (o : Option Word) (class : Word) → option_map_or (λ s. same s class) o false ≡ true → o ≡ Some class
  superclass_is None class e = absurd (false≢true e)
  superclass_is (Some s) class e = ap Some (same_true s class e)

  is_here : (ks : List (Value × Word)) (w : World) (k : ℕ) (vs : List Value) → H ks w → receiver ≡ true → this ≡ Ref k → receiver_class w.store (Ref k ∷ vs) ≡ Some own
  is_here ks w k vs i r e = ap (class_of_value w.store) (sym e) ∙ i.0 r

  -- a call of a family of the superclass
  super_fits : (ks : List (Value × Word)) (class name : Word) (params : List Ty) (t : Ty) (vs : List Value) (w : World) → are_nameable params ≡ true → is_result t ≡ true → receiver ≡ true → is_whole_above p head (word_of (internal_name class)) ≡ true → are_of params vs ≡ true → H ks w →
      (k : ℕ) → this ≡ Ref k → Fits p head (record { target = OfSuperclass (method_of class name params t); args = Ref k ∷ vs }) w.store
  super_fits ks class name params t vs w named result r whole given i k e =
      let above = word_of (internal_name class) in
      let s = superclass_is head.superclass above (first_true (option_map_or (λ s. same s above) head.superclass false) (is_whole p above) whole) in
      let own_is = is_here ks w k vs i r e in
      let up_to = above_own above r s in (
        s,
        second_true (option_map_or (λ s. same s above) head.superclass false) (is_whole p above) whole,
        is_under p f w.store (Ref k ∷ vs) own above own_is (inl up_to),
        chain_enters p f class name params t named result k vs w.store own above given own_is up_to,
      )

  virtual_fits : (is_interface : Bool) (class name : Word) (params : List Ty) (t : Ty) (vs : List Value) (w : World) → are_nameable params ≡ true → is_result t ≡ true → are_of params vs ≡ true →
      (k : ℕ) → Fits p head (record { target = cond is_interface (OfInterface (method_of class name params t)) (OfClass (method_of class name params t)); args = Ref k ∷ vs }) w.store
  virtual_fits true class name params t vs w named result given k = λ own e. chain_enters p f class name params t named result k vs w.store own own given e stop
  virtual_fits false class name params t vs w named result given k = λ own e. chain_enters p f class name params t named result k vs w.store own own given e stop

  -- an expression, and the parts of what is assigned to
  pub record Well (m : Meant) (c : Checked) : Type 0 where
    pub value : (ks : List (Value × Word)) (env : Locals) (w : World) → Holds receiver this env → H ks w → S (m.value env) w (λ v u. H ks u)
    pub spot : (receiver && c.is_first) ≡ false → (ks : List (Value × Word)) (env : Locals) (w : World) → Holds receiver this env → H ks w → S (m.spot env) w (λ x u. H ks u × IsApart receiver x)

  prefixed_sure : (ks : List (Value × Word)) (op : Prefix) (d : Does Value) (w : World) → S d w (λ v u. H ks u) → S (prefixed op d) w (λ v u. H ks u)
  prefixed_sure ks Plus d w h = then_sure p n head d _ w (λ v u. H ks u) (λ v u. H ks u) h (λ v u i. do_sure p n head _ Gives u (λ v u. H ks u) (λ x. i))
  prefixed_sure ks Minus d w h = then_sure p n head d _ w (λ v u. H ks u) (λ v u. H ks u) h (λ v u i. do_sure p n head _ Gives u (λ v u. H ks u) (λ x. i))
  prefixed_sure ks Complement d w h = then_sure p n head d _ w (λ v u. H ks u) (λ v u. H ks u) h (λ v u i. do_sure p n head _ Gives u (λ v u. H ks u) (λ x. i))
  prefixed_sure ks Not d w h = then_sure p n head d (λ v. do_of (truth_of v) (λ x. Gives (of_truth (not x)))) w (λ v u. H ks u) (λ v u. H ks u) h (λ v u i. do_sure p n head (truth_of v) (λ x. Gives (of_truth (not x))) u (λ v u. H ks u) (λ x. i))

  truth_sure : (ks : List (Value × Word)) (d : Does Value) (w : World) → S d w (λ v u. H ks u) → S (as_truth d) w (λ v u. H ks u)
  truth_sure ks d w h = then_sure p n head d (λ v. do_of (truth_of v) (λ x. Gives (of_truth x))) w (λ v u. H ks u) (λ v u. H ks u) h (λ v u i. do_sure p n head (truth_of v) (λ x. Gives (of_truth x)) u (λ v u. H ks u) (λ x. i))

  infixed_sure : (ks : List (Value × Word)) (op : Infix) (t : Ty) (d e : Does Value) (w : World) → S d w (λ v u. H ks u) → ((u : World) → H ks u → S e u (λ v u. H ks u)) → S (infixed op t d e) w (λ v u. H ks u)
  infixed_sure ks (Operates op) t d e w h k =
      then_sure p n head d (λ x. then_do e (λ y. do_of (binary op x y) Gives)) w (λ v u. H ks u) (λ v u. H ks u) h (λ x u i.
      then_sure p n head e (λ y. do_of (binary op x y) Gives) u (λ v u. H ks u) (λ v u. H ks u) (k u i) (λ y u j. do_sure p n head (binary op x y) Gives u (λ v u. H ks u) (λ z. j)))
  infixed_sure ks (Compares test) t d e w h k =
      then_sure p n head d (λ x. then_do e (λ y. do_of (compares_at t test x y) (λ z. Gives (of_truth z)))) w (λ v u. H ks u) (λ v u. H ks u) h (λ x u i.
      then_sure p n head e (λ y. do_of (compares_at t test x y) (λ z. Gives (of_truth z))) u (λ v u. H ks u) (λ v u. H ks u) (k u i) (λ y u j. do_sure p n head (compares_at t test x y) (λ z. Gives (of_truth z)) u (λ v u. H ks u) (λ z. j)))
  infixed_sure ks AndThen t d e w h k = by_sure p n head d (as_truth e) (Gives (of_truth false)) w (H ks) (λ v u. H ks u) h (λ u i. truth_sure ks e u (k u i)) (λ u i. i)
  infixed_sure ks OrElse t d e w h k = by_sure p n head d (Gives (of_truth true)) (as_truth e) w (H ks) (λ v u. H ks u) h (λ u i. i) (λ u i. truth_sure ks e u (k u i))

  abbrev kind_meant : TypedKind → Ty → Meant
  kind_meant = expr_fold.fold-TypedKind (Ty → Meant) Meant meant_step (λ e. e.kind e.ty)

  abbrev step : TypedKind-F (Ty → Checked) Checked → Ty → Checked
  step = expr_step p head receiver

  abbrev kind_check : TypedKind → Ty → Checked
  kind_check = expr_fold.fold-TypedKind (Ty → Checked) Checked step (λ e. e.kind e.ty)

  abbrev chk : TypedExpr → Checked
  chk = check p head receiver

  abbrev IsWell : Meant → Checked → Type 0
  IsWell m c = c.fits ≡ true → Well m c

  abbrev WellKind : Type 0
  WellKind = (k : TypedKind) × ((t : Ty) → IsWell (kind_meant k t) (kind_check k t))

  abbrev WellExpr : Type 0
  WellExpr = (e : TypedExpr) × IsWell (meant e) (chk e)

  row_sure : (es : List WellExpr) → all_fit (map chk (map (λ e. e.0) es)) ≡ true → (ks : List (Value × Word)) (env : Locals) (w : World) → Holds receiver this env → H ks w → S (values_of (map meant (map (λ e. e.0) es)) env) w (λ vs u. H ks u)
  row_sure [] h ks env w held i = i
  row_sure (e ∷ es) h ks env w held i =
      then_sure p n head ((meant e.0).value env) (λ v. then_do (values_of (map meant (map (λ e. e.0) es)) env) (λ vs. Gives (v ∷ vs))) w (λ v u. H ks u) (λ vs u. H ks u)
      ((e.1 (first_true (chk e.0).fits (all_fit (map chk (map (λ e. e.0) es))) h)).value ks env w held i) (λ v u j.
      then_sure p n head (values_of (map meant (map (λ e. e.0) es)) env) (λ vs. Gives (v ∷ vs)) u (λ vs u. H ks u) (λ vs u. H ks u)
      (row_sure es (second_true (chk e.0).fits (all_fit (map chk (map (λ e. e.0) es))) h) ks env u held j) (λ vs u l. l))

  moved : (ks : List (Value × Word)) (w u : World) → IsKeptIn w.store u.store → H ks w → H ks u
  moved = here_kept receiver this own

  drop : (k : Value × Word) (ks : List (Value × Word)) (w : World) → H (k ∷ ks) w → H ks w
  drop k ks w (a, (b, c)) = (a, c)

  newest : (k : Value × Word) (ks : List (Value × Word)) (w : World) → H (k ∷ ks) w → class_of_value w.store k.0 ≡ Some k.1
  newest k ks w (a, (b, c)) = b

  layer : (y : TypedKind-F WellKind WellExpr) (t : Ty) →
      IsWell (meant_step (expr_fold.map-TypedKind TypedKind TypedExpr (Ty → Meant) Meant kind_meant meant (expr_fold.map-TypedKind WellKind WellExpr TypedKind TypedExpr (λ e. e.0) (λ e. e.0) y)) t)
      (step (expr_fold.map-TypedKind TypedKind TypedExpr (Ty → Checked) Checked kind_check chk (expr_fold.map-TypedKind WellKind WellExpr TypedKind TypedExpr (λ e. e.0) (λ e. e.0) y)) t)
  layer (expr.Number value hex) t h = record { value = λ ks env w held i. i; spot = λ a ks env w held i. tt }
  layer (expr.Truth value) t h = record { value = λ ks env w held i. i; spot = λ a ks env w held i. tt }
  layer expr.Null t h = record { value = λ ks env w held i. i; spot = λ a ks env w held i. tt }
  layer expr.This t h = record { value = λ ks env w held i. local_sure p n head receiver this own ks 0 Reference env w i; spot = λ a ks env w held i. tt }
  layer (expr.Local slot) t h = record {
    value = λ ks env w held i. found_sure p n head (kind_of_type t) (λ kind. local_value slot kind env) w (λ v u. H ks u) (λ kind e. local_sure p n head receiver this own ks slot kind env w i);
    spot = λ a ks env w held i. found_sure p n head (kind_of_type t) (λ kind. Gives (Slot slot kind)) w (λ x u. H ks u × IsApart receiver x) (λ kind e. (i, a));
  }
  layer (expr.Unary sign right) t h = record {
    value = λ ks env w held i. found_sure p n head (prefix_of sign) (λ op. prefixed op ((meant right.0).value env)) w (λ v u. H ks u) (λ op e. prefixed_sure ks op ((meant right.0).value env) w ((right.1 h).value ks env w held i));
    spot = λ a ks env w held i. tt;
  }
  layer (expr.Binary sign left right) t h = record {
    value = λ ks env w held i. found_sure p n head (infix_of sign) (λ op. infixed op (meant left.0).ty ((meant left.0).value env) ((meant right.0).value env)) w (λ v u. H ks u) (λ op e.
        infixed_sure ks op (meant left.0).ty ((meant left.0).value env) ((meant right.0).value env) w ((left.1 (first_true (chk left.0).fits (chk right.0).fits h)).value ks env w held i)
        (λ u j. (right.1 (second_true (chk left.0).fits (chk right.0).fits h)).value ks env u held j));
    spot = λ a ks env w held i. tt;
  }
  layer (expr.Cond test first second) t h = record {
    value = λ ks env w held i.
        let others = second_true (chk test.0).fits ((chk first.0).fits && (chk second.0).fits) h in
        by_sure p n head ((meant test.0).value env) ((meant first.0).value env) ((meant second.0).value env) w (H ks) (λ v u. H ks u)
        ((test.1 (first_true (chk test.0).fits ((chk first.0).fits && (chk second.0).fits) h)).value ks env w held i)
        (λ u j. (first.1 (first_true (chk first.0).fits (chk second.0).fits others)).value ks env u held j)
        (λ u j. (second.1 (second_true (chk first.0).fits (chk second.0).fits others)).value ks env u held j);
    spot = λ a ks env w held i. tt;
  }
  layer (expr.Cast class value) t h = record {
    value = λ ks env w held i. then_sure p n head ((meant value.0).value env) _ w (λ v u. H ks u) (λ v u. H ks u) ((value.1 h).value ks env w held i) (λ v u j.
        work_sure p n head receiver this own ks (Cast v (internal_name class)) (fits Reference) u (λ v u. H ks u) j (λ x y l. fits_sure p n head Reference x y (λ v u. H ks u) (λ e. l)));
    spot = λ a ks env w held i. tt;
  }
  layer (expr.InstanceOf value class) t h = record {
    value = λ ks env w held i. then_sure p n head ((meant value.0).value env) _ w (λ v u. H ks u) (λ v u. H ks u) ((value.1 h).value ks env w held i) (λ v u j.
        work_sure p n head receiver this own ks (InstanceOf v (internal_name class)) (fits Number) u (λ v u. H ks u) j (λ x y l. fits_sure p n head Number x y (λ v u. H ks u) (λ e. l)));
    spot = λ a ks env w held i. tt;
  }
  layer (expr.Field object class name) t h = record {
    value = λ ks env w held i. then_sure p n head ((meant object.0).value env) _ w (λ v u. H ks u) (λ v u. H ks u) ((object.1 h).value ks env w held i) (λ v u j.
        work_sure p n head receiver this own ks (GetField v (key_of class name t)) (typed t) u (λ v u. H ks u) j (λ x y l. typed_sure p n head t x y (λ v u. H ks u) l));
    spot = λ a ks env w held i. then_sure p n head ((meant object.0).value env) _ w (λ v u. H ks u) (λ x u. H ks u × IsApart receiver x) ((object.1 h).value ks env w held i) (λ v u j. (j, tt));
  }
  layer (expr.Static class name) t h = record {
    value = λ ks env w held i. work_sure p n head receiver this own ks (GetStatic (key_of class name t)) (typed t) w (λ v u. H ks u) i (λ x y l. typed_sure p n head t x y (λ v u. H ks u) l);
    spot = λ a ks env w held i. (i, tt);
  }
  layer (expr.Length array) t h = record {
    value = λ ks env w held i. then_sure p n head ((meant array.0).value env) _ w (λ v u. H ks u) (λ v u. H ks u) ((array.1 h).value ks env w held i) (λ v u j.
        work_sure p n head receiver this own ks (Length v) (fits Number) u (λ v u. H ks u) j (λ x y l. fits_sure p n head Number x y (λ v u. H ks u) (λ e. l)));
    spot = λ a ks env w held i. tt;
  }
  layer (expr.Index array index) t h = record {
    value = λ ks env w held i.
        then_sure p n head ((meant array.0).value env) _ w (λ v u. H ks u) (λ v u. H ks u) ((array.1 (first_true (chk array.0).fits (chk index.0).fits h)).value ks env w held i) (λ v u j.
        then_sure p n head ((meant index.0).value env) _ u (λ v u. H ks u) (λ v u. H ks u) ((index.1 (second_true (chk array.0).fits (chk index.0).fits h)).value ks env u held j) (λ x y l.
        work_sure p n head receiver this own ks (GetElem (element_kind_of t) v x) (typed t) y (λ v u. H ks u) l (λ v z m. typed_sure p n head t v z (λ v u. H ks u) m)));
    spot = λ a ks env w held i.
        then_sure p n head ((meant array.0).value env) _ w (λ v u. H ks u) (λ x u. H ks u × IsApart receiver x) ((array.1 (first_true (chk array.0).fits (chk index.0).fits h)).value ks env w held i) (λ v u j.
        then_sure p n head ((meant index.0).value env) _ u (λ v u. H ks u) (λ x u. H ks u × IsApart receiver x) ((index.1 (second_true (chk array.0).fits (chk index.0).fits h)).value ks env u held j) (λ x y l. (l, tt)));
  }
  layer (expr.CallVirtual object class is_interface name params args) t h = record {
    value = λ ks env w held i.
        let row = all_fit (map chk (map (λ e. e.0) args)) in
        let more = second_true (chk object.0).fits (row && (are_nameable params && is_result t)) h in
        let types = second_true row (are_nameable params && is_result t) more in
        let target = cond is_interface (OfInterface (method_of class name params t)) (OfClass (method_of class name params t)) in
        then_sure p n head ((meant object.0).value env) _ w (λ v u. H ks u) (λ v u. H ks u) ((object.1 (first_true (chk object.0).fits (row && (are_nameable params && is_result t)) h)).value ks env w held i) (λ o u j.
        then_sure p n head (values_of (map meant (map (λ e. e.0) args)) env) _ u (λ v u. H ks u) (λ v u. H ks u) (row_sure args (first_true row (are_nameable params && is_result t) more) ks env u held j) (λ vs x l.
        so_sure p n head (are_of params vs) _ x (λ v u. H ks u) (λ given.
        then_sure p n head (calls_on target o vs) (fit (kind_of_type t)) x (λ v u. H ks u) (λ v u. H ks u)
        (on_receiver ks target o vs x l (λ k e. virtual_fits is_interface class name params t vs x (first_true (are_nameable params) (is_result t) types) (second_true (are_nameable params) (is_result t) types) given k))
        (λ v y m. fit_sure p n head (kind_of_type t) v y (H ks) m))));
    spot = λ a ks env w held i. tt;
  }
  layer (expr.CallStatic class name params args) t h = record {
    value = λ ks env w held i.
        let row = all_fit (map chk (map (λ e. e.0) args)) in
        let types = second_true row (are_nameable params && is_result t) h in
        then_sure p n head (values_of (map meant (map (λ e. e.0) args)) env) _ w (λ v u. H ks u) (λ v u. H ks u) (row_sure args (first_true row (are_nameable params && is_result t) h) ks env w held i) (λ vs x l.
        so_sure p n head (are_of params vs) _ x (λ v u. H ks u) (λ given.
        call_sure p n head receiver this own ks (record { target = StaticMethod (method_of class name params t); args = vs }) (fit (kind_of_type t)) x (λ v u. H ks u) l
        (λ q e. static_call_enters p f class name params t (first_true (are_nameable params) (is_result t) types) (second_true (are_nameable params) (is_result t) types) vs x.store given q e)
        (λ v y m. fit_sure p n head (kind_of_type t) v y (H ks) m)));
    spot = λ a ks env w held i. tt;
  }
  layer (expr.CallSuper class name params args) t h = record {
    value = λ ks env w held i.
        let row = all_fit (map chk (map (λ e. e.0) args)) in
        let types = are_nameable params && is_result t in
        let whole = is_whole_above p head (word_of (internal_name class)) in
        let first = first_true (row && types) (receiver && whole) h in
        let last = second_true (row && types) (receiver && whole) h in
        let named = second_true row types first in
        let there = first_true receiver whole last in
        then_sure p n head (local_value 0 Reference env) _ w (λ v u. (v ≡ this) × H ks u) (λ v u. H ks u) (this_sure p n head receiver this own env w (λ v u. (v ≡ this) × H ks u) there held (refl, i)) (λ o u j.
        then_sure p n head (values_of (map meant (map (λ e. e.0) args)) env) _ u (λ v u. H ks u) (λ v u. H ks u) (row_sure args (first_true row types first) ks env u held (second_of j)) (λ vs x l.
        so_sure p n head (are_of params vs) _ x (λ v u. H ks u) (λ given.
        then_sure p n head (calls_on (OfSuperclass (method_of class name params t)) o vs) (fit (kind_of_type t)) x (λ v u. H ks u) (λ v u. H ks u)
        (on_receiver ks (OfSuperclass (method_of class name params t)) o vs x l (λ k e.
        super_fits ks class name params t vs x (first_true (are_nameable params) (is_result t) named) (second_true (are_nameable params) (is_result t) named) there (second_true receiver whole last) given l k (sym (first_of j) ∙ e)))
        (λ v y m. fit_sure p n head (kind_of_type t) v y (H ks) m))));
    spot = λ a ks env w held i. tt;
  }
  layer (expr.New class params args) t h = record {
    value = λ ks env w held i.
        let row = all_fit (map chk (map (λ e. e.0) args)) in
        let class_is = word_of (internal_name class) in
        let named = second_true row (are_nameable params) h in
        make_sure p n head receiver this own ks (internal_name class) (λ v. then_do (fits Reference v) (λ o. then_do (values_of (map meant (map (λ e. e.0) args)) env) (λ vs. then_do (construct class params o vs) (λ done. Gives o)))) w (λ v u. H ks u) i (λ k u j.
        then_sure p n head (values_of (map meant (map (λ e. e.0) args)) env) _ u (λ vs u. H ((Ref k, class_is) ∷ ks) u) (λ v u. H ks u) (row_sure args (first_true row (are_nameable params) h) ((Ref k, class_is) ∷ ks) env u held j) (λ vs x l.
        then_sure p n head (construct class params (Ref k) vs) (λ done. Gives (Ref k)) x (λ v u. H ks u) (λ v u. H ks u)
        (construct_sure ks class params (Ref k) vs x named (drop (Ref k, class_is) ks x l) (λ k' e. (class_is, (ap (class_of_value x.store) (sym e) ∙ newest (Ref k, class_is) ks x l), inl refl)))
        (λ v y m. m)));
    spot = λ a ks env w held i. tt;
  }
  layer (expr.NewArray elem size) t h = record {
    value = λ ks env w held i. then_sure p n head ((meant size.0).value env) _ w (λ v u. H ks u) (λ v u. H ks u) ((size.1 h).value ks env w held i) (λ v u j.
        found_sure p n head (elements_of elem) _ u (λ v u. H ks u) (λ elements e. work_sure p n head receiver this own ks (MakeArray elements v) (fits Reference) u (λ v u. H ks u) j (λ x y l. fits_sure p n head Reference x y (λ v u. H ks u) (λ e. l))));
    spot = λ a ks env w held i. tt;
  }
  layer (expr.Print value) t h = record {
    value = λ ks env w held i. then_sure p n head ((meant value.0).value env) _ w (λ v u. H ks u) (λ v u. H ks u) ((value.1 h).value ks env w held i) (λ v u j.
        do_sure p n head (on_int Fine v) (λ k. Prints k (Gives Null)) u (λ v u. H ks u) (λ k. moved ks u (write (signed_decimal k) u) (λ v o e. e) j));
    spot = λ a ks env w held i. tt;
  }
  layer (expr.Show text) t h = record { value = λ ks env w held i. moved ks w (write text w) (λ v o e. e) i; spot = λ a ks env w held i. tt }
  layer expr.Read t h = record { value = λ ks env w held i. moved ks w (record w { input = rest_of w.input }) (λ v o e. e) i; spot = λ a ks env w held i. tt }

  pub expr_well : (e : TypedExpr) → IsWell (meant e) (chk e)
  expr_well = expr_fold.ind-TypedExpr (λ k. (t : Ty) → IsWell (kind_meant k t) (kind_check k t)) (λ e. IsWell (meant e) (chk e))
      (λ x y is. subst (λ (g : (Ty → Meant) × (Ty → Checked)). (t : Ty) → IsWell (g.0 t) (g.1 t))
      (sym (both_are (expr_fold.fold-roll-TypedKind (Ty → Meant) Meant meant_step (λ e. e.kind e.ty) x) (expr_fold.fold-roll-TypedKind (Ty → Checked) Checked step (λ e. e.kind e.ty) x)))
      (subst (λ (z : TypedKind-F TypedKind TypedExpr). (t : Ty) → IsWell (meant_step (expr_fold.map-TypedKind TypedKind TypedExpr (Ty → Meant) Meant kind_meant meant z) t) (step (expr_fold.map-TypedKind TypedKind TypedExpr (Ty → Checked) Checked kind_check chk z) t)) is (layer y)))
      (λ x y is. subst (λ (g : Meant × Checked). IsWell g.0 g.1)
      (sym (both_are (expr_fold.fold-roll-TypedExpr (Ty → Meant) Meant meant_step (λ e. e.kind e.ty) x) (expr_fold.fold-roll-TypedExpr (Ty → Checked) Checked step (λ e. e.kind e.ty) x)))
      (subst (λ (z : expr.TypedExpr-F TypedKind TypedExpr). IsWell (kind_meant z.kind z.ty) (kind_check z.kind z.ty)) is (y.kind.1 y.ty)))
