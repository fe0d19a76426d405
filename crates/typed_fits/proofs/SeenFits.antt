-- What is seen of an expression without a fault has a tree that fits.
use Rattle.std.proofs.Common.{◌≡◌, ◌⊎◌, ℕ, zero, suc, ◌+◌, ◌≤◌, Bool, true, false, List, [], ◌∷◌, ◌++◌, map, length, Option, Some, None, refl, sym, ap, ◌∙◌, subst, inl, inr, arith}
use Rattle.std.specs.Prelude.{◌&&◌, ◌||◌, ◌==◌, is_some, if◌then◌else◌, not}
use Rattle.std.specs.List.{list_all}
use Rattle.std.specs.Option.{option_map_or, option_and_then}
use Rattle.std.proofs.lemmas.Bool.{false≢true}
use Rattle.std.proofs.Math.Dec.{eqb-suc-zero}
use Rattle.jp_pred.specs.declared.ty.Ty.{Ty}
use Rattle.jp_pred.specs.declared.ty.Ty.TheVariants as ty
use Rattle.jp_pred.specs.Names.{Word, same, object}
use Rattle.jp_pred.proofs.Ascents.{same_refl}
use Rattle.iface_codec.specs.declared.iface.Iface.{Iface}
use Rattle.iface_codec.specs.declared.iface.IfaceField.{IfaceField}
use Rattle.iface_codec.specs.declared.iface.IfaceMethod.{IfaceMethod}
use Rattle.jp_ast.specs.declared.token.Place.{Place}
use Rattle.jp_ast.specs.declared.sign.TheConstants as sign
use Rattle.jp_ast.specs.declared.expr.Expr.{Expr}
use Rattle.jp_ast.specs.declared.expr.ExprKind.{ExprKind, ExprKind-F}
use Rattle.jp_ast.specs.declared.expr.ExprKind.TheOpen as e
use Rattle.jp_ast.specs.declared.expr.ExprKind.TheFolds.{ind-Expr, fold-ExprKind, fold-roll-Expr, fold-roll-ExprKind, map-ExprKind}
use Rattle.jp_meaning.specs.Classes.{is_static}
use Rattle.jp_meaning.specs.declared.expr.TypedExpr.{TypedExpr}
use Rattle.jp_meaning.specs.declared.expr.TypedKind.TheVariants as made
use Rattle.jp_meaning.specs.Descriptors.{internal_name, word_of}
use Rattle.jp_meaning.specs.Run.{Program}
use Rattle.type_rules.specs.declared.fault.TypeFault.{TypeFault}
use Rattle.type_rules.specs.declared.scope.Scope.{Scope}
use Rattle.type_rules.specs.declared.scope.Variable.{Variable}
use Rattle.type_rules.specs.declared.seen.Known.{Known}
use Rattle.type_rules.specs.declared.seen.Role.{Role}
use Rattle.type_rules.specs.declared.seen.Role.TheVariants as role
use Rattle.type_rules.specs.declared.seen.Seen.{Seen}
use Rattle.type_rules.specs.declared.seen.Seen.TheVariants as seen
use Rattle.type_rules.specs.Types.{io, is_unknown, is_void}
use Rattle.type_rules.specs.Heads.{io_head, head_of, names_interface}
use Rattle.type_rules.specs.Lookups.{field_that, method_of, constructor_of}
use Rattle.type_rules.specs.Assigning.{is_text, an_array, some_misfit}
use Rattle.type_rules.specs.Signs.{group_of, result_of}
use Rattle.type_rules.specs.Names.{variable_from, receiver_slots, variable_of, own_field, class_of_value, called, concrete_super, family_of, super_method, is_text_call}
use Rattle.type_rules.specs.Nodes.{AtExpr}
use Rattle.type_rules.specs.RulesOfExpressions.{is_alone, is_judged, miscalled}
use Rattle.type_rules.specs.Table.{own_faults}
use Rattle.type_rules.specs.Expressions.{Part, Parts, Layer, behind, argument_of, in_role, placed, seen_all, node_of, tree, value, variable, of_value, of_found, arguments, this_at, own_field_value, named, larger, element_of, array_of, field_value, read_field, io_call, text_of, static_call, virtual_call, own_call, call_on, dot_call, resolved, part_of, part}
use Rattle.type_rules.proofs.Soundness.{first_kept, or_false_left}
use Rattle.gen_body.specs.Names.{are_nameable, is_result}
use Rattle.calls_fit.specs.Fitting.{Checked, checked, all_fit, is_whole_above, check, method_fits}
use Rattle.calls_fit.proofs.Named.{some_is, none_is, first_true, second_true, first_of, second_of}
use Rattle.typed_fits.proofs.CheckedForms.{check_number, check_truth, check_null, check_this, check_local, check_unary, check_binary, check_cond, check_cast, check_instance, check_field, check_static, check_length, check_index, check_virtual, check_static_call, check_super_call, check_new, check_new_array, check_print, check_show, check_read}
use Rattle.typed_fits.proofs.Looking.{AreNameable, method_nameable, maker_nameable}

pub and_so : (a b : Bool) → a ≡ true → b ≡ true → (a && b) ≡ true
and_so true b e f = f
and_so false b e f = e

-- what the scopes of a class's members have in common: the heads, and whether there is a receiver; and the superclass
-- whose families are called is one of which objects can be made
pub record Setting (p : Program) (head : Iface) (receiver : Bool) (c : Scope) : Type 0 where
  pub nameable : AreNameable c.heads
  pub static : receiver ≡ not c.is_static
  pub above : (h : Iface) → concrete_super c ≡ Some h → is_whole_above p head (word_of (internal_name h.name)) ≡ true

module _ (p : Program) (head : Iface) (receiver : Bool) where
  abbrev chk : TypedExpr → Checked
  chk = check p head receiver

  -- a tree that fits, and isn't the receiver's local
  abbrev pub IsFit : TypedExpr → Type 0
  IsFit x = ((chk x).fits ≡ true) × ((receiver && (chk x).is_first) ≡ false)

  abbrev pub Fit : Seen → Type 0
  Fit seen.Faulty = Unit {0}
  Fit (seen.Value k) = IsFit k.expr
  Fit (seen.Class name) = Unit {0}
  Fit (seen.Text text) = Unit {0}

  never : (receiver && false) ≡ false
  never = by_cases receiver where
    by_cases : (b : Bool) → (b && false) ≡ false
    by_cases true = refl
    by_cases false = refl

  -- a tree of which so much is found
  fit_as : (x : TypedExpr) (b : Bool) → chk x ≡ checked b → b ≡ true → IsFit x
  fit_as x b e h = (ap (λ (c : Checked). c.fits) e ∙ h, ap (λ (c : Checked). receiver && c.is_first) e ∙ never)

  by_value : (s : Seen) (go : Known → Seen) → Fit s → ((k : Known) → s ≡ seen.Value k → IsFit k.expr → Fit (go k)) → Fit (of_value s go)
  by_value seen.Faulty go h f = tt
  by_value (seen.Value k) go h f = f k refl h
  by_value (seen.Class name) go h f = tt
  by_value (seen.Text text) go h f = tt

  by_found : {A : Type 0} (o : Option A) (go : A → Seen) → ((x : A) → o ≡ Some x → Fit (go x)) → Fit (of_found o go)
  by_found None go f = tt
  by_found (Some x) go f = f x refl

  by_if : (b : Bool) (s t : Seen) → (b ≡ true → Fit s) → (b ≡ false → Fit t) → Fit (if b then s else t)
  by_if true s t h k = h refl
  by_if false s t h k = k refl

  -- ARGUMENTS

  abbrev pub AllFit : List Seen → Type 0
  AllFit [] = Unit {0}
  AllFit (s ∷ ss) = Fit s × AllFit ss

  more_fit : (done : List TypedExpr) (x : TypedExpr) → all_fit (map chk done) ≡ true → (chk x).fits ≡ true → all_fit (map chk (done ++ x ∷ [])) ≡ true
  more_fit [] x h k = and_so (chk x).fits true k refl
  more_fit (d ∷ ds) x h k = and_so (chk d).fits (all_fit (map chk (ds ++ x ∷ []))) (first_true (chk d).fits (all_fit (map chk ds)) h) (more_fit ds x (second_true (chk d).fits (all_fit (map chk ds)) h) k)

  no_arguments : (ss : List Seen) (ts : List TypedExpr) → arguments None ss ≡ Some ts → ⊥
  no_arguments [] ts e = none_is ts e
  no_arguments (s ∷ ss) ts e = no_arguments ss ts e

  pub arguments_fit : (ss : List Seen) (done ts : List TypedExpr) → AllFit ss → all_fit (map chk done) ≡ true → arguments (Some done) ss ≡ Some ts → all_fit (map chk ts) ≡ true
  arguments_fit [] done ts a h e = subst (λ (xs : List TypedExpr). all_fit (map chk xs) ≡ true) (some_is done ts e) h
  arguments_fit (seen.Faulty ∷ ss) done ts a h e = absurd (no_arguments ss ts e)
  arguments_fit (seen.Value k ∷ ss) done ts a h e = arguments_fit ss (done ++ k.expr ∷ []) ts (second_of a) (more_fit done k.expr h (first_of (first_of a))) e
  arguments_fit (seen.Class name ∷ ss) done ts a h e = absurd (no_arguments ss ts e)
  arguments_fit (seen.Text text ∷ ss) done ts a h e = absurd (no_arguments ss ts e)

  by_arguments : (ss : List Seen) (go : List TypedExpr → Seen) → AllFit ss → ((ts : List TypedExpr) → all_fit (map chk ts) ≡ true → Fit (go ts)) → Fit (of_found (arguments (Some []) ss) go)
  by_arguments ss go a f = by_found (arguments (Some []) ss) go (λ ts e. f ts (arguments_fit ss [] ts a refl e))

  module _ (c : Scope) (g : Setting p head receiver c) where
    -- NAMES

    slots_from : (at : ℕ) (name : Word) (vs : List Variable) (v : ℕ × Ty) → variable_from at name vs ≡ Some v → at ≤ v.0
    slots_from at name [] v e = none_is v e
    slots_from at name (x ∷ xs) v e = by_name (same x.name name) (slots_from (at + 1) name xs v) e where
      by_name : (b : Bool) → (variable_from (at + 1) name xs ≡ Some v → at + 1 ≤ v.0) → (if b then Some (at, x.ty) else variable_from (at + 1) name xs) ≡ Some v → at ≤ v.0
      by_name true later e = let pair : ℕ × Ty = (at, x.ty) in subst (λ (z : ℕ × Ty). at ≤ z.0) (some_is pair v e) (omega arith)
      by_name false later e = omega (arith, later e)

    pub not_first : (static : Bool) → receiver ≡ not static → (slot : ℕ) → receiver_slots static ≤ slot → (receiver && slot == 0) ≡ false
    not_first true e slot le = ap (λ (b : Bool). b && slot == 0) e
    not_first false e zero le = absurd (no_less le) where
      no_less : 1 ≤ 0 → ⊥
      no_less h = omega (arith, h)
    not_first false e (suc slot) le = ap (λ (b : Bool). receiver && b) (eqb-suc-zero slot) ∙ never

    variable_fit : (place : Place) (v : ℕ × Ty) → receiver_slots c.is_static ≤ v.0 → IsFit (tree place v.1 (made.Local v.0))
    variable_fit place v le =
        (ap (λ (x : Checked). x.fits) (check_local p head receiver place v.1 v.0), ap (λ (x : Checked). receiver && x.is_first) (check_local p head receiver place v.1 v.0) ∙ not_first c.is_static g.static v.0 le)

    this_fit : (place : Place) → IsFit (this_at c place)
    this_fit place = fit_as (this_at c place) true (check_this p head receiver place (ty.Class c.class)) refl

    field_fit : (place : Place) (t : Ty) (o : TypedExpr) (class name : Word) → IsFit o → IsFit (tree place t (made.Field o class name))
    field_fit place t o class name h = fit_as (tree place t (made.Field o class name)) (chk o).fits (check_field p head receiver place t o class name) (first_of h)

    static_fit : (place : Place) (t : Ty) (class name : Word) → IsFit (tree place t (made.Static class name))
    static_fit place t class name = fit_as (tree place t (made.Static class name)) true (check_static p head receiver place t class name) refl

    own_field_fit : (place : Place) (name : Word) (f : Word × IfaceField) → Fit (own_field_value c place name f)
    own_field_fit place name f = by_if f.1.is_static _ _ (λ e. static_fit place f.1.ty f.0 name) (λ e. field_fit place f.1.ty (this_at c place) f.0 name (this_fit place))

    named_fit : (place : Place) (name : Word) → Fit (named c place name)
    named_fit place name = by_variable (variable_of c name) refl where
      by_field : (o : Option (Word × IfaceField)) → Fit (option_map_or (own_field_value c place name) o (seen.Class name))
      by_field None = tt
      by_field (Some f) = own_field_fit place name f

      by_variable : (o : Option (ℕ × Ty)) → variable_of c name ≡ o → Fit (option_map_or (λ v. variable place v.1 (made.Local v.0)) o (option_map_or (own_field_value c place name) (own_field c name) (seen.Class name)))
      by_variable None e = by_field (own_field c name)
      by_variable (Some v) e = variable_fit place v (slots_from (receiver_slots c.is_static) name c.variables v e)

    -- FIELDS

    length_fit : (place : Place) (t : Ty) (a : TypedExpr) → IsFit a → IsFit (tree place t (made.Length a))
    length_fit place t a h = fit_as (tree place t (made.Length a)) (chk a).fits (check_length p head receiver place t a) (first_of h)

    field_value_fit : (place : Place) (k : Known) (name : Word) → IsFit k.expr → Fit (field_value c place k name)
    field_value_fit place k name h =
        by_if (is_unknown k.expr.ty) _ _ (λ e. length_fit place ty.Void k.expr h) (λ e.
        by_if (an_array k) _ _ (λ e. length_fit place ty.Int k.expr h) (λ e.
        by_found (class_of_value k) _ (λ class e. by_found (field_that false c.heads c.class class name) _ (λ f e. field_fit place f.1.ty k.expr f.0 name h))))

    read_field_fit : (place : Place) (o : Seen) (name : Word) → Fit o → Fit (read_field c place o name)
    read_field_fit place seen.Faulty name h = tt
    read_field_fit place (seen.Value k) name h = field_value_fit place k name h
    read_field_fit place (seen.Class class) name h = by_found (field_that true c.heads c.class class name) _ (λ f e. static_fit place f.1.ty f.0 name)
    read_field_fit place (seen.Text text) name h = tt

    -- CALLS

    io_fit : (place : Place) (name : Word) (ts : List TypedExpr) → all_fit (map chk ts) ≡ true → Fit (io_call place name ts)
    io_fit place name [] h = fit_as (tree place ty.Int made.Read) true (check_read p head receiver place ty.Int) refl
    io_fit place name (t ∷ ts) h = fit_as (tree place ty.Void (made.Print t)) (chk t).fits (check_print p head receiver place ty.Void t) (first_true (chk t).fits (all_fit (map chk ts)) h)

    static_call_fit : (place : Place) (m : Word × IfaceMethod) (ts : List TypedExpr) → all_fit (map chk ts) ≡ true → ((m.0 ≡ io_head.name) × (is_static m.1.kind ≡ true)) ⊎ (method_fits m.1 ≡ true) → Fit (static_call place m.0 m.1 ts)
    static_call_fit place m ts h n = by_if (same m.0 io) _ _ (λ e. io_fit place m.1.name ts h) (λ e. elim n [
      | inl q ↦ absurd (false≢true (sym e ∙ ap (λ (w : Word). same w io) (first_of q) ∙ same_refl io))
      | inr f ↦ fit_as (tree place m.1.result (made.CallStatic m.0 m.1.name m.1.params ts)) (all_fit (map chk ts) && (are_nameable m.1.params && is_result m.1.result))
          (check_static_call p head receiver place m.1.result m.0 m.1.name m.1.params ts) (and_so (all_fit (map chk ts)) (method_fits m.1) h f)
    ])

    virtual_call_fit : (place : Place) (o : TypedExpr) (class : Word) (m : IfaceMethod) (ts : List TypedExpr) → IsFit o → all_fit (map chk ts) ≡ true → method_fits m ≡ true → Fit (virtual_call c place o class m ts)
    virtual_call_fit place o class m ts ho h f =
        fit_as (tree place m.result (made.CallVirtual o class (names_interface c.heads class) m.name m.params ts)) ((chk o).fits && (all_fit (map chk ts) && (are_nameable m.params && is_result m.result)))
        (check_virtual p head receiver place m.result o class (names_interface c.heads class) m.name m.params ts)
        (and_so (chk o).fits (all_fit (map chk ts) && method_fits m) (first_of ho) (and_so (all_fit (map chk ts)) (method_fits m) h f))

    -- a method that isn't static isn't of `Io`
    not_io : (m : Word × IfaceMethod) → is_static m.1.kind ≡ false → ((m.0 ≡ io_head.name) × (is_static m.1.kind ≡ true)) ⊎ (method_fits m.1 ≡ true) → method_fits m.1 ≡ true
    not_io m s n = elim n [ inl q ↦ absurd (false≢true (sym s ∙ second_of q)) | inr f ↦ f ]

    own_call_fit : (place : Place) (m : Word × IfaceMethod) (ts : List TypedExpr) → all_fit (map chk ts) ≡ true → ((m.0 ≡ io_head.name) × (is_static m.1.kind ≡ true)) ⊎ (method_fits m.1 ≡ true) → Fit (own_call c place m ts)
    own_call_fit place m ts h n = by_if (is_static m.1.kind) _ _ (λ e. static_call_fit place m ts h n) (λ e. virtual_call_fit place (this_at c place) c.class m.1 ts (this_fit place) h (not_io m e n))

    -- a call on a value, where it is said whether its type is unknown, and rule 32 isn't broken
    judged : (test : Word × IfaceMethod → Bool) (u : Bool) (k : Known) (look : Word → Option (Word × IfaceMethod)) (x : Bool) (class : Word) (m : Word × IfaceMethod) → u ≡ false → class_of_value k ≡ Some class → look class ≡ Some m →
        (is_some (if u then None else Some k) && (option_map_or test (option_and_then look (option_and_then class_of_value (if u then None else Some k))) true || x)) ≡ false → test m ≡ false
    judged test u k look x class m eu ec em h =
        or_false_left (test m) x (sym (ap (λ (o : Option (Word × IfaceMethod)). option_map_or test o true || x) em ∙ refl) ∙ with_class) where
          known : (is_some (Some k) && (option_map_or test (option_and_then look (option_and_then class_of_value (Some k))) true || x)) ≡ false
          known = subst (λ (b : Bool). (is_some (if b then None else Some k) && (option_map_or test (option_and_then look (option_and_then class_of_value (if b then None else Some k))) true || x)) ≡ false) eu h

          with_class : (option_map_or test (look class) true || x) ≡ false
          with_class = subst (λ (o : Option Word). (option_map_or test (option_and_then look o) true || x) ≡ false) ec known

    instance_of : (r : Role) (k : Known) (args : List Seen) (m : Word × IfaceMethod) → miscalled c r (Some (seen.Value k)) args m ≡ false → is_static m.1.kind ≡ false
    instance_of r k args m h =
        or_false_left (is_static m.1.kind) (some_misfit c.heads args m.1.params) (or_false_left (is_static m.1.kind || some_misfit c.heads args m.1.params) (is_void m.1.result && not (is_alone r)) h)

    call_on_fit : (place : Place) (r : Role) (k : Known) (name : Word) (args : List Seen) (ts : List TypedExpr) (x : Bool) → IsFit k.expr → all_fit (map chk ts) ≡ true →
        (is_judged (Some (seen.Value k)) && (option_map_or (miscalled c r (Some (seen.Value k)) args) (called c (Some (seen.Value k)) name (length args)) true || x)) ≡ false → Fit (call_on c place k name (length args) ts)
    call_on_fit place r k name args ts x ho h rule =
        by_if (is_unknown k.expr.ty) _ _
        (λ e. fit_as (tree place ty.Void (made.CallVirtual k.expr [] false name [] ts)) ((chk k.expr).fits && (all_fit (map chk ts) && true)) (check_virtual p head receiver place ty.Void k.expr [] false name [] ts)
        (and_so (chk k.expr).fits (all_fit (map chk ts) && true) (first_of ho) (and_so (all_fit (map chk ts)) true h refl)))
        (λ u. by_found (class_of_value k) _ (λ class ec. by_found (method_of c.heads c.class class name (length args)) _ (λ m em.
        virtual_call_fit place k.expr class m.1 ts ho h
        (not_io m (instance_of r k args m (judged (miscalled c r (Some (seen.Value k)) args) (is_unknown k.expr.ty) k (λ class. method_of c.heads c.class class name (length args)) x class m u ec em rule))
        (method_nameable c.heads g.nameable c.class class name (length args) m em)))))

    dot_call_fit : (place : Place) (r : Role) (o : Seen) (name : Word) (args : List Seen) (ts : List TypedExpr) (x : Bool) → Fit o → all_fit (map chk ts) ≡ true →
        (is_judged (Some o) && (option_map_or (miscalled c r (Some o) args) (called c (Some o) name (length args)) true || x)) ≡ false → Fit (dot_call c place o name (length args) ts)
    dot_call_fit place r seen.Faulty name args ts x ho h rule = tt
    dot_call_fit place r (seen.Value k) name args ts x ho h rule = call_on_fit place r k name args ts x ho h rule
    dot_call_fit place r (seen.Class class) name args ts x ho h rule =
        by_found (method_of c.heads c.class class name (length args)) _ (λ m em. static_call_fit place m ts h (method_nameable c.heads g.nameable c.class class name (length args) m em))
    dot_call_fit place r (seen.Text text) name args ts x ho h rule = tt

    -- a call of a name alone
    called_fit : (place : Place) (name : Word) (count : ℕ) (ts : List TypedExpr) → all_fit (map chk ts) ≡ true → Fit (of_found (called c None name count) (λ m. own_call c place m ts))
    called_fit place name count ts h = by_found (called c None name count) _ (λ m em. own_call_fit place m ts h (method_nameable c.heads g.nameable c.class c.class name count m em))

    -- what a call of the superclass's family finds
    super_is : (name : Word) (count : ℕ) (m : Word × IfaceMethod) → super_method c name count ≡ Some m → (h : Iface) × (concrete_super c ≡ Some h) × (m.0 ≡ h.name) × (method_fits m.1 ≡ true)
    super_is name count m e = by_super (concrete_super c) refl e where
      by_static : (h : Iface) → concrete_super c ≡ Some h → (k : Word × IfaceMethod) → method_of c.heads c.class h.name name count ≡ Some k → (b : Bool) → is_static k.1.kind ≡ b → (if b then None else Some (let z : Word × IfaceMethod = (h.name, k.1) in z)) ≡ Some m →
          (h : Iface) × (concrete_super c ≡ Some h) × (m.0 ≡ h.name) × (method_fits m.1 ≡ true)
      by_static h s k f true b e = none_is m e
      by_static h s k f false b e =
          let z : Word × IfaceMethod = (h.name, k.1) in
          let q = some_is z m e in
          (h, s, ap (λ (y : Word × IfaceMethod). y.0) (sym q), subst (λ (y : Word × IfaceMethod). method_fits y.1 ≡ true) q (not_io k b (method_nameable c.heads g.nameable c.class h.name name count k f)))

      by_method : (h : Iface) → concrete_super c ≡ Some h → (o : Option (Word × IfaceMethod)) → method_of c.heads c.class h.name name count ≡ o → option_and_then (family_of h.name) o ≡ Some m →
          (h : Iface) × (concrete_super c ≡ Some h) × (m.0 ≡ h.name) × (method_fits m.1 ≡ true)
      by_method h s None f e = none_is m e
      by_method h s (Some k) f e = by_static h s k f (is_static k.1.kind) refl e

      by_super : (o : Option Iface) → concrete_super c ≡ o → option_and_then (λ h. option_and_then (family_of h.name) (method_of c.heads c.class h.name name count)) o ≡ Some m →
          (h : Iface) × (concrete_super c ≡ Some h) × (m.0 ≡ h.name) × (method_fits m.1 ≡ true)
      by_super None s e = none_is m e
      by_super (Some h) s e = by_method h s (method_of c.heads c.class h.name name count) refl e

    super_fit : (place : Place) (name : Word) (count : ℕ) (ts : List TypedExpr) → all_fit (map chk ts) ≡ true → c.is_static ≡ false →
        Fit (of_found (super_method c name count) (λ m. value place m.1.result (made.CallSuper m.0 name m.1.params ts)))
    super_fit place name count ts h static = by_found (super_method c name count) _ (λ m em.
        let s = super_is name count m em in
        let above = g.above s.0 s.1 in
        let whole = subst (λ (w : Word). is_whole_above p head (word_of (internal_name w)) ≡ true) (sym s.2) above in
        fit_as (tree place m.1.result (made.CallSuper m.0 name m.1.params ts)) (all_fit (map chk ts) && (are_nameable m.1.params && is_result m.1.result) && (receiver && is_whole_above p head (word_of (internal_name m.0))))
        (check_super_call p head receiver place m.1.result m.0 name m.1.params ts)
        (and_so (all_fit (map chk ts) && method_fits m.1) (receiver && is_whole_above p head (word_of (internal_name m.0))) (and_so (all_fit (map chk ts)) (method_fits m.1) h s.3)
        (and_so receiver (is_whole_above p head (word_of (internal_name m.0))) (g.static ∙ ap not static) whole)))

    -- THE FOLD

    abbrev pub FitPart : (Role → Part) → Type 0
    FitPart d = (r : Role) → Fit (d r).seen

    settle : (fs : List TypeFault) (s : Seen) → (fs ≡ [] → Fit s) → Fit (elim fs [ [] ↦ s | _ ↦ seen.Faulty ])
    settle [] s h = h refl
    settle (x ∷ xs) s h = tt

    whole : (place : Place) (r : Role) (parts : Parts) → (own_faults place (AtExpr c r (node_of parts)) ≡ [] → Fit (resolved c place (node_of parts))) → Fit (part_of c place r parts).seen
    whole place r parts h = settle (own_faults place (AtExpr c r (node_of parts))) (resolved c place (node_of parts)) h

    abbrev step : Layer → Place → Role → Part
    step l place r = part_of c place r (placed l)

    abbrev kind_part : ExprKind → Place → Role → Part
    kind_part = fold-ExprKind (Place → Role → Part) (Role → Part) step (λ x. x.kind x.place)

    abbrev FitKind : Type 0
    FitKind = (k : ExprKind) × ((place : Place) → FitPart (kind_part k place))

    abbrev FitExpr : Type 0
    FitExpr = (x : Expr) × FitPart (part c x)

    abbrev parts_in : Role → List FitExpr → List Part
    parts_in r xs = in_role r (map (part c) (map (λ (x : FitExpr). x.0) xs))

    all_parts : (r : Role) (xs : List FitExpr) → AllFit (seen_all (parts_in r xs))
    all_parts r [] = tt
    all_parts r (x ∷ xs) = (x.1 r, all_parts r xs)

    layer : (y : ExprKind-F FitKind FitExpr) (place : Place) →
        FitPart (step (map-ExprKind ExprKind Expr (Place → Role → Part) (Role → Part) kind_part (part c) (map-ExprKind FitKind FitExpr ExprKind Expr (λ k. k.0) (λ x. x.0) y)) place)
    layer (e.Number n hex) place r = whole place r (e.Number n hex) (λ o. fit_as (tree place ty.Int (made.Number n hex)) true (check_number p head receiver place ty.Int n hex) refl)
    layer (e.Truth truth) place r = whole place r (e.Truth truth) (λ o. fit_as (tree place ty.Boolean (made.Truth truth)) true (check_truth p head receiver place ty.Boolean truth) refl)
    layer e.Null place r = whole place r e.Null (λ o. fit_as (tree place (ty.Class object) made.Null) true (check_null p head receiver place (ty.Class object)) refl)
    layer (e.Text text) place r = whole place r (e.Text text) (λ o. tt)
    layer e.This place r = whole place r e.This (λ o. this_fit place)
    layer (e.Var name) place r = whole place r (e.Var name) (λ o. named_fit place name)
    layer (e.Unary n right) place r = whole place r (e.Unary n (part c right.0 (behind n))) (λ o.
        by_value (part c right.0 (behind n)).seen _ (right.1 (behind n)) (λ k ek h.
        fit_as (tree place (if n == sign.NOT then ty.Boolean else ty.Int) (made.Unary n k.expr)) (chk k.expr).fits (check_unary p head receiver place (if n == sign.NOT then ty.Boolean else ty.Int) n k.expr) (first_of h)))
    layer (e.Binary n left right) place r = whole place r (e.Binary n (part c left.0 role.Operand) (part c right.0 role.Operand)) (λ o.
        by_value (part c left.0 role.Operand).seen _ (left.1 role.Operand) (λ l el hl.
        by_value (part c right.0 role.Operand).seen _ (right.1 role.Operand) (λ m em hm.
        fit_as (tree place (result_of (group_of n) l.expr.ty m.expr.ty) (made.Binary n l.expr m.expr)) ((chk l.expr).fits && (chk m.expr).fits) (check_binary p head receiver place (result_of (group_of n) l.expr.ty m.expr.ty) n l.expr m.expr)
        (and_so (chk l.expr).fits (chk m.expr).fits (first_of hl) (first_of hm)))))
    layer (e.Cond test first second) place r = whole place r (e.Cond (part c test.0 role.Operand) (part c first.0 role.Operand) (part c second.0 role.Operand)) (λ o.
        by_value (part c test.0 role.Operand).seen _ (test.1 role.Operand) (λ t et ht.
        by_value (part c first.0 role.Operand).seen _ (first.1 role.Operand) (λ a ea ha.
        by_value (part c second.0 role.Operand).seen _ (second.1 role.Operand) (λ b eb hb.
        fit_as (tree place (larger c a b).expr.ty (made.Cond t.expr a.expr b.expr)) ((chk t.expr).fits && ((chk a.expr).fits && (chk b.expr).fits)) (check_cond p head receiver place (larger c a b).expr.ty t.expr a.expr b.expr)
        (and_so (chk t.expr).fits ((chk a.expr).fits && (chk b.expr).fits) (first_of ht) (and_so (chk a.expr).fits (chk b.expr).fits (first_of ha) (first_of hb)))))))
    layer (e.Cast class operand) place r = whole place r (e.Cast class (part c operand.0 role.Operand)) (λ o.
        by_value (part c operand.0 role.Operand).seen _ (operand.1 role.Operand) (λ k ek h.
        fit_as (tree place (ty.Class class) (made.Cast class k.expr)) (chk k.expr).fits (check_cast p head receiver place (ty.Class class) class k.expr) (first_of h)))
    layer (e.InstanceOf operand class) place r = whole place r (e.InstanceOf (part c operand.0 role.Operand) class) (λ o.
        by_value (part c operand.0 role.Operand).seen _ (operand.1 role.Operand) (λ k ek h.
        fit_as (tree place ty.Boolean (made.InstanceOf k.expr class)) (chk k.expr).fits (check_instance p head receiver place ty.Boolean k.expr class) (first_of h)))
    layer (e.Field object name) place r = whole place r (e.Field (part c object.0 role.BeforeDot) name) (λ o. read_field_fit place (part c object.0 role.BeforeDot).seen name (object.1 role.BeforeDot))
    layer (e.Index array index) place r = whole place r (e.Index (part c array.0 role.Operand) (part c index.0 role.Operand)) (λ o.
        by_value (part c array.0 role.Operand).seen _ (array.1 role.Operand) (λ a ea ha.
        by_value (part c index.0 role.Operand).seen _ (index.1 role.Operand) (λ i ei hi.
        fit_as (tree place (element_of a.expr.ty) (made.Index a.expr i.expr)) ((chk a.expr).fits && (chk i.expr).fits) (check_index p head receiver place (element_of a.expr.ty) a.expr i.expr)
        (and_so (chk a.expr).fits (chk i.expr).fits (first_of ha) (first_of hi)))))
    layer (e.Call None name args) place r = whole place r (e.Call None name (parts_in role.Operand args)) (λ o.
        by_arguments (seen_all (parts_in role.Operand args)) _ (all_parts role.Operand args) (λ ts h. called_fit place name (length (seen_all (parts_in role.Operand args))) ts h))
    layer (e.Call (Some object) name args) place r =
        let s : Seen = (part c object.0 role.BeforeDot).seen in
        let q : Role = argument_of (Some s) name in
        whole place r (e.Call (Some (part c object.0 role.BeforeDot)) name (parts_in q args)) (λ o.
        by_if (is_text_call (Some s) name) _ _
        (λ t. fit_as (tree place ty.Void (made.Show (text_of (seen_all (parts_in q args))))) true (check_show p head receiver place ty.Void (text_of (seen_all (parts_in q args)))) refl)
        (λ t. by_arguments (seen_all (parts_in q args)) _ (all_parts q args) (λ ts h.
        dot_call_fit place r s name (seen_all (parts_in q args)) ts (is_text_call (Some s) name && not (list_all is_text (seen_all (parts_in q args)))) (object.1 role.BeforeDot) h (first_kept place 32 _ [] o))))
    layer (e.SuperCall name args) place r = whole place r (e.SuperCall name (parts_in role.Operand args)) (λ o.
        by_arguments (seen_all (parts_in role.Operand args)) _ (all_parts role.Operand args) (λ ts h. super_fit place name (length (seen_all (parts_in role.Operand args))) ts h (first_kept place 23 c.is_static _ o)))
    layer (e.New class args) place r = whole place r (e.New class (parts_in role.Operand args)) (λ o.
        by_arguments (seen_all (parts_in role.Operand args)) _ (all_parts role.Operand args) (λ ts h.
        by_found (option_and_then (λ h. constructor_of h (length (seen_all (parts_in role.Operand args)))) (head_of c.heads class)) _ (λ params ep.
        fit_as (tree place (ty.Class class) (made.New class params ts)) (all_fit (map chk ts) && are_nameable params) (check_new p head receiver place (ty.Class class) class params ts)
        (and_so (all_fit (map chk ts)) (are_nameable params) h (maker_nameable c.heads g.nameable class (length (seen_all (parts_in role.Operand args))) params ep)))))
    layer (e.NewArray elem size) place r = whole place r (e.NewArray elem (part c size.0 role.Operand)) (λ o.
        by_value (part c size.0 role.Operand).seen _ (size.1 role.Operand) (λ k ek h.
        fit_as (tree place (array_of elem) (made.NewArray elem k.expr)) (chk k.expr).fits (check_new_array p head receiver place (array_of elem) elem k.expr) (first_of h)))

    pub part_fit : (x : Expr) → FitPart (part c x)
    part_fit = ind-Expr (λ k. (place : Place) → FitPart (kind_part k place)) (λ x. FitPart (part c x))
        (λ x y is. subst (λ (z : Place → Role → Part). (place : Place) → FitPart (z place)) (sym (fold-roll-ExprKind (Place → Role → Part) (Role → Part) step (λ x. x.kind x.place) x))
        (subst (λ (z : ExprKind-F ExprKind Expr). (place : Place) → FitPart (step (map-ExprKind ExprKind Expr (Place → Role → Part) (Role → Part) kind_part (part c) z) place)) is (layer y)))
        (λ x y is. subst FitPart (sym (fold-roll-Expr (Place → Role → Part) (Role → Part) step (λ x. x.kind x.place) x))
        (subst (λ (z : e.Expr-F ExprKind Expr). FitPart (kind_part z.kind z.place)) is (y.kind.1 y.place)))
