-- What is seen of an expression has a tree that calls ordinary methods.
use Rattle.std.proofs.Common.{◌≡◌, ℕ, Bool, true, false, List, [], ◌∷◌, ◌++◌, map, length, Option, Some, None, refl, sym, ap, ◌∙◌, subst, inl, inr}
use Rattle.std.specs.Prelude.{◌&&◌, ◌||◌, ◌==◌, not, is_some, if◌then◌else◌, codes}
use Rattle.std.specs.List.{find, list_all}
use Rattle.std.specs.Option.{option_map, option_map_or, option_and_then, option_or}
use Rattle.std.proofs.lemmas.Bool.{false≢true}
use Rattle.jp_pred.specs.declared.ty.Ty.{Ty}
use Rattle.jp_pred.specs.declared.ty.Ty.TheVariants as ty
use Rattle.jp_pred.specs.Names.{Word, In, same, object}
use Rattle.jp_pred.proofs.Ascents.{same_true}
use Rattle.jp_pred.proofs.Visits.{true_or_false}
use Rattle.iface_codec.specs.declared.iface.Iface.{Iface}
use Rattle.iface_codec.specs.declared.iface.IfaceField.{IfaceField}
use Rattle.iface_codec.specs.declared.iface.IfaceMethod.{IfaceMethod}
use Rattle.jp_ast.specs.declared.token.Place.{Place}
use Rattle.jp_ast.specs.declared.sign.TheConstants as sign
use Rattle.jp_ast.specs.declared.expr.Expr.{Expr}
use Rattle.jp_ast.specs.declared.expr.ExprKind.{ExprKind, ExprKind-F}
use Rattle.jp_ast.specs.declared.expr.ExprKind.TheOpen as e
use Rattle.jp_ast.specs.declared.expr.ExprKind.TheFolds.{ind-Expr, fold-ExprKind, fold-roll-Expr, fold-roll-ExprKind, map-ExprKind}
use Rattle.jp_store.specs.Classes.{object_name}
use Rattle.jp_meaning.specs.Classes.{is_static}
use Rattle.jp_meaning.specs.Descriptors.{internal_name}
use Rattle.jp_meaning.specs.declared.expr.TypedExpr.{TypedExpr}
use Rattle.jp_meaning.specs.declared.expr.TypedKind.TheVariants as made
use Rattle.type_rules.specs.declared.fault.TypeFault.{TypeFault}
use Rattle.type_rules.specs.declared.scope.Scope.{Scope}
use Rattle.type_rules.specs.declared.seen.Known.{Known}
use Rattle.type_rules.specs.declared.seen.Role.{Role}
use Rattle.type_rules.specs.declared.seen.Role.TheVariants as role
use Rattle.type_rules.specs.declared.seen.Seen.{Seen}
use Rattle.type_rules.specs.declared.seen.Seen.TheVariants as seen
use Rattle.type_rules.specs.Types.{io, is_unknown, is_void}
use Rattle.type_rules.specs.Heads.{head_of, names_interface}
use Rattle.type_rules.specs.Lookups.{field_that, supertypes, is_seen, is_called, method_among, method_of, constructor_of}
use Rattle.type_rules.specs.Assigning.{is_text, an_array, some_misfit}
use Rattle.type_rules.specs.Signs.{group_of, result_of}
use Rattle.type_rules.specs.Names.{variable_of, own_field, class_of_value, called, concrete_super, family_of, super_method, is_text_call}
use Rattle.type_rules.specs.Nodes.{AtExpr}
use Rattle.type_rules.specs.RulesOfExpressions.{is_alone, is_judged, miscalled}
use Rattle.type_rules.specs.Table.{own_faults}
use Rattle.type_rules.specs.Expressions.{Part, Parts, Layer, behind, argument_of, in_role, placed, seen_all, node_of, tree, value, variable, of_value, of_found, arguments, this_at, own_field_value, named, larger, element_of, array_of, field_value, read_field, io_call, text_of, static_call, virtual_call, own_call, call_on, dot_call, resolved, part_of, part}
use Rattle.type_rules.proofs.Soundness.{first_kept, or_false_left}
use Rattle.calls_fit.proofs.Named.{some_is, none_is, all_in}
use Rattle.typed_fits.proofs.Looking.{method_in, head_in, find_in}
use Rattle.code_fits.specs.Ordinary.{is_ordinary, is_ordinary_family, is_distinct, calls_ordinary}
use Rattle.typed_code.proofs.SeenTold.{and_so, of_both}
use Rattle.typed_code.proofs.OrdinaryForms.{usual_number, usual_truth, usual_null, usual_this, usual_local, usual_unary, usual_binary, usual_cond, usual_cast, usual_instance, usual_field, usual_static, usual_length, usual_index, usual_virtual, usual_static_call, usual_super_call, usual_new, usual_new_array, usual_print, usual_show, usual_read}

mapped : (ts : List TypedExpr) → list_all calls_ordinary ts ≡ true → list_all (λ a. a) (map calls_ordinary ts) ≡ true
mapped [] h = refl
mapped (t ∷ ts) h = let g = of_both (calls_ordinary t) (list_all calls_ordinary ts) h in and_so (calls_ordinary t) (list_all (λ a. a) (map calls_ordinary ts)) g.0 (mapped ts g.1)

-- What is looked up in heads is ordinary: no method is called as constructors are, all methods that `Io` has are static, and no
-- class is called as Object is in code
pub record AreOrdinary (heads : List Iface) : Type 0 where
  pub named : (h : Iface) → In h heads → list_all (λ m. not (same m.name (codes "<init>"))) h.methods ≡ true
  pub distinct : (h : Iface) → In h heads → is_distinct h.name ≡ true
  pub static : (own name : Word) (count : ℕ) (m : Word × IfaceMethod) → method_of heads own io name count ≡ Some m → is_static m.1.kind ≡ true

-- an ordinary method of a class
ordinary_of : (class name : Word) → same class io ≡ false → same name (codes "<init>") ≡ false → is_ordinary class name ≡ true
ordinary_of class name e f =
    and_so (not (same class io)) (not (same (internal_name class) object_name && same name (codes "<init>"))) (ap not e)
    (ap (λ b. not (same (internal_name class) object_name && b)) f ∙ never (same (internal_name class) object_name)) where
      never : (b : Bool) → not (b && false) ≡ true
      never true = refl
      never false = refl

pub denied : (b : Bool) → not b ≡ true → b ≡ false
denied true h = absurd (false≢true h)
denied false h = refl

abbrev pub Usual : Seen → Type 0
Usual seen.Faulty = Unit {0}
Usual (seen.Value k) = calls_ordinary k.expr ≡ true
Usual (seen.Class name) = Unit {0}
Usual (seen.Text text) = Unit {0}

-- a tree of which so much is known
usual_as : (x : TypedExpr) (b : Bool) → calls_ordinary x ≡ b → b ≡ true → calls_ordinary x ≡ true
usual_as x b e h = e ∙ h

by_value : (s : Seen) (go : Known → Seen) → Usual s → ((k : Known) → s ≡ seen.Value k → calls_ordinary k.expr ≡ true → Usual (go k)) → Usual (of_value s go)
by_value seen.Faulty go h f = tt
by_value (seen.Value k) go h f = f k refl h
by_value (seen.Class name) go h f = tt
by_value (seen.Text text) go h f = tt

by_found : {A : Type 0} (o : Option A) (go : A → Seen) → ((x : A) → o ≡ Some x → Usual (go x)) → Usual (of_found o go)
by_found None go f = tt
by_found (Some x) go f = f x refl

by_if : (b : Bool) (s t : Seen) → (b ≡ true → Usual s) → (b ≡ false → Usual t) → Usual (if b then s else t)
by_if true s t h k = h refl
by_if false s t h k = k refl

-- ARGUMENTS

abbrev pub AllUsual : List Seen → Type 0
AllUsual [] = Unit {0}
AllUsual (s ∷ ss) = Usual s × AllUsual ss

more_usual : (done : List TypedExpr) (x : TypedExpr) → list_all calls_ordinary done ≡ true → calls_ordinary x ≡ true → list_all calls_ordinary (done ++ x ∷ []) ≡ true
more_usual [] x h k = and_so (calls_ordinary x) true k refl
more_usual (d ∷ ds) x h k = let g = of_both (calls_ordinary d) (list_all calls_ordinary ds) h in and_so (calls_ordinary d) (list_all calls_ordinary (ds ++ x ∷ [])) g.0 (more_usual ds x g.1 k)

no_arguments : (ss : List Seen) (ts : List TypedExpr) → arguments None ss ≡ Some ts → ⊥
no_arguments [] ts e = none_is ts e
no_arguments (s ∷ ss) ts e = no_arguments ss ts e

pub arguments_usual : (ss : List Seen) (done ts : List TypedExpr) → AllUsual ss → list_all calls_ordinary done ≡ true → arguments (Some done) ss ≡ Some ts → list_all calls_ordinary ts ≡ true
arguments_usual [] done ts a h e = subst (λ (xs : List TypedExpr). list_all calls_ordinary xs ≡ true) (some_is done ts e) h
arguments_usual (seen.Faulty ∷ ss) done ts a h e = absurd (no_arguments ss ts e)
arguments_usual (seen.Value k ∷ ss) done ts a h e = arguments_usual ss (done ++ k.expr ∷ []) ts a.1 (more_usual done k.expr h a.0) e
arguments_usual (seen.Class name ∷ ss) done ts a h e = absurd (no_arguments ss ts e)
arguments_usual (seen.Text text ∷ ss) done ts a h e = absurd (no_arguments ss ts e)

by_arguments : (ss : List Seen) (go : List TypedExpr → Seen) → AllUsual ss → ((ts : List TypedExpr) → list_all calls_ordinary ts ≡ true → Usual (go ts)) → Usual (of_found (arguments (Some []) ss) go)
by_arguments ss go a f = by_found (arguments (Some []) ss) go (λ ts e. f ts (arguments_usual ss [] ts a refl e))

-- a method that is found has the name that is looked for
name_among : (own name : Word) (count : ℕ) (hs : List Iface) (m : Word × IfaceMethod) → method_among own name count hs ≡ Some m → m.1.name ≡ name
name_among own name count [] m e = none_is m e
name_among own name count (h ∷ hs) m e = by_own (find (is_called own name count h.name) h.methods) refl (name_among own name count hs m) e where
  by_own : (o : Option IfaceMethod) → find (is_called own name count h.name) h.methods ≡ o → (method_among own name count hs ≡ Some m → m.1.name ≡ name) → option_or (option_map (λ k. (h.name, k)) o) (method_among own name count hs) ≡ Some m → m.1.name ≡ name
  by_own None f later e = later e
  by_own (Some k) f later e =
      let pair : Word × IfaceMethod = (h.name, k) in
      let t = (find_in (is_called own name count h.name) h.methods k f).1 in
      let named : same k.name name ≡ true = (of_both (same k.name name) (length k.params == count) (of_both (same k.name name && length k.params == count) (is_seen own h.name k.kind) t).0).0 in
      ap (λ (z : Word × IfaceMethod). z.1.name) (sym (some_is pair m e)) ∙ same_true k.name name named

found_name : (heads : List Iface) (own class name : Word) (count : ℕ) (m : Word × IfaceMethod) → method_of heads own class name count ≡ Some m → m.1.name ≡ name
found_name heads own class name count m e = by_head (head_of heads class) e where
  by_head : (o : Option Iface) → option_and_then (λ h. method_among own name count (h ∷ supertypes heads h)) o ≡ Some m → m.1.name ≡ name
  by_head None e = none_is m e
  by_head (Some h) e = name_among own name count (h ∷ supertypes heads h) m e

module _ (c : Scope) (g : AreOrdinary c.heads) where
  -- NAMES

  variable_usual : (place : Place) (name : Word) (v : ℕ × Ty) → variable_of c name ≡ Some v → calls_ordinary (tree place v.1 (made.Local v.0)) ≡ true
  variable_usual place name v e = usual_local place v.1 v.0

  field_usual : (place : Place) (t : Ty) (o : TypedExpr) (class name : Word) → calls_ordinary o ≡ true → calls_ordinary (tree place t (made.Field o class name)) ≡ true
  field_usual place t o class name h = usual_field place t o class name ∙ h

  this_usual : (place : Place) → calls_ordinary (this_at c place) ≡ true
  this_usual place = usual_this place (ty.Class c.class)

  static_usual : (place : Place) (t : Ty) (class name : Word) → calls_ordinary (tree place t (made.Static class name)) ≡ true
  static_usual place t class name = usual_static place t class name

  own_field_usual : (place : Place) (name : Word) (f : Word × IfaceField) → Usual (own_field_value c place name f)
  own_field_usual place name f = by_if f.1.is_static _ _ (λ e. static_usual place f.1.ty f.0 name) (λ e. field_usual place f.1.ty (this_at c place) f.0 name (this_usual place))

  named_usual : (place : Place) (name : Word) → Usual (named c place name)
  named_usual place name = by_variable (variable_of c name) refl where
    by_field : (o : Option (Word × IfaceField)) → Usual (option_map_or (own_field_value c place name) o (seen.Class name))
    by_field None = tt
    by_field (Some f) = own_field_usual place name f

    by_variable : (o : Option (ℕ × Ty)) → variable_of c name ≡ o → Usual (option_map_or (λ v. variable place v.1 (made.Local v.0)) o (option_map_or (own_field_value c place name) (own_field c name) (seen.Class name)))
    by_variable None e = by_field (own_field c name)
    by_variable (Some v) e = variable_usual place name v e

  -- FIELDS

  length_usual : (place : Place) (t : Ty) (a : TypedExpr) → calls_ordinary a ≡ true → calls_ordinary (tree place t (made.Length a)) ≡ true
  length_usual place t a h = usual_length place t a ∙ h

  field_value_usual : (place : Place) (k : Known) (name : Word) → calls_ordinary k.expr ≡ true → Usual (field_value c place k name)
  field_value_usual place k name h =
      by_if (is_unknown k.expr.ty) _ _ (λ e. length_usual place ty.Void k.expr h) (λ e.
      by_if (an_array k) _ _ (λ e. length_usual place ty.Int k.expr h) (λ e.
      by_found (class_of_value k) _ (λ class e. by_found (field_that false c.heads c.class class name) _ (λ f e. field_usual place f.1.ty k.expr f.0 name h))))

  read_field_usual : (place : Place) (o : Seen) (name : Word) → Usual o → Usual (read_field c place o name)
  read_field_usual place seen.Faulty name h = tt
  read_field_usual place (seen.Value k) name h = field_value_usual place k name h
  read_field_usual place (seen.Class class) name h = by_found (field_that true c.heads c.class class name) _ (λ f e. static_usual place f.1.ty f.0 name)
  read_field_usual place (seen.Text text) name h = tt

  -- a class of which objects are made
  made_distinct : (class : Word) (n : ℕ) (params : List Ty) → option_and_then (λ h. constructor_of h n) (head_of c.heads class) ≡ Some params → is_distinct class ≡ true
  made_distinct class n params e = by_head (head_of c.heads class) refl e where
    by_head : (o : Option Iface) → head_of c.heads class ≡ o → option_and_then (λ h. constructor_of h n) o ≡ Some params → is_distinct class ≡ true
    by_head None f e = none_is params e
    by_head (Some h) f e = let i = head_in c.heads class h f in subst (λ (w : Word). is_distinct w ≡ true) i.1 (g.distinct h i.0)

  -- CALLS

  -- a method that is found isn't called as constructors are
  method_named : (class name : Word) (count : ℕ) (m : Word × IfaceMethod) → method_of c.heads c.class class name count ≡ Some m → same m.1.name (codes "<init>") ≡ false
  method_named class name count m e =
      let f = method_in c.heads c.class class name count m e in
      denied (same m.1.name (codes "<init>")) (all_in (λ k. not (same k.name (codes "<init>"))) f.0.methods (g.named f.0 f.1) f.2)

  -- one that isn't static isn't found in `Io`
  not_io : (class name : Word) (count : ℕ) (m : Word × IfaceMethod) → method_of c.heads c.class class name count ≡ Some m → is_static m.1.kind ≡ false → same class io ≡ false
  not_io class name count m e s = elim (true_or_false (same class io)) [
    | inl t ↦ absurd (false≢true (sym s ∙ g.static c.class name count m (subst (λ (w : Word). method_of c.heads c.class w name count ≡ Some m) (same_true class io t) e)))
    | inr f ↦ f
  ]

  io_usual : (place : Place) (name : Word) (ts : List TypedExpr) → list_all calls_ordinary ts ≡ true → Usual (io_call place name ts)
  io_usual place name [] h = usual_read place ty.Int
  io_usual place name (t ∷ ts) h = usual_print place ty.Void t ∙ (of_both (calls_ordinary t) (list_all calls_ordinary ts) h).0

  static_call_usual : (place : Place) (m : Word × IfaceMethod) (ts : List TypedExpr) → list_all calls_ordinary ts ≡ true → same m.1.name (codes "<init>") ≡ false → Usual (static_call place m.0 m.1 ts)
  static_call_usual place m ts h n = by_if (same m.0 io) _ _ (λ e. io_usual place m.1.name ts h) (λ e.
      usual_static_call place m.1.result m.0 m.1.name m.1.params ts
      ∙ and_so (list_all (λ a. a) (map calls_ordinary ts)) (is_ordinary m.0 m.1.name) (mapped ts h) (ordinary_of m.0 m.1.name e n))

  virtual_usual : (place : Place) (t : Ty) (o : TypedExpr) (class : Word) (is_interface : Bool) (name : Word) (params : List Ty) (ts : List TypedExpr) → calls_ordinary o ≡ true → list_all calls_ordinary ts ≡ true → is_ordinary class name ≡ true →
      calls_ordinary (tree place t (made.CallVirtual o class is_interface name params ts)) ≡ true
  virtual_usual place t o class is_interface name params ts ho h f =
      usual_virtual place t o class is_interface name params ts
      ∙ and_so (calls_ordinary o) (list_all (λ a. a) (map calls_ordinary ts) && is_ordinary class name) ho (and_so (list_all (λ a. a) (map calls_ordinary ts)) (is_ordinary class name) (mapped ts h) f)

  -- a family that is found
  found_usual : (place : Place) (o : TypedExpr) (class name : Word) (count : ℕ) (m : Word × IfaceMethod) (ts : List TypedExpr) → method_of c.heads c.class class name count ≡ Some m → is_static m.1.kind ≡ false → calls_ordinary o ≡ true → list_all calls_ordinary ts ≡ true →
      Usual (virtual_call c place o class m.1 ts)
  found_usual place o class name count m ts e s ho h =
      virtual_usual place m.1.result o class (names_interface c.heads class) m.1.name m.1.params ts ho h (ordinary_of class m.1.name (not_io class name count m e s) (method_named class name count m e))

  own_call_usual : (place : Place) (name : Word) (count : ℕ) (m : Word × IfaceMethod) (ts : List TypedExpr) → method_of c.heads c.class c.class name count ≡ Some m → list_all calls_ordinary ts ≡ true → Usual (own_call c place m ts)
  own_call_usual place name count m ts em h = by_if (is_static m.1.kind) _ _ (λ e. static_call_usual place m ts h (method_named c.class name count m em)) (λ e. found_usual place (this_at c place) c.class name count m ts em e (this_usual place) h)

  -- a call on a value, where it is said whether its type is unknown, and rule 32 isn't broken
  judged : (test : Word × IfaceMethod → Bool) (u : Bool) (k : Known) (look : Word → Option (Word × IfaceMethod)) (x : Bool) (class : Word) (m : Word × IfaceMethod) → u ≡ false → class_of_value k ≡ Some class → look class ≡ Some m →
      (is_some (if u then None else Some k) && (option_map_or test (option_and_then look (option_and_then class_of_value (if u then None else Some k))) true || x)) ≡ false → test m ≡ false
  judged test u k look x class m eu ec em h =
      or_false_left (test m) x (sym (ap (λ (o : Option (Word × IfaceMethod)). option_map_or test o true || x) em ∙ refl) ∙ with_class) where
        known : (is_some (Some k) && (option_map_or test (option_and_then look (option_and_then class_of_value (Some k))) true || x)) ≡ false
        known = subst (λ (b : Bool). (is_some (if b then None else Some k) && (option_map_or test (option_and_then look (option_and_then class_of_value (if b then None else Some k))) true || x)) ≡ false) eu h

        with_class : (option_map_or test (look class) true || x) ≡ false
        with_class = subst (λ (o : Option Word). (option_map_or test (option_and_then look o) true || x) ≡ false) ec known

  instance_of : (r : Role) (k : Known) (args : List Seen) (m : Word × IfaceMethod) → miscalled c r (Some (seen.Value k)) args m ≡ false → is_static m.1.kind ≡ false
  instance_of r k args m h =
      or_false_left (is_static m.1.kind) (some_misfit c.heads args m.1.params) (or_false_left (is_static m.1.kind || some_misfit c.heads args m.1.params) (is_void m.1.result && not (is_alone r)) h)

  call_on_usual : (place : Place) (r : Role) (k : Known) (name : Word) (args : List Seen) (ts : List TypedExpr) (x : Bool) → calls_ordinary k.expr ≡ true → list_all calls_ordinary ts ≡ true →
      (is_judged (Some (seen.Value k)) && (option_map_or (miscalled c r (Some (seen.Value k)) args) (called c (Some (seen.Value k)) name (length args)) true || x)) ≡ false → Usual (call_on c place k name (length args) ts)
  call_on_usual place r k name args ts x ho h rule =
      by_if (is_unknown k.expr.ty) _ _
      (λ e. virtual_usual place ty.Void k.expr [] false name [] ts ho h refl)
      (λ u. by_found (class_of_value k) _ (λ class ec. by_found (method_of c.heads c.class class name (length args)) _ (λ m em.
      found_usual place k.expr class name (length args) m ts em
      (instance_of r k args m (judged (miscalled c r (Some (seen.Value k)) args) (is_unknown k.expr.ty) k (λ class. method_of c.heads c.class class name (length args)) x class m u ec em rule)) ho h)))

  dot_call_usual : (place : Place) (r : Role) (o : Seen) (name : Word) (args : List Seen) (ts : List TypedExpr) (x : Bool) → Usual o → list_all calls_ordinary ts ≡ true →
      (is_judged (Some o) && (option_map_or (miscalled c r (Some o) args) (called c (Some o) name (length args)) true || x)) ≡ false → Usual (dot_call c place o name (length args) ts)
  dot_call_usual place r seen.Faulty name args ts x ho h rule = tt
  dot_call_usual place r (seen.Value k) name args ts x ho h rule = call_on_usual place r k name args ts x ho h rule
  dot_call_usual place r (seen.Class class) name args ts x ho h rule =
      by_found (method_of c.heads c.class class name (length args)) _ (λ m em. static_call_usual place m ts h (method_named class name (length args) m em))
  dot_call_usual place r (seen.Text text) name args ts x ho h rule = tt

  -- a call of a name alone
  called_usual : (place : Place) (name : Word) (count : ℕ) (ts : List TypedExpr) → list_all calls_ordinary ts ≡ true → Usual (of_found (called c None name count) (λ m. own_call c place m ts))
  called_usual place name count ts h = by_found (called c None name count) _ (λ m em. own_call_usual place name count m ts em h)

  -- what a call of the superclass's family finds
  super_is : (name : Word) (count : ℕ) (m : Word × IfaceMethod) → super_method c name count ≡ Some m → is_ordinary_family m.0 name ≡ true
  super_is name count m e = by_super (concrete_super c) e where
    by_static : (h : Iface) (k : Word × IfaceMethod) → method_of c.heads c.class h.name name count ≡ Some k → (b : Bool) → is_static k.1.kind ≡ b → (if b then None else Some (let z : Word × IfaceMethod = (h.name, k.1) in z)) ≡ Some m → is_ordinary_family m.0 name ≡ true
    by_static h k f true b e = none_is m e
    by_static h k f false b e =
        let z : Word × IfaceMethod = (h.name, k.1) in
        let q = some_is z m e in
        let n = subst (λ (w : Word). same w (codes "<init>") ≡ false) (found_name c.heads c.class h.name name count k f) (method_named h.name name count k f) in
        subst (λ (y : Word × IfaceMethod). is_ordinary_family y.0 name ≡ true) q (and_so (is_ordinary h.name name) (not (same name (codes "<init>"))) (ordinary_of h.name name (not_io h.name name count k f b) n) (ap not n))

    by_method : (h : Iface) (o : Option (Word × IfaceMethod)) → method_of c.heads c.class h.name name count ≡ o → option_and_then (family_of h.name) o ≡ Some m → is_ordinary_family m.0 name ≡ true
    by_method h None f e = none_is m e
    by_method h (Some k) f e = by_static h k f (is_static k.1.kind) refl e

    by_super : (o : Option Iface) → option_and_then (λ h. option_and_then (family_of h.name) (method_of c.heads c.class h.name name count)) o ≡ Some m → is_ordinary_family m.0 name ≡ true
    by_super None e = none_is m e
    by_super (Some h) e = by_method h (method_of c.heads c.class h.name name count) refl e

  super_usual : (place : Place) (name : Word) (count : ℕ) (ts : List TypedExpr) → list_all calls_ordinary ts ≡ true → Usual (of_found (super_method c name count) (λ m. value place m.1.result (made.CallSuper m.0 name m.1.params ts)))
  super_usual place name count ts h = by_found (super_method c name count) _ (λ m em.
      usual_super_call place m.1.result m.0 name m.1.params ts ∙ and_so (list_all (λ a. a) (map calls_ordinary ts)) (is_ordinary_family m.0 name) (mapped ts h) (super_is name count m em))

  -- THE FOLD

  abbrev pub UsualPart : (Role → Part) → Type 0
  UsualPart d = (r : Role) → Usual (d r).seen

  settle : (fs : List TypeFault) (s : Seen) → (fs ≡ [] → Usual s) → Usual (elim fs [ [] ↦ s | _ ↦ seen.Faulty ])
  settle [] s h = h refl
  settle (x ∷ xs) s h = tt

  whole : (place : Place) (r : Role) (parts : Parts) → (own_faults place (AtExpr c r (node_of parts)) ≡ [] → Usual (resolved c place (node_of parts))) → Usual (part_of c place r parts).seen
  whole place r parts h = settle (own_faults place (AtExpr c r (node_of parts))) (resolved c place (node_of parts)) h

  abbrev step : Layer → Place → Role → Part
  step l place r = part_of c place r (placed l)

  abbrev kind_part : ExprKind → Place → Role → Part
  kind_part = fold-ExprKind (Place → Role → Part) (Role → Part) step (λ x. x.kind x.place)

  abbrev UsualKind : Type 0
  UsualKind = (k : ExprKind) × ((place : Place) → UsualPart (kind_part k place))

  abbrev UsualExpr : Type 0
  UsualExpr = (x : Expr) × UsualPart (part c x)

  abbrev parts_in : Role → List UsualExpr → List Part
  parts_in r xs = in_role r (map (part c) (map (λ (x : UsualExpr). x.0) xs))

  all_parts : (r : Role) (xs : List UsualExpr) → AllUsual (seen_all (parts_in r xs))
  all_parts r [] = tt
  all_parts r (x ∷ xs) = (x.1 r, all_parts r xs)

  layer : (y : ExprKind-F UsualKind UsualExpr) (place : Place) →
      UsualPart (step (map-ExprKind ExprKind Expr (Place → Role → Part) (Role → Part) kind_part (part c) (map-ExprKind UsualKind UsualExpr ExprKind Expr (λ k. k.0) (λ x. x.0) y)) place)
  layer (e.Number n hex) place r = whole place r (e.Number n hex) (λ o. usual_as (tree place ty.Int (made.Number n hex)) true (usual_number place ty.Int n hex) refl)
  layer (e.Truth truth) place r = whole place r (e.Truth truth) (λ o. usual_as (tree place ty.Boolean (made.Truth truth)) true (usual_truth place ty.Boolean truth) refl)
  layer e.Null place r = whole place r e.Null (λ o. usual_as (tree place (ty.Class object) made.Null) true (usual_null place (ty.Class object)) refl)
  layer (e.Text text) place r = whole place r (e.Text text) (λ o. tt)
  layer e.This place r = whole place r e.This (λ o. this_usual place)
  layer (e.Var name) place r = whole place r (e.Var name) (λ o. named_usual place name)
  layer (e.Unary n right) place r = whole place r (e.Unary n (part c right.0 (behind n))) (λ o.
      by_value (part c right.0 (behind n)).seen _ (right.1 (behind n)) (λ k ek h.
      usual_as (tree place (if n == sign.NOT then ty.Boolean else ty.Int) (made.Unary n k.expr)) (calls_ordinary k.expr) (usual_unary place (if n == sign.NOT then ty.Boolean else ty.Int) n k.expr) h))
  layer (e.Binary n left right) place r = whole place r (e.Binary n (part c left.0 role.Operand) (part c right.0 role.Operand)) (λ o.
      by_value (part c left.0 role.Operand).seen _ (left.1 role.Operand) (λ l el hl.
      by_value (part c right.0 role.Operand).seen _ (right.1 role.Operand) (λ m em hm.
      usual_as (tree place (result_of (group_of n) l.expr.ty m.expr.ty) (made.Binary n l.expr m.expr)) ((calls_ordinary l.expr) && (calls_ordinary m.expr)) (usual_binary place (result_of (group_of n) l.expr.ty m.expr.ty) n l.expr m.expr)
      (and_so (calls_ordinary l.expr) (calls_ordinary m.expr) hl hm))))
  layer (e.Cond test first second) place r = whole place r (e.Cond (part c test.0 role.Operand) (part c first.0 role.Operand) (part c second.0 role.Operand)) (λ o.
      by_value (part c test.0 role.Operand).seen _ (test.1 role.Operand) (λ t et ht.
      by_value (part c first.0 role.Operand).seen _ (first.1 role.Operand) (λ a ea ha.
      by_value (part c second.0 role.Operand).seen _ (second.1 role.Operand) (λ b eb hb.
      usual_as (tree place (larger c a b).expr.ty (made.Cond t.expr a.expr b.expr)) ((calls_ordinary t.expr) && ((calls_ordinary a.expr) && (calls_ordinary b.expr))) (usual_cond place (larger c a b).expr.ty t.expr a.expr b.expr)
      (and_so (calls_ordinary t.expr) ((calls_ordinary a.expr) && (calls_ordinary b.expr)) ht (and_so (calls_ordinary a.expr) (calls_ordinary b.expr) ha hb))))))
  layer (e.Cast class operand) place r = whole place r (e.Cast class (part c operand.0 role.Operand)) (λ o.
      by_value (part c operand.0 role.Operand).seen _ (operand.1 role.Operand) (λ k ek h.
      usual_as (tree place (ty.Class class) (made.Cast class k.expr)) (calls_ordinary k.expr) (usual_cast place (ty.Class class) class k.expr) h))
  layer (e.InstanceOf operand class) place r = whole place r (e.InstanceOf (part c operand.0 role.Operand) class) (λ o.
      by_value (part c operand.0 role.Operand).seen _ (operand.1 role.Operand) (λ k ek h.
      usual_as (tree place ty.Boolean (made.InstanceOf k.expr class)) (calls_ordinary k.expr) (usual_instance place ty.Boolean k.expr class) h))
  layer (e.Field object name) place r = whole place r (e.Field (part c object.0 role.BeforeDot) name) (λ o. read_field_usual place (part c object.0 role.BeforeDot).seen name (object.1 role.BeforeDot))
  layer (e.Index array index) place r = whole place r (e.Index (part c array.0 role.Operand) (part c index.0 role.Operand)) (λ o.
      by_value (part c array.0 role.Operand).seen _ (array.1 role.Operand) (λ a ea ha.
      by_value (part c index.0 role.Operand).seen _ (index.1 role.Operand) (λ i ei hi.
      usual_as (tree place (element_of a.expr.ty) (made.Index a.expr i.expr)) ((calls_ordinary a.expr) && (calls_ordinary i.expr)) (usual_index place (element_of a.expr.ty) a.expr i.expr)
      (and_so (calls_ordinary a.expr) (calls_ordinary i.expr) ha hi))))
  layer (e.Call None name args) place r = whole place r (e.Call None name (parts_in role.Operand args)) (λ o.
      by_arguments (seen_all (parts_in role.Operand args)) _ (all_parts role.Operand args) (λ ts h. called_usual place name (length (seen_all (parts_in role.Operand args))) ts h))
  layer (e.Call (Some object) name args) place r =
      let s : Seen = (part c object.0 role.BeforeDot).seen in
      let q : Role = argument_of (Some s) name in
      whole place r (e.Call (Some (part c object.0 role.BeforeDot)) name (parts_in q args)) (λ o.
      by_if (is_text_call (Some s) name) _ _
      (λ t. usual_as (tree place ty.Void (made.Show (text_of (seen_all (parts_in q args))))) true (usual_show place ty.Void (text_of (seen_all (parts_in q args)))) refl)
      (λ t. by_arguments (seen_all (parts_in q args)) _ (all_parts q args) (λ ts h.
      dot_call_usual place r s name (seen_all (parts_in q args)) ts (is_text_call (Some s) name && not (list_all is_text (seen_all (parts_in q args)))) (object.1 role.BeforeDot) h (first_kept place 32 _ [] o))))
  layer (e.SuperCall name args) place r = whole place r (e.SuperCall name (parts_in role.Operand args)) (λ o.
      by_arguments (seen_all (parts_in role.Operand args)) _ (all_parts role.Operand args) (λ ts h. super_usual place name (length (seen_all (parts_in role.Operand args))) ts h))
  layer (e.New class args) place r = whole place r (e.New class (parts_in role.Operand args)) (λ o.
      by_arguments (seen_all (parts_in role.Operand args)) _ (all_parts role.Operand args) (λ ts h.
      by_found (option_and_then (λ h. constructor_of h (length (seen_all (parts_in role.Operand args)))) (head_of c.heads class)) _ (λ params ep.
      usual_as (tree place (ty.Class class) (made.New class params ts)) (list_all (λ a. a) (map calls_ordinary ts) && is_distinct class) (usual_new place (ty.Class class) class params ts)
      (and_so (list_all (λ a. a) (map calls_ordinary ts)) (is_distinct class) (mapped ts h) (made_distinct class (length (seen_all (parts_in role.Operand args))) params ep)))))
  layer (e.NewArray elem size) place r = whole place r (e.NewArray elem (part c size.0 role.Operand)) (λ o.
      by_value (part c size.0 role.Operand).seen _ (size.1 role.Operand) (λ k ek h.
      usual_as (tree place (array_of elem) (made.NewArray elem k.expr)) (calls_ordinary k.expr) (usual_new_array place (array_of elem) elem k.expr) h))

  pub part_usual : (x : Expr) → UsualPart (part c x)
  part_usual = ind-Expr (λ k. (place : Place) → UsualPart (kind_part k place)) (λ x. UsualPart (part c x))
      (λ x y is. subst (λ (z : Place → Role → Part). (place : Place) → UsualPart (z place)) (sym (fold-roll-ExprKind (Place → Role → Part) (Role → Part) step (λ x. x.kind x.place) x))
      (subst (λ (z : ExprKind-F ExprKind Expr). (place : Place) → UsualPart (step (map-ExprKind ExprKind Expr (Place → Role → Part) (Role → Part) kind_part (part c) z) place)) is (layer y)))
      (λ x y is. subst UsualPart (sym (fold-roll-Expr (Place → Role → Part) (Role → Part) step (λ x. x.kind x.place) x))
      (subst (λ (z : e.Expr-F ExprKind Expr). UsualPart (kind_part z.kind z.place)) is (y.kind.1 y.place)))
