-- What is seen of an expression with short names and literals has a tree with such names and literals.
use Rattle.std.proofs.Common.{◌≡◌, ℕ, Bool, true, false, List, [], ◌∷◌, ◌++◌, map, length, Option, Some, None, refl, sym, ap, ◌∙◌, subst, inl, inr}
use Rattle.std.specs.Prelude.{◌&&◌, ◌==◌, not, ◌||◌, if◌then◌else◌}
use Rattle.std.specs.List.{list_all}
use Rattle.std.specs.Option.{option_map, option_map_or, option_and_then, option_or}
use Rattle.std.proofs.lemmas.Bool.{and_from, and_parts}
use Rattle.jp_pred.specs.declared.ty.Ty.{Ty}
use Rattle.jp_pred.specs.declared.ty.Ty.TheVariants as ty
use Rattle.jp_pred.specs.Names.{Word, In, here, there, same, object}
use Rattle.jp_pred.proofs.Entries.{in_left, split_in}
use Rattle.iface_codec.specs.declared.iface.Iface.{Iface}
use Rattle.iface_codec.specs.declared.iface.IfaceField.{IfaceField}
use Rattle.iface_codec.specs.declared.iface.IfaceMethod.{IfaceMethod}
use Rattle.jp_ast.specs.declared.token.Place.{Place}
use Rattle.jp_ast.specs.declared.sign.TheConstants as sign
use Rattle.jp_ast.specs.declared.expr.Expr.{Expr}
use Rattle.jp_ast.specs.declared.expr.ExprKind.{ExprKind, ExprKind-F}
use Rattle.jp_ast.specs.declared.expr.ExprKind.TheOpen as e
use Rattle.jp_ast.specs.declared.expr.ExprKind.TheFolds.{ind-Expr, fold-ExprKind, fold-roll-Expr, fold-roll-ExprKind, map-ExprKind}
use Rattle.jp_meaning.specs.Classes.{is_static}
use Rattle.jp_meaning.specs.declared.expr.TypedExpr.{TypedExpr}
use Rattle.jp_meaning.specs.declared.expr.TypedKind.TheVariants as made
use Rattle.type_rules.specs.declared.fault.TypeFault.{TypeFault}
use Rattle.type_rules.specs.declared.scope.Scope.{Scope}
use Rattle.type_rules.specs.declared.seen.Known.{Known}
use Rattle.type_rules.specs.declared.seen.Role.{Role}
use Rattle.type_rules.specs.declared.seen.Role.TheVariants as role
use Rattle.type_rules.specs.declared.seen.Seen.{Seen}
use Rattle.type_rules.specs.declared.seen.Seen.TheVariants as seen
use Rattle.type_rules.specs.Types.{io, is_unknown}
use Rattle.type_rules.specs.Heads.{head_of, names_interface}
use Rattle.type_rules.specs.Lookups.{superclasses, interfaces_above, field_named, field_among, visible, field_of, same_truth, field_that, supertypes, method_among, method_of, constructor_of}
use Rattle.type_rules.specs.Assigning.{an_array}
use Rattle.type_rules.specs.Signs.{group_of, result_of}
use Rattle.type_rules.specs.Names.{variable_of, own_field, class_of_value, called, concrete_super, family_of, super_method, is_text_call}
use Rattle.type_rules.specs.Nodes.{AtExpr}
use Rattle.type_rules.specs.Table.{own_faults}
use Rattle.type_rules.specs.Expressions.{Part, Parts, Layer, behind, argument_of, in_role, placed, seen_all, node_of, tree, value, variable, of_value, of_found, arguments, this_at, own_field_value, named, larger, element_of, array_of, field_value, read_field, io_call, text_of, static_call, virtual_call, own_call, call_on, dot_call, resolved, part_of, part}
use Rattle.calls_fit.proofs.Named.{some_is, none_is, all_in}
use Rattle.typed_fits.proofs.Looking.{method_in, head_in, find_in, above_in}
use Rattle.code_texts.specs.Short.{is_short, names_short, has_short_params, is_short_call, is_short_text, is_short_expr, or_so}
use Rattle.typed_code.proofs.Making.{OnMade, so_then}
use Rattle.typed_texts.specs.Words.{expr_step, expr_is_short, field_is_short, method_is_short, head_is_short}
use Rattle.typed_texts.proofs.ShortForms.{short_number, short_truth, short_null, short_this, short_local, short_unary, short_binary, short_cond, short_cast, short_instance, short_field, short_static, short_length, short_index, short_virtual, short_static_call, short_super_call, short_new, short_new_array, short_print, short_show, short_read}

mapped : (ts : List TypedExpr) → list_all is_short_expr ts ≡ true → list_all (λ a. a) (map is_short_expr ts) ≡ true
mapped [] h = refl
mapped (t ∷ ts) h = let g = and_parts (is_short_expr t) (list_all is_short_expr ts) h in and_from (is_short_expr t) (list_all (λ a. a) (map is_short_expr ts)) g.0 (mapped ts g.1)

-- HEADS

-- what is looked up in heads has short names
abbrev pub AreShort : List Iface → Type 0
AreShort heads = (h : Iface) → In h heads → head_is_short h ≡ true

-- the parts of a class or an interface
pub record HasShort (h : Iface) : Type 0 where
  pub name : is_short h.name ≡ true
  pub above : or_so is_short h.superclass ≡ true
  pub interfaces : list_all is_short h.interfaces ≡ true
  pub fields : list_all field_is_short h.fields ≡ true
  pub makers : list_all has_short_params h.constructors ≡ true
  pub methods : list_all method_is_short h.methods ≡ true

pub parts_of : (h : Iface) → head_is_short h ≡ true → HasShort h
parts_of h e =
    let named = is_short h.name in
    let above = or_so is_short h.superclass in
    let under = list_all is_short h.interfaces in
    let fields = list_all field_is_short h.fields in
    let makers = list_all has_short_params h.constructors in
    let methods = list_all method_is_short h.methods in
    let a = and_parts named (above && (under && (fields && (makers && methods)))) e in
    let b = and_parts above (under && (fields && (makers && methods))) a.1 in
    let c = and_parts under (fields && (makers && methods)) b.1 in
    let d = and_parts fields (makers && methods) c.1 in
    let f = and_parts makers methods d.1 in
    record { name = a.0; above = b.0; interfaces = c.0; fields = d.0; makers = f.0; methods = f.1 }

-- a field, with the class that declares it
abbrev ShortField : Word × IfaceField → Type 0
ShortField f = (is_short f.0 ≡ true) × (names_short f.1.ty ≡ true)

among_short : (name : Word) (hs : List Iface) → AreShort hs → OnMade ShortField (field_among name hs)
among_short name [] g = tt
among_short name (h ∷ hs) g = by_own (field_named name h.fields) refl (among_short name hs (λ x i. g x (there i))) where
  parts : HasShort h
  parts = parts_of h (g h here)

  by_own : (o : Option IfaceField) → field_named name h.fields ≡ o → OnMade ShortField (field_among name hs) → OnMade ShortField (option_or (option_map (λ k. (h.name, k)) o) (field_among name hs))
  by_own None f later = later
  by_own (Some k) f later =
      let i = (find_in (λ (x : IfaceField). same x.name name) h.fields k f).0 in
      (parts.name, (and_parts (is_short k.name) (names_short k.ty) (all_in field_is_short h.fields parts.fields i)).1)

-- a method, with the class that declares it
abbrev ShortMethod : Word × IfaceMethod → Type 0
ShortMethod m = (is_short m.0 ≡ true) × (method_is_short m.1 ≡ true)

if_short : {A : Type 0} (P : A → Type 0) (b : Bool) (x : A) → P x → OnMade P (if b then Some x else None)
if_short P true x h = h
if_short P false x h = tt

module _ (heads : List Iface) (g : AreShort heads) where
  field_short : (own class name : Word) → OnMade ShortField (field_of heads own class name)
  field_short own class name =
      so_then (visible own) ShortField ShortField (option_and_then (λ h. field_among name (h ∷ superclasses heads h)) (head_of heads class)) (by_head (head_of heads class) refl)
      (λ f h. if_short ShortField (not f.1.is_private || same f.0 own) f h) where
        by_head : (o : Option Iface) → head_of heads class ≡ o → OnMade ShortField (option_and_then (λ h. field_among name (h ∷ superclasses heads h)) o)
        by_head None f = tt
        by_head (Some h) f = among_short name (h ∷ superclasses heads h) (λ x i. elim (split_in h x (superclasses heads h) i) [
          | inl q ↦ subst (λ (z : Iface). head_is_short z ≡ true) q (g h (head_in heads class h f).0)
          | inr j ↦ g x (above_in heads h x (in_left (interfaces_above heads (h ∷ superclasses heads h)) j))
        ])

  pub field_found : (static : Bool) (own class name : Word) (f : Word × IfaceField) → field_that static heads own class name ≡ Some f → ShortField f
  field_found static own class name f e =
      subst (OnMade ShortField) e (so_then (λ (f : Word × IfaceField). if same_truth f.1.is_static static then Some f else None) ShortField ShortField (field_of heads own class name) (field_short own class name)
      (λ k h. if_short ShortField (same_truth k.1.is_static static) k h))

  pub method_found : (own class name : Word) (count : ℕ) (m : Word × IfaceMethod) → method_of heads own class name count ≡ Some m → ShortMethod m
  method_found own class name count m e =
      let f = method_in heads own class name count m e in
      let parts = parts_of f.0 (g f.0 f.1) in
      (ap is_short f.3 ∙ parts.name, all_in method_is_short f.0.methods parts.methods f.2)

  -- a class that is found is named so
  pub class_short : (class : Word) (h : Iface) → head_of heads class ≡ Some h → is_short class ≡ true
  class_short class h e = let i = head_in heads class h e in subst (λ (w : Word). is_short w ≡ true) i.1 (parts_of h (g h i.0)).name

  pub class_found : (own class name : Word) (count : ℕ) (m : Word × IfaceMethod) → method_of heads own class name count ≡ Some m → is_short class ≡ true
  class_found own class name count m e = by_head (head_of heads class) refl e where
    by_head : (o : Option Iface) → head_of heads class ≡ o → option_and_then (λ h. method_among own name count (h ∷ supertypes heads h)) o ≡ Some m → is_short class ≡ true
    by_head None f e = none_is m e
    by_head (Some h) f e = class_short class h f

  pub maker_found : (h : Iface) (count : ℕ) (params : List Ty) → In h heads → constructor_of h count ≡ Some params → has_short_params params ≡ true
  maker_found h count params i e =
      all_in has_short_params h.constructors (parts_of h (g h i)).makers (find_in (λ (ps : List Ty). length ps == count) h.constructors params e).0

-- WHAT IS SEEN

pub with_both : {A B : Type 0} (Q : A → B → Type 0) (x z : A) (y u : B) → x ≡ z → y ≡ u → Q z u → Q x y
with_both Q x z y u e f q = subst (λ v. Q v y) (sym e) (subst (λ v. Q z v) (sym f) q)

abbrev pub Short : Seen → Type 0
Short seen.Faulty = Unit {0}
Short (seen.Value k) = is_short_expr k.expr ≡ true
Short (seen.Class name) = Unit {0}
Short (seen.Text text) = is_short_text text ≡ true

-- a tree of which so much is known
short_as : (x : TypedExpr) (b : Bool) → is_short_expr x ≡ b → b ≡ true → is_short_expr x ≡ true
short_as x b e h = e ∙ h

by_value : (s : Seen) (go : Known → Seen) → Short s → ((k : Known) → is_short_expr k.expr ≡ true → Short (go k)) → Short (of_value s go)
by_value seen.Faulty go h f = tt
by_value (seen.Value k) go h f = f k h
by_value (seen.Class name) go h f = tt
by_value (seen.Text text) go h f = tt

by_found : {A : Type 0} (o : Option A) (go : A → Seen) → ((x : A) → o ≡ Some x → Short (go x)) → Short (of_found o go)
by_found None go f = tt
by_found (Some x) go f = f x refl

by_if : (b : Bool) (s t : Seen) → Short s → Short t → Short (if b then s else t)
by_if true s t h k = h
by_if false s t h k = k

-- ARGUMENTS

abbrev pub AllShort : List Seen → Type 0
AllShort [] = Unit {0}
AllShort (s ∷ ss) = Short s × AllShort ss

more_short : (done : List TypedExpr) (x : TypedExpr) → list_all is_short_expr done ≡ true → is_short_expr x ≡ true → list_all is_short_expr (done ++ x ∷ []) ≡ true
more_short [] x h k = and_from (is_short_expr x) true k refl
more_short (d ∷ ds) x h k = let g = and_parts (is_short_expr d) (list_all is_short_expr ds) h in and_from (is_short_expr d) (list_all is_short_expr (ds ++ x ∷ [])) g.0 (more_short ds x g.1 k)

no_arguments : (ss : List Seen) (ts : List TypedExpr) → arguments None ss ≡ Some ts → ⊥
no_arguments [] ts e = none_is ts e
no_arguments (s ∷ ss) ts e = no_arguments ss ts e

pub arguments_short : (ss : List Seen) (done ts : List TypedExpr) → AllShort ss → list_all is_short_expr done ≡ true → arguments (Some done) ss ≡ Some ts → list_all is_short_expr ts ≡ true
arguments_short [] done ts a h e = subst (λ (xs : List TypedExpr). list_all is_short_expr xs ≡ true) (some_is done ts e) h
arguments_short (seen.Faulty ∷ ss) done ts a h e = absurd (no_arguments ss ts e)
arguments_short (seen.Value k ∷ ss) done ts a h e = arguments_short ss (done ++ k.expr ∷ []) ts a.1 (more_short done k.expr h a.0) e
arguments_short (seen.Class name ∷ ss) done ts a h e = absurd (no_arguments ss ts e)
arguments_short (seen.Text text ∷ ss) done ts a h e = absurd (no_arguments ss ts e)

by_arguments : (ss : List Seen) (go : List TypedExpr → Seen) → AllShort ss → ((ts : List TypedExpr) → list_all is_short_expr ts ≡ true → Short (go ts)) → Short (of_found (arguments (Some []) ss) go)
by_arguments ss go a f = by_found (arguments (Some []) ss) go (λ ts e. f ts (arguments_short ss [] ts a refl e))

-- the text that is shown
shown_short : (ss : List Seen) → AllShort ss → is_short_text (text_of ss) ≡ true
shown_short [] a = refl
shown_short (seen.Faulty ∷ ss) a = refl
shown_short (seen.Value k ∷ ss) a = refl
shown_short (seen.Class name ∷ ss) a = refl
shown_short (seen.Text text ∷ ss) a = a.0

module _ (c : Scope) (g : AreShort c.heads) where
  -- NAMES

  this_short : (place : Place) → is_short_expr (this_at c place) ≡ true
  this_short place = short_this place (ty.Class c.class)

  read_short : (place : Place) (o : TypedExpr) (name : Word) (f : Word × IfaceField) → is_short_expr o ≡ true → is_short name ≡ true → ShortField f → is_short_expr (tree place f.1.ty (made.Field o f.0 name)) ≡ true
  read_short place o name f h n k =
      short_field place f.1.ty o f.0 name
      ∙ and_from (is_short_expr o) (is_short f.0 && (is_short name && names_short f.1.ty)) h (and_from (is_short f.0) (is_short name && names_short f.1.ty) k.0 (and_from (is_short name) (names_short f.1.ty) n k.1))

  static_short : (place : Place) (name : Word) (f : Word × IfaceField) → is_short name ≡ true → ShortField f → is_short_expr (tree place f.1.ty (made.Static f.0 name)) ≡ true
  static_short place name f n k =
      short_static place f.1.ty f.0 name ∙ and_from (is_short f.0) (is_short name && names_short f.1.ty) k.0 (and_from (is_short name) (names_short f.1.ty) n k.1)

  own_field_short : (place : Place) (name : Word) (f : Word × IfaceField) → is_short name ≡ true → ShortField f → Short (own_field_value c place name f)
  own_field_short place name f n k = by_if f.1.is_static _ _ (static_short place name f n k) (read_short place (this_at c place) name f (this_short place) n k)

  named_short : (place : Place) (name : Word) → is_short name ≡ true → Short (named c place name)
  named_short place name n = by_variable (variable_of c name) where
    by_field : (o : Option (Word × IfaceField)) → OnMade ShortField o → Short (option_map_or (own_field_value c place name) o (seen.Class name))
    by_field None k = tt
    by_field (Some f) k = own_field_short place name f n k

    by_variable : (o : Option (ℕ × Ty)) → Short (option_map_or (λ v. variable place v.1 (made.Local v.0)) o (option_map_or (own_field_value c place name) (own_field c name) (seen.Class name)))
    by_variable None = by_field (own_field c name) (field_short c.heads g c.class c.class name)
    by_variable (Some v) = short_local place v.1 v.0

  -- FIELDS

  length_short : (place : Place) (t : Ty) (a : TypedExpr) → is_short_expr a ≡ true → is_short_expr (tree place t (made.Length a)) ≡ true
  length_short place t a h = short_length place t a ∙ h

  field_value_short : (place : Place) (k : Known) (name : Word) → is_short_expr k.expr ≡ true → is_short name ≡ true → Short (field_value c place k name)
  field_value_short place k name h n =
      by_if (is_unknown k.expr.ty) _ _ (length_short place ty.Void k.expr h)
      (by_if (an_array k) _ _ (length_short place ty.Int k.expr h)
      (by_found (class_of_value k) _ (λ class e. by_found (field_that false c.heads c.class class name) _ (λ f e. read_short place k.expr name f h n (field_found c.heads g false c.class class name f e)))))

  read_field_short : (place : Place) (o : Seen) (name : Word) → Short o → is_short name ≡ true → Short (read_field c place o name)
  read_field_short place seen.Faulty name h n = tt
  read_field_short place (seen.Value k) name h n = field_value_short place k name h n
  read_field_short place (seen.Class class) name h n = by_found (field_that true c.heads c.class class name) _ (λ f e. static_short place name f n (field_found c.heads g true c.class class name f e))
  read_field_short place (seen.Text text) name h n = tt

  -- CALLS

  io_short : (place : Place) (name : Word) (ts : List TypedExpr) → list_all is_short_expr ts ≡ true → Short (io_call place name ts)
  io_short place name [] h = short_read place ty.Int
  io_short place name (t ∷ ts) h = short_print place ty.Void t ∙ (and_parts (is_short_expr t) (list_all is_short_expr ts) h).0

  static_call_short : (place : Place) (m : Word × IfaceMethod) (ts : List TypedExpr) → list_all is_short_expr ts ≡ true → ShortMethod m → Short (static_call place m.0 m.1 ts)
  static_call_short place m ts h k = by_if (same m.0 io) _ _ (io_short place m.1.name ts h)
      (short_static_call place m.1.result m.0 m.1.name m.1.params ts
      ∙ and_from (list_all (λ a. a) (map is_short_expr ts)) (is_short_call m.0 m.1.name m.1.params m.1.result) (mapped ts h) (and_from (is_short m.0) (method_is_short m.1) k.0 k.1))

  virtual_call_short : (place : Place) (o : TypedExpr) (class : Word) (m : IfaceMethod) (ts : List TypedExpr) → is_short_expr o ≡ true → list_all is_short_expr ts ≡ true → is_short class ≡ true → method_is_short m ≡ true → Short (virtual_call c place o class m ts)
  virtual_call_short place o class m ts ho h n k =
      short_virtual place m.result o class (names_interface c.heads class) m.name m.params ts
      ∙ and_from (is_short_expr o) (list_all (λ a. a) (map is_short_expr ts) && is_short_call class m.name m.params m.result) ho
      (and_from (list_all (λ a. a) (map is_short_expr ts)) (is_short_call class m.name m.params m.result) (mapped ts h) (and_from (is_short class) (method_is_short m) n k))

  own_call_short : (place : Place) (name : Word) (count : ℕ) (m : Word × IfaceMethod) (ts : List TypedExpr) → list_all is_short_expr ts ≡ true → method_of c.heads c.class c.class name count ≡ Some m → Short (own_call c place m ts)
  own_call_short place name count m ts h e =
      let k = method_found c.heads g c.class c.class name count m e in
      by_if (is_static m.1.kind) _ _ (static_call_short place m ts h k) (virtual_call_short place (this_at c place) c.class m.1 ts (this_short place) h (class_found c.heads g c.class c.class name count m e) k.1)

  called_short : (place : Place) (name : Word) (count : ℕ) (ts : List TypedExpr) → list_all is_short_expr ts ≡ true → Short (of_found (called c None name count) (λ m. own_call c place m ts))
  called_short place name count ts h = by_found (called c None name count) _ (λ m e. own_call_short place name count m ts h e)

  call_on_short : (place : Place) (k : Known) (name : Word) (count : ℕ) (ts : List TypedExpr) → is_short_expr k.expr ≡ true → list_all is_short_expr ts ≡ true → is_short name ≡ true → Short (call_on c place k name count ts)
  call_on_short place k name count ts ho h n =
      by_if (is_unknown k.expr.ty) _ _
      (short_virtual place ty.Void k.expr [] false name [] ts
      ∙ and_from (is_short_expr k.expr) (list_all (λ a. a) (map is_short_expr ts) && is_short_call [] name [] ty.Void) ho
      (and_from (list_all (λ a. a) (map is_short_expr ts)) (is_short_call [] name [] ty.Void) (mapped ts h) (and_from (is_short name) true n refl)))
      (by_found (class_of_value k) _ (λ class ec. by_found (method_of c.heads c.class class name count) _ (λ m e.
      virtual_call_short place k.expr class m.1 ts ho h (class_found c.heads g c.class class name count m e) (method_found c.heads g c.class class name count m e).1)))

  dot_call_short : (place : Place) (o : Seen) (name : Word) (count : ℕ) (ts : List TypedExpr) → Short o → list_all is_short_expr ts ≡ true → is_short name ≡ true → Short (dot_call c place o name count ts)
  dot_call_short place seen.Faulty name count ts ho h n = tt
  dot_call_short place (seen.Value k) name count ts ho h n = call_on_short place k name count ts ho h n
  dot_call_short place (seen.Class class) name count ts ho h n =
      by_found (method_of c.heads c.class class name count) _ (λ m e. static_call_short place m ts h (method_found c.heads g c.class class name count m e))
  dot_call_short place (seen.Text text) name count ts ho h n = tt

  -- what a call of the superclass's family finds
  super_found : (name : Word) (count : ℕ) (m : Word × IfaceMethod) → super_method c name count ≡ Some m → ShortMethod m
  super_found name count m e = subst (OnMade ShortMethod) e (by_super (concrete_super c)) where
    by_static : (h : Iface) (k : Word × IfaceMethod) → method_of c.heads c.class h.name name count ≡ Some k → (b : Bool) → OnMade ShortMethod (if b then None else Some (let z : Word × IfaceMethod = (h.name, k.1) in z))
    by_static h k f true = tt
    by_static h k f false = (class_found c.heads g c.class h.name name count k f, (method_found c.heads g c.class h.name name count k f).1)

    by_method : (h : Iface) (o : Option (Word × IfaceMethod)) → method_of c.heads c.class h.name name count ≡ o → OnMade ShortMethod (option_and_then (family_of h.name) o)
    by_method h None f = tt
    by_method h (Some k) f = by_static h k f (is_static k.1.kind)

    by_super : (o : Option Iface) → OnMade ShortMethod (option_and_then (λ h. option_and_then (family_of h.name) (method_of c.heads c.class h.name name count)) o)
    by_super None = tt
    by_super (Some h) = by_method h (method_of c.heads c.class h.name name count) refl

  super_short : (place : Place) (name : Word) (count : ℕ) (ts : List TypedExpr) → list_all is_short_expr ts ≡ true → is_short name ≡ true → Short (of_found (super_method c name count) (λ m. value place m.1.result (made.CallSuper m.0 name m.1.params ts)))
  super_short place name count ts h n = by_found (super_method c name count) _ (λ m e.
      let k = super_found name count m e in
      let sorts = has_short_params m.1.params && names_short m.1.result in
      short_super_call place m.1.result m.0 name m.1.params ts
      ∙ and_from (list_all (λ a. a) (map is_short_expr ts)) (is_short_call m.0 name m.1.params m.1.result) (mapped ts h)
      (and_from (is_short m.0) (is_short name && sorts) k.0 (and_from (is_short name) sorts n (and_parts (is_short m.1.name) sorts k.1).1)))

  -- a class of which objects are made
  new_short : (place : Place) (class : Word) (count : ℕ) (ts : List TypedExpr) → list_all is_short_expr ts ≡ true → is_short class ≡ true →
      Short (of_found (option_and_then (λ h. constructor_of h count) (head_of c.heads class)) (λ params. value place (ty.Class class) (made.New class params ts)))
  new_short place class count ts h n = by_found (option_and_then (λ h. constructor_of h count) (head_of c.heads class)) _ (λ params e.
      short_new place (ty.Class class) class params ts
      ∙ and_from (list_all (λ a. a) (map is_short_expr ts)) (is_short class && has_short_params params) (mapped ts h) (and_from (is_short class) (has_short_params params) n (by_head params (head_of c.heads class) refl e))) where
        by_head : (params : List Ty) (o : Option Iface) → head_of c.heads class ≡ o → option_and_then (λ h. constructor_of h count) o ≡ Some params → has_short_params params ≡ true
        by_head params None f e = none_is params e
        by_head params (Some h) f e = maker_found c.heads g h count params (head_in c.heads class h f).0 e

  -- THE FOLD

  abbrev pub ShortPart : Bool → (Role → Part) → Type 0
  ShortPart words d = words ≡ true → (r : Role) → Short (d r).seen

  settle : (fs : List TypeFault) (s : Seen) → Short s → Short (elim fs [ [] ↦ s | _ ↦ seen.Faulty ])
  settle [] s h = h
  settle (x ∷ xs) s h = tt

  whole : (place : Place) (r : Role) (parts : Parts) → Short (resolved c place (node_of parts)) → Short (part_of c place r parts).seen
  whole place r parts h = settle (own_faults place (AtExpr c r (node_of parts))) (resolved c place (node_of parts)) h

  abbrev step : Layer → Place → Role → Part
  step l place r = part_of c place r (placed l)

  abbrev kind_part : ExprKind → Place → Role → Part
  kind_part = fold-ExprKind (Place → Role → Part) (Role → Part) step (λ x. x.kind x.place)

  abbrev kind_short : ExprKind → Bool
  kind_short = fold-ExprKind Bool Bool expr_step (λ x. x.kind)

  abbrev ShortKind : Type 0
  ShortKind = (k : ExprKind) × ((place : Place) → ShortPart (kind_short k) (kind_part k place))

  abbrev ShortExpr : Type 0
  ShortExpr = (x : Expr) × ShortPart (expr_is_short x) (part c x)

  abbrev parts_in : Role → List ShortExpr → List Part
  parts_in r xs = in_role r (map (part c) (map (λ (x : ShortExpr). x.0) xs))

  abbrev are_short : List ShortExpr → Bool
  are_short xs = list_all (λ a. a) (map expr_is_short (map (λ (x : ShortExpr). x.0) xs))

  all_parts : (r : Role) (xs : List ShortExpr) → are_short xs ≡ true → AllShort (seen_all (parts_in r xs))
  all_parts r [] h = tt
  all_parts r (x ∷ xs) h = let g = and_parts (expr_is_short x.0) (are_short xs) h in (x.1 g.0 r, all_parts r xs g.1)

  layer : (y : ExprKind-F ShortKind ShortExpr) (place : Place) →
      ShortPart (expr_step (map-ExprKind ExprKind Expr Bool Bool kind_short expr_is_short (map-ExprKind ShortKind ShortExpr ExprKind Expr (λ k. k.0) (λ x. x.0) y)))
      (step (map-ExprKind ExprKind Expr (Place → Role → Part) (Role → Part) kind_part (part c) (map-ExprKind ShortKind ShortExpr ExprKind Expr (λ k. k.0) (λ x. x.0) y)) place)
  layer (e.Number n hex) place w r = whole place r (e.Number n hex) (short_number place ty.Int n hex)
  layer (e.Truth truth) place w r = whole place r (e.Truth truth) (short_truth place ty.Boolean truth)
  layer e.Null place w r = whole place r e.Null (short_null place (ty.Class object))
  layer (e.Text text) place w r = whole place r (e.Text text) w
  layer e.This place w r = whole place r e.This (this_short place)
  layer (e.Var name) place w r = whole place r (e.Var name) (named_short place name w)
  layer (e.Unary n right) place w r = whole place r (e.Unary n (part c right.0 (behind n)))
      (by_value (part c right.0 (behind n)).seen _ (right.1 w (behind n)) (λ k h.
      short_as (tree place (if n == sign.NOT then ty.Boolean else ty.Int) (made.Unary n k.expr)) (is_short_expr k.expr) (short_unary place (if n == sign.NOT then ty.Boolean else ty.Int) n k.expr) h))
  layer (e.Binary n left right) place w r =
      let v = and_parts (expr_is_short left.0) (expr_is_short right.0) w in
      whole place r (e.Binary n (part c left.0 role.Operand) (part c right.0 role.Operand))
      (by_value (part c left.0 role.Operand).seen _ (left.1 v.0 role.Operand) (λ l hl.
      by_value (part c right.0 role.Operand).seen _ (right.1 v.1 role.Operand) (λ m hm.
      short_as (tree place (result_of (group_of n) l.expr.ty m.expr.ty) (made.Binary n l.expr m.expr)) (is_short_expr l.expr && is_short_expr m.expr) (short_binary place (result_of (group_of n) l.expr.ty m.expr.ty) n l.expr m.expr)
      (and_from (is_short_expr l.expr) (is_short_expr m.expr) hl hm))))
  layer (e.Cond test first second) place w r =
      let v = and_parts (expr_is_short test.0) (expr_is_short first.0 && expr_is_short second.0) w in
      let u = and_parts (expr_is_short first.0) (expr_is_short second.0) v.1 in
      whole place r (e.Cond (part c test.0 role.Operand) (part c first.0 role.Operand) (part c second.0 role.Operand))
      (by_value (part c test.0 role.Operand).seen _ (test.1 v.0 role.Operand) (λ t ht.
      by_value (part c first.0 role.Operand).seen _ (first.1 u.0 role.Operand) (λ a ha.
      by_value (part c second.0 role.Operand).seen _ (second.1 u.1 role.Operand) (λ b hb.
      short_as (tree place (larger c a b).expr.ty (made.Cond t.expr a.expr b.expr)) (is_short_expr t.expr && (is_short_expr a.expr && is_short_expr b.expr)) (short_cond place (larger c a b).expr.ty t.expr a.expr b.expr)
      (and_from (is_short_expr t.expr) (is_short_expr a.expr && is_short_expr b.expr) ht (and_from (is_short_expr a.expr) (is_short_expr b.expr) ha hb))))))
  layer (e.Cast class operand) place w r =
      let v = and_parts (expr_is_short operand.0) (is_short class) w in
      whole place r (e.Cast class (part c operand.0 role.Operand))
      (by_value (part c operand.0 role.Operand).seen _ (operand.1 v.0 role.Operand) (λ k h.
      short_as (tree place (ty.Class class) (made.Cast class k.expr)) (is_short_expr k.expr && is_short class) (short_cast place (ty.Class class) class k.expr) (and_from (is_short_expr k.expr) (is_short class) h v.1)))
  layer (e.InstanceOf operand class) place w r =
      let v = and_parts (expr_is_short operand.0) (is_short class) w in
      whole place r (e.InstanceOf (part c operand.0 role.Operand) class)
      (by_value (part c operand.0 role.Operand).seen _ (operand.1 v.0 role.Operand) (λ k h.
      short_as (tree place ty.Boolean (made.InstanceOf k.expr class)) (is_short_expr k.expr && is_short class) (short_instance place ty.Boolean k.expr class) (and_from (is_short_expr k.expr) (is_short class) h v.1)))
  layer (e.Field object name) place w r =
      let v = and_parts (expr_is_short object.0) (is_short name) w in
      whole place r (e.Field (part c object.0 role.BeforeDot) name) (read_field_short place (part c object.0 role.BeforeDot).seen name (object.1 v.0 role.BeforeDot) v.1)
  layer (e.Index array index) place w r =
      let v = and_parts (expr_is_short array.0) (expr_is_short index.0) w in
      whole place r (e.Index (part c array.0 role.Operand) (part c index.0 role.Operand))
      (by_value (part c array.0 role.Operand).seen _ (array.1 v.0 role.Operand) (λ a ha.
      by_value (part c index.0 role.Operand).seen _ (index.1 v.1 role.Operand) (λ i hi.
      short_as (tree place (element_of a.expr.ty) (made.Index a.expr i.expr)) (is_short_expr a.expr && is_short_expr i.expr) (short_index place (element_of a.expr.ty) a.expr i.expr)
      (and_from (is_short_expr a.expr) (is_short_expr i.expr) ha hi))))
  layer (e.Call None name args) place w r =
      let v = and_parts (are_short args) (is_short name) w in
      whole place r (e.Call None name (parts_in role.Operand args))
      (by_arguments (seen_all (parts_in role.Operand args)) _ (all_parts role.Operand args v.0) (λ ts h. called_short place name (length (seen_all (parts_in role.Operand args))) ts h))
  layer (e.Call (Some object) name args) place w r =
      let s : Seen = (part c object.0 role.BeforeDot).seen in
      let q : Role = argument_of (Some s) name in
      let v = and_parts (expr_is_short object.0) (are_short args && is_short name) w in
      let u = and_parts (are_short args) (is_short name) v.1 in
      whole place r (e.Call (Some (part c object.0 role.BeforeDot)) name (parts_in q args))
      (by_if (is_text_call (Some s) name) _ _
      (short_as (tree place ty.Void (made.Show (text_of (seen_all (parts_in q args))))) (is_short_text (text_of (seen_all (parts_in q args)))) (short_show place ty.Void (text_of (seen_all (parts_in q args)))) (shown_short (seen_all (parts_in q args)) (all_parts q args u.0)))
      (by_arguments (seen_all (parts_in q args)) _ (all_parts q args u.0) (λ ts h.
      dot_call_short place s name (length (seen_all (parts_in q args))) ts (object.1 v.0 role.BeforeDot) h u.1)))
  layer (e.SuperCall name args) place w r =
      let v = and_parts (are_short args) (is_short name) w in
      whole place r (e.SuperCall name (parts_in role.Operand args))
      (by_arguments (seen_all (parts_in role.Operand args)) _ (all_parts role.Operand args v.0) (λ ts h. super_short place name (length (seen_all (parts_in role.Operand args))) ts h v.1))
  layer (e.New class args) place w r =
      let v = and_parts (are_short args) (is_short class) w in
      whole place r (e.New class (parts_in role.Operand args))
      (by_arguments (seen_all (parts_in role.Operand args)) _ (all_parts role.Operand args v.0) (λ ts h. new_short place class (length (seen_all (parts_in role.Operand args))) ts h v.1))
  layer (e.NewArray elem size) place w r =
      let v = and_parts (expr_is_short size.0) (names_short elem) w in
      whole place r (e.NewArray elem (part c size.0 role.Operand))
      (by_value (part c size.0 role.Operand).seen _ (size.1 v.0 role.Operand) (λ k h.
      short_as (tree place (array_of elem) (made.NewArray elem k.expr)) (is_short_expr k.expr && names_short elem) (short_new_array place (array_of elem) elem k.expr) (and_from (is_short_expr k.expr) (names_short elem) h v.1)))

  pub part_short : (x : Expr) → ShortPart (expr_is_short x) (part c x)
  part_short = ind-Expr (λ k. (place : Place) → ShortPart (kind_short k) (kind_part k place)) (λ x. ShortPart (expr_is_short x) (part c x))
      (λ x y is. with_both (λ (b : Bool) (f : Place → Role → Part). (place : Place) → ShortPart b (f place)) _ _ _ _ (fold-roll-ExprKind Bool Bool expr_step (λ x. x.kind) x) (fold-roll-ExprKind (Place → Role → Part) (Role → Part) step (λ x. x.kind x.place) x)
      (subst (λ (z : ExprKind-F ExprKind Expr). (place : Place) → ShortPart (expr_step (map-ExprKind ExprKind Expr Bool Bool kind_short expr_is_short z)) (step (map-ExprKind ExprKind Expr (Place → Role → Part) (Role → Part) kind_part (part c) z) place)) is (layer y)))
      (λ x y is. with_both ShortPart _ _ _ _ (fold-roll-Expr Bool Bool expr_step (λ x. x.kind) x) (fold-roll-Expr (Place → Role → Part) (Role → Part) step (λ x. x.kind x.place) x)
      (subst (λ (z : e.Expr-F ExprKind Expr). ShortPart (kind_short z.kind) (kind_part z.kind z.place)) is (y.kind.1 y.place)))
