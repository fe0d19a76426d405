-- An expression without a fault is seen as a value, as a class before a dot, or as a text that is shown.
use Rattle.std.proofs.Common.{◌≡◌, ℕ, List, [], ◌∷◌, ◌++◌, map, length, Option, Some, None, Bool, true, false, not, refl, sym, subst}
use Rattle.std.specs.Prelude.{◌&&◌, ◌||◌, ◌==◌, is_some, if◌then◌else◌, codes}
use Rattle.std.specs.List.{list_all}
use Rattle.std.specs.Option.{option_map_or, option_and_then}
use Rattle.jp_pred.specs.declared.ty.Ty.{Ty}
use Rattle.jp_pred.specs.declared.ty.Ty.TheVariants as ty
use Rattle.jp_pred.specs.Names.{Word, same}
use Rattle.iface_codec.specs.declared.iface.Iface.{Iface}
use Rattle.iface_codec.specs.declared.iface.IfaceField.{IfaceField}
use Rattle.iface_codec.specs.declared.iface.IfaceMethod.{IfaceMethod}
use Rattle.jp_ast.specs.declared.token.Place.{Place}
use Rattle.jp_ast.specs.declared.sign.TheConstants as sign
use Rattle.jp_ast.specs.declared.expr.Expr.{Expr}
use Rattle.jp_ast.specs.declared.expr.ExprKind.{ExprKind, ExprKind-F}
use Rattle.jp_ast.specs.declared.expr.ExprKind.TheOpen as e
use Rattle.jp_ast.specs.declared.expr.ExprKind.TheFolds.{ind-Expr, fold-ExprKind, fold-roll-Expr, fold-roll-ExprKind, map-ExprKind}
use Rattle.jp_meaning.specs.Classes.{is_static}
use Rattle.jp_meaning.specs.declared.expr.TypedExpr.{TypedExpr}
use Rattle.jp_meaning.specs.declared.expr.TypedKind.TheVariants as made
use Rattle.type_rules.specs.declared.fault.TypeFault.{TypeFault}
use Rattle.type_rules.specs.declared.scope.Scope.{Scope}
use Rattle.type_rules.specs.declared.seen.Known.{Known}
use Rattle.type_rules.specs.declared.seen.Role.{Role}
use Rattle.type_rules.specs.declared.seen.Role.TheVariants as role
use Rattle.type_rules.specs.declared.seen.Seen.{Seen}
use Rattle.type_rules.specs.declared.seen.Seen.TheVariants as seen
use Rattle.type_rules.specs.Types.{io, is_reserved, is_unknown}
use Rattle.type_rules.specs.Heads.{head_of, is_concrete}
use Rattle.type_rules.specs.Lookups.{field_that, method_of, constructor_of}
use Rattle.type_rules.specs.Assigning.{is_value, is_text, an_array, some_misfit}
use Rattle.type_rules.specs.Names.{variable_of, own_field, is_value_name, is_before_dot, is_class_name, class_of_value, called, super_method, is_text_call}
use Rattle.type_rules.specs.Nodes.{AtExpr, Visit}
use Rattle.type_rules.specs.RulesOfDeclarations.{cant_construct}
use Rattle.type_rules.specs.RulesOfNames.{is_instance_call}
use Rattle.type_rules.specs.RulesOfExpressions.{is_shown, has_field, lacks_field, is_judged, miscalled}
use Rattle.type_rules.specs.Table.{own_faults, faults_of}
use Rattle.type_rules.specs.Expressions.{Part, Parts, Layer, behind, in_role, placed, seen_all, node_of, visits_all, visits_inside, value, variable, of_value, of_found, arguments, own_field_value, read_field, io_call, static_call, virtual_call, own_call, text_of, dot_call, resolved, part_of, part}
use Rattle.type_rules.specs.Laws.{SoundIsSeen}
use Rattle.type_rules.proofs.Firsts.{none_first}
use Rattle.type_rules.proofs.Soundness.{front_sound, back_sound, own_sound, first_kept, others_kept, both_left, or_false_right, not_false, found}

-- what may be seen of an expression in a role where it has no fault
abbrev pub allowed : Role → Seen → Bool
allowed r seen.Faulty = false
allowed r (seen.Value k) = true
allowed r (seen.Class name) = is_before_dot r
allowed r (seen.Text text) = is_shown r

pub operand_is : (s : Seen) → allowed role.Operand s ≡ true → is_value s ≡ true
operand_is seen.Faulty h = h
operand_is (seen.Value k) h = refl
operand_is (seen.Class name) h = h
operand_is (seen.Text text) h = h

negated_is : (s : Seen) → allowed role.Negated s ≡ true → is_value s ≡ true
negated_is seen.Faulty h = h
negated_is (seen.Value k) h = refl
negated_is (seen.Class name) h = h
negated_is (seen.Text text) h = h

pub alone_is : (s : Seen) → allowed role.Alone s ≡ true → is_value s ≡ true
alone_is seen.Faulty h = h
alone_is (seen.Value k) h = refl
alone_is (seen.Class name) h = h
alone_is (seen.Text text) h = h

behind_is : (b : Bool) (s : Seen) → allowed (if b then role.Negated else role.Operand) s ≡ true → is_value s ≡ true
behind_is true s h = negated_is s h
behind_is false s h = operand_is s h

by_value : (r : Role) (s : Seen) (go : Known → Seen) → is_value s ≡ true → ((k : Known) → allowed r (go k) ≡ true) → allowed r (of_value s go) ≡ true
by_value r seen.Faulty go h f = absurd cc
by_value r (seen.Value k) go h f = f k
by_value r (seen.Class name) go h f = absurd cc
by_value r (seen.Text text) go h f = absurd cc

by_found : {A : Type 0} (r : Role) (o : Option A) (go : A → Seen) → is_some o ≡ true → ((x : A) → allowed r (go x) ≡ true) → allowed r (of_found o go) ≡ true
by_found r None go h f = absurd cc
by_found r (Some x) go h f = f x

by_if : (r : Role) (b : Bool) (s t : Seen) → allowed r s ≡ true → allowed r t ≡ true → allowed r (if b then s else t) ≡ true
by_if r true s t h k = h
by_if r false s t h k = k

-- ARGUMENTS

abbrev pub are_values : List Seen → Bool
are_values [] = true
are_values (s ∷ ss) = is_value s && are_values ss

pub arguments_from : (ss : List Seen) (done : List TypedExpr) → are_values ss ≡ true → is_some (arguments (Some done) ss) ≡ true
arguments_from [] done h = refl
arguments_from (seen.Faulty ∷ ss) done h = absurd cc
arguments_from (seen.Value k ∷ ss) done h = arguments_from ss (done ++ k.expr ∷ []) h
arguments_from (seen.Class name ∷ ss) done h = absurd cc
arguments_from (seen.Text text ∷ ss) done h = absurd cc

-- NAMES

own_field_fine : (c : Scope) (p : Place) (r : Role) (name : Word) (f : Word × IfaceField) → allowed r (own_field_value c p name f) ≡ true
own_field_fine c p r name f = by_if r f.1.is_static _ _ refl refl

named_fine : (c : Scope) (p : Place) (r : Role) (name : Word) (v : Option (ℕ × Ty)) (f : Option (Word × IfaceField)) (b : Bool) →
    not ((is_some v || is_some f) || b) ≡ false → (b ≡ true → is_before_dot r ≡ true) →
    allowed r (option_map_or (λ v. variable p v.1 (made.Local v.0)) v (option_map_or (own_field_value c p name) f (seen.Class name))) ≡ true
named_fine c p r name (Some v) f b h g = refl
named_fine c p r name None (Some f) b h g = own_field_fine c p r name f
named_fine c p r name None None b h g = g (not_false b h)

-- FIELDS

unless_unknown : (u : Bool) (k : Known) (test : Known → Bool) → option_map_or (λ k. not (test k)) (if u then None else Some k) false ≡ false → u ≡ false → test k ≡ true
unless_unknown true k test h e = absurd cc
unless_unknown false k test h e = not_false (test k) h

-- a field of a value, where it is said whether its type is unknown and whether it is an array
field_by : (c : Scope) (p : Place) (r : Role) (k : Known) (name : Word) (u a : Bool) →
    option_map_or (λ (b : Bool). not b) (if u then None else Some (if a then same name (codes "length") else is_some (option_and_then (λ class. field_that false c.heads c.class class name) (class_of_value k)))) false ≡ false →
    allowed r (if u then variable p ty.Void (made.Length k.expr) else if a then value p ty.Int (made.Length k.expr)
    else of_found (class_of_value k) (λ class. of_found (field_that false c.heads c.class class name) (λ f. variable p f.1.ty (made.Field k.expr f.0 name)))) ≡ true
field_by c p r k name true a h = refl
field_by c p r k name false true h = refl
field_by c p r k name false false h = in_class (class_of_value k) (not_false _ h) where
  in_class : (o : Option Word) → is_some (option_and_then (λ class. field_that false c.heads c.class class name) o) ≡ true →
      allowed r (of_found o (λ class. of_found (field_that false c.heads c.class class name) (λ f. variable p f.1.ty (made.Field k.expr f.0 name)))) ≡ true
  in_class None g = absurd cc
  in_class (Some class) g = by_found r (field_that false c.heads c.class class name) _ g (λ f. refl)

by_unknown : (u : Bool) (k : Known) (test : Known → Bool) → option_map_or (λ k. not (test k)) (if u then None else Some k) false ≡ false → option_map_or (λ (b : Bool). not b) (if u then None else Some (test k)) false ≡ false
by_unknown true k test h = refl
by_unknown false k test h = h

field_fine : (c : Scope) (p : Place) (r : Role) (o : Seen) (name : Word) → allowed role.BeforeDot o ≡ true → lacks_field c name o ≡ false → allowed r (read_field c p o name) ≡ true
field_fine c p r seen.Faulty name a h = absurd cc
field_fine c p r (seen.Value k) name a h = field_by c p r k name (is_unknown k.expr.ty) (an_array k) (by_unknown (is_unknown k.expr.ty) k (has_field c name) h)
field_fine c p r (seen.Class class) name a h = by_found r (field_that true c.heads c.class class name) _ (not_false _ h) (λ f. refl)
field_fine c p r (seen.Text text) name a h = absurd cc

-- CALLS

io_fine : (p : Place) (r : Role) (name : Word) (ts : List TypedExpr) → allowed r (io_call p name ts) ≡ true
io_fine p r name [] = refl
io_fine p r name (t ∷ ts) = refl

static_fine : (p : Place) (r : Role) (class : Word) (m : IfaceMethod) (ts : List TypedExpr) → allowed r (static_call p class m ts) ≡ true
static_fine p r class m ts = by_if r (same class io) _ _ (io_fine p r m.name ts) refl

own_fine : (c : Scope) (p : Place) (r : Role) (m : Word × IfaceMethod) (ts : List TypedExpr) → allowed r (own_call c p m ts) ≡ true
own_fine c p r m ts = by_if r (is_static m.1.kind) _ _ (static_fine p r m.0 m.1 ts) refl

-- a call on a value, where it is said whether its type is unknown
call_by : (c : Scope) (p : Place) (r : Role) (k : Known) (name : Word) (ts : List TypedExpr) (u : Bool) (look : Word → Option (Word × IfaceMethod)) →
    (is_some (if u then None else Some k) && not (is_some (option_and_then look (option_and_then class_of_value (if u then None else Some k))))) ≡ false →
    allowed r (if u then value p ty.Void (made.CallVirtual k.expr [] false name [] ts)
    else of_found (class_of_value k) (λ class. of_found (look class) (λ m. virtual_call c p k.expr class m.1 ts))) ≡ true
call_by c p r k name ts true look h = refl
call_by c p r k name ts false look h = in_class (class_of_value k) (not_false _ h) where
  in_class : (o : Option Word) → is_some (option_and_then look o) ≡ true → allowed r (of_found o (λ class. of_found (look class) (λ m. virtual_call c p k.expr class m.1 ts))) ≡ true
  in_class None g = absurd cc
  in_class (Some class) g = by_found r (look class) _ g (λ m. refl)

judged_calls : {A : Type 0} (j : Bool) (test : A → Bool) (o : Option A) (x : Bool) → (j && (option_map_or test o true || x)) ≡ false → (j && not (is_some o)) ≡ false
judged_calls false test o x h = refl
judged_calls true test None x h = absurd cc
judged_calls true test (Some m) x h = refl

dot_fine : (c : Scope) (p : Place) (r : Role) (o : Seen) (name : Word) (n : ℕ) (ts : List TypedExpr) → allowed role.BeforeDot o ≡ true →
    (is_judged (Some o) && not (is_some (called c (Some o) name n))) ≡ false → allowed r (dot_call c p o name n ts) ≡ true
dot_fine c p r seen.Faulty name n ts a h = absurd cc
dot_fine c p r (seen.Value k) name n ts a h = call_by c p r k name ts (is_unknown k.expr.ty) (λ class. method_of c.heads c.class class name n) h
dot_fine c p r (seen.Class class) name n ts a h = by_found r (method_of c.heads c.class class name n) _ (not_false _ h) (λ m. static_fine p r m.0 m.1 ts)
dot_fine c p r (seen.Text text) name n ts a h = absurd cc

-- a call behind a dot, where it is said whether it is of `Io.text`
dot_by : (c : Scope) (p : Place) (r : Role) (o : Seen) (name : Word) (args : List Seen) (t : Bool) → allowed role.BeforeDot o ≡ true →
    (is_judged (Some o) && not (is_some (called c (Some o) name (length args)))) ≡ false → (t ≡ false → are_values args ≡ true) →
    allowed r (if t then value p ty.Void (made.Show (text_of args)) else of_found (arguments (Some []) args) (λ ts. dot_call c p o name (length args) ts)) ≡ true
dot_by c p r o name args true a h v = refl
dot_by c p r o name args false a h v = by_found r (arguments (Some []) args) _ (arguments_from args [] (v refl)) (λ ts. dot_fine c p r o name (length args) ts a h)

-- CONSTRUCTORS

new_fine : (c : Scope) (args : List Seen) (o : Option Iface) → option_map_or (λ h. not (is_concrete h) || cant_construct c.heads args h) o true ≡ false →
    is_some (option_and_then (λ h. constructor_of h (length args)) o) ≡ true
new_fine c args None h = absurd cc
new_fine c args (Some x) h = found (some_misfit c.heads args) (constructor_of x (length args)) (or_false_right (not (is_concrete x)) _ h)

-- THE FOLD

-- without a fault among its nodes, a part is seen as its role allows
abbrev pub Sound : (Role → Part) → Type 0
Sound f = (r : Role) → faults_of (f r).visits ≡ [] → allowed r (f r).seen ≡ true

settle : (r : Role) (fs : List TypeFault) (s : Seen) → fs ≡ [] → allowed r s ≡ true → allowed r (elim fs [ [] ↦ s | _ ↦ seen.Faulty ]) ≡ true
settle r [] s e h = h
settle r (f ∷ fs) s e h = absurd cc

whole : (c : Scope) (p : Place) (r : Role) (parts : Parts) →
    (own_faults p (AtExpr c r (node_of parts)) ≡ [] → faults_of (visits_inside parts) ≡ [] → allowed r (resolved c p (node_of parts)) ≡ true) →
    faults_of (part_of c p r parts).visits ≡ [] → allowed r (part_of c p r parts).seen ≡ true
whole c p r parts h e =
    let v : Visit = record { place = p; node = AtExpr c r (node_of parts) } in
    let own : own_faults p (AtExpr c r (node_of parts)) ≡ [] = own_sound v (back_sound (visits_inside parts) (v ∷ []) e) in
    settle r (own_faults p (AtExpr c r (node_of parts))) (resolved c p (node_of parts)) own (h own (front_sound (visits_inside parts) (v ∷ []) e))

abbrev step : Scope → Layer → Place → Role → Part
step c l p r = part_of c p r (placed l)

abbrev kind_part : Scope → ExprKind → Place → Role → Part
kind_part c = fold-ExprKind (Place → Role → Part) (Role → Part) (step c) (λ x. x.kind x.place)

abbrev SureKind : Scope → Type 0
SureKind c = (k : ExprKind) × ((p : Place) → Sound (kind_part c k p))

abbrev SureExpr : Scope → Type 0
SureExpr c = (x : Expr) × Sound (part c x)

abbrev parts_in : (c : Scope) → Role → List (SureExpr c) → List Part
parts_in c r xs = in_role r (map (part c) (map (λ (x : SureExpr c). x.0) xs))

pub and_true : (a b : Bool) → a ≡ true → b ≡ true → (a && b) ≡ true
and_true true b e f = f
and_true false b e f = e

all_values : (c : Scope) (xs : List (SureExpr c)) → faults_of (visits_all (parts_in c role.Operand xs)) ≡ [] → are_values (seen_all (parts_in c role.Operand xs)) ≡ true
all_values c [] e = refl
all_values c (x ∷ xs) e = and_true _ _
    (operand_is _ (x.1 role.Operand (front_sound (part c x.0 role.Operand).visits (visits_all (parts_in c role.Operand xs)) e)))
    (all_values c xs (back_sound (part c x.0 role.Operand).visits (visits_all (parts_in c role.Operand xs)) e))

all_values_by : (c : Scope) (xs : List (SureExpr c)) (t : Bool) → t ≡ false → faults_of (visits_all (parts_in c (if t then role.Shown else role.Operand) xs)) ≡ [] →
    are_values (seen_all (parts_in c (if t then role.Shown else role.Operand) xs)) ≡ true
all_values_by c xs true e h = absurd cc
all_values_by c xs false e h = all_values c xs h

-- a call behind a dot
abbrev on_parts : (c : Scope) → SureExpr c → Word → List (SureExpr c) → Bool → Parts
on_parts c object name args t = e.Call (Some (part c object.0 role.BeforeDot)) name (parts_in c (if t then role.Shown else role.Operand) args)

call_fine : (c : Scope) (p : Place) (r : Role) (object : SureExpr c) (name : Word) (args : List (SureExpr c)) →
    faults_of (part_of c p r (on_parts c object name args (is_text_call (Some (part c object.0 role.BeforeDot).seen) name))).visits ≡ [] →
    allowed r (part_of c p r (on_parts c object name args (is_text_call (Some (part c object.0 role.BeforeDot).seen) name))).seen ≡ true
call_fine c p r object name args h =
    let o : Seen = (part c object.0 role.BeforeDot).seen in
    let t : Bool = is_text_call (Some o) name in
    let as' : List Seen = seen_all (parts_in c (if t then role.Shown else role.Operand) args) in
    whole c p r (on_parts c object name args t)
    (λ own i. dot_by c p r o name as' t (object.1 role.BeforeDot (front_sound (part c object.0 role.BeforeDot).visits _ i))
    (judged_calls (is_judged (Some o)) (miscalled c r (Some o) as') (called c (Some o) name (length as')) (t && not (list_all is_text as')) (first_kept p 32 _ [] own))
    (λ te. all_values_by c args t te (back_sound (part c object.0 role.BeforeDot).visits _ i))) h

-- one node, where its parts are sound
layer : (c : Scope) (y : ExprKind-F (SureKind c) (SureExpr c)) (p : Place) →
    Sound (step c (map-ExprKind ExprKind Expr (Place → Role → Part) (Role → Part) (kind_part c) (part c) (map-ExprKind (SureKind c) (SureExpr c) ExprKind Expr (λ k. k.0) (λ x. x.0) y)) p)
layer c (e.Number n hex) p r h = whole c p r (e.Number n hex) (λ o i. refl) h
layer c (e.Truth value) p r h = whole c p r (e.Truth value) (λ o i. refl) h
layer c e.Null p r h = whole c p r e.Null (λ o i. refl) h
layer c (e.Text text) p r h = whole c p r (e.Text text) (λ o i. not_false (is_shown r) (first_kept p 32 (not (is_shown r)) [] o)) h
layer c e.This p r h = whole c p r e.This (λ o i. refl) h
layer c (e.Var name) p r h = whole c p r (e.Var name)
    (λ o i. named_fine c p r name (variable_of c name) (own_field c name) (is_class_name c r name) (first_kept p 22 (not (is_value_name c name || is_class_name c r name)) _ o) (both_left (is_before_dot r) _)) h
layer c (e.Unary n right) p r h = whole c p r (e.Unary n (part c right.0 (behind n)))
    (λ o i. by_value r (part c right.0 (behind n)).seen _ (behind_is (n == sign.MINUS) _ (right.1 (behind n) i)) (λ k. refl)) h
layer c (e.Binary n left right) p r h = whole c p r (e.Binary n (part c left.0 role.Operand) (part c right.0 role.Operand))
    (λ o i. by_value r (part c left.0 role.Operand).seen _ (operand_is _ (left.1 role.Operand (front_sound (part c left.0 role.Operand).visits _ i)))
    (λ k. by_value r (part c right.0 role.Operand).seen _ (operand_is _ (right.1 role.Operand (back_sound (part c left.0 role.Operand).visits _ i))) (λ m. refl))) h
layer c (e.Cond test first second) p r h = whole c p r (e.Cond (part c test.0 role.Operand) (part c first.0 role.Operand) (part c second.0 role.Operand))
    (λ o i.
    let i2 = back_sound (part c test.0 role.Operand).visits ((part c first.0 role.Operand).visits ++ (part c second.0 role.Operand).visits) i in
    by_value r (part c test.0 role.Operand).seen _ (operand_is _ (test.1 role.Operand (front_sound (part c test.0 role.Operand).visits _ i)))
    (λ k. by_value r (part c first.0 role.Operand).seen _ (operand_is _ (first.1 role.Operand (front_sound (part c first.0 role.Operand).visits _ i2)))
    (λ l. by_value r (part c second.0 role.Operand).seen _ (operand_is _ (second.1 role.Operand (back_sound (part c first.0 role.Operand).visits _ i2))) (λ m. refl)))) h
layer c (e.Cast class value) p r h = whole c p r (e.Cast class (part c value.0 role.Operand))
    (λ o i. by_value r (part c value.0 role.Operand).seen _ (operand_is _ (value.1 role.Operand i)) (λ k. refl)) h
layer c (e.InstanceOf value class) p r h = whole c p r (e.InstanceOf (part c value.0 role.Operand) class)
    (λ o i. by_value r (part c value.0 role.Operand).seen _ (operand_is _ (value.1 role.Operand i)) (λ k. refl)) h
layer c (e.Field object name) p r h = whole c p r (e.Field (part c object.0 role.BeforeDot) name)
    (λ o i. field_fine c p r (part c object.0 role.BeforeDot).seen name (object.1 role.BeforeDot i) (first_kept p 30 (lacks_field c name (part c object.0 role.BeforeDot).seen) _ o)) h
layer c (e.Index array index) p r h = whole c p r (e.Index (part c array.0 role.Operand) (part c index.0 role.Operand))
    (λ o i. by_value r (part c array.0 role.Operand).seen _ (operand_is _ (array.1 role.Operand (front_sound (part c array.0 role.Operand).visits _ i)))
    (λ k. by_value r (part c index.0 role.Operand).seen _ (operand_is _ (index.1 role.Operand (back_sound (part c array.0 role.Operand).visits _ i))) (λ m. refl))) h
layer c (e.Call None name args) p r h = whole c p r (e.Call None name (parts_in c role.Operand args))
    (λ o i. by_found r (arguments (Some []) (seen_all (parts_in c role.Operand args))) _ (arguments_from (seen_all (parts_in c role.Operand args)) [] (all_values c args i))
    (λ ts. by_found r (called c None name (length (seen_all (parts_in c role.Operand args)))) _
    (not_false _ (judged_calls true (miscalled c r None (seen_all (parts_in c role.Operand args))) (called c None name (length (seen_all (parts_in c role.Operand args)))) (is_text_call None name && not (list_all is_text (seen_all (parts_in c role.Operand args))))
    (first_kept p 32 _ [] (others_kept p 23 (c.is_static && is_instance_call c name (length (seen_all (parts_in c role.Operand args)))) _ o))))
    (λ m. own_fine c p r m ts))) h
layer c (e.Call (Some object) name args) p r h = call_fine c p r object name args h
layer c (e.SuperCall name args) p r h = whole c p r (e.SuperCall name (parts_in c role.Operand args))
    (λ o i. by_found r (arguments (Some []) (seen_all (parts_in c role.Operand args))) _ (arguments_from (seen_all (parts_in c role.Operand args)) [] (all_values c args i))
    (λ ts. by_found r (super_method c name (length (seen_all (parts_in c role.Operand args)))) _
    (found (λ m. some_misfit c.heads (seen_all (parts_in c role.Operand args)) m.1.params) (super_method c name (length (seen_all (parts_in c role.Operand args)))) (first_kept p 34 _ [] (others_kept p 32 _ _ (others_kept p 23 c.is_static _ o)))) (λ m. refl))) h
layer c (e.New class args) p r h = whole c p r (e.New class (parts_in c role.Operand args))
    (λ o i. by_found r (arguments (Some []) (seen_all (parts_in c role.Operand args))) _ (arguments_from (seen_all (parts_in c role.Operand args)) [] (all_values c args i))
    (λ ts. by_found r _ _ (new_fine c (seen_all (parts_in c role.Operand args)) (head_of c.heads class) (first_kept p 33 _ [] (others_kept p 2 (is_reserved class) _ o))) (λ m. refl))) h
layer c (e.NewArray elem size) p r h = whole c p r (e.NewArray elem (part c size.0 role.Operand))
    (λ o i. by_value r (part c size.0 role.Operand).seen _ (operand_is _ (size.1 role.Operand i)) (λ k. refl)) h

-- each expression is sound
pub sound : (c : Scope) (x : Expr) → Sound (part c x)
sound c = ind-Expr (λ k. (p : Place) → Sound (kind_part c k p)) (λ x. Sound (part c x))
    (λ x y is. subst (λ (z : Place → Role → Part). (p : Place) → Sound (z p)) (sym (fold-roll-ExprKind (Place → Role → Part) (Role → Part) (step c) (λ x. x.kind x.place) x))
    (subst (λ (z : ExprKind-F ExprKind Expr). (p : Place) → Sound (step c (map-ExprKind ExprKind Expr (Place → Role → Part) (Role → Part) (kind_part c) (part c) z) p)) is (layer c y)))
    (λ x y is. subst Sound (sym (fold-roll-Expr (Place → Role → Part) (Role → Part) (step c) (λ x. x.kind x.place) x))
    (subst (λ (z : e.Expr-F ExprKind Expr). Sound (kind_part c z.kind z.place)) is (y.kind.1 y.place)))

pub sound_is_seen : SoundIsSeen
sound_is_seen c x e = operand_is (part c x role.Operand).seen (sound c x role.Operand (none_first (faults_of (part c x role.Operand).visits) e))
