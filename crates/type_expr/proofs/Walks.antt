-- An expression is seen as its node is settled, once its parts are seen.
use Rattle.std.proofs.Common.{◌≡◌, ℕ, List, [], ◌∷◌, Bool, cond, Option, Some, None, refl, sym, ap, ◌∙◌, append-nil}
use Rattle.jp_ast.specs.declared.token.Place.{Place}
use Rattle.jp_ast.specs.declared.expr.Expr.{Expr}
use Rattle.jp_ast.specs.declared.expr.ExprKind.{ExprKind}
use Rattle.jp_ast.specs.declared.expr.ExprKind.TheVariants as form
use Rattle.jp_ast.specs.declared.expr.ExprKind.TheOpen as e
use Rattle.jp_pred.specs.declared.ty.Ty.{Ty}
use Rattle.jp_pred.specs.declared.ty.Ty.TheVariants as ty
use Rattle.jp_pred.specs.Names.{Word}
use Rattle.jp_meaning.specs.declared.expr.TypedKind.TheVariants as made
use Rattle.type_rules.specs.declared.fault.TypeFault.{TypeFault}
use Rattle.type_rules.specs.declared.scope.Scope.{Scope}
use Rattle.type_rules.specs.declared.seen.Role.{Role}
use Rattle.type_rules.specs.declared.seen.Role.TheVariants as role
use Rattle.type_rules.specs.declared.seen.Seen.{Seen}
use Rattle.type_rules.specs.declared.seen.Seen.TheVariants as seen
use Rattle.type_rules.specs.Nodes.{ExprNode, AtExpr}
use Rattle.type_rules.specs.Table.{own_faults, faults_of}
use Rattle.type_rules.specs.Expressions.{Part, Parts, Layer, behind, argument_of, placed, node_of, visits_inside, value, resolved, part_of, part}
use Rattle.type_rules.specs.Typing.{earlier}
use Rattle.type_rules.proofs.Computing.{walk_number, walk_truth, walk_null, walk_text, walk_this, walk_name, walk_sign, walk_binary, walk_choice, walk_cast, walk_instance, walk_field, walk_element, walk_call, walk_call_on, walk_call_super, walk_make, walk_make_array}
use Rattle.type_heads.specs.Faults.{is_none_of}
use Rattle.type_heads.proofs.FaultLists.{then_faults}
use Rattle.type_expr.specs.declared.spot.Spot.{Spot}
use Rattle.type_expr.specs.Resolving.{null_value}
use Rattle.type_expr.specs.Settling.{faults_at, seen_at, Settles, Sees, parts_in}

-- ONE NODE

abbrev pub spot : Expr → Role → Spot
spot x r = record { place = x.place; role = r }

settled : (fs : List TypeFault) (found : Seen) → cond (is_none_of fs) found seen.Faulty ≡ elim fs [ [] ↦ found | _ ↦ seen.Faulty ]
settled [] found = refl
settled (f ∷ fs) found = refl

-- the faults of a node are those of its one visit
one_visit : (s : Scope) (p : Place) (r : Role) (n : ExprNode) → faults_at s (record { place = p; role = r }) n ≡ faults_of (record { place = p; node = AtExpr s r n } ∷ [])
unfolding faults_at
one_visit s p r n = sym (append-nil (own_faults p (AtExpr s r n)))

seen_is : (s : Scope) (p : Place) (r : Role) (parts : Parts) → seen_at s (record { place = p; role = r }) (node_of parts) ≡ (part_of s p r parts).seen
unfolding faults_at
seen_is s p r parts = settled (own_faults p (AtExpr s r (node_of parts))) (resolved s p (node_of parts))

-- an expression of these parts
pub whole : (s : Scope) (r : Role) (x : Expr) (parts : Parts) (old mid new : Option TypeFault) (found : Seen) → part s x r ≡ part_of s x.place r parts →
    mid ≡ earlier old (faults_of (visits_inside parts)) → Settles s (spot x r) (node_of parts) mid new found → Sees s r x old new found
whole s r x parts old mid new found e m h = record {
  seen = h.seen ∙ (seen_is s x.place r parts ∙ ap (λ (p : Part). p.seen) (sym e));
  first = then_faults old mid new (visits_inside parts) _ m (h.first ∙ ap (earlier mid) (one_visit s x.place r (node_of parts))) ∙ ap (λ (p : Part). earlier old (faults_of p.visits)) (sym e);
}

-- nodes that break no rule
pub settles_truth : (s : Scope) (at : Spot) (truth : Bool) (old : Option TypeFault) → Settles s at (e.Truth truth) old old (value at.place ty.Boolean (made.Truth truth))
unfolding faults_at
settles_truth s at truth old = record { seen = refl; first = refl }

pub settles_null : (s : Scope) (at : Spot) (old : Option TypeFault) → Settles s at e.Null old old (null_value at.place)
unfolding faults_at
settles_null s at old = record { seen = refl; first = refl }

-- THE PARTS OF EACH FORM

abbrev walk_of : Scope → Layer → Place → Role → Part
walk_of s l p r = part_of s p r (placed l)

-- an expression, as its kind is written
at_kind : (s : Scope) (r : Role) (x : Expr) (kind : ExprKind) (parts : Parts) → x.kind ≡ kind → part s (record { place = x.place; kind = kind }) r ≡ part_of s x.place r parts → part s x r ≡ part_of s x.place r parts
at_kind s r x kind parts h e = ap (λ (k : ExprKind). part s (record { place = x.place; kind = k }) r) h ∙ e

abbrev with_role : (Role → Part) → Role → Part
with_role f r = f r

pub part_number : (s : Scope) (r : Role) (x : Expr) (value : ℕ) (hex : Bool) → x.kind ≡ form.Number value hex → part s x r ≡ part_of s x.place r (e.Number value hex)
part_number s r x value hex h = at_kind s r x _ (e.Number value hex) h (ap (λ f. with_role f r) (walk_number (walk_of s) x.place value hex))

pub part_truth : (s : Scope) (r : Role) (x : Expr) (value : Bool) → x.kind ≡ form.Truth value → part s x r ≡ part_of s x.place r (e.Truth value)
part_truth s r x value h = at_kind s r x _ (e.Truth value) h (ap (λ f. with_role f r) (walk_truth (walk_of s) x.place value))

pub part_null : (s : Scope) (r : Role) (x : Expr) → x.kind ≡ form.Null → part s x r ≡ part_of s x.place r e.Null
part_null s r x h = at_kind s r x _ e.Null h (ap (λ f. with_role f r) (walk_null (walk_of s) x.place))

pub part_text : (s : Scope) (r : Role) (x : Expr) (text : Word) → x.kind ≡ form.Text text → part s x r ≡ part_of s x.place r (e.Text text)
part_text s r x text h = at_kind s r x _ (e.Text text) h (ap (λ f. with_role f r) (walk_text (walk_of s) x.place text))

pub part_this : (s : Scope) (r : Role) (x : Expr) → x.kind ≡ form.This → part s x r ≡ part_of s x.place r e.This
part_this s r x h = at_kind s r x _ e.This h (ap (λ f. with_role f r) (walk_this (walk_of s) x.place))

pub part_name : (s : Scope) (r : Role) (x : Expr) (name : Word) → x.kind ≡ form.Var name → part s x r ≡ part_of s x.place r (e.Var name)
part_name s r x name h = at_kind s r x _ (e.Var name) h (ap (λ f. with_role f r) (walk_name (walk_of s) x.place name))

pub part_unary : (s : Scope) (r : Role) (x : Expr) (n : ℕ) (y : Expr) → x.kind ≡ form.Unary n y → part s x r ≡ part_of s x.place r (e.Unary n (part s y (behind n)))
part_unary s r x n y h = at_kind s r x _ (e.Unary n (part s y (behind n))) h (ap (λ f. with_role f r) (walk_sign (walk_of s) x.place n y))

pub part_binary : (s : Scope) (r : Role) (x : Expr) (n : ℕ) (y z : Expr) → x.kind ≡ form.Binary n y z → part s x r ≡ part_of s x.place r (e.Binary n (part s y role.Operand) (part s z role.Operand))
part_binary s r x n y z h = at_kind s r x _ (e.Binary n (part s y role.Operand) (part s z role.Operand)) h (ap (λ f. with_role f r) (walk_binary (walk_of s) x.place n y z))

pub part_choice : (s : Scope) (r : Role) (x t y z : Expr) → x.kind ≡ form.Cond t y z → part s x r ≡ part_of s x.place r (e.Cond (part s t role.Operand) (part s y role.Operand) (part s z role.Operand))
part_choice s r x t y z h = at_kind s r x _ (e.Cond (part s t role.Operand) (part s y role.Operand) (part s z role.Operand)) h (ap (λ f. with_role f r) (walk_choice (walk_of s) x.place t y z))

pub part_cast : (s : Scope) (r : Role) (x : Expr) (class : Word) (y : Expr) → x.kind ≡ form.Cast class y → part s x r ≡ part_of s x.place r (e.Cast class (part s y role.Operand))
part_cast s r x class y h = at_kind s r x _ (e.Cast class (part s y role.Operand)) h (ap (λ f. with_role f r) (walk_cast (walk_of s) x.place class y))

pub part_instance : (s : Scope) (r : Role) (x y : Expr) (class : Word) → x.kind ≡ form.InstanceOf y class → part s x r ≡ part_of s x.place r (e.InstanceOf (part s y role.Operand) class)
part_instance s r x y class h = at_kind s r x _ (e.InstanceOf (part s y role.Operand) class) h (ap (λ f. with_role f r) (walk_instance (walk_of s) x.place y class))

pub part_field : (s : Scope) (r : Role) (x y : Expr) (name : Word) → x.kind ≡ form.Field y name → part s x r ≡ part_of s x.place r (e.Field (part s y role.BeforeDot) name)
part_field s r x y name h = at_kind s r x _ (e.Field (part s y role.BeforeDot) name) h (ap (λ f. with_role f r) (walk_field (walk_of s) x.place y name))

pub part_element : (s : Scope) (r : Role) (x y z : Expr) → x.kind ≡ form.Index y z → part s x r ≡ part_of s x.place r (e.Index (part s y role.Operand) (part s z role.Operand))
part_element s r x y z h = at_kind s r x _ (e.Index (part s y role.Operand) (part s z role.Operand)) h (ap (λ f. with_role f r) (walk_element (walk_of s) x.place y z))

pub part_call : (s : Scope) (r : Role) (x : Expr) (name : Word) (xs : List Expr) → x.kind ≡ form.Call None name xs → part s x r ≡ part_of s x.place r (e.Call None name (parts_in s role.Operand xs))
part_call s r x name xs h = at_kind s r x _ (e.Call None name (parts_in s role.Operand xs)) h (ap (λ f. with_role f r) (walk_call (walk_of s) x.place name xs))

pub part_call_on : (s : Scope) (r : Role) (x y : Expr) (name : Word) (xs : List Expr) → x.kind ≡ form.Call (Some y) name xs →
    part s x r ≡ part_of s x.place r (e.Call (Some (part s y role.BeforeDot)) name (parts_in s (argument_of (Some (part s y role.BeforeDot).seen) name) xs))
part_call_on s r x y name xs h =
    at_kind s r x _ (e.Call (Some (part s y role.BeforeDot)) name (parts_in s (argument_of (Some (part s y role.BeforeDot).seen) name) xs)) h (ap (λ f. with_role f r) (walk_call_on (walk_of s) x.place y name xs))

pub part_super : (s : Scope) (r : Role) (x : Expr) (name : Word) (xs : List Expr) → x.kind ≡ form.SuperCall name xs → part s x r ≡ part_of s x.place r (e.SuperCall name (parts_in s role.Operand xs))
part_super s r x name xs h = at_kind s r x _ (e.SuperCall name (parts_in s role.Operand xs)) h (ap (λ f. with_role f r) (walk_call_super (walk_of s) x.place name xs))

pub part_new : (s : Scope) (r : Role) (x : Expr) (class : Word) (xs : List Expr) → x.kind ≡ form.New class xs → part s x r ≡ part_of s x.place r (e.New class (parts_in s role.Operand xs))
part_new s r x class xs h = at_kind s r x _ (e.New class (parts_in s role.Operand xs)) h (ap (λ f. with_role f r) (walk_make (walk_of s) x.place class xs))

pub part_new_array : (s : Scope) (r : Role) (x : Expr) (elem : Ty) (y : Expr) → x.kind ≡ form.NewArray elem y → part s x r ≡ part_of s x.place r (e.NewArray elem (part s y role.Operand))
part_new_array s r x elem y h = at_kind s r x _ (e.NewArray elem (part s y role.Operand)) h (ap (λ f. with_role f r) (walk_make_array (walk_of s) x.place elem y))
