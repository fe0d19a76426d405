-- What is seen of an expression of each form, from what is seen of its parts and how its node is settled.
use Rattle.std.proofs.Common.{◌≡◌, ℕ, List, Bool, Option, Some, None, refl, sym, ap, ◌∙◌, subst}
use Rattle.std.specs.Prelude.{Result, IfOk}
use Rattle.std.proofs.lemmas.Result.{IfOk-weaker}
use Rattle.jp_ast.specs.declared.expr.Expr.{Expr}
use Rattle.jp_ast.specs.declared.expr.ExprKind.TheVariants as form
use Rattle.jp_ast.specs.declared.expr.ExprKind.TheOpen as e
use Rattle.jp_pred.specs.declared.ty.Ty.{Ty}
use Rattle.jp_pred.specs.declared.ty.Ty.TheVariants as ty
use Rattle.jp_pred.specs.Names.{Word}
use Rattle.jp_meaning.specs.declared.expr.TypedKind.TheVariants as made
use Rattle.type_rules.specs.declared.fault.TypeFault.{TypeFault}
use Rattle.type_rules.specs.declared.scope.Scope.{Scope}
use Rattle.type_rules.specs.declared.seen.Role.{Role}
use Rattle.type_rules.specs.declared.seen.Role.TheVariants as role
use Rattle.type_rules.specs.declared.seen.Seen.{Seen}
use Rattle.type_rules.specs.Nodes.{ExprNode}
use Rattle.type_rules.specs.Expressions.{behind, argument_of, value, part}
use Rattle.type_expr.specs.Resolving.{null_value}
use Rattle.type_expr.specs.Settling.{Settles, Sees, SeesAll, parts_in}
use Rattle.type_expr.proofs.Walks.{spot, settles_truth, settles_null, part_number, part_truth, part_null, part_text, part_this, part_name, part_unary, part_binary, part_choice, part_cast, part_instance, part_field, part_element, part_call, part_super, part_new, part_new_array}
use Rattle.type_expr.proofs.Ends.{ends, ends_one, ends_two, ends_three, ends_list, ends_call_on}

-- what is seen of an expression that is lent
lent : (s : Scope) (q : Role) (y z : Expr) (old new : Option TypeFault) (f : Seen) → z ≡ y → Sees s q z old new f → Sees s q y old new f
lent s q y z old new f h a = subst (λ (w : Expr). Sees s q w old new f) h a

lent_all : (s : Scope) (q : Role) (ys zs : List Expr) (old new : Option TypeFault) (fs : List Seen) → zs ≡ ys → SeesAll s q zs old new fs → SeesAll s q ys old new fs
lent_all s q ys zs old new fs h a = subst (λ (ws : List Expr). SeesAll s q ws old new fs) h a

-- how the node is settled says what is seen of the expression
turned : {E : Type 0} (s : Scope) (r : Role) (x : Expr) (node : ExprNode) (old mid new : Option TypeFault) (res : Result Seen E) → ((z : Seen) → Settles s (spot x r) node mid new z → Sees s r x old new z) →
    IfOk res (λ z. Settles s (spot x r) node mid new z) → IfOk res (λ z. Sees s r x old new z)
turned s r x node old mid new res go h = IfOk-weaker res (λ z. Settles s (spot x r) node mid new z) (λ z. Sees s r x old new z) go h

pub see_number : {E : Type 0} (s : Scope) (r : Role) (x : Expr) (n : ℕ) (hex : Bool) (old new : Option TypeFault) (res : Result Seen E) → x.kind ≡ form.Number n hex → IfOk res (λ z. Settles s (spot x r) (e.Number n hex) old new z) → IfOk res (λ z. Sees s r x old new z)
see_number s r x n hex old new res k h = turned s r x (e.Number n hex) old old new res (λ z w. ends s r x (e.Number n hex) old new z (part_number s r x n hex k) refl w) h

pub see_text : {E : Type 0} (s : Scope) (r : Role) (x : Expr) (text : Word) (old new : Option TypeFault) (res : Result Seen E) → x.kind ≡ form.Text text → IfOk res (λ z. Settles s (spot x r) (e.Text text) old new z) → IfOk res (λ z. Sees s r x old new z)
see_text s r x text old new res k h = turned s r x (e.Text text) old old new res (λ z w. ends s r x (e.Text text) old new z (part_text s r x text k) refl w) h

pub see_this : {E : Type 0} (s : Scope) (r : Role) (x : Expr) (old new : Option TypeFault) (res : Result Seen E) → x.kind ≡ form.This → IfOk res (λ z. Settles s (spot x r) (e.This) old new z) → IfOk res (λ z. Sees s r x old new z)
see_this s r x old new res k h = turned s r x (e.This) old old new res (λ z w. ends s r x (e.This) old new z (part_this s r x k) refl w) h

pub see_name : {E : Type 0} (s : Scope) (r : Role) (x : Expr) (name : Word) (old new : Option TypeFault) (res : Result Seen E) → x.kind ≡ form.Var name → IfOk res (λ z. Settles s (spot x r) (e.Var name) old new z) → IfOk res (λ z. Sees s r x old new z)
see_name s r x name old new res k h = turned s r x (e.Var name) old old new res (λ z w. ends s r x (e.Var name) old new z (part_name s r x name k) refl w) h

pub see_truth : {E : Type 0} (s : Scope) (r : Role) (x : Expr) (truth : Bool) (old : Option TypeFault) (res : Result Seen E) → x.kind ≡ form.Truth truth → IfOk res (λ z. z ≡ value x.place ty.Boolean (made.Truth truth)) → IfOk res (λ z. Sees s r x old old z)
see_truth s r x truth old res k h = IfOk-weaker res (λ z. z ≡ value x.place ty.Boolean (made.Truth truth)) (λ z. Sees s r x old old z)
    (λ z w. subst (λ (y : Seen). Sees s r x old old y) (sym w) (ends s r x (e.Truth truth) old old (value x.place ty.Boolean (made.Truth truth)) (part_truth s r x truth k) refl (settles_truth s (spot x r) truth old))) h

pub see_null : {E : Type 0} (s : Scope) (r : Role) (x : Expr) (old : Option TypeFault) (res : Result Seen E) → x.kind ≡ form.Null → IfOk res (λ z. z ≡ null_value x.place) → IfOk res (λ z. Sees s r x old old z)
see_null s r x old res k h = IfOk-weaker res (λ z. z ≡ null_value x.place) (λ z. Sees s r x old old z)
    (λ z w. subst (λ (y : Seen). Sees s r x old old y) (sym w) (ends s r x e.Null old old (null_value x.place) (part_null s r x k) refl (settles_null s (spot x r) old))) h

pub see_unary : {E : Type 0} (s : Scope) (r q : Role) (x : Expr) (n : ℕ) (y y' : Expr) (old mid new : Option TypeFault) (f : Seen) (res : Result Seen E) → x.kind ≡ form.Unary n y → y' ≡ y → q ≡ behind n → Sees s q y' old mid f →
    IfOk res (λ z. Settles s (spot x r) (e.Unary n f) mid new z) → IfOk res (λ z. Sees s r x old new z)
see_unary s r q x n y y' old mid new f res k l b a h =
    let a' : Sees s (behind n) y old mid f = subst (λ (p : Role). Sees s p y old mid f) b (lent s q y y' old mid f l a) in
    turned s r x (e.Unary n f) old mid new res (λ z w. ends_one s r x (e.Unary n (part s y (behind n))) old new z (part_unary s r x n y k) (behind n) y mid f (λ g. e.Unary n g) refl refl a' w) h

pub see_cast : {E : Type 0} (s : Scope) (r : Role) (x : Expr) (class : Word) (y y' : Expr) (old mid new : Option TypeFault) (f : Seen) (res : Result Seen E) → x.kind ≡ form.Cast class y → y' ≡ y → Sees s role.Operand y' old mid f →
    IfOk res (λ z. Settles s (spot x r) (e.Cast class f) mid new z) → IfOk res (λ z. Sees s r x old new z)
see_cast s r x class y y' old mid new f res k l a h =
    turned s r x (e.Cast class f) old mid new res (λ z w. ends_one s r x (e.Cast class (part s y role.Operand)) old new z (part_cast s r x class y k) role.Operand y mid f (λ g. e.Cast class g) refl refl (lent s role.Operand y y' old mid f l a) w) h

pub see_instance : {E : Type 0} (s : Scope) (r : Role) (x : Expr) (class : Word) (y y' : Expr) (old mid new : Option TypeFault) (f : Seen) (res : Result Seen E) → x.kind ≡ form.InstanceOf y class → y' ≡ y → Sees s role.Operand y' old mid f →
    IfOk res (λ z. Settles s (spot x r) (e.InstanceOf f class) mid new z) → IfOk res (λ z. Sees s r x old new z)
see_instance s r x class y y' old mid new f res k l a h =
    turned s r x (e.InstanceOf f class) old mid new res (λ z w. ends_one s r x (e.InstanceOf (part s y role.Operand) class) old new z (part_instance s r x y class k) role.Operand y mid f (λ g. e.InstanceOf g class) refl refl (lent s role.Operand y y' old mid f l a) w) h

pub see_field : {E : Type 0} (s : Scope) (r : Role) (x : Expr) (name : Word) (y y' : Expr) (old mid new : Option TypeFault) (f : Seen) (res : Result Seen E) → x.kind ≡ form.Field y name → y' ≡ y → Sees s role.BeforeDot y' old mid f →
    IfOk res (λ z. Settles s (spot x r) (e.Field f name) mid new z) → IfOk res (λ z. Sees s r x old new z)
see_field s r x name y y' old mid new f res k l a h =
    turned s r x (e.Field f name) old mid new res (λ z w. ends_one s r x (e.Field (part s y role.BeforeDot) name) old new z (part_field s r x y name k) role.BeforeDot y mid f (λ g. e.Field g name) refl refl (lent s role.BeforeDot y y' old mid f l a) w) h

pub see_new_array : {E : Type 0} (s : Scope) (r : Role) (x : Expr) (elem : Ty) (y y' : Expr) (old mid new : Option TypeFault) (f : Seen) (res : Result Seen E) → x.kind ≡ form.NewArray elem y → y' ≡ y → Sees s role.Operand y' old mid f →
    IfOk res (λ z. Settles s (spot x r) (e.NewArray elem f) mid new z) → IfOk res (λ z. Sees s r x old new z)
see_new_array s r x elem y y' old mid new f res k l a h =
    turned s r x (e.NewArray elem f) old mid new res (λ z w. ends_one s r x (e.NewArray elem (part s y role.Operand)) old new z (part_new_array s r x elem y k) role.Operand y mid f (λ g. e.NewArray elem g) refl refl (lent s role.Operand y y' old mid f l a) w) h

pub see_binary : {E : Type 0} (s : Scope) (r : Role) (x : Expr) (n : ℕ) (y y' z z' : Expr) (old one mid new : Option TypeFault) (f g : Seen) (res : Result Seen E) → x.kind ≡ form.Binary n y z → y' ≡ y → z' ≡ z → Sees s role.Operand y' old one f → Sees s role.Operand z' one mid g →
    IfOk res (λ v. Settles s (spot x r) (e.Binary n f g) mid new v) → IfOk res (λ v. Sees s r x old new v)
see_binary s r x n y y' z z' old one mid new f g res k l m a b h =
    turned s r x (e.Binary n f g) old mid new res (λ v w. ends_two s r x (e.Binary n (part s y role.Operand) (part s z role.Operand)) old new v (part_binary s r x n y z k) role.Operand role.Operand y z one mid f g (λ i j. e.Binary n i j) refl refl
    (lent s role.Operand y y' old one f l a) (lent s role.Operand z z' one mid g m b) w) h

pub see_element : {E : Type 0} (s : Scope) (r : Role) (x : Expr) (y y' z z' : Expr) (old one mid new : Option TypeFault) (f g : Seen) (res : Result Seen E) → x.kind ≡ form.Index y z → y' ≡ y → z' ≡ z → Sees s role.Operand y' old one f → Sees s role.Operand z' one mid g →
    IfOk res (λ v. Settles s (spot x r) (e.Index f g) mid new v) → IfOk res (λ v. Sees s r x old new v)
see_element s r x y y' z z' old one mid new f g res k l m a b h =
    turned s r x (e.Index f g) old mid new res (λ v w. ends_two s r x (e.Index (part s y role.Operand) (part s z role.Operand)) old new v (part_element s r x y z k) role.Operand role.Operand y z one mid f g (λ i j. e.Index i j) refl refl
    (lent s role.Operand y y' old one f l a) (lent s role.Operand z z' one mid g m b) w) h

pub see_choice : {E : Type 0} (s : Scope) (r : Role) (x t t' y y' z z' : Expr) (old one two mid new : Option TypeFault) (f g i : Seen) (res : Result Seen E) → x.kind ≡ form.Cond t y z → t' ≡ t → y' ≡ y → z' ≡ z →
    Sees s role.Operand t' old one f → Sees s role.Operand y' one two g → Sees s role.Operand z' two mid i → IfOk res (λ v. Settles s (spot x r) (e.Cond f g i) mid new v) → IfOk res (λ v. Sees s r x old new v)
see_choice s r x t t' y y' z z' old one two mid new f g i res k l m n a b c h =
    turned s r x (e.Cond f g i) old mid new res (λ v w. ends_three s r x (e.Cond (part s t role.Operand) (part s y role.Operand) (part s z role.Operand)) old new v (part_choice s r x t y z k) role.Operand t y z one two mid f g i (λ u v w. e.Cond u v w) refl refl
    (lent s role.Operand t t' old one f l a) (lent s role.Operand y y' one two g m b) (lent s role.Operand z z' two mid i n c) w) h

pub see_call : {E : Type 0} (s : Scope) (r : Role) (x : Expr) (o : Option Expr) (name : Word) (ys ys' : List Expr) (old mid new : Option TypeFault) (fs : List Seen) (res : Result Seen E) → x.kind ≡ form.Call o name ys → o ≡ None → ys' ≡ ys →
    SeesAll s role.Operand ys' old mid fs → IfOk res (λ z. Settles s (spot x r) (e.Call None name fs) mid new z) → IfOk res (λ z. Sees s r x old new z)
see_call s r x o name ys ys' old mid new fs res k n l a h =
    let k' : x.kind ≡ form.Call None name ys = k ∙ ap (λ (w : Option Expr). form.Call w name ys) n in
    turned s r x (e.Call None name fs) old mid new res (λ z w. ends_list s r x (e.Call None name (parts_in s role.Operand ys)) old new z (part_call s r x name ys k') role.Operand ys mid fs (λ gs. e.Call None name gs) refl refl
    (lent_all s role.Operand ys ys' old mid fs l a) w) h

pub see_super : {E : Type 0} (s : Scope) (r : Role) (x : Expr) (name : Word) (ys ys' : List Expr) (old mid new : Option TypeFault) (fs : List Seen) (res : Result Seen E) → x.kind ≡ form.SuperCall name ys → ys' ≡ ys → SeesAll s role.Operand ys' old mid fs →
    IfOk res (λ z. Settles s (spot x r) (e.SuperCall name fs) mid new z) → IfOk res (λ z. Sees s r x old new z)
see_super s r x name ys ys' old mid new fs res k l a h =
    turned s r x (e.SuperCall name fs) old mid new res (λ z w. ends_list s r x (e.SuperCall name (parts_in s role.Operand ys)) old new z (part_super s r x name ys k) role.Operand ys mid fs (λ gs. e.SuperCall name gs) refl refl (lent_all s role.Operand ys ys' old mid fs l a) w) h

pub see_new : {E : Type 0} (s : Scope) (r : Role) (x : Expr) (class : Word) (ys ys' : List Expr) (old mid new : Option TypeFault) (fs : List Seen) (res : Result Seen E) → x.kind ≡ form.New class ys → ys' ≡ ys → SeesAll s role.Operand ys' old mid fs →
    IfOk res (λ z. Settles s (spot x r) (e.New class fs) mid new z) → IfOk res (λ z. Sees s r x old new z)
see_new s r x class ys ys' old mid new fs res k l a h =
    turned s r x (e.New class fs) old mid new res (λ z w. ends_list s r x (e.New class (parts_in s role.Operand ys)) old new z (part_new s r x class ys k) role.Operand ys mid fs (λ gs. e.New class gs) refl refl (lent_all s role.Operand ys ys' old mid fs l a) w) h

pub see_call_on : {E : Type 0} (s : Scope) (r q : Role) (x : Expr) (o : Option Expr) (y y' : Expr) (name : Word) (ys ys' : List Expr) (old one mid new : Option TypeFault) (f : Seen) (fs : List Seen) (res : Result Seen E) → x.kind ≡ form.Call o name ys →
    o ≡ Some y → y' ≡ y → ys' ≡ ys → q ≡ argument_of (Some f) name → Sees s role.BeforeDot y' old one f → SeesAll s q ys' one mid fs → IfOk res (λ z. Settles s (spot x r) (e.Call (Some f) name fs) mid new z) → IfOk res (λ z. Sees s r x old new z)
see_call_on s r q x o y y' name ys ys' old one mid new f fs res k n l m b a c h =
    let k' : x.kind ≡ form.Call (Some y) name ys = k ∙ ap (λ (w : Option Expr). form.Call w name ys) n in
    turned s r x (e.Call (Some f) name fs) old mid new res (λ z w. ends_call_on s r q x y name ys old one mid new f fs z k' b (lent s role.BeforeDot y y' old one f l a) (lent_all s q ys ys' one mid fs m c) w) h
