-- The classes that an expression mentions in type positions are those that it names there.
use Rattle.std.proofs.Common.{◌≡◌, Bool, true, false, List, [], ◌∷◌, map, Option, Some, None, refl, sym, subst}
use Rattle.std.specs.Prelude.{if◌then◌else◌}
use Rattle.jp_pred.specs.Names.{Word}
use Rattle.jp_ast.specs.declared.token.Place.{Place}
use Rattle.jp_ast.specs.declared.expr.Expr.{Expr, fold-Expr}
use Rattle.jp_ast.specs.declared.expr.ExprKind.{ExprKind, ExprKind-F}
use Rattle.jp_ast.specs.declared.expr.ExprKind.TheOpen as e
use Rattle.jp_ast.specs.declared.expr.ExprKind.TheFolds.{ind-Expr, fold-ExprKind, fold-roll-Expr, fold-roll-ExprKind, map-ExprKind}
use Rattle.type_rules.specs.Types.{is_among}
use Rattle.type_rules.specs.ClassNames.{Mention, BeforeDot, Mentions, all_of, in_type}
use Rattle.type_rules.specs.ClassNames as mentions
use Rattle.own_names.specs.Naming.{Named, alone, type_names, in_option}
use Rattle.own_names.specs.Trees.{joined, expr_step, expr_names}
use Rattle.own_names.proofs.Says.{Says, both_say, three_say, type_says}

-- whatever the variables in scope, and whatever is said of a dot
abbrev pub AllSay : Mentions → List Named → Type 0
AllSay f names = (vars : List Word) (dot : Bool) → Says (f vars dot) names

abbrev expr_mentions : Expr → Mentions
expr_mentions = fold-Expr Mentions Mentions mentions.expr_step (λ y. y.kind)

abbrev kind_mentions : ExprKind → Mentions
kind_mentions = fold-ExprKind Mentions Mentions mentions.expr_step (λ y. y.kind)

abbrev kind_names : ExprKind → Place → List Named
kind_names = fold-ExprKind (Place → List Named) (List Named) expr_step (λ x. x.kind x.place)

abbrev SaidKind : Type 0
SaidKind = (k : ExprKind) × ((p : Place) → AllSay (kind_mentions k) (kind_names k p))

abbrev SaidExpr : Type 0
SaidExpr = (x : Expr) × AllSay (expr_mentions x) (expr_names x)

rows_say : (xs : List SaidExpr) (vars : List Word) → Says (all_of (map expr_mentions (map (λ (x : SaidExpr). x.0) xs)) vars) (joined (map expr_names (map (λ (x : SaidExpr). x.0) xs)))
rows_say [] vars = refl
rows_say (x ∷ xs) vars =
    both_say (expr_mentions x.0 vars false) (all_of (map expr_mentions (map (λ (x : SaidExpr). x.0) xs)) vars) (expr_names x.0) (joined (map expr_names (map (λ (x : SaidExpr). x.0) xs)))
    (x.1 vars false) (rows_say xs vars)

-- what stands before a dot isn't in a type position
before_dot : (b : Bool) (name : Word) → Says (if b then [] else BeforeDot name ∷ []) []
before_dot true name = refl
before_dot false name = refl

layer : (y : ExprKind-F SaidKind SaidExpr) (p : Place) →
    AllSay (mentions.expr_step (map-ExprKind ExprKind Expr Mentions Mentions kind_mentions expr_mentions (map-ExprKind SaidKind SaidExpr ExprKind Expr (λ k. k.0) (λ x. x.0) y)))
    (expr_step (map-ExprKind ExprKind Expr (Place → List Named) (List Named) kind_names expr_names (map-ExprKind SaidKind SaidExpr ExprKind Expr (λ k. k.0) (λ x. x.0) y)) p)
layer (e.Number value hex) p vars dot = refl
layer (e.Truth value) p vars dot = refl
layer e.Null p vars dot = refl
layer (e.Text text) p vars dot = refl
layer e.This p vars dot = refl
layer (e.Var name) p vars true = before_dot (is_among name vars) name
layer (e.Var name) p vars false = refl
layer (e.Unary sign right) p vars dot = right.1 vars false
layer (e.Binary sign left right) p vars dot =
    both_say (expr_mentions left.0 vars false) (expr_mentions right.0 vars false) (expr_names left.0) (expr_names right.0) (left.1 vars false) (right.1 vars false)
layer (e.Cond test first second) p vars dot =
    three_say (expr_mentions test.0 vars false) (expr_mentions first.0 vars false) (expr_mentions second.0 vars false) (expr_names test.0) (expr_names first.0) (expr_names second.0)
    (test.1 vars false) (first.1 vars false) (second.1 vars false)
layer (e.Cast class value) p vars dot = both_say (mentions.InType class ∷ []) (expr_mentions value.0 vars false) (alone p class) (expr_names value.0) refl (value.1 vars false)
layer (e.InstanceOf value class) p vars dot = both_say (expr_mentions value.0 vars false) (mentions.InType class ∷ []) (expr_names value.0) (alone p class) (value.1 vars false) refl
layer (e.Field object name) p vars dot = object.1 vars true
layer (e.Index array index) p vars dot =
    both_say (expr_mentions array.0 vars false) (expr_mentions index.0 vars false) (expr_names array.0) (expr_names index.0) (array.1 vars false) (index.1 vars false)
layer (e.Call None name args) p vars dot = rows_say args vars
layer (e.Call (Some object) name args) p vars dot =
    both_say (expr_mentions object.0 vars true) (all_of (map expr_mentions (map (λ (x : SaidExpr). x.0) args)) vars) (expr_names object.0) (joined (map expr_names (map (λ (x : SaidExpr). x.0) args)))
    (object.1 vars true) (rows_say args vars)
layer (e.SuperCall name args) p vars dot = rows_say args vars
layer (e.New class args) p vars dot =
    both_say (mentions.InType class ∷ []) (all_of (map expr_mentions (map (λ (x : SaidExpr). x.0) args)) vars) (alone p class) (joined (map expr_names (map (λ (x : SaidExpr). x.0) args))) refl (rows_say args vars)
layer (e.NewArray elem size) p vars dot = both_say (in_type elem) (expr_mentions size.0 vars false) (type_names p elem) (expr_names size.0) (type_says elem p) (size.1 vars false)

with_both : {A B : Type 0} (Q : A → B → Type 0) (x z : A) (y u : B) → x ≡ z → y ≡ u → Q z u → Q x y
with_both Q x z y u e f q = subst (λ v. Q v y) (sym e) (subst (λ v. Q z v) (sym f) q)

pub expr_says : (x : Expr) → AllSay (fold-Expr Mentions Mentions mentions.expr_step (λ y. y.kind) x) (expr_names x)
expr_says = ind-Expr (λ k. (p : Place) → AllSay (kind_mentions k) (kind_names k p)) (λ x. AllSay (expr_mentions x) (expr_names x))
    (λ x y is. with_both (λ (f : Mentions) (g : Place → List Named). (p : Place) → AllSay f (g p)) _ _ _ _ (fold-roll-ExprKind Mentions Mentions mentions.expr_step (λ y. y.kind) x)
    (fold-roll-ExprKind (Place → List Named) (List Named) expr_step (λ x. x.kind x.place) x)
    (subst (λ (z : ExprKind-F ExprKind Expr). (p : Place) → AllSay (mentions.expr_step (map-ExprKind ExprKind Expr Mentions Mentions kind_mentions expr_mentions z)) (expr_step (map-ExprKind ExprKind Expr (Place → List Named) (List Named) kind_names expr_names z) p)) is (layer y)))
    (λ x y is. with_both AllSay _ _ _ _ (fold-roll-Expr Mentions Mentions mentions.expr_step (λ y. y.kind) x)
    (fold-roll-Expr (Place → List Named) (List Named) expr_step (λ x. x.kind x.place) x)
    (subst (λ (z : e.Expr-F ExprKind Expr). AllSay (kind_mentions z.kind) (kind_names z.kind z.place)) is (y.kind.1 y.place)))

-- an expression that may be left out
pub option_says : (x : Option Expr) (vars : List Word) → Says (mentions.in_option vars x) (in_option expr_names x)
option_says None vars = refl
option_says (Some x) vars = expr_says x vars false
