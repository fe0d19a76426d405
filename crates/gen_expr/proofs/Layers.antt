-- What is known of an expression that has none of some forms.
use Rattle.std.proofs.Common.{◌≡◌, ℕ, Bool, true, refl, sym, ap, ◌∙◌}
use Rattle.jp_pred.specs.declared.ty.Ty.{Ty}
use Rattle.jp_pred.specs.Names.{Word}
use Rattle.jp_meaning.specs.declared.expr.TypedExpr.{TypedExpr, fold-TypedExpr}
use Rattle.jp_meaning.specs.declared.expr.TypedExpr as on_exprs
use Rattle.jp_meaning.specs.declared.expr.TypedKind.{TypedKind, TypedKind-F, out-TypedKind, roll-TypedKind, roll-out-TypedKind, out-roll-TypedKind, fold_out-TypedKind}
use Rattle.jp_meaning.specs.declared.expr.TypedKind.TheVariants as form
use Rattle.jp_meaning.specs.declared.expr.TypedKind.TheOpen as e
use Rattle.jp_meaning.specs.declared.expr.TypedKind.TheFolds.{fold-TypedKind, map-TypedKind}
use Rattle.gen_parts.specs.Emits.{judges, judges_step}
use Rattle.gen_expr.proofs.Walks.{Layer, walk}

abbrev pub of_layer : {A : Type 0} → Layer A → TypedKind-F TypedKind TypedExpr → Ty → A
of_layer {A} f z t = f (map-TypedKind TypedKind TypedExpr (Ty → A) A (fold-TypedKind (Ty → A) A f (λ x. x.kind x.ty)) (fold-TypedExpr (Ty → A) A f (λ x. x.kind x.ty)) z) t

-- a fold at an expression whose kind is made of a layer
pub at_layer : {A : Type 0} (f : Layer A) (x : TypedExpr) (z : TypedKind-F TypedKind TypedExpr) → x.kind ≡ roll-TypedKind z → walk f x ≡ of_layer f z x.ty
at_layer f x z h =
    ap (λ (w : TypedKind). walk f (record { place = x.place; ty = x.ty; kind = w })) h ∙ rw (on_exprs.fold_out-TypedExpr, fold_out-TypedKind, out-roll-TypedKind) refl

-- what has no operator is no condition
unjudged_layer : (x : TypedExpr) (z : TypedKind-F TypedKind TypedExpr) → x.kind ≡ roll-TypedKind z → ((s : ℕ) (y : TypedExpr) → x.kind ≡ form.Unary s y → ⊥) → ((s : ℕ) (y v : TypedExpr) → x.kind ≡ form.Binary s y v → ⊥) →
    of_layer judges_step z x.ty ≡ true → ⊥
unjudged_layer x (e.Unary s y) h nu nb j = nu s y (h ∙ form.rolls-Unary s y)
unjudged_layer x (e.Binary s y v) h nu nb j = nb s y v (h ∙ form.rolls-Binary s y v)
unjudged_layer x _ h nu nb j = cc

pub unjudged : (x : TypedExpr) → judges x ≡ true → ((s : ℕ) (y : TypedExpr) → x.kind ≡ form.Unary s y → ⊥) → ((s : ℕ) (y v : TypedExpr) → x.kind ≡ form.Binary s y v → ⊥) → ⊥
unfolding judges
unjudged x j nu nb =
    let h : x.kind ≡ roll-TypedKind (out-TypedKind x.kind) = sym (roll-out-TypedKind x.kind) in
    unjudged_layer x (out-TypedKind x.kind) h nu nb (sym (at_layer judges_step x (out-TypedKind x.kind) h) ∙ j)
