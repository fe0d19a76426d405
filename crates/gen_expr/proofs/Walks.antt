-- A fold over a resolved expression, at an expression of each form.
use Rattle.std.proofs.Common.{◌≡◌, ℕ, List, map, Bool, refl, ap, ◌∙◌}
use Rattle.jp_pred.specs.declared.ty.Ty.{Ty}
use Rattle.jp_pred.specs.Names.{Word}
use Rattle.jp_meaning.specs.declared.expr.TypedExpr.{TypedExpr, fold-TypedExpr}
use Rattle.jp_meaning.specs.declared.expr.TypedExpr as on_exprs
use Rattle.jp_meaning.specs.declared.expr.TypedKind.{TypedKind, TypedKind-F, fold_out-TypedKind}
use Rattle.jp_meaning.specs.declared.expr.TypedKind.TheVariants as form
use Rattle.jp_meaning.specs.declared.expr.TypedKind.TheOpen as e

-- what is made of one level, and of a whole expression
abbrev pub Layer : Type 0 → Type 0
Layer A = TypedKind-F (Ty → A) A → Ty → A

abbrev pub walk : {A : Type 0} → Layer A → TypedExpr → A
walk {A} f = fold-TypedExpr (Ty → A) A f (λ x. x.kind x.ty)

-- an expression, as its kind is written
at_kind : {A : Type 0} (f : Layer A) (x : TypedExpr) (kind : TypedKind) (z : A) → x.kind ≡ kind → walk f (record { place = x.place; ty = x.ty; kind = kind }) ≡ z → walk f x ≡ z
at_kind f x kind z h k = ap (λ (w : TypedKind). walk f (record { place = x.place; ty = x.ty; kind = w })) h ∙ k

module _ {A : Type 0} (f : Layer A) (x : TypedExpr) where
  pub walk_number : (value : ℕ) (hex : Bool) → x.kind ≡ form.Number value hex → walk f x ≡ f (e.Number value hex) x.ty
  walk_number value hex h = at_kind f x _ _ h (rw (on_exprs.fold_out-TypedExpr, fold_out-TypedKind, form.outs-Number) refl)

  pub walk_truth : (value : Bool) → x.kind ≡ form.Truth value → walk f x ≡ f (e.Truth value) x.ty
  walk_truth value h = at_kind f x _ _ h (rw (on_exprs.fold_out-TypedExpr, fold_out-TypedKind, form.outs-Truth) refl)

  pub walk_null : x.kind ≡ form.Null → walk f x ≡ f e.Null x.ty
  walk_null h = at_kind f x _ _ h (rw (on_exprs.fold_out-TypedExpr, fold_out-TypedKind, form.outs-Null) refl)

  pub walk_this : x.kind ≡ form.This → walk f x ≡ f e.This x.ty
  walk_this h = at_kind f x _ _ h (rw (on_exprs.fold_out-TypedExpr, fold_out-TypedKind, form.outs-This) refl)

  pub walk_local : (slot : ℕ) → x.kind ≡ form.Local slot → walk f x ≡ f (e.Local slot) x.ty
  walk_local slot h = at_kind f x _ _ h (rw (on_exprs.fold_out-TypedExpr, fold_out-TypedKind, form.outs-Local) refl)

  pub walk_unary : (sign : ℕ) (y : TypedExpr) → x.kind ≡ form.Unary sign y → walk f x ≡ f (e.Unary sign (walk f y)) x.ty
  walk_unary sign y h = at_kind f x _ _ h (rw (on_exprs.fold_out-TypedExpr, fold_out-TypedKind, form.outs-Unary) refl)

  pub walk_binary : (sign : ℕ) (y z : TypedExpr) → x.kind ≡ form.Binary sign y z → walk f x ≡ f (e.Binary sign (walk f y) (walk f z)) x.ty
  walk_binary sign y z h = at_kind f x _ _ h (rw (on_exprs.fold_out-TypedExpr, fold_out-TypedKind, form.outs-Binary) refl)

  pub walk_choice : (t y z : TypedExpr) → x.kind ≡ form.Cond t y z → walk f x ≡ f (e.Cond (walk f t) (walk f y) (walk f z)) x.ty
  walk_choice t y z h = at_kind f x _ _ h (rw (on_exprs.fold_out-TypedExpr, fold_out-TypedKind, form.outs-Cond) refl)

  pub walk_cast : (class : Word) (y : TypedExpr) → x.kind ≡ form.Cast class y → walk f x ≡ f (e.Cast class (walk f y)) x.ty
  walk_cast class y h = at_kind f x _ _ h (rw (on_exprs.fold_out-TypedExpr, fold_out-TypedKind, form.outs-Cast) refl)

  pub walk_instance : (y : TypedExpr) (class : Word) → x.kind ≡ form.InstanceOf y class → walk f x ≡ f (e.InstanceOf (walk f y) class) x.ty
  walk_instance y class h = at_kind f x _ _ h (rw (on_exprs.fold_out-TypedExpr, fold_out-TypedKind, form.outs-InstanceOf) refl)

  pub walk_field : (y : TypedExpr) (class name : Word) → x.kind ≡ form.Field y class name → walk f x ≡ f (e.Field (walk f y) class name) x.ty
  walk_field y class name h = at_kind f x _ _ h (rw (on_exprs.fold_out-TypedExpr, fold_out-TypedKind, form.outs-Field) refl)

  pub walk_static : (class name : Word) → x.kind ≡ form.Static class name → walk f x ≡ f (e.Static class name) x.ty
  walk_static class name h = at_kind f x _ _ h (rw (on_exprs.fold_out-TypedExpr, fold_out-TypedKind, form.outs-Static) refl)

  pub walk_length : (y : TypedExpr) → x.kind ≡ form.Length y → walk f x ≡ f (e.Length (walk f y)) x.ty
  walk_length y h = at_kind f x _ _ h (rw (on_exprs.fold_out-TypedExpr, fold_out-TypedKind, form.outs-Length) refl)

  pub walk_index : (y z : TypedExpr) → x.kind ≡ form.Index y z → walk f x ≡ f (e.Index (walk f y) (walk f z)) x.ty
  walk_index y z h = at_kind f x _ _ h (rw (on_exprs.fold_out-TypedExpr, fold_out-TypedKind, form.outs-Index) refl)

  pub walk_virtual : (y : TypedExpr) (class : Word) (is_interface : Bool) (name : Word) (params : List Ty) (args : List TypedExpr) → x.kind ≡ form.CallVirtual y class is_interface name params args →
      walk f x ≡ f (e.CallVirtual (walk f y) class is_interface name params (map (walk f) args)) x.ty
  walk_virtual y class is_interface name params args h = at_kind f x _ _ h (rw (on_exprs.fold_out-TypedExpr, fold_out-TypedKind, form.outs-CallVirtual) refl)

  pub walk_static_call : (class name : Word) (params : List Ty) (args : List TypedExpr) → x.kind ≡ form.CallStatic class name params args → walk f x ≡ f (e.CallStatic class name params (map (walk f) args)) x.ty
  walk_static_call class name params args h = at_kind f x _ _ h (rw (on_exprs.fold_out-TypedExpr, fold_out-TypedKind, form.outs-CallStatic) refl)

  pub walk_super : (class name : Word) (params : List Ty) (args : List TypedExpr) → x.kind ≡ form.CallSuper class name params args → walk f x ≡ f (e.CallSuper class name params (map (walk f) args)) x.ty
  walk_super class name params args h = at_kind f x _ _ h (rw (on_exprs.fold_out-TypedExpr, fold_out-TypedKind, form.outs-CallSuper) refl)

  pub walk_new : (class : Word) (params : List Ty) (args : List TypedExpr) → x.kind ≡ form.New class params args → walk f x ≡ f (e.New class params (map (walk f) args)) x.ty
  walk_new class params args h = at_kind f x _ _ h (rw (on_exprs.fold_out-TypedExpr, fold_out-TypedKind, form.outs-New) refl)

  pub walk_new_array : (elem : Ty) (y : TypedExpr) → x.kind ≡ form.NewArray elem y → walk f x ≡ f (e.NewArray elem (walk f y)) x.ty
  walk_new_array elem y h = at_kind f x _ _ h (rw (on_exprs.fold_out-TypedExpr, fold_out-TypedKind, form.outs-NewArray) refl)

  pub walk_print : (y : TypedExpr) → x.kind ≡ form.Print y → walk f x ≡ f (e.Print (walk f y)) x.ty
  walk_print y h = at_kind f x _ _ h (rw (on_exprs.fold_out-TypedExpr, fold_out-TypedKind, form.outs-Print) refl)

  pub walk_show : (text : Word) → x.kind ≡ form.Show text → walk f x ≡ f (e.Show text) x.ty
  walk_show text h = at_kind f x _ _ h (rw (on_exprs.fold_out-TypedExpr, fold_out-TypedKind, form.outs-Show) refl)

  pub walk_read : x.kind ≡ form.Read → walk f x ≡ f e.Read x.ty
  walk_read h = at_kind f x _ _ h (rw (on_exprs.fold_out-TypedExpr, fold_out-TypedKind, form.outs-Read) refl)
