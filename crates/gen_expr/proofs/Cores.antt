-- What an expression of each form is compiled to, from its parts.
use Rattle.std.proofs.Common.{◌≡◌, ℕ, ◌+◌, List, [], ◌∷◌, ◌++◌, map, Bool, true, false, not, Option, Some, None, refl, sym, ap, ◌∙◌, subst}
use Rattle.std.specs.Prelude.{max, pos, negsuc, is_none, cond, codes}
use Rattle.std.specs.Int.{w32, int_wrap}
use Rattle.jp_pred.specs.declared.ty.Ty.{Ty}
use Rattle.jp_pred.specs.Names.{Word}
use Rattle.jp_pred.specs.Kinds.{is_reference}
use Rattle.jp_store.specs.declared.value.Kind.{Kind}
use Rattle.jp_store.specs.declared.value.Kind.TheVariants.{Reference}
use Rattle.jp_store.specs.declared.operator.BinaryOp.{BinaryOp}
use Rattle.jp_store.specs.declared.operator.BinaryOp.TheVariants.{Xor}
use Rattle.jp_store.specs.declared.operator.Test.{Test}
use Rattle.jp_store.specs.Work.{NamedElement}
use Rattle.jp_meaning.specs.declared.expr.TypedExpr.{TypedExpr}
use Rattle.jp_meaning.specs.declared.expr.TypedKind.{TypedKind-F}
use Rattle.jp_meaning.specs.declared.expr.TypedKind.TheVariants as form
use Rattle.jp_meaning.specs.declared.expr.TypedKind.TheOpen as e
use Rattle.jp_meaning.specs.Descriptors.{internal_name, method_of, key_of, kind_of_type, element_kind_of, elements_of}
use Rattle.jp_meaning.specs.Signs.{Prefix, Plus, Minus, Not, Complement, Infix, Operates, Compares, AndThen, OrElse, prefix_of, infix_of}
use Rattle.jvm_table.specs.declared.instr.Instr.TheVariants.{PushNull, PushInt, Load, LoadElement, ArrayLength, Dup, Binary, Negate}
use Rattle.jvm_table.specs.declared.instr.ConstantUse.TheVariants.{PushConstant, GetStatic, GetField, InvokeSpecial, InvokeStatic, MakeObject, CheckCast, InstanceOf}
use Rattle.code_asm.specs.Items.{TextOf, FieldOf, ClassOf, Item, Plain, Uses, Branch}
use Rattle.gen_body.specs.Codes.{Codes, Coded, row_codes, choice, choose_truth, push_int, named, family, virtual_call, construction, io, called, array_codes, local_codes, prefix_codes, infix_codes, coded_step}
use Rattle.gen_body.specs.Statements.{Part}
use Rattle.gen_code.specs.Emitted.{code_of, Shape, shape_step, shape_of, array_items}
use Rattle.gen_parts.specs.Emits.{core_of, core_step, core_part, value_step, value_part, test_part, all_part}
use Rattle.gen_expr.proofs.Walks.{walk, walk_number, walk_truth, walk_null, walk_this, walk_local, walk_unary, walk_binary, walk_choice, walk_cast, walk_instance, walk_field, walk_static, walk_length, walk_index, walk_virtual, walk_static_call, walk_super, walk_new, walk_new_array, walk_print, walk_show, walk_read}

-- the code and the shape, as folds
abbrev part_from : Coded → Shape → ℕ → Part
part_from c s n = core_step c s n

core_from : (x : TypedExpr) (n : ℕ) (c : Coded) (s : Shape) → walk coded_step x ≡ c → walk shape_step x ≡ s → core_part x n ≡ core_step c s n
unfolding code_of shape_of
core_from x n c s h k = ap (λ (d : Coded). core_step d (shape_of x) n) h ∙ ap (λ (t : Shape). core_step c t n) k

module _ (x : TypedExpr) (n : ℕ) where
  pub core_number : (value : ℕ) (hex : Bool) → x.kind ≡ form.Number value hex → core_part x n ≡ record { items = push_int (int_wrap w32 (pos value)) ∷ []; next = n; need = 1 }
  core_number value hex h = core_from x n _ _ (walk_number coded_step x value hex h) (walk_number shape_step x value hex h)

  pub core_truth : (value : Bool) → x.kind ≡ form.Truth value → core_part x n ≡ record { items = Plain (PushInt (cond value (pos 1) (pos 0))) ∷ []; next = n; need = 1 }
  core_truth value h = core_from x n _ _ (walk_truth coded_step x value h) (walk_truth shape_step x value h)

  pub core_null : x.kind ≡ form.Null → core_part x n ≡ record { items = Plain PushNull ∷ []; next = n; need = 1 }
  core_null h = core_from x n _ _ (walk_null coded_step x h) (walk_null shape_step x h)

  pub core_this : x.kind ≡ form.This → core_part x n ≡ record { items = Plain (Load Reference 0) ∷ []; next = n; need = 1 }
  core_this h = core_from x n _ _ (walk_this coded_step x h) (walk_this shape_step x h)

  pub core_local : (slot : ℕ) → x.kind ≡ form.Local slot → core_part x n ≡ value_step (local_codes (kind_of_type x.ty) slot n)
  core_local slot h = core_from x n _ _ (walk_local coded_step x slot h) (walk_local shape_step x slot h)

  pub core_unary : (sign : ℕ) (y : TypedExpr) → x.kind ≡ form.Unary sign y → core_part x n ≡ value_step (prefix_codes (prefix_of sign) (code_of y) n)
  unfolding code_of
  core_unary sign y h = core_from x n _ _ (walk_unary coded_step x sign y h) (walk_unary shape_step x sign y h)

  pub core_binary : (sign : ℕ) (y z : TypedExpr) → x.kind ≡ form.Binary sign y z → core_part x n ≡ value_step (infix_codes (infix_of sign) (code_of y) (code_of z) n)
  unfolding code_of
  core_binary sign y z h = core_from x n _ _ (walk_binary coded_step x sign y z h) (walk_binary shape_step x sign y z h)

  pub core_choice : (t y z : TypedExpr) → x.kind ≡ form.Cond t y z → core_part x n ≡
      (let c = (code_of t).codes (n + 2) in let d = value_part y c.next in let f = value_part z d.next in record { items = choice c.test d.items f.items n; next = f.next; need = max c.need (max d.need f.need) })
  unfolding code_of
  core_choice t y z h = core_from x n _ _ (walk_choice coded_step x t y z h) (walk_choice shape_step x t y z h)

  pub core_cast : (class : Word) (y : TypedExpr) → x.kind ≡ form.Cast class y → core_part x n ≡
      record { items = (value_part y n).items ++ Uses CheckCast (ClassOf (internal_name class)) ∷ []; next = (value_part y n).next; need = (value_part y n).need }
  unfolding code_of
  core_cast class y h = core_from x n _ _ (walk_cast coded_step x class y h) (walk_cast shape_step x class y h)

  pub core_instance : (y : TypedExpr) (class : Word) → x.kind ≡ form.InstanceOf y class → core_part x n ≡
      record { items = (value_part y n).items ++ Uses InstanceOf (ClassOf (internal_name class)) ∷ []; next = (value_part y n).next; need = (value_part y n).need }
  unfolding code_of
  core_instance y class h = core_from x n _ _ (walk_instance coded_step x y class h) (walk_instance shape_step x y class h)

  pub core_field : (y : TypedExpr) (class name : Word) → x.kind ≡ form.Field y class name → core_part x n ≡
      record { items = (value_part y n).items ++ Uses GetField (FieldOf (key_of class name x.ty)) ∷ []; next = (value_part y n).next; need = (value_part y n).need }
  unfolding code_of
  core_field y class name h = core_from x n _ _ (walk_field coded_step x y class name h) (walk_field shape_step x y class name h)

  pub core_static : (class name : Word) → x.kind ≡ form.Static class name → core_part x n ≡ record { items = Uses GetStatic (FieldOf (key_of class name x.ty)) ∷ []; next = n; need = 1 }
  core_static class name h = core_from x n _ _ (walk_static coded_step x class name h) (walk_static shape_step x class name h)

  pub core_length : (y : TypedExpr) → x.kind ≡ form.Length y → core_part x n ≡
      record { items = (value_part y n).items ++ Plain ArrayLength ∷ []; next = (value_part y n).next; need = (value_part y n).need }
  unfolding code_of
  core_length y h = core_from x n _ _ (walk_length coded_step x y h) (walk_length shape_step x y h)

  pub core_index : (y z : TypedExpr) → x.kind ≡ form.Index y z → core_part x n ≡
      (let c = value_part y n in let d = value_part z c.next in record { items = c.items ++ (d.items ++ Plain (LoadElement (element_kind_of x.ty)) ∷ []); next = d.next; need = max c.need (1 + d.need) })
  unfolding code_of
  core_index y z h = core_from x n _ _ (walk_index coded_step x y z h) (walk_index shape_step x y z h)

  pub core_new : (class : Word) (params : List Ty) (args : List TypedExpr) → x.kind ≡ form.New class params args → core_part x n ≡
      (let r = all_part args n in record { items = Uses MakeObject (ClassOf (internal_name class)) ∷ Plain Dup ∷ (r.items ++ construction class params ∷ []); next = r.next; need = 2 + r.need })
  unfolding code_of
  core_new class params args h = core_from x n _ _ (walk_new coded_step x class params args h) (walk_new shape_step x class params args h)

  pub core_new_array : (elem : Ty) (y : TypedExpr) → x.kind ≡ form.NewArray elem y → core_part x n ≡ value_step (array_codes (elements_of elem) ((code_of y).codes n))
  unfolding code_of
  core_new_array elem y h = core_from x n _ _ (walk_new_array coded_step x elem y h) (walk_new_array shape_step x elem y h)

  pub core_print : (y : TypedExpr) → x.kind ≡ form.Print y → core_part x n ≡
      record { items = (value_part y n).items ++ io (codes "print") (codes "(I)V") ∷ []; next = (value_part y n).next; need = max (value_part y n).need 1 }
  unfolding code_of
  core_print y h = core_from x n _ _ (walk_print coded_step x y h) (walk_print shape_step x y h)

  pub core_show : (text : Word) → x.kind ≡ form.Show text → core_part x n ≡
      record { items = Uses PushConstant (TextOf text) ∷ io (codes "text") (codes "(Ljava/lang/String;)V") ∷ []; next = n; need = 1 }
  core_show text h = core_from x n _ _ (walk_show coded_step x text h) (walk_show shape_step x text h)

  pub core_read : x.kind ≡ form.Read → core_part x n ≡ record { items = io (codes "read") (codes "()I") ∷ []; next = n; need = 1 }
  core_read h = core_from x n _ _ (walk_read coded_step x h) (walk_read shape_step x h)

-- a call, whatever its result is
abbrev call_part : List Item → ℕ → ℕ → Part
call_part items need next = record { items = items; next = next; need = max need 1 }

abbrev core_call : Option Kind → Codes → Part
core_call k c = record { items = core_of (is_none k) c; next = c.next; need = c.need }

call_core : (k : Option Kind) (items : List Item) (need next : ℕ) → core_call k (called k items need next) ≡ call_part items need next
call_core None items need next = refl
call_core (Some kind) items need next = refl

module _ (x : TypedExpr) (n : ℕ) where
  pub core_virtual : (y : TypedExpr) (class : Word) (is_interface : Bool) (name : Word) (params : List Ty) (args : List TypedExpr) → x.kind ≡ form.CallVirtual y class is_interface name params args → core_part x n ≡
      (let c = value_part y n in let r = all_part args c.next in
      record { items = c.items ++ (r.items ++ virtual_call is_interface (method_of class name params x.ty) params x.ty ∷ []); next = r.next; need = max (max c.need (1 + r.need)) 1 })
  unfolding code_of
  core_virtual y class is_interface name params args h =
      core_from x n _ _ (walk_virtual coded_step x y class is_interface name params args h) (walk_virtual shape_step x y class is_interface name params args h) ∙ call_core (kind_of_type x.ty) _ _ _

  pub core_static_call : (class name : Word) (params : List Ty) (args : List TypedExpr) → x.kind ≡ form.CallStatic class name params args → core_part x n ≡
      (let r = all_part args n in record { items = r.items ++ Uses InvokeStatic (named (method_of class name params x.ty) params x.ty) ∷ []; next = r.next; need = max r.need 1 })
  unfolding code_of
  core_static_call class name params args h =
      core_from x n _ _ (walk_static_call coded_step x class name params args h) (walk_static_call shape_step x class name params args h) ∙ call_core (kind_of_type x.ty) _ _ _

  pub core_super : (class name : Word) (params : List Ty) (args : List TypedExpr) → x.kind ≡ form.CallSuper class name params args → core_part x n ≡
      (let r = all_part args n in record { items = Plain (Load Reference 0) ∷ (r.items ++ Uses InvokeSpecial (family (method_of class name params x.ty) params x.ty) ∷ []); next = r.next; need = max (1 + r.need) 1 })
  unfolding code_of
  core_super class name params args h =
      core_from x n _ _ (walk_super coded_step x class name params args h) (walk_super shape_step x class name params args h) ∙ call_core (kind_of_type x.ty) _ _ _
