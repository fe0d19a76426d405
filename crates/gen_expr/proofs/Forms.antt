-- The code of an expression of each form, once its parts are written.
use Rattle.std.proofs.Common.{◌≡◌, ℕ, ◌+◌, List, [], ◌∷◌, ◌++◌, Bool, false, Option, Some, None, Result, refl, sym, ap, ◌∙◌, append-nil}
use Rattle.std.specs.Prelude.{codes, IfOk}
use Rattle.std.specs.Option.{option_map}
use Rattle.jp_pred.specs.declared.ty.Ty.{Ty}
use Rattle.jp_pred.specs.Names.{Word}
use Rattle.jp_store.specs.declared.value.Kind.{Kind}
use Rattle.jp_store.specs.declared.value.Kind.TheVariants.{Reference}
use Rattle.jp_store.specs.declared.operator.BinaryOp.{BinaryOp}
use Rattle.jp_store.specs.Work.{NamedElement}
use Rattle.jp_meaning.specs.declared.expr.TypedExpr.{TypedExpr}
use Rattle.jp_meaning.specs.declared.expr.TypedKind.TheVariants as form
use Rattle.jp_meaning.specs.Descriptors.{internal_name, method_of, key_of, kind_of_type, element_kind_of, elements_of}
use Rattle.jp_meaning.specs.Signs.{Infix, Operates, prefix_of, infix_of}
use Rattle.jvm_table.specs.declared.instr.Instr.{Instr}
use Rattle.jvm_table.specs.declared.instr.Instr.TheVariants.{Load, LoadElement, ArrayLength, Dup, Binary}
use Rattle.jvm_table.specs.declared.instr.ConstantUse.TheVariants.{GetField, InvokeSpecial, InvokeStatic, MakeObject, CheckCast, InstanceOf}
use Rattle.code_asm.specs.Items.{FieldOf, ClassOf, Plain, Uses}
use Rattle.gen_body.specs.Codes.{named, family, virtual_call, construction, io, array_codes, local_codes, prefix_codes, infix_codes}
use Rattle.gen_body.specs.Statements.{Part}
use Rattle.gen_code.specs.declared.body.Body.{Body}
use Rattle.gen_code.specs.declared.signs.Prefix.{Prefix as PrefixSign}
use Rattle.gen_code.specs.declared.signs.Infix.{Infix as InfixSign}
use Rattle.gen_code.specs.declared.signs.Infix.TheVariants as between
use Rattle.gen_code.specs.Emitted.{code_of, prefix_as, infix_as, array_items}
use Rattle.gen_parts.specs.Emits.{Puts, core_part, value_step, value_part, test_part, one_part, row_part, between_part, at_least, chained, second_part, received_part, otherwise_part}
use Rattle.gen_expr.proofs.Cores.{core_local, core_unary, core_binary, core_choice, core_cast, core_instance, core_field, core_length, core_index, core_virtual, core_static_call, core_super, core_new, core_new_array, core_print}
use Rattle.gen_expr.proofs.Judging.{value_binary}
use Rattle.gen_expr.proofs.Arms.{nothing_put, same_put, chain, after_labels}

-- a part that is told of an expression is told of an equal one
lent : {E : Type 0} (a b : Body) (res : Result ℕ E) (whole : Part) (part : TypedExpr → Part) (y y' : TypedExpr) → whole ≡ part y → y' ≡ y → IfOk res (λ p. Puts a b p (part y')) → IfOk res (λ p. Puts a b p whole)
lent a b res whole part y y' e k w = same_put a b res whole (part y') (e ∙ ap part (sym k)) w

lent_call : {E : Type 0} (a b : Body) (res : Result ℕ E) (whole : Part) (part : List Ty → List TypedExpr → Part) (ts ts' : List Ty) (ys ys' : List TypedExpr) → whole ≡ part ts ys → ts' ≡ ts → ys' ≡ ys →
    IfOk res (λ p. Puts a b p (part ts' ys')) → IfOk res (λ p. Puts a b p whole)
lent_call a b res whole part ts ts' ys ys' e k l w = same_put a b res whole (part ts' ys') (e ∙ (λ i. part (sym k i) (sym l i))) w

-- an array of elements, if there are such
array_step : (o : Option NamedElement) (y : TypedExpr) (n : ℕ) → value_step (array_codes o ((code_of y).codes n)) ≡ one_part y (array_items o) n
array_step None y n = let c = (code_of y).codes n in (λ j. record { items = sym (append-nil c.value) j; next = c.next; need = c.need })
array_step (Some elements) y n = refl

abbrev choice_form : TypedExpr → TypedExpr → TypedExpr → ℕ → ℕ → Part
choice_form t y z n m = chained (test_part t false n m) (λ p k. chained (value_part y k) (otherwise_part z n p))

module _ {E : Type 0} (x : TypedExpr) (a b : Body) (res : Result ℕ E) where
  pub put_slot : (slot : ℕ) (k : Option Kind) → x.kind ≡ form.Local slot → k ≡ kind_of_type x.ty → IfOk res (λ p. Puts a b p (value_step (local_codes k slot a.labels))) → IfOk res (λ p. Puts a b p (core_part x a.labels))
  put_slot slot k h e w = same_put a b res (core_part x a.labels) (value_step (local_codes k slot a.labels)) (core_local x a.labels slot h ∙ ap (λ (o : Option Kind). value_step (local_codes o slot a.labels)) (sym e)) w

  pub put_cast : (class : Word) (y y' : TypedExpr) → x.kind ≡ form.Cast class y → y' ≡ y →
      IfOk res (λ p. Puts a b p (one_part y' (Uses CheckCast (ClassOf (internal_name class)) ∷ []) a.labels)) → IfOk res (λ p. Puts a b p (core_part x a.labels))
  put_cast class y y' h k w = lent a b res (core_part x a.labels) (λ (z : TypedExpr). one_part z (Uses CheckCast (ClassOf (internal_name class)) ∷ []) a.labels) y y' (core_cast x a.labels class y h) k w

  pub put_instance : (class : Word) (y y' : TypedExpr) → x.kind ≡ form.InstanceOf y class → y' ≡ y →
      IfOk res (λ p. Puts a b p (one_part y' (Uses InstanceOf (ClassOf (internal_name class)) ∷ []) a.labels)) → IfOk res (λ p. Puts a b p (core_part x a.labels))
  put_instance class y y' h k w = lent a b res (core_part x a.labels) (λ (z : TypedExpr). one_part z (Uses InstanceOf (ClassOf (internal_name class)) ∷ []) a.labels) y y' (core_instance x a.labels y class h) k w

  pub put_field : (class name : Word) (y y' : TypedExpr) → x.kind ≡ form.Field y class name → y' ≡ y →
      IfOk res (λ p. Puts a b p (one_part y' (Uses GetField (FieldOf (key_of class name x.ty)) ∷ []) a.labels)) → IfOk res (λ p. Puts a b p (core_part x a.labels))
  put_field class name y y' h k w = lent a b res (core_part x a.labels) (λ (z : TypedExpr). one_part z (Uses GetField (FieldOf (key_of class name x.ty)) ∷ []) a.labels) y y' (core_field x a.labels y class name h) k w

  pub put_length : (y y' : TypedExpr) → x.kind ≡ form.Length y → y' ≡ y → IfOk res (λ p. Puts a b p (one_part y' (Plain ArrayLength ∷ []) a.labels)) → IfOk res (λ p. Puts a b p (core_part x a.labels))
  put_length y y' h k w = lent a b res (core_part x a.labels) (λ (z : TypedExpr). one_part z (Plain ArrayLength ∷ []) a.labels) y y' (core_length x a.labels y h) k w

  pub put_print : (y y' : TypedExpr) → x.kind ≡ form.Print y → y' ≡ y →
      IfOk res (λ p. Puts a b p (at_least 1 (one_part y' (io (codes "print") (codes "(I)V") ∷ []) a.labels))) → IfOk res (λ p. Puts a b p (core_part x a.labels))
  put_print y y' h k w = lent a b res (core_part x a.labels) (λ (z : TypedExpr). at_least 1 (one_part z (io (codes "print") (codes "(I)V") ∷ []) a.labels)) y y' (core_print x a.labels y h) k w

  array_form : (elem : Ty) (y : TypedExpr) → x.kind ≡ form.NewArray elem y → core_part x a.labels ≡ one_part y (array_items (elements_of elem)) a.labels
  array_form elem y h = core_new_array x a.labels elem y h ∙ array_step (elements_of elem) y a.labels

  pub put_array : (elem : Ty) (y y' : TypedExpr) → x.kind ≡ form.NewArray elem y → y' ≡ y →
      IfOk res (λ p. Puts a b p (one_part y' (array_items (elements_of elem)) a.labels)) → IfOk res (λ p. Puts a b p (core_part x a.labels))
  put_array elem y y' h k w = lent a b res (core_part x a.labels) (λ (z : TypedExpr). one_part z (array_items (elements_of elem)) a.labels) y y' (array_form elem y h) k w

  pub put_static_call : (class name : Word) (ts ts' : List Ty) (ys ys' : List TypedExpr) → x.kind ≡ form.CallStatic class name ts ys → ts' ≡ ts → ys' ≡ ys →
      IfOk res (λ p. Puts a b p (at_least 1 (row_part ys' (Uses InvokeStatic (named (method_of class name ts' x.ty) ts' x.ty) ∷ []) a.labels))) → IfOk res (λ p. Puts a b p (core_part x a.labels))
  put_static_call class name ts ts' ys ys' h k l w =
      lent_call a b res (core_part x a.labels) (λ (vs : List Ty) (zs : List TypedExpr). at_least 1 (row_part zs (Uses InvokeStatic (named (method_of class name vs x.ty) vs x.ty) ∷ []) a.labels)) ts ts' ys ys' (core_static_call x a.labels class name ts ys h) k l w

  pub put_super : (class name : Word) (ts ts' : List Ty) (ys ys' : List TypedExpr) → x.kind ≡ form.CallSuper class name ts ys → ts' ≡ ts → ys' ≡ ys →
      IfOk res (λ p. Puts a b p (at_least 1 (between_part (Plain (Load Reference 0) ∷ []) 1 ys' (Uses InvokeSpecial (family (method_of class name ts' x.ty) ts' x.ty) ∷ []) a.labels))) → IfOk res (λ p. Puts a b p (core_part x a.labels))
  put_super class name ts ts' ys ys' h k l w =
      lent_call a b res (core_part x a.labels) (λ (vs : List Ty) (zs : List TypedExpr). at_least 1 (between_part (Plain (Load Reference 0) ∷ []) 1 zs (Uses InvokeSpecial (family (method_of class name vs x.ty) vs x.ty) ∷ []) a.labels)) ts ts' ys ys' (core_super x a.labels class name ts ys h) k l w

  pub put_new : (class : Word) (ts ts' : List Ty) (ys ys' : List TypedExpr) → x.kind ≡ form.New class ts ys → ts' ≡ ts → ys' ≡ ys →
      IfOk res (λ p. Puts a b p (between_part (Uses MakeObject (ClassOf (internal_name class)) ∷ Plain Dup ∷ []) 2 ys' (construction class ts' ∷ []) a.labels)) → IfOk res (λ p. Puts a b p (core_part x a.labels))
  put_new class ts ts' ys ys' h k l w =
      lent_call a b res (core_part x a.labels) (λ (vs : List Ty) (zs : List TypedExpr). between_part (Uses MakeObject (ClassOf (internal_name class)) ∷ Plain Dup ∷ []) 2 zs (construction class vs ∷ []) a.labels) ts ts' ys ys' (core_new x a.labels class ts ys h) k l w

  -- two operands
  pub put_index : (c : Body) (p : ℕ) (y y' z z' : TypedExpr) (i : Instr) → x.kind ≡ form.Index y z → y' ≡ y → z' ≡ z → i ≡ LoadElement (element_kind_of x.ty) →
      Puts a c p (value_part y' a.labels) → IfOk res (λ q. Puts c b q (second_part z' (Plain i ∷ []) p c.labels)) → IfOk res (λ q. Puts a b q (core_part x a.labels))
  put_index c p y y' z z' i h k l m v w =
      same_put a b res (core_part x a.labels) (chained (value_part y' a.labels) (second_part z' (Plain i ∷ [])))
      (core_index x a.labels y z h ∙ (λ j. chained (value_part (sym k j) a.labels) (second_part (sym l j) (Plain (sym m j) ∷ [])))) (chain a c b p (value_part y' a.labels) (second_part z' (Plain i ∷ [])) res v w)

  pub put_virtual : (c : Body) (p : ℕ) (y y' : TypedExpr) (class : Word) (is_interface : Bool) (name : Word) (ts ts' : List Ty) (ys ys' : List TypedExpr) → x.kind ≡ form.CallVirtual y class is_interface name ts ys → y' ≡ y → ts' ≡ ts → ys' ≡ ys →
      Puts a c p (value_part y' a.labels) → IfOk res (λ q. Puts c b q (received_part ys' (virtual_call is_interface (method_of class name ts' x.ty) ts' x.ty ∷ []) p c.labels)) → IfOk res (λ q. Puts a b q (core_part x a.labels))
  put_virtual c p y y' class is_interface name ts ts' ys ys' h k l m v w =
      same_put a b res (core_part x a.labels) (chained (value_part y' a.labels) (received_part ys' (virtual_call is_interface (method_of class name ts' x.ty) ts' x.ty ∷ [])))
      (core_virtual x a.labels y class is_interface name ts ys h ∙ (λ j. chained (value_part (sym k j) a.labels) (received_part (sym m j) (virtual_call is_interface (method_of class name (sym l j) x.ty) (sym l j) x.ty ∷ []))))
      (chain a c b p (value_part y' a.labels) (received_part ys' (virtual_call is_interface (method_of class name ts' x.ty) ts' x.ty ∷ [])) res v w)

  -- one of two, by a test
  pub put_choice : (l c d : Body) (n p q : ℕ) (t t' y y' z z' : TypedExpr) → x.kind ≡ form.Cond t y z → t' ≡ t → y' ≡ y → z' ≡ z → n ≡ a.labels → l.labels ≡ a.labels + 2 → l.lines.items ≡ a.lines.items →
      Puts l c p (test_part t' false n l.labels) → Puts c d q (value_part y' c.labels) → IfOk res (λ r. Puts d b r (otherwise_part z' n p q d.labels)) → IfOk res (λ r. Puts a b r (core_part x a.labels))
  put_choice l c d n p q t t' y y' z z' h ht hy hz hn more lines tested first second =
      let inner : IfOk res (λ r. Puts c b r (chained (value_part y' c.labels) (otherwise_part z' n p))) = chain c d b q (value_part y' c.labels) (otherwise_part z' n p) res first second in
      let front : Puts a c p (test_part t' false n (a.labels + 2)) = after_labels a l c p (a.labels + 2) (λ (m : ℕ). test_part t' false n m) more lines tested in
      same_put a b res (core_part x a.labels) (choice_form t' y' z' n (a.labels + 2)) (core_choice x a.labels t y z h ∙ (λ j. choice_form (sym ht j) (sym hy j) (sym hz j) (sym hn j) (a.labels + 2)))
      (chain a c b p (test_part t' false n (a.labels + 2)) (λ (r m : ℕ). chained (value_part y' m) (otherwise_part z' n r)) res front inner)

  -- operators
  pub put_signed : (sign : ℕ) (y y' : TypedExpr) (o : Option PrefixSign) → x.kind ≡ form.Unary sign y → option_map prefix_as o ≡ prefix_of sign → y' ≡ y →
      IfOk res (λ p. Puts a b p (value_step (prefix_codes (option_map prefix_as o) (code_of y') a.labels))) → IfOk res (λ p. Puts a b p (core_part x a.labels))
  put_signed sign y y' o h e k w =
      same_put a b res (core_part x a.labels) (value_step (prefix_codes (option_map prefix_as o) (code_of y') a.labels))
      (core_unary x a.labels sign y h ∙ (λ j. value_step (prefix_codes (sym e j) (code_of (sym k j)) a.labels))) w

  pub put_operates : (c : Body) (p : ℕ) (sign : ℕ) (y y' z z' : TypedExpr) (o : Option InfixSign) (op : BinaryOp) → x.kind ≡ form.Binary sign y z → option_map infix_as o ≡ infix_of sign → o ≡ Some (between.Operates op) → y' ≡ y → z' ≡ z →
      Puts a c p (value_part y' a.labels) → IfOk res (λ q. Puts c b q (second_part z' (Plain (Binary op) ∷ []) p c.labels)) → IfOk res (λ q. Puts a b q (core_part x a.labels))
  put_operates c p sign y y' z z' o op h e f k l v w =
      let g : infix_of sign ≡ Some (Operates op) = sym e ∙ ap (option_map infix_as) f in
      same_put a b res (core_part x a.labels) (chained (value_part y' a.labels) (second_part z' (Plain (Binary op) ∷ [])))
      (core_binary x a.labels sign y z h ∙ (ap (λ (i : Option Infix). value_step (infix_codes i (code_of y) (code_of z) a.labels)) g ∙ (λ j. chained (value_part (sym k j) a.labels) (second_part (sym l j) (Plain (Binary op) ∷ [])))))
      (chain a c b p (value_part y' a.labels) (second_part z' (Plain (Binary op) ∷ [])) res v w)

  pub put_by_test : (sign : ℕ) (y z : TypedExpr) → x.kind ≡ form.Binary sign y z → IfOk res (λ p. Puts a b p (value_part x a.labels)) → IfOk res (λ p. Puts a b p (core_part x a.labels))
  put_by_test sign y z h w = same_put a b res (core_part x a.labels) (value_part x a.labels) (core_binary x a.labels sign y z h ∙ sym (value_binary x a.labels sign y z h)) w

-- an operator that there isn't
pub put_no_operator : (x : TypedExpr) (a : Body) (sign : ℕ) (y z : TypedExpr) (o : Option InfixSign) → x.kind ≡ form.Binary sign y z → option_map infix_as o ≡ infix_of sign → o ≡ None → Puts a a 0 (core_part x a.labels)
put_no_operator x a sign y z o h e f =
    let g : infix_of sign ≡ None = sym e ∙ ap (option_map infix_as) f in
    nothing_put a (core_part x a.labels) (core_binary x a.labels sign y z h ∙ ap (λ (i : Option Infix). value_step (infix_codes i (code_of y) (code_of z) a.labels)) g)
