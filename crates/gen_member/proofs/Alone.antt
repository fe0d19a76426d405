-- Declarations, returns, tests that may be left out, and the parts of what is assigned to, once their parts are written.
use Rattle.std.proofs.Common.{◌≡◌, ℕ, ◌+◌, [], ◌∷◌, ◌++◌, false, Option, Some, None, Result, refl, sym, ap, ◌∙◌, subst}
use Rattle.std.specs.Prelude.{max, IfOk}
use Rattle.jp_pred.specs.Names.{Word}
use Rattle.jp_store.specs.declared.value.Kind.{Kind}
use Rattle.jp_meaning.specs.declared.expr.TypedExpr.{TypedExpr}
use Rattle.jp_meaning.specs.declared.expr.TypedKind.TheVariants as form
use Rattle.jp_meaning.specs.Descriptors.{kind_of_type}
use Rattle.jvm_table.specs.declared.instr.Instr.TheVariants.{Store, ReturnVoid}
use Rattle.code_asm.specs.Items.{Plain}
use Rattle.code_asm.specs.Lines.{lines_of}
use Rattle.gen_body.specs.Codes.{Coded, SpotCodes, coded_step}
use Rattle.gen_body.specs.Statements.{Part}
use Rattle.gen_code.specs.declared.body.Body.{Body}
use Rattle.gen_code.specs.Emitted.{code_of}
use Rattle.gen_parts.specs.Emits.{Puts, Ends, value_part, test_part}
use Rattle.gen_member.specs.Blocks.{declared_part, return_items, return_part, true_test_part, loop_test_part, spot_part}
use Rattle.gen_expr.proofs.Steps.{puts, puts_both}
use Rattle.gen_expr.proofs.Walks.{walk_field, walk_index}
use Rattle.gen_expr.proofs.Arms.{nothing_put, same_put, part_ends}

-- DECLARATIONS

pub no_kind : (k : Option Kind) (slot : ℕ) (v : Option TypedExpr) (a : Body) → k ≡ None → Puts a a 0 (declared_part k slot v a.labels)
no_kind k slot v a e = nothing_put a (declared_part k slot v a.labels) (ap (λ (o : Option Kind). declared_part o slot v a.labels) e)

module _ {E : Type 0} (a b : Body) (res : Result ℕ E) where
  pub of_kind : (k : Option Kind) (kind : Kind) (slot : ℕ) (v : Option TypedExpr) → k ≡ Some kind → IfOk res (λ p. Puts a b p (declared_part (Some kind) slot v a.labels)) → IfOk res (λ p. Puts a b p (declared_part k slot v a.labels))
  of_kind k kind slot v e w = same_put a b res (declared_part k slot v a.labels) (declared_part (Some kind) slot v a.labels) (ap (λ (o : Option Kind). declared_part o slot v a.labels) e) w

  pub of_none : (kind : Kind) (slot : ℕ) (v : Option TypedExpr) → v ≡ None → IfOk res (λ p. Puts a b p (declared_part (Some kind) slot None a.labels)) → IfOk res (λ p. Puts a b p (declared_part (Some kind) slot v a.labels))
  of_none kind slot v e w = same_put a b res (declared_part (Some kind) slot v a.labels) (declared_part (Some kind) slot None a.labels) (ap (λ (o : Option TypedExpr). declared_part (Some kind) slot o a.labels) e) w

  pub of_value : (c : Body) (p : ℕ) (kind : Kind) (slot : ℕ) (v : Option TypedExpr) (x : TypedExpr) → v ≡ Some x → Puts a c p (value_part x a.labels) → IfOk res (λ q. Ends c b (Plain (Store kind slot) ∷ []) q p) →
      IfOk res (λ q. Puts a b q (declared_part (Some kind) slot v a.labels))
  of_value c p kind slot v x e h w =
      same_put a b res (declared_part (Some kind) slot v a.labels) (declared_part (Some kind) slot (Some x) a.labels) (ap (λ (o : Option TypedExpr). declared_part (Some kind) slot o a.labels) e)
      (part_ends a c b p (value_part x a.labels) (Plain (Store kind slot) ∷ []) (λ (n : ℕ). n) res h w)

  -- RETURNS

  pub returned : (c : Body) (p : ℕ) (v : Option TypedExpr) (x : TypedExpr) (k : Option Kind) → v ≡ Some x → k ≡ kind_of_type x.ty → Puts a c p (value_part x a.labels) → IfOk res (λ q. Ends c b (return_items k) q p) → IfOk res (λ q. Puts a b q (return_part v a.labels))
  returned c p v x k e f h w =
      let one = value_part x a.labels in
      let at : Option Kind → Part = λ o. record { items = one.items ++ return_items o; next = one.next; need = one.need } in
      same_put a b res (return_part v a.labels) (at k) (ap (λ (o : Option TypedExpr). return_part o a.labels) e ∙ ap at (sym f)) (part_ends a c b p one (return_items k) (λ (n : ℕ). n) res h w)

  -- TESTS

  pub tested_true : (v : Option TypedExpr) (to : ℕ) → v ≡ None → IfOk res (λ p. Puts a b p (true_test_part to a.labels)) → IfOk res (λ p. Puts a b p (loop_test_part v to a.labels))
  tested_true v to e w = same_put a b res (loop_test_part v to a.labels) (true_test_part to a.labels) (ap (λ (o : Option TypedExpr). loop_test_part o to a.labels) e) w

  pub tested : (v : Option TypedExpr) (x : TypedExpr) (to : ℕ) → v ≡ Some x → IfOk res (λ p. Puts a b p (test_part x false to a.labels)) → IfOk res (λ p. Puts a b p (loop_test_part v to a.labels))
  tested v x to e w = same_put a b res (loop_test_part v to a.labels) (test_part x false to a.labels) (ap (λ (o : Option TypedExpr). loop_test_part o to a.labels) e) w

pub returned_void : (a b : Body) (v : Option TypedExpr) → v ≡ None → b.lines.items ≡ a.lines.items ++ lines_of (Plain ReturnVoid ∷ []) → b.labels ≡ a.labels → Puts a b 0 (return_part v a.labels)
returned_void a b v e lines labels =
    subst (Puts a b 0) (sym (ap (λ (o : Option TypedExpr). return_part o a.labels) e)) (puts a b 0 0 (Plain ReturnVoid ∷ []) (record { lines = lines; labels = labels }) refl)

-- PLACES

abbrev spot_of : SpotCodes → Part
spot_of s = record { items = s.items; next = s.next; need = s.need }

abbrev two_values : TypedExpr → TypedExpr → ℕ → Part
two_values y z n = let c = value_part y n in let d = value_part z c.next in record { items = c.items ++ d.items; next = d.next; need = max c.need (1 + d.need) }

module _ (x : TypedExpr) (n : ℕ) where
  spot_field : (y : TypedExpr) (class name : Word) → x.kind ≡ form.Field y class name → spot_part x n ≡ value_part y n
  unfolding code_of
  spot_field y class name h = ap (λ (c : Coded). spot_of (c.spot n)) (walk_field coded_step x y class name h)

  spot_index : (y z : TypedExpr) → x.kind ≡ form.Index y z → spot_part x n ≡ two_values y z n
  unfolding code_of
  spot_index y z h = ap (λ (c : Coded). spot_of (c.spot n)) (walk_index coded_step x y z h)

pub field_spot : {E : Type 0} (x : TypedExpr) (a b : Body) (res : Result ℕ E) (class name : Word) (y y' : TypedExpr) → x.kind ≡ form.Field y class name → y' ≡ y → IfOk res (λ p. Puts a b p (value_part y' a.labels)) → IfOk res (λ p. Puts a b p (spot_part x a.labels))
field_spot x a b res class name y y' h k w = same_put a b res (spot_part x a.labels) (value_part y' a.labels) (spot_field x a.labels y class name h ∙ ap (λ (z : TypedExpr). value_part z a.labels) (sym k)) w

pub element_spot : (x : TypedExpr) (a b c : Body) (p q r s : ℕ) (y y' z z' : TypedExpr) → x.kind ≡ form.Index y z → y' ≡ y → z' ≡ z → Puts a b p (value_part y' a.labels) → Puts b c q (value_part z' b.labels) → s ≡ 1 + q → r ≡ max p s → Puts a c r (spot_part x a.labels)
element_spot x a b c p q r s y y' z z' h k l v w e f =
    let one = value_part y' a.labels in
    let w' : Puts b c q (value_part z' one.next) = subst (λ (n : ℕ). Puts b c q (value_part z' n)) v.labels w in
    let is : spot_part x a.labels ≡ two_values y' z' a.labels = spot_index x a.labels y z h ∙ (λ i. two_values (sym k i) (sym l i) a.labels) in
    subst (Puts a c r) (sym is) (puts_both a b c p q r (max one.need (1 + (value_part z' one.next).need)) one (λ (n : ℕ). value_part z' n) v w (f ∙ (ap (λ (n : ℕ). max p n) e ∙ (λ j. max (v.need j) (1 + w'.need j)))))
