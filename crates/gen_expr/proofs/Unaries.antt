-- The value of an operator in front of its operand, from the operand's code.
use Rattle.std.proofs.Common.{◌≡◌, ℕ, ◌+◌, List, [], ◌∷◌, ◌++◌, true, Option, Some, None, Result, refl, sym, ap, ◌∙◌}
use Rattle.std.specs.Prelude.{max, negsuc, IfOk}
use Rattle.std.specs.Option.{option_map}
use Rattle.jp_store.specs.declared.operator.BinaryOp.TheVariants.{Xor}
use Rattle.jp_meaning.specs.declared.expr.TypedExpr.{TypedExpr}
use Rattle.jvm_table.specs.declared.instr.Instr.TheVariants.{PushInt, Binary, Negate}
use Rattle.code_asm.specs.Items.{Item, Plain}
use Rattle.gen_body.specs.Codes.{choose_truth, prefix_codes}
use Rattle.gen_body.specs.Statements.{Part}
use Rattle.gen_code.specs.declared.body.Body.{Body}
use Rattle.gen_code.specs.declared.signs.Prefix.{Prefix as PrefixSign}
use Rattle.gen_code.specs.declared.signs.Prefix.TheVariants as front
use Rattle.gen_code.specs.Emitted.{code_of, prefix_as}
use Rattle.gen_parts.specs.Emits.{Puts, Ends, value_step, value_part, test_part, one_part}
use Rattle.gen_expr.proofs.Arms.{nothing_put, same_put, part_ends, after_labels}

abbrev signed : Option PrefixSign → TypedExpr → ℕ → Part
signed s y n = value_step (prefix_codes (option_map prefix_as s) (code_of y) n)

pub put_no_sign : (s : Option PrefixSign) (y : TypedExpr) (a : Body) → s ≡ None → Puts a a 0 (value_step (prefix_codes (option_map prefix_as s) (code_of y) a.labels))
put_no_sign s y a e = nothing_put a (signed s y a.labels) (ap (λ (o : Option PrefixSign). signed o y a.labels) e)

module _ {E : Type 0} (s : Option PrefixSign) (y : TypedExpr) (a b : Body) (res : Result ℕ E) where
  by_sign : (q : PrefixSign) (part : Part) → s ≡ Some q → signed (Some q) y a.labels ≡ part → IfOk res (λ p. Puts a b p part) → IfOk res (λ p. Puts a b p (signed s y a.labels))
  by_sign q part e f h = same_put a b res (signed s y a.labels) part (ap (λ (o : Option PrefixSign). signed o y a.labels) e ∙ f) h

  pub put_plus : s ≡ Some front.Plus → IfOk res (λ p. Puts a b p (value_part y a.labels)) → IfOk res (λ p. Puts a b p (value_step (prefix_codes (option_map prefix_as s) (code_of y) a.labels)))
  put_plus e h = by_sign front.Plus (value_part y a.labels) e refl h

  pub put_minus : s ≡ Some front.Minus → IfOk res (λ p. Puts a b p (one_part y (Plain Negate ∷ []) a.labels)) → IfOk res (λ p. Puts a b p (value_step (prefix_codes (option_map prefix_as s) (code_of y) a.labels)))
  put_minus e h = by_sign front.Minus (one_part y (Plain Negate ∷ []) a.labels) e refl h

  pub put_complement : (c : Body) (p : ℕ) → s ≡ Some front.Complement → Puts a c p (value_part y a.labels) → IfOk res (λ q. Ends c b (Plain (PushInt (negsuc 0)) ∷ Plain (Binary Xor) ∷ []) q (max p 2)) →
      IfOk res (λ q. Puts a b q (value_step (prefix_codes (option_map prefix_as s) (code_of y) a.labels)))
  put_complement c p e h k =
      let xs : List Item = Plain (PushInt (negsuc 0)) ∷ Plain (Binary Xor) ∷ [] in
      let v = value_part y a.labels in
      by_sign front.Complement (record { items = v.items ++ xs; next = v.next; need = max v.need 2 }) e refl (part_ends a c b p v xs (λ (n : ℕ). max n 2) res h k)

  pub put_not : (l c : Body) (n p : ℕ) → s ≡ Some front.Not → n ≡ a.labels → l.labels ≡ a.labels + 2 → l.lines.items ≡ a.lines.items → Puts l c p (test_part y true n l.labels) → IfOk res (λ q. Ends c b (choose_truth n) q (max p 1)) →
      IfOk res (λ q. Puts a b q (value_step (prefix_codes (option_map prefix_as s) (code_of y) a.labels)))
  put_not l c n p e hn more lines h k =
      let t : ℕ → Part = λ m. test_part y true m (a.labels + 2) in
      let h' : Puts a c p (t n) = after_labels a l c p (a.labels + 2) (λ (m : ℕ). test_part y true n m) more lines h in
      let whole : ℕ → Part = λ m. record { items = (t m).items ++ choose_truth m; next = (t m).next; need = max (t m).need 1 } in
      by_sign front.Not (whole n) e (ap whole (sym hn)) (part_ends a c b p (t n) (choose_truth n) (λ (m : ℕ). max m 1) res h' k)
