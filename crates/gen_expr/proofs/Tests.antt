-- The tests of operators between two operands, from the parts of these.
use Rattle.std.proofs.Common.{◌≡◌, ℕ, ◌+◌, List, [], ◌∷◌, ◌++◌, Bool, true, false, not, Option, Some, None, refl, sym, ap, ◌∙◌}
use Rattle.std.specs.Prelude.{max}
use Rattle.std.specs.Option.{option_map}
use Rattle.jp_pred.specs.Kinds.{is_reference}
use Rattle.jp_store.specs.declared.operator.BinaryOp.{BinaryOp}
use Rattle.jp_store.specs.declared.operator.Test.{Test}
use Rattle.jp_meaning.specs.declared.expr.TypedExpr.{TypedExpr}
use Rattle.jp_meaning.specs.declared.expr.TypedKind.TheVariants as form
use Rattle.jp_meaning.specs.Signs.{Infix, Operates, Compares, AndThen, OrElse, infix_of}
use Rattle.code_asm.specs.Items.{Branch, Mark}
use Rattle.gen_body.specs.Codes.{Literal, jump_by, compare_codes, infix_codes}
use Rattle.gen_body.specs.Statements.{Part}
use Rattle.gen_code.specs.Emitted.{code_of}
use Rattle.gen_parts.specs.Emits.{is_alone, jump_alone, test_step, test_part, value_part}
use Rattle.gen_expr.proofs.Judging.{test_binary, compare_alone, compare_two}

module _ (x : TypedExpr) (n : ℕ) (want : Bool) (to sign : ℕ) (y z : TypedExpr) (h : x.kind ≡ form.Binary sign y z) where
  by_infix : (i : Option Infix) → infix_of sign ≡ i → test_part x want to n ≡ test_step (infix_codes i (code_of y) (code_of z) n) want to
  by_infix i e = test_binary x n want to sign y z h ∙ ap (λ (o : Option Infix). test_step (infix_codes o (code_of y) (code_of z) n) want to) e

  pub test_alone : (test : Test) (b : Bool) (l : Literal) → infix_of sign ≡ Some (Compares test) → b ≡ is_reference (code_of y).ty → l ≡ (code_of z).literal → is_alone b l ≡ true → test_part x want to n ≡
      (let c = value_part y (n + 2) in record { items = c.items ++ Branch (jump_alone b test want) to ∷ []; next = c.next; need = max c.need 1 })
  test_alone test b l e f g k =
      by_infix (Some (Compares test)) e ∙ (ap (λ (r : Bool). test_step (compare_codes r (code_of z).literal test (code_of y) (code_of z) n) want to) (sym f)
      ∙ (ap (λ (r : Literal). test_step (compare_codes b r test (code_of y) (code_of z) n) want to) (sym g) ∙ compare_alone b l test (code_of y) (code_of z) n want to k))

  pub test_two : (test : Test) (b : Bool) (l : Literal) → infix_of sign ≡ Some (Compares test) → b ≡ is_reference (code_of y).ty → l ≡ (code_of z).literal → is_alone b l ≡ false → test_part x want to n ≡
      (let c = value_part y (n + 2) in let d = value_part z c.next in record { items = c.items ++ (d.items ++ Branch (jump_by b test want) to ∷ []); next = d.next; need = max (max c.need (1 + d.need)) 1 })
  test_two test b l e f g k =
      by_infix (Some (Compares test)) e ∙ (ap (λ (r : Bool). test_step (compare_codes r (code_of z).literal test (code_of y) (code_of z) n) want to) (sym f)
      ∙ (ap (λ (r : Literal). test_step (compare_codes b r test (code_of y) (code_of z) n) want to) (sym g) ∙ compare_two b l test (code_of y) (code_of z) n want to k))

module _ (x : TypedExpr) (n to sign : ℕ) (y z : TypedExpr) (h : x.kind ≡ form.Binary sign y z) where
  pub and_true : infix_of sign ≡ Some AndThen → test_part x true to n ≡
      (let c = test_part y false (n + 2) (n + 3) in let d = test_part z true to c.next in record { items = c.items ++ (d.items ++ Mark (n + 2) ∷ []); next = d.next; need = max (max c.need d.need) 1 })
  and_true e = by_infix x n true to sign y z h (Some AndThen) e

  pub and_false : infix_of sign ≡ Some AndThen → test_part x false to n ≡
      (let c = test_part y false to (n + 3) in let d = test_part z false to c.next in record { items = c.items ++ d.items; next = d.next; need = max (max c.need d.need) 1 })
  and_false e = by_infix x n false to sign y z h (Some AndThen) e

  pub or_true : infix_of sign ≡ Some OrElse → test_part x true to n ≡
      (let c = test_part y true to (n + 3) in let d = test_part z true to c.next in record { items = c.items ++ d.items; next = d.next; need = max (max c.need d.need) 1 })
  or_true e = by_infix x n true to sign y z h (Some OrElse) e

  pub or_false : infix_of sign ≡ Some OrElse → test_part x false to n ≡
      (let c = test_part y true (n + 2) (n + 3) in let d = test_part z false to c.next in record { items = c.items ++ (d.items ++ Mark (n + 2) ∷ []); next = d.next; need = max (max c.need d.need) 1 })
  or_false e = by_infix x n false to sign y z h (Some OrElse) e
