-- Values, what is done, and tests, by what was written of them.
use Rattle.std.proofs.Common.{◌≡◌, ℕ, ◌+◌, List, [], ◌∷◌, ◌++◌, Bool, true, false, not, Option, Some, None, Result, refl, sym, ap, ◌∙◌, subst, append-nil}
use Rattle.std.specs.Prelude.{max, IfOk}
use Rattle.std.specs.Option.{option_map}
use Rattle.jp_pred.specs.declared.ty.Ty.{Ty}
use Rattle.jp_pred.specs.Kinds.{is_reference}
use Rattle.jp_store.specs.declared.operator.Test.{Test}
use Rattle.jp_meaning.specs.declared.expr.TypedExpr.{TypedExpr}
use Rattle.jp_meaning.specs.declared.expr.TypedKind.TheVariants as form
use Rattle.jp_meaning.specs.Signs.{Infix, Operates, Compares, AndThen, OrElse, infix_of}
use Rattle.jvm_table.specs.declared.instr.Instr.TheVariants.{PushNull, PopTop}
use Rattle.jvm_table.specs.declared.instr.Jump.{Jump}
use Rattle.code_asm.specs.Items.{Item, Plain, Branch, Mark}
use Rattle.code_asm.specs.Lines.{lines_of}
use Rattle.gen_body.specs.Codes.{Literal, choose_truth, jump_where, jump_by}
use Rattle.gen_body.specs.Statements.{Part}
use Rattle.gen_code.specs.declared.body.Body.{Body}
use Rattle.gen_code.specs.declared.signs.Infix.{Infix as InfixSign}
use Rattle.gen_code.specs.declared.signs.Infix.TheVariants as between
use Rattle.gen_code.specs.declared.literals.Literal.{Literal as KnownLiteral}
use Rattle.gen_code.specs.Emitted.{code_of, shape_of, infix_as, literal_as, CodeHasItsShape}
use Rattle.gen_parts.specs.Emits.{Puts, Adds, core_of, null_for, drop_for, core_part, value_part, done_part, test_part, judges, judges_infix, is_alone, jump_alone, one_part, at_least, chained, second_part, first_goes, skipped, other_part}
use Rattle.gen_expr.proofs.Steps.{behind, puts_then}
use Rattle.gen_expr.proofs.Arms.{same_put, chain, after_labels, all_after_labels}
use Rattle.gen_expr.proofs.Judging.{jumps_by_value, judged_value, judges_binary, test_not}
use Rattle.gen_expr.proofs.Tests.{test_alone, test_two, and_true, and_false, or_true, or_false}

-- A VALUE, AND NOTHING

value_is : CodeHasItsShape → (x : TypedExpr) (n : ℕ) (v : Bool) → (shape_of x).void ≡ v → ((code_of x).codes n).value ≡ core_of v ((code_of x).codes n) ++ null_for v
value_is law x n true h = (law x).void n h
value_is law x n false h = sym (append-nil ((code_of x).codes n).value)

done_is : CodeHasItsShape → (x : TypedExpr) (n : ℕ) (v : Bool) → (shape_of x).void ≡ v → ((code_of x).codes n).done ≡ core_of v ((code_of x).codes n) ++ drop_for v
done_is law x n true h = sym (append-nil ((code_of x).codes n).done)
done_is law x n false h = (law x).full n h

-- a part with other items behind it
with_items : (a b c : Body) (p : ℕ) (part : Part) (ys xs : List Item) → xs ≡ part.items ++ ys → Puts a b p part → Adds b c ys → Puts a c p (record { items = xs; next = part.next; need = part.need })
with_items a b c p part ys xs e h k =
    subst (λ (zs : List Item). Puts a c p (record { items = zs; next = part.next; need = part.need })) (sym e) (puts_then a b c p p part.need part ys h k h.need)

module _ (law : CodeHasItsShape) (x : TypedExpr) (a b c : Body) (p : ℕ) (v : Bool) (e : v ≡ (shape_of x).void) (h : Puts a b p (core_part x a.labels)) where
  pub given_value : Adds b c (null_for v) → Puts a c p (value_part x a.labels)
  given_value k =
      let d = (code_of x).codes a.labels in
      let is : d.value ≡ core_of (shape_of x).void d ++ null_for v = value_is law x a.labels v (sym e) ∙ ap (λ (w : Bool). core_of w d ++ null_for v) e in
      with_items a b c p (core_part x a.labels) (null_for v) d.value is h k

  pub dropped_value : Adds b c (drop_for v) → Puts a c p (done_part x a.labels)
  dropped_value k =
      let d = (code_of x).codes a.labels in
      let is : d.done ≡ core_of (shape_of x).void d ++ drop_for v = done_is law x a.labels v (sym e) ∙ ap (λ (w : Bool). core_of w d ++ drop_for v) e in
      with_items a b c p (core_part x a.labels) (drop_for v) d.done is h k

-- TESTS

-- the test of what is no condition jumps by its value
pub jumped : (x : TypedExpr) (a b c : Body) (p : ℕ) (want : Bool) (to : ℕ) (j : Jump) → judges x ≡ false → j ≡ jump_where want → Puts a b p (value_part x a.labels) →
    c.lines.items ≡ b.lines.items ++ lines_of (Branch j to ∷ []) → c.labels ≡ b.labels → Puts a c p (test_part x want to a.labels)
jumped x a b c p want to j n e h l m =
    let d = (code_of x).codes a.labels in
    let is : d.test want to ≡ d.value ++ Branch j to ∷ [] = jumps_by_value x a.labels n want to ∙ ap (λ (k : Jump). d.value ++ Branch k to ∷ []) (sym e) in
    with_items a b c p (value_part x a.labels) (Branch j to ∷ []) (d.test want to) is h (record { lines = l; labels = m })

-- the value of a condition is chosen behind its test
pub judged_put : (x : TypedExpr) (a b c : Body) (p : ℕ) → judges x ≡ true → Puts a b p (test_part x false a.labels a.labels) →
    c.lines.items ≡ b.lines.items ++ lines_of (choose_truth a.labels) → c.labels ≡ b.labels → Puts a c p (value_part x a.labels)
judged_put x a b c p j h l m =
    with_items a b c p (test_part x false a.labels a.labels) (choose_truth a.labels) ((code_of x).codes a.labels).value (judged_value x a.labels j) h (record { lines = l; labels = m })

-- what is a condition by its operator
pub judged_by : (x : TypedExpr) (sign : ℕ) (y z : TypedExpr) (o q : Option InfixSign) → x.kind ≡ form.Binary sign y z → option_map infix_as o ≡ infix_of sign → o ≡ q → judges_infix (option_map infix_as q) ≡ true → judges x ≡ true
judged_by x sign y z o q h e f j = judges_binary x sign y z h ∙ (ap judges_infix (sym e) ∙ (ap (λ (r : Option InfixSign). judges_infix (option_map infix_as r)) f ∙ j))

-- what is none
pub unjudged_by : (x : TypedExpr) (sign : ℕ) (y z : TypedExpr) (o q : Option InfixSign) → judges x ≡ true → x.kind ≡ form.Binary sign y z → option_map infix_as o ≡ infix_of sign → o ≡ q → judges_infix (option_map infix_as q) ≡ false → ⊥
unjudged_by x sign y z o q k h e f j =
    let r : judges_infix (option_map infix_as o) ≡ judges_infix (option_map infix_as q) = ap (λ (r : Option InfixSign). judges_infix (option_map infix_as r)) f in
    let w : false ≡ true = sym j ∙ (sym r ∙ (ap judges_infix e ∙ (sym (judges_binary x sign y z h) ∙ k))) in (cc)

-- the test of `!`
pub judge_not : (x : TypedExpr) (a l c : Body) (p q : ℕ) (want : Bool) (to sign : ℕ) (y y' : TypedExpr) → x.kind ≡ form.Unary sign y → judges x ≡ true → y' ≡ y → l.labels ≡ a.labels + 2 → l.lines.items ≡ a.lines.items →
    Puts l c p (test_part y' (not want) to l.labels) → q ≡ max p 1 → Puts a c q (test_part x want to a.labels)
judge_not x a l c p q want to sign y y' h j k more lines w e =
    let part = λ (z : TypedExpr). test_part z (not want) to (a.labels + 2) in
    let w' : Puts a c p (part y') = after_labels a l c p (a.labels + 2) (λ (m : ℕ). test_part y' (not want) to m) more lines w in
    let is : test_part x want to a.labels ≡ at_least 1 (part y') = test_not x a.labels want to sign y h j ∙ ap (λ (z : TypedExpr). at_least 1 (part z)) (sym k) in
    subst (Puts a c q) (sym is) (record { lines = w'.lines; labels = w'.labels; need = e ∙ ap (λ (n : ℕ). max n 1) w'.need })

-- COMPARISONS, `&&` AND `||`

module _ {E : Type 0} (x : TypedExpr) (a l b : Body) (res : Result ℕ E) (want : Bool) (to sign : ℕ) (y y' z z' : TypedExpr) (o : Option InfixSign) (h : x.kind ≡ form.Binary sign y z) (g : option_map infix_as o ≡ infix_of sign) (ky : y' ≡ y) (kz : z' ≡ z)
    (lines : l.lines.items ≡ a.lines.items) where
  module _ (more : l.labels ≡ a.labels + 2) (test : Test) (t : o ≡ Some (between.Compares test)) (r : Bool) (known : KnownLiteral) (j : Jump) (is_r : r ≡ is_reference (code_of y').ty) (is_k : literal_as known ≡ (code_of z').literal) where
    compares : infix_of sign ≡ Some (Compares test)
    compares = sym g ∙ ap (option_map infix_as) t

    pub judge_alone : is_alone r (literal_as known) ≡ true → j ≡ jump_alone r test want → IfOk res (λ p. Puts l b p (at_least 1 (one_part y' (Branch j to ∷ []) l.labels))) → IfOk res (λ p. Puts a b p (test_part x want to a.labels))
    judge_alone n e w =
        let part = λ (v : TypedExpr) (i : Jump). at_least 1 (one_part v (Branch i to ∷ []) (a.labels + 2)) in
        let is : test_part x want to a.labels ≡ part y (jump_alone r test want) =
        test_alone x a.labels want to sign y z h test r (literal_as known) compares (is_r ∙ ap (λ (v : TypedExpr). is_reference (code_of v).ty) ky) (is_k ∙ ap (λ (v : TypedExpr). (code_of v).literal) kz) n in
        same_put a b res (test_part x want to a.labels) (part y' j) (is ∙ (λ i. part (sym ky i) (sym e i)))
        (all_after_labels a l b (a.labels + 2) (λ (m : ℕ). at_least 1 (one_part y' (Branch j to ∷ []) m)) res more lines w)

    pub judge_both : (c : Body) (p : ℕ) → is_alone r (literal_as known) ≡ false → j ≡ jump_by r test want → Puts l c p (value_part y' l.labels) → IfOk res (λ q. Puts c b q (at_least 1 (second_part z' (Branch j to ∷ []) p c.labels))) →
        IfOk res (λ q. Puts a b q (test_part x want to a.labels))
    judge_both c p n e v w =
        let part = λ (u1 u2 : TypedExpr) (i : Jump). chained (value_part u1 (a.labels + 2)) (λ (q m : ℕ). at_least 1 (second_part u2 (Branch i to ∷ []) q m)) in
        let is : test_part x want to a.labels ≡ part y z (jump_by r test want) =
        test_two x a.labels want to sign y z h test r (literal_as known) compares (is_r ∙ ap (λ (u : TypedExpr). is_reference (code_of u).ty) ky) (is_k ∙ ap (λ (u : TypedExpr). (code_of u).literal) kz) n in
        let v' : Puts a c p (value_part y' (a.labels + 2)) = after_labels a l c p (a.labels + 2) (λ (m : ℕ). value_part y' m) more lines v in
        same_put a b res (test_part x want to a.labels) (part y' z' j) (is ∙ (λ i. part (sym ky i) (sym kz i) (sym e i)))
        (chain a c b p (value_part y' (a.labels + 2)) (λ (q m : ℕ). at_least 1 (second_part z' (Branch j to ∷ []) q m)) res v' w)

-- two tests, of which the first decides both
abbrev tests_form : Bool → Bool → ℕ → TypedExpr → TypedExpr → ℕ → ℕ → ℕ → Part
tests_form decides want to y z skip goes m = chained (test_part y decides goes m) (other_part z decides want to skip)

and_is : (x : TypedExpr) (n : ℕ) (want : Bool) (to sign : ℕ) (y z : TypedExpr) → x.kind ≡ form.Binary sign y z → infix_of sign ≡ Some AndThen →
    test_part x want to n ≡ tests_form false want to y z (n + 2) (first_goes false want to (n + 2)) (n + 3)
and_is x n true to sign y z h e = and_true x n to sign y z h e
and_is x n false to sign y z h e =
    let c = test_part y false to (n + 3) in let d = test_part z false to c.next in
    and_false x n to sign y z h e ∙ (λ i. record { items = c.items ++ sym (append-nil d.items) i; next = d.next; need = max (max c.need d.need) 1 })

or_is : (x : TypedExpr) (n : ℕ) (want : Bool) (to sign : ℕ) (y z : TypedExpr) → x.kind ≡ form.Binary sign y z → infix_of sign ≡ Some OrElse →
    test_part x want to n ≡ tests_form true want to y z (n + 2) (first_goes true want to (n + 2)) (n + 3)
or_is x n true to sign y z h e =
    let c = test_part y true to (n + 3) in let d = test_part z true to c.next in
    or_true x n to sign y z h e ∙ (λ i. record { items = c.items ++ sym (append-nil d.items) i; next = d.next; need = max (max c.need d.need) 1 })
or_is x n false to sign y z h e = or_false x n to sign y z h e

module _ {E : Type 0} (x : TypedExpr) (a l c b : Body) (res : Result ℕ E) (want : Bool) (to sign : ℕ) (y y' z z' : TypedExpr) (o : Option InfixSign) (n goes p : ℕ) (h : x.kind ≡ form.Binary sign y z) (g : option_map infix_as o ≡ infix_of sign)
    (ky : y' ≡ y) (kz : z' ≡ z) (first : n ≡ a.labels) (more : l.labels ≡ a.labels + 3) (lines : l.lines.items ≡ a.lines.items) where
  tests_put : (decides : Bool) → goes ≡ first_goes decides want to (n + 2) → test_part x want to a.labels ≡ tests_form decides want to y z (a.labels + 2) (first_goes decides want to (a.labels + 2)) (a.labels + 3) →
      Puts l c p (test_part y' decides goes l.labels) → IfOk res (λ q. Puts c b q (other_part z' decides want to (n + 2) p c.labels)) → IfOk res (λ q. Puts a b q (test_part x want to a.labels))
  tests_put decides e is v w =
      let v' : Puts a c p (test_part y' decides goes (a.labels + 3)) = after_labels a l c p (a.labels + 3) (λ (m : ℕ). test_part y' decides goes m) more lines v in
      let e' : goes ≡ first_goes decides want to (a.labels + 2) = e ∙ ap (λ (m : ℕ). first_goes decides want to (m + 2)) first in
      same_put a b res (test_part x want to a.labels) (tests_form decides want to y' z' (n + 2) goes (a.labels + 3))
      (is ∙ (λ i. tests_form decides want to (sym ky i) (sym kz i) (sym first i + 2) (sym e' i) (a.labels + 3)))
      (chain a c b p (test_part y' decides goes (a.labels + 3)) (other_part z' decides want to (n + 2)) res v' w)

  pub judge_and : o ≡ Some between.AndThen → goes ≡ first_goes false want to (n + 2) → Puts l c p (test_part y' false goes l.labels) → IfOk res (λ q. Puts c b q (other_part z' false want to (n + 2) p c.labels)) →
      IfOk res (λ q. Puts a b q (test_part x want to a.labels))
  judge_and t e v w = tests_put false e (and_is x a.labels want to sign y z h (sym g ∙ ap (option_map infix_as) t)) v w

  pub judge_or : o ≡ Some between.OrElse → goes ≡ first_goes true want to (n + 2) → Puts l c p (test_part y' true goes l.labels) → IfOk res (λ q. Puts c b q (other_part z' true want to (n + 2) p c.labels)) →
      IfOk res (λ q. Puts a b q (test_part x want to a.labels))
  judge_or t e v w = tests_put true e (or_is x a.labels want to sign y z h (sym g ∙ ap (option_map infix_as) t)) v w
