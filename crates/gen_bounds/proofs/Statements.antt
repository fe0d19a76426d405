-- The code of statements is short for their nodes.
use Rattle.std.proofs.Common.{◌≡◌, ℕ, ◌+◌, ◌*◌, ◌≤◌, Bool, false, List, [], ◌∷◌, ◌++◌, map, Option, Some, None, sym, subst, arith}
use Rattle.std.specs.Prelude.{max}
use Rattle.std.specs.Option.{option_map}
use Rattle.jp_store.specs.declared.value.Kind.{Kind}
use Rattle.jp_meaning.specs.declared.expr.TypedExpr.{TypedExpr}
use Rattle.jp_meaning.specs.declared.stmt.TypedStmt.{TypedStmt}
use Rattle.jp_meaning.specs.declared.stmt.TypedStmtKind.{TypedStmtKind, TypedStmtKind-F}
use Rattle.jp_meaning.specs.declared.stmt.TypedStmtKind.TheOpen as form
use Rattle.jp_meaning.specs.declared.stmt.TypedStmtKind.TheFolds.{ind-TypedStmt, fold-TypedStmtKind, fold-roll-TypedStmt, fold-roll-TypedStmtKind, map-TypedStmtKind}
use Rattle.jp_meaning.specs.Descriptors.{kind_of_type}
use Rattle.jp_meaning.specs.Signs.{Change, Becomes, Changes, change_of}
use Rattle.jvm_table.specs.declared.instr.Instr.TheVariants.{Store, Binary, ReturnValue}
use Rattle.jvm_table.specs.declared.instr.Jump.TheVariants.{Always}
use Rattle.code_asm.specs.Items.{Item, Plain, Branch, Mark}
use Rattle.gen_body.specs.Codes.{Codes, choice, coded}
use Rattle.gen_body.specs.Statements.{Part, Made, nothing, copy_parts, get_place, put_place, declare, assign, bump_place, bump, in_row, only_where, loop, test_codes, repeat, begin_loop, return_of, leave, made_step, made, block_code}
use Rattle.gen_bounds.specs.Nodes.{total, or_none, expr_nodes, stmt_step, stmt_nodes}
use Rattle.gen_bounds.proofs.Weights.{weigh_join, weigh_end, weigh_choice, default_weight, copy_weight, get_weight, put_weight, bump_weight}
use Rattle.gen_bounds.proofs.Forms as forms
use Rattle.gen_bounds.proofs.Expressions as expressions

module _ (a i m node : ℕ) (fair : 4 * a + 3 * m ≤ node) (calls : i ≤ a + a) where
  abbrev w : List Item → ℕ
  w = forms.w a i m node fair

  abbrev ShortCodes : ℕ → ℕ → Codes → Type 0
  ShortCodes = forms.ShortCodes a i m node fair

  -- code with labels from n on, of a statement with k nodes
  pub record ShortPart (k n : ℕ) (p : Part) : Type 0 where
    pub items : w p.items ≤ node * k
    pub next : p.next ≤ n + 3 * k
    pub need : p.need ≤ 2 * k

  abbrev pub ShortMade : ℕ → Made → Type 0
  ShortMade k s = (n out back : ℕ) → ShortPart k n (s n out back)

  expr_short : (e : TypedExpr) → forms.ShortCoded a i m node fair (expr_nodes e) (coded e)
  expr_short = expressions.expr_short a i m node fair calls

  nothing_short : (k n out back : ℕ) → ShortPart k n (nothing n out back)
  nothing_short k n out back = record { items = omega arith; next = omega arith; need = omega arith }

  value_declared : (slot : ℕ) (kind : Kind) (c : Codes) (k n : ℕ) → ShortCodes k n c → ShortPart (1 + k) n (record { items = c.value ++ Plain (Store kind slot) ∷ []; next = c.next; need = c.need })
  value_declared slot kind c k n h =
      let e = weigh_end a i m c.value (Plain (Store kind slot)) in
      record { items = omega arith; next = omega arith; need = omega arith }

  declare_short : (slot : ℕ) (value : Option TypedExpr) (o : Option Kind) → ShortMade (1 + or_none expr_nodes value) (declare o slot (option_map coded value))
  declare_short slot value None n out back = nothing_short (1 + or_none expr_nodes value) n out back
  declare_short slot None (Some kind) n out back =
      let e = default_weight a i m kind in
      record { items = omega arith; next = omega arith; need = omega arith }
  declare_short slot (Some v) (Some kind) n out back = value_declared slot kind ((coded v).codes n) (expr_nodes v) n ((expr_short v).codes n)

  assign_short : (o : Option Change) (left right : TypedExpr) → ShortMade (1 + (expr_nodes left + expr_nodes right)) (assign o (coded left) (coded right))
  assign_short None left right n out back = nothing_short (1 + (expr_nodes left + expr_nodes right)) n out back
  assign_short (Some Becomes) left right n out back =
      let s = (coded left).spot n in let c = (coded right).codes s.next in
      let h = (expr_short left).spot n in let j = (expr_short right).codes s.next in
      let e = weigh_join a i m c.value (put_place s.place) in
      let f = weigh_join a i m s.items (c.value ++ put_place s.place) in
      let g = put_weight a i m s.place in
      record { items = omega arith; next = omega arith; need = omega arith }
  assign_short (Some (Changes op)) left right n out back =
      let s = (coded left).spot n in let c = (coded right).codes s.next in
      let h = (expr_short left).spot n in let j = (expr_short right).codes s.next in
      let last = Plain (Binary op) ∷ put_place s.place in
      let d = weigh_join a i m c.value last in
      let e = weigh_join a i m (get_place s.place) (c.value ++ last) in
      let f = weigh_join a i m (copy_parts s.place) (get_place s.place ++ (c.value ++ last)) in
      let g = weigh_join a i m s.items (copy_parts s.place ++ (get_place s.place ++ (c.value ++ last))) in
      let p = put_weight a i m s.place in let q = copy_weight a i m s.place in let r = get_weight a i m s.place in
      record { items = omega arith; next = omega arith; need = omega arith }

  bumped_short : (up : Bool) (left : TypedExpr) → ShortMade (1 + expr_nodes left) (bump up (coded left))
  bumped_short up left n out back =
      let s = (coded left).spot n in
      let h = (expr_short left).spot n in
      let e = weigh_join a i m s.items (bump_place up s.place) in
      let f = bump_weight a i m up s.place in
      record { items = omega arith; next = omega arith; need = omega arith }

  -- one statement in front of others
  in_front : (k l n : ℕ) (p q : Part) → ShortPart k n p → ShortPart l p.next q → ShortPart (k + l) n (record { items = p.items ++ q.items; next = q.next; need = max p.need q.need })
  in_front k l n p q h j =
      let e = weigh_join a i m p.items q.items in
      record { items = omega arith; next = omega arith; need = omega arith }

  if_short : (k l n : ℕ) (c : Codes) (d : Part) → ShortCodes k (n + 2) c → ShortPart l c.next d → ShortPart (1 + (k + (l + 0))) n (record { items = only_where c.test d.items n; next = d.next; need = max c.need d.need })
  if_short k l n c d h j =
      let t = h.test false n in
      let e = weigh_end a i m d.items (Mark n) in
      let f = weigh_join a i m (c.test false n) (d.items ++ Mark n ∷ []) in
      record { items = omega arith; next = omega arith; need = omega arith }

  else_short : (k l j n : ℕ) (c : Codes) (d e : Part) → ShortCodes k (n + 2) c → ShortPart l c.next d → ShortPart j d.next e → ShortPart (1 + (k + (l + j))) n (record { items = choice c.test d.items e.items n; next = e.next; need = max c.need (max d.need e.need) })
  else_short k l j n c d e h f g =
      let t = h.test false n in let u = weigh_choice a i m c.test d.items e.items n in
      record { items = omega arith; next = omega arith; need = omega arith }

  -- a loop's test, which may be left out
  record ShortTest (k n : ℕ) (c : Codes) : Type 0 where
    pub test : (want : Bool) (label : ℕ) → w (c.test want label) ≤ node * k + 2 * a
    pub next : c.next ≤ n + 3 * k
    pub need : c.need ≤ 2 * k + 1

  test_of : (c : Codes) (k n : ℕ) → ShortCodes k n c → ShortTest k n c
  test_of c k n h = record { test = λ want label. let t = h.test want label in omega arith; next = omega arith; need = omega arith }

  test_short : (test : Option TypedExpr) (n : ℕ) → ShortTest (or_none expr_nodes test) n (test_codes test n)
  test_short None n = record { test = λ want label. omega arith; next = omega arith; need = omega arith }
  test_short (Some test) n = test_of ((coded test).codes n) (expr_nodes test) n ((expr_short test).codes n)

  loop_weight : (test : Bool → ℕ → List Item) (body change : List Item) (n : ℕ) → w (loop test body change n) ≡ w (test false (n + 1)) + (w body + (w change + (a + 3 * m)))
  loop_weight test body change n =
      let last = Branch Always n ∷ Mark (n + 1) ∷ [] in
      let d = weigh_join a i m change last in
      let e = weigh_join a i m body (Mark (n + 2) ∷ (change ++ last)) in
      let f = weigh_join a i m (test false (n + 1)) (body ++ (Mark (n + 2) ∷ (change ++ last))) in
      omega arith

  repeat_short : (test : ℕ → Codes) (change body : Made) (k l j : ℕ) → ((n : ℕ) → ShortTest k n (test n)) → ShortMade l change → ShortMade j body → ShortMade (1 + (k + (l + j))) (repeat test change body)
  repeat_short test change body k l j h f g n out back =
      let c = test (n + 3) in let d = body c.next (n + 1) (n + 2) in let e = change d.next out back in
      let p = h (n + 3) in let q = g c.next (n + 1) (n + 2) in let r = f d.next out back in
      let t = p.test false (n + 1) in
      let u = loop_weight c.test d.items e.items n in
      record { items = omega arith; next = omega arith; need = omega arith }

  while_short : (test : TypedExpr) (body : Made) (j : ℕ) → ShortMade j body → ShortMade (1 + (expr_nodes test + j)) (repeat (coded test).codes nothing body)
  while_short test body j h =
      let none : 0 + j ≡ j = omega arith in
      subst (λ l. ShortMade (1 + (expr_nodes test + l)) (repeat (coded test).codes nothing body)) none
      (repeat_short (coded test).codes nothing body (expr_nodes test) 0 j (λ n. test_of ((coded test).codes n) (expr_nodes test) n ((expr_short test).codes n)) (nothing_short 0) h)

  for_short : (init change body : Made) (test : Option TypedExpr) (k l j : ℕ) → ShortMade k init → ShortMade l change → ShortMade j body → ShortMade (1 + (k + (or_none expr_nodes test + (l + j)))) (begin_loop init (repeat (test_codes test) change body))
  for_short init change body test k l j h f g n out back =
      let c = init n out back in let d = repeat (test_codes test) change body c.next out back in
      let p = h n out back in let q = repeat_short (test_codes test) change body (or_none expr_nodes test) l j (test_short test) f g c.next out back in
      let e = weigh_join a i m c.items d.items in
      record { items = omega arith; next = omega arith; need = omega arith }

  value_returned : (o : Option Kind) (c : Codes) (k n : ℕ) → ShortCodes k n c → ShortPart (1 + k) n (return_of o c)
  value_returned None c k n h = record { items = omega arith; next = omega arith; need = omega arith }
  value_returned (Some kind) c k n h =
      let e = weigh_end a i m c.value (Plain (ReturnValue kind)) in
      record { items = omega arith; next = omega arith; need = omega arith }

  leave_short : (value : Option TypedExpr) (n : ℕ) → ShortPart (1 + or_none expr_nodes value) n (leave value n)
  leave_short None n = record { items = omega arith; next = omega arith; need = omega arith }
  leave_short (Some v) n = value_returned (kind_of_type v.ty) ((coded v).codes n) (expr_nodes v) n ((expr_short v).codes n)

  run_short : (e : TypedExpr) (n : ℕ) → ShortPart (1 + expr_nodes e) n (let c = (coded e).codes n in record { items = c.done; next = c.next; need = c.need })
  run_short e n =
      let h = (expr_short e).codes n in
      record { items = omega arith; next = omega arith; need = omega arith }

  abbrev kind_nodes : TypedStmtKind → ℕ
  kind_nodes = fold-TypedStmtKind ℕ ℕ stmt_step (λ s. s.kind)

  abbrev kind_made : TypedStmtKind → Made
  kind_made = fold-TypedStmtKind Made Made made_step (λ s. s.kind)

  abbrev ShortKind : Type 0
  ShortKind = (k : TypedStmtKind) × ShortMade (kind_nodes k) (kind_made k)

  abbrev ShortStmt : Type 0
  ShortStmt = (s : TypedStmt) × ShortMade (stmt_nodes s) (made s)

  abbrev row_nodes : List ShortStmt → ℕ
  row_nodes ss = total (map stmt_nodes (map (λ e. e.0) ss))

  row_short : (ss : List ShortStmt) → ShortMade (row_nodes ss) (in_row (map made (map (λ e. e.0) ss)))
  row_short [] n out back = nothing_short 0 n out back
  row_short (s ∷ ss) n out back =
      let c = made s.0 n out back in
      in_front (stmt_nodes s.0) (row_nodes ss) n c (in_row (map made (map (λ e. e.0) ss)) c.next out back) (s.1 n out back) (row_short ss c.next out back)

  -- the braces of a block are a node
  braced : (k n : ℕ) (p : Part) → ShortPart k n p → ShortPart (1 + k) n p
  braced k n p h = record { items = omega arith; next = omega arith; need = omega arith }

  jump_short : (n label : ℕ) → ShortPart 1 n (record { items = Branch Always label ∷ []; next = n; need = 0 })
  jump_short n label = record { items = omega arith; next = omega arith; need = omega arith }

  layer : (y : TypedStmtKind-F ShortKind ShortStmt) →
      ShortMade (stmt_step (map-TypedStmtKind TypedStmtKind TypedStmt ℕ ℕ kind_nodes stmt_nodes (map-TypedStmtKind ShortKind ShortStmt TypedStmtKind TypedStmt (λ e. e.0) (λ e. e.0) y)))
      (made_step (map-TypedStmtKind TypedStmtKind TypedStmt Made Made kind_made made (map-TypedStmtKind ShortKind ShortStmt TypedStmtKind TypedStmt (λ e. e.0) (λ e. e.0) y)))
  layer (form.Block block) = λ n out back. braced (row_nodes block) n _ (row_short block n out back)
  layer form.Empty = nothing_short 1
  layer (form.Local slot t value) = declare_short slot value (kind_of_type t)
  layer (form.If test first None) = λ n out back.
      let c = (coded test).codes (n + 2) in
      if_short (expr_nodes test) (stmt_nodes first.0) n c (made first.0 c.next out back) ((expr_short test).codes (n + 2)) (first.1 c.next out back)
  layer (form.If test first (Some second)) = λ n out back.
      let c = (coded test).codes (n + 2) in let d = made first.0 c.next out back in
      else_short (expr_nodes test) (stmt_nodes first.0) (stmt_nodes second.0) n c d (made second.0 d.next out back) ((expr_short test).codes (n + 2)) (first.1 c.next out back) (second.1 d.next out back)
  layer (form.While test body) = while_short test (made body.0) (stmt_nodes body.0) body.1
  layer (form.For None test None body) = for_short nothing nothing (made body.0) test 0 0 (stmt_nodes body.0) (nothing_short 0) (nothing_short 0) body.1
  layer (form.For None test (Some change) body) = for_short nothing (made change.0) (made body.0) test 0 (stmt_nodes change.0) (stmt_nodes body.0) (nothing_short 0) change.1 body.1
  layer (form.For (Some init) test None body) = for_short (made init.0) nothing (made body.0) test (stmt_nodes init.0) 0 (stmt_nodes body.0) init.1 (nothing_short 0) body.1
  layer (form.For (Some init) test (Some change) body) = for_short (made init.0) (made change.0) (made body.0) test (stmt_nodes init.0) (stmt_nodes change.0) (stmt_nodes body.0) init.1 change.1 body.1
  layer form.Break = λ n out back. jump_short n out
  layer form.Continue = λ n out back. jump_short n back
  layer (form.Return value) = λ n out back. leave_short value n
  layer (form.Assign left sign right) = assign_short (change_of sign) left right
  layer (form.Bump left up) = bumped_short up left
  layer (form.Run value) = λ n out back. run_short value n

  with_both : {A B : Type 0} (Q : A → B → Type 0) (x z : A) (y u : B) → x ≡ z → y ≡ u → Q z u → Q x y
  with_both Q x z y u e f q = subst (λ v. Q v y) (sym e) (subst (λ v. Q z v) (sym f) q)

  stmt_short : (s : TypedStmt) → ShortMade (stmt_nodes s) (made s)
  stmt_short = ind-TypedStmt (λ k. ShortMade (kind_nodes k) (kind_made k)) (λ s. ShortMade (stmt_nodes s) (made s))
      (λ x y is. with_both ShortMade _ _ _ _ (fold-roll-TypedStmtKind ℕ ℕ stmt_step (λ s. s.kind) x) (fold-roll-TypedStmtKind Made Made made_step (λ s. s.kind) x)
      (subst (λ (z : TypedStmtKind-F TypedStmtKind TypedStmt). ShortMade (stmt_step (map-TypedStmtKind TypedStmtKind TypedStmt ℕ ℕ kind_nodes stmt_nodes z)) (made_step (map-TypedStmtKind TypedStmtKind TypedStmt Made Made kind_made made z))) is (layer y)))
      (λ x y is. with_both ShortMade _ _ _ _ (fold-roll-TypedStmt ℕ ℕ stmt_step (λ s. s.kind) x) (fold-roll-TypedStmt Made Made made_step (λ s. s.kind) x)
      (subst (λ (z : form.TypedStmt-F TypedStmtKind TypedStmt). ShortMade (kind_nodes z.kind) (kind_made z.kind)) is y.kind.1))

  pub block_short : (ss : List TypedStmt) → ShortMade (total (map stmt_nodes ss)) (block_code ss)
  block_short [] n out back = nothing_short 0 n out back
  block_short (s ∷ ss) n out back =
      let c = made s n out back in
      in_front (stmt_nodes s) (total (map stmt_nodes ss)) n c (block_code ss c.next out back) (stmt_short s n out back) (block_short ss c.next out back)
