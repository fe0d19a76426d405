-- What a statement of each form is compiled to, from its parts.
use Rattle.std.proofs.Common.{◌≡◌, ℕ, ◌+◌, List, [], ◌∷◌, map, Bool, false, Option, Some, None, refl, sym, ap, ◌∙◌, append-nil}
use Rattle.std.specs.Option.{option_map}
use Rattle.jp_pred.specs.declared.ty.Ty.{Ty}
use Rattle.jp_store.specs.declared.value.Kind.{Kind}
use Rattle.jp_meaning.specs.declared.expr.TypedExpr.{TypedExpr}
use Rattle.jp_meaning.specs.declared.stmt.TypedStmt.{TypedStmt}
use Rattle.jp_meaning.specs.declared.stmt.TypedStmt as on_stmts
use Rattle.jp_meaning.specs.declared.stmt.TypedStmtKind.{TypedStmtKind, fold_out-TypedStmtKind}
use Rattle.jp_meaning.specs.declared.stmt.TypedStmtKind.TheVariants as form
use Rattle.jp_meaning.specs.declared.stmt.TypedStmtKind.TheOpen as e
use Rattle.jp_meaning.specs.Descriptors.{kind_of_type}
use Rattle.jp_meaning.specs.Signs.{Change, Becomes, Changes, change_of}
use Rattle.code_asm.specs.Items.{Mark}
use Rattle.gen_body.specs.Codes.{Coded, coded}
use Rattle.gen_body.specs.Statements.{Part, Made, declare, assign, bump, return_of, made_step, made}
use Rattle.gen_code.specs.Emitted.{code_of}
use Rattle.gen_parts.specs.Emits.{done_part, test_part, one_part, chained}
use Rattle.gen_member.specs.Blocks.{made_of, stmt_part, block_part, maybe_part, jump_part, declared_part, assigned_part, return_items, return_part, else_part, loop_test_part, body_part, round_part}

-- a statement, as its kind is written
at_kind : (x : TypedStmt) (kind : TypedStmtKind) (m : Made) → x.kind ≡ kind → made (record { place = x.place; kind = kind }) ≡ m → made x ≡ m
at_kind x kind m h k = ap (λ (w : TypedStmtKind). made (record { place = x.place; kind = w })) h ∙ k

module _ (x : TypedStmt) where
  made_block : (block : List TypedStmt) → x.kind ≡ form.Block block → made x ≡ made_step (e.Block (map made block))
  made_block block h = at_kind x _ _ h (rw (on_stmts.fold_out-TypedStmt, fold_out-TypedStmtKind, form.outs-Block) refl)

  made_empty : x.kind ≡ form.Empty → made x ≡ made_step e.Empty
  made_empty h = at_kind x _ _ h (rw (on_stmts.fold_out-TypedStmt, fold_out-TypedStmtKind, form.outs-Empty) refl)

  made_local : (slot : ℕ) (t : Ty) (value : Option TypedExpr) → x.kind ≡ form.Local slot t value → made x ≡ made_step (e.Local slot t value)
  made_local slot t value h = at_kind x _ _ h (rw (on_stmts.fold_out-TypedStmt, fold_out-TypedStmtKind, form.outs-Local) refl)

  made_if : (test : TypedExpr) (first : TypedStmt) (second : Option TypedStmt) → x.kind ≡ form.If test first second → made x ≡ made_step (e.If test (made first) (option_map made second))
  made_if test first None h = at_kind x _ _ h (rw (on_stmts.fold_out-TypedStmt, fold_out-TypedStmtKind, form.outs-If) refl)
  made_if test first (Some second) h = at_kind x _ _ h (rw (on_stmts.fold_out-TypedStmt, fold_out-TypedStmtKind, form.outs-If) refl)

  made_while : (test : TypedExpr) (body : TypedStmt) → x.kind ≡ form.While test body → made x ≡ made_step (e.While test (made body))
  made_while test body h = at_kind x _ _ h (rw (on_stmts.fold_out-TypedStmt, fold_out-TypedStmtKind, form.outs-While) refl)

  made_for : (init : Option TypedStmt) (test : Option TypedExpr) (change : Option TypedStmt) (body : TypedStmt) → x.kind ≡ form.For init test change body →
      made x ≡ made_step (e.For (option_map made init) test (option_map made change) (made body))
  made_for None test None body h = at_kind x _ _ h (rw (on_stmts.fold_out-TypedStmt, fold_out-TypedStmtKind, form.outs-For) refl)
  made_for None test (Some change) body h = at_kind x _ _ h (rw (on_stmts.fold_out-TypedStmt, fold_out-TypedStmtKind, form.outs-For) refl)
  made_for (Some init) test None body h = at_kind x _ _ h (rw (on_stmts.fold_out-TypedStmt, fold_out-TypedStmtKind, form.outs-For) refl)
  made_for (Some init) test (Some change) body h = at_kind x _ _ h (rw (on_stmts.fold_out-TypedStmt, fold_out-TypedStmtKind, form.outs-For) refl)

  made_break : x.kind ≡ form.Break → made x ≡ made_step e.Break
  made_break h = at_kind x _ _ h (rw (on_stmts.fold_out-TypedStmt, fold_out-TypedStmtKind, form.outs-Break) refl)

  made_continue : x.kind ≡ form.Continue → made x ≡ made_step e.Continue
  made_continue h = at_kind x _ _ h (rw (on_stmts.fold_out-TypedStmt, fold_out-TypedStmtKind, form.outs-Continue) refl)

  made_return : (value : Option TypedExpr) → x.kind ≡ form.Return value → made x ≡ made_step (e.Return value)
  made_return value h = at_kind x _ _ h (rw (on_stmts.fold_out-TypedStmt, fold_out-TypedStmtKind, form.outs-Return) refl)

  made_assign : (left : TypedExpr) (sign : ℕ) (right : TypedExpr) → x.kind ≡ form.Assign left sign right → made x ≡ made_step (e.Assign left sign right)
  made_assign left sign right h = at_kind x _ _ h (rw (on_stmts.fold_out-TypedStmt, fold_out-TypedStmtKind, form.outs-Assign) refl)

  made_bump : (left : TypedExpr) (up : Bool) → x.kind ≡ form.Bump left up → made x ≡ made_step (e.Bump left up)
  made_bump left up h = at_kind x _ _ h (rw (on_stmts.fold_out-TypedStmt, fold_out-TypedStmtKind, form.outs-Bump) refl)

  made_run : (value : TypedExpr) → x.kind ≡ form.Run value → made x ≡ made_step (e.Run value)
  made_run value h = at_kind x _ _ h (rw (on_stmts.fold_out-TypedStmt, fold_out-TypedStmtKind, form.outs-Run) refl)

-- the labels of loops don't matter to a declaration and a new value
declare_any : (k : Option Kind) (slot : ℕ) (value : Option Coded) (n out back : ℕ) → declare k slot value n out back ≡ declare k slot value n 0 0
declare_any None slot value n out back = refl
declare_any (Some kind) slot None n out back = refl
declare_any (Some kind) slot (Some value) n out back = refl

assign_any : (c : Option Change) (left right : Coded) (n out back : ℕ) → assign c left right n out back ≡ assign c left right n 0 0
assign_any None left right n out back = refl
assign_any (Some Becomes) left right n out back = refl
assign_any (Some (Changes op)) left right n out back = refl

-- a return, by its items
return_is : (k : Option Kind) (value : TypedExpr) (n : ℕ) → return_of k ((code_of value).codes n) ≡ one_part value (return_items k) n
return_is None value n = let c = (code_of value).codes n in (λ j. record { items = sym (append-nil c.value) j; next = c.next; need = c.need })
return_is (Some kind) value n = refl

-- a loop with a change, at its labels
abbrev pub for_loop : ℕ → ℕ → Option TypedExpr → Option TypedStmt → TypedStmt → ℕ → ℕ → Part
for_loop out back test change body before k =
    let c = chained (loop_test_part test (k + 1) (k + 3)) (λ p i. chained (stmt_part body (k + 1) (k + 2) i) (round_part change out back k before p)) in
    record { items = Mark k ∷ c.items; next = c.next; need = c.need }

module _ (x : TypedStmt) (out back n : ℕ) where
  pub stmt_block : (block : List TypedStmt) → x.kind ≡ form.Block block → stmt_part x out back n ≡ block_part block out back n
  unfolding made_of
  stmt_block block h = ap (λ (m : Made). m n out back) (made_block x block h)

  pub stmt_empty : x.kind ≡ form.Empty → stmt_part x out back n ≡ record { items = []; next = n; need = 0 }
  unfolding made_of
  stmt_empty h = ap (λ (m : Made). m n out back) (made_empty x h)

  pub stmt_local : (slot : ℕ) (t : Ty) (value : Option TypedExpr) → x.kind ≡ form.Local slot t value → stmt_part x out back n ≡ declared_part (kind_of_type t) slot value n
  unfolding made_of code_of
  stmt_local slot t value h = ap (λ (m : Made). m n out back) (made_local x slot t value h) ∙ declare_any (kind_of_type t) slot (option_map coded value) n out back

  pub stmt_if : (test : TypedExpr) (first : TypedStmt) (second : Option TypedStmt) → x.kind ≡ form.If test first second →
      stmt_part x out back n ≡ chained (test_part test false n (n + 2)) (λ p k. chained (stmt_part first out back k) (else_part second out back n p))
  unfolding made_of code_of
  stmt_if test first None h = ap (λ (m : Made). m n out back) (made_if x test first None h)
  stmt_if test first (Some second) h = ap (λ (m : Made). m n out back) (made_if x test first (Some second) h)

  pub stmt_while : (test : TypedExpr) (body : TypedStmt) → x.kind ≡ form.While test body →
      stmt_part x out back n ≡ (let c = chained (test_part test false (n + 1) (n + 3)) (body_part body n) in record { items = Mark n ∷ c.items; next = c.next; need = c.need })
  unfolding made_of code_of
  stmt_while test body h = ap (λ (m : Made). m n out back) (made_while x test body h)

  pub stmt_for : (init : Option TypedStmt) (test : Option TypedExpr) (change : Option TypedStmt) (body : TypedStmt) → x.kind ≡ form.For init test change body →
      stmt_part x out back n ≡ chained (maybe_part init out back n) (λ before k. for_loop out back test change body before k)
  unfolding made_of code_of
  stmt_for None None None body h = ap (λ (m : Made). m n out back) (made_for x None None None body h)
  stmt_for None None (Some change) body h = ap (λ (m : Made). m n out back) (made_for x None None (Some change) body h)
  stmt_for None (Some test) None body h = ap (λ (m : Made). m n out back) (made_for x None (Some test) None body h)
  stmt_for None (Some test) (Some change) body h = ap (λ (m : Made). m n out back) (made_for x None (Some test) (Some change) body h)
  stmt_for (Some init) None None body h = ap (λ (m : Made). m n out back) (made_for x (Some init) None None body h)
  stmt_for (Some init) None (Some change) body h = ap (λ (m : Made). m n out back) (made_for x (Some init) None (Some change) body h)
  stmt_for (Some init) (Some test) None body h = ap (λ (m : Made). m n out back) (made_for x (Some init) (Some test) None body h)
  stmt_for (Some init) (Some test) (Some change) body h = ap (λ (m : Made). m n out back) (made_for x (Some init) (Some test) (Some change) body h)

  pub stmt_break : x.kind ≡ form.Break → stmt_part x out back n ≡ jump_part out n
  unfolding made_of
  stmt_break h = ap (λ (m : Made). m n out back) (made_break x h)

  pub stmt_continue : x.kind ≡ form.Continue → stmt_part x out back n ≡ jump_part back n
  unfolding made_of
  stmt_continue h = ap (λ (m : Made). m n out back) (made_continue x h)

  pub stmt_return : (value : Option TypedExpr) → x.kind ≡ form.Return value → stmt_part x out back n ≡ return_part value n
  unfolding made_of code_of
  stmt_return None h = ap (λ (m : Made). m n out back) (made_return x None h)
  stmt_return (Some value) h = ap (λ (m : Made). m n out back) (made_return x (Some value) h) ∙ return_is (kind_of_type value.ty) value n

  pub stmt_assign : (left : TypedExpr) (sign : ℕ) (right : TypedExpr) → x.kind ≡ form.Assign left sign right → stmt_part x out back n ≡ assigned_part (change_of sign) left right n
  unfolding made_of code_of
  stmt_assign left sign right h = ap (λ (m : Made). m n out back) (made_assign x left sign right h) ∙ assign_any (change_of sign) (coded left) (coded right) n out back

  pub stmt_bump : (left : TypedExpr) (up : Bool) → x.kind ≡ form.Bump left up → stmt_part x out back n ≡ bump up (code_of left) n 0 0
  unfolding made_of code_of
  stmt_bump left up h = ap (λ (m : Made). m n out back) (made_bump x left up h)

  pub stmt_run : (value : TypedExpr) → x.kind ≡ form.Run value → stmt_part x out back n ≡ done_part value n
  unfolding made_of code_of
  stmt_run value h = ap (λ (m : Made). m n out back) (made_run x value h)
