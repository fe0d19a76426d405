-- The code of a statement of each form, once its parts are written.
use Rattle.std.proofs.Common.{◌≡◌, ℕ, ◌+◌, ◌<◌, ◌≤◌, List, [], ◌∷◌, ◌++◌, map, length, take, get_or, Bool, false, Option, Some, None, Result, refl, sym, ap, ◌∙◌, subst, append-nil, arith}
use Rattle.std.specs.Prelude.{max, IfOk}
use Rattle.std.specs.Option.{option_map}
use Rattle.std.proofs.lemmas.Result.{IfOk-weaker}
use Rattle.std.proofs.lemmas.List.{append_assoc, map-append, take_more, take_all}
use Rattle.jp_pred.specs.declared.ty.Ty.{Ty}
use Rattle.jp_store.specs.declared.value.Kind.{Kind}
use Rattle.jp_store.specs.declared.operator.BinaryOp.{BinaryOp}
use Rattle.jp_meaning.specs.declared.expr.TypedExpr.{TypedExpr}
use Rattle.jp_meaning.specs.declared.stmt.TypedStmt.{TypedStmt}
use Rattle.jp_meaning.specs.declared.stmt.TypedStmtKind.TheVariants as form
use Rattle.jp_meaning.specs.Descriptors.{kind_of_type}
use Rattle.jp_meaning.specs.Signs.{Change, change_of}
use Rattle.jvm_table.specs.declared.instr.Instr.TheVariants.{Binary}
use Rattle.code_asm.specs.Items.{Plain, Mark}
use Rattle.code_asm.specs.Lines.{lines_of}
use Rattle.gen_body.specs.Codes.{Place}
use Rattle.gen_body.specs.Statements.{Part, Made, parts_of, copy_parts, get_place, put_place, bump_place, in_row, bump}
use Rattle.gen_code.specs.declared.body.Body.{Body}
use Rattle.gen_code.specs.declared.signs.Change.{Change as ChangeSign}
use Rattle.gen_code.specs.declared.signs.Change.TheVariants as change
use Rattle.gen_code.specs.Emitted.{code_of, shape_of, change_as, CodeHasItsShape}
use Rattle.gen_parts.specs.Emits.{Puts, Adds, Ends, done_part, value_part, test_part, chained}
use Rattle.gen_member.specs.Blocks.{made_of, stmt_part, block_part, maybe_part, jump_part, declared_part, assigned_part, spot_part, becomes_part, changed_part, return_part, else_part, loop_test_part, body_part, round_part}
use Rattle.gen_expr.proofs.Steps.{none_added, puts, puts_both, then_puts}
use Rattle.gen_expr.proofs.Arms.{nothing_put, same_put, part_ends, between_ends, chain, after_labels, all_after_labels}
use Rattle.gen_member.proofs.Makes.{stmt_block, stmt_empty, stmt_local, stmt_if, stmt_while, stmt_for, stmt_break, stmt_continue, stmt_return, stmt_assign, stmt_bump, stmt_run, for_loop}

-- a part behind a mark
marked : {E : Type 0} (l m b : Body) (n : ℕ) (part : ℕ → Part) (res : Result ℕ E) → m.lines.items ≡ l.lines.items ++ lines_of (Mark n ∷ []) → m.labels ≡ l.labels → IfOk res (λ q. Puts m b q (part m.labels)) →
    IfOk res (λ q. Puts l b q (record { items = Mark n ∷ (part l.labels).items; next = (part l.labels).next; need = (part l.labels).need }))
marked l m b n part res lines labels h =
    IfOk-weaker res (λ (q : ℕ). Puts m b q (part m.labels)) (λ (q : ℕ). Puts l b q (record { items = Mark n ∷ (part l.labels).items; next = (part l.labels).next; need = (part l.labels).need }))
    (λ q g. then_puts l m b q q (part l.labels).need (Mark n ∷ []) part (record { lines = lines; labels = labels }) g (subst (λ (k : ℕ). Puts m b q (part k)) labels g).need) h

abbrev if_form : ℕ → ℕ → TypedExpr → TypedStmt → Option TypedStmt → ℕ → ℕ → Part
if_form out back test y o n m = chained (test_part test false n m) (λ p k. chained (stmt_part y out back k) (else_part o out back n p))

abbrev while_form : TypedExpr → TypedStmt → ℕ → ℕ → Part
while_form test y n k = let c = chained (test_part test false (n + 1) k) (body_part y n) in record { items = Mark n ∷ c.items; next = c.next; need = c.need }

-- a loop with a change, at its labels
abbrev round_form : ℕ → ℕ → Option TypedExpr → Option TypedStmt → TypedStmt → ℕ → ℕ → ℕ → ℕ → ℕ → Part
round_form out back test c y before n eo eb k =
    let w = chained (loop_test_part test (n + 1) k) (λ p i. chained (stmt_part y eo eb i) (round_part c out back n before p)) in
    record { items = Mark n ∷ w.items; next = w.next; need = w.need }

module _ {E : Type 0} (x : TypedStmt) (out back : ℕ) (a b : Body) (res : Result ℕ E) where
  pub do_block : (block block' : List TypedStmt) → x.kind ≡ form.Block block → block' ≡ block → IfOk res (λ p. Puts a b p (block_part block' out back a.labels)) → IfOk res (λ p. Puts a b p (stmt_part x out back a.labels))
  do_block block block' h k w =
      same_put a b res (stmt_part x out back a.labels) (block_part block' out back a.labels) (stmt_block x out back a.labels block h ∙ ap (λ (ss : List TypedStmt). block_part ss out back a.labels) (sym k)) w

  pub do_local : (slot : ℕ) (t : Ty) (value : Option TypedExpr) (k : Option Kind) → x.kind ≡ form.Local slot t value → k ≡ kind_of_type t → IfOk res (λ p. Puts a b p (declared_part k slot value a.labels)) →
      IfOk res (λ p. Puts a b p (stmt_part x out back a.labels))
  do_local slot t value k h e w =
      same_put a b res (stmt_part x out back a.labels) (declared_part k slot value a.labels) (stmt_local x out back a.labels slot t value h ∙ ap (λ (o : Option Kind). declared_part o slot value a.labels) (sym e)) w

  pub do_if : (l c d : Body) (n p q : ℕ) (test : TypedExpr) (y y' : TypedStmt) (o : Option TypedStmt) → x.kind ≡ form.If test y o → y' ≡ y → n ≡ a.labels → l.labels ≡ a.labels + 2 → l.lines.items ≡ a.lines.items →
      Puts l c p (test_part test false n l.labels) → Puts c d q (stmt_part y' out back c.labels) → IfOk res (λ r. Puts d b r (else_part o out back n p q d.labels)) → IfOk res (λ r. Puts a b r (stmt_part x out back a.labels))
  do_if l c d n p q test y y' o h hy hn more lines tested first second =
      let inner : IfOk res (λ r. Puts c b r (chained (stmt_part y' out back c.labels) (else_part o out back n p))) = chain c d b q (stmt_part y' out back c.labels) (else_part o out back n p) res first second in
      let front : Puts a c p (test_part test false n (a.labels + 2)) = after_labels a l c p (a.labels + 2) (λ (m : ℕ). test_part test false n m) more lines tested in
      same_put a b res (stmt_part x out back a.labels) (if_form out back test y' o n (a.labels + 2)) (stmt_if x out back a.labels test y o h ∙ (λ j. if_form out back test (sym hy j) o (sym hn j) (a.labels + 2)))
      (chain a c b p (test_part test false n (a.labels + 2)) (λ (r m : ℕ). chained (stmt_part y' out back m) (else_part o out back n r)) res front inner)

  pub do_while : (l m c : Body) (n p : ℕ) (test : TypedExpr) (y y' : TypedStmt) → x.kind ≡ form.While test y → y' ≡ y → n ≡ a.labels → l.labels ≡ a.labels + 3 → l.lines.items ≡ a.lines.items →
      m.lines.items ≡ l.lines.items ++ lines_of (Mark n ∷ []) → m.labels ≡ l.labels → Puts m c p (test_part test false (n + 1) m.labels) → IfOk res (λ q. Puts c b q (body_part y' n p c.labels)) → IfOk res (λ q. Puts a b q (stmt_part x out back a.labels))
  do_while l m c n p test y y' h hy hn more lines mark same tested inside =
      let inner : IfOk res (λ q. Puts m b q (chained (test_part test false (n + 1) m.labels) (body_part y' n))) = chain m c b p (test_part test false (n + 1) m.labels) (body_part y' n) res tested inside in
      let front : IfOk res (λ q. Puts l b q (while_form test y' n l.labels)) = marked l m b n (λ (k : ℕ). chained (test_part test false (n + 1) k) (body_part y' n)) res mark same inner in
      same_put a b res (stmt_part x out back a.labels) (while_form test y' n (a.labels + 3)) (stmt_while x out back a.labels test y h ∙ (λ j. while_form test (sym hy j) (sym hn j) (a.labels + 3)))
      (all_after_labels a l b (a.labels + 3) (λ (k : ℕ). while_form test y' n k) res more lines front)

  pub do_for : (i l m c d : Body) (n before p q eo eb : ℕ) (init : Option TypedStmt) (test : Option TypedExpr) (ch : Option TypedStmt) (y y' : TypedStmt) → x.kind ≡ form.For init test ch y → y' ≡ y →
      Puts a i before (maybe_part init out back a.labels) → n ≡ i.labels → l.labels ≡ i.labels + 3 → l.lines.items ≡ i.lines.items → m.lines.items ≡ l.lines.items ++ lines_of (Mark n ∷ []) → m.labels ≡ l.labels →
      Puts m c p (loop_test_part test (n + 1) m.labels) → eo ≡ n + 1 → eb ≡ n + 2 → Puts c d q (stmt_part y' eo eb c.labels) → IfOk res (λ r. Puts d b r (round_part ch out back n before p q d.labels)) → IfOk res (λ r. Puts a b r (stmt_part x out back a.labels))
  do_for i l m c d n before p q eo eb init test ch y y' h hy started hn more lines mark same tested ho hb inside round =
      let inner : IfOk res (λ r. Puts c b r (chained (stmt_part y' eo eb c.labels) (round_part ch out back n before p))) = chain c d b q (stmt_part y' eo eb c.labels) (round_part ch out back n before p) res inside round in
      let turn : IfOk res (λ r. Puts m b r (chained (loop_test_part test (n + 1) m.labels) (λ (r k : ℕ). chained (stmt_part y' eo eb k) (round_part ch out back n before r)))) =
      chain m c b p (loop_test_part test (n + 1) m.labels) (λ (r k : ℕ). chained (stmt_part y' eo eb k) (round_part ch out back n before r)) res tested inner in
      let front : IfOk res (λ r. Puts l b r (round_form out back test ch y' before n eo eb l.labels)) =
      marked l m b n (λ (k : ℕ). chained (loop_test_part test (n + 1) k) (λ (r s : ℕ). chained (stmt_part y' eo eb s) (round_part ch out back n before r))) res mark same turn in
      let behind : IfOk res (λ r. Puts i b r (round_form out back test ch y' before n eo eb (i.labels + 3))) = all_after_labels i l b (i.labels + 3) (λ (k : ℕ). round_form out back test ch y' before n eo eb k) res more lines front in
      let is : round_form out back test ch y before i.labels (i.labels + 1) (i.labels + 2) (i.labels + 3) ≡ round_form out back test ch y' before n eo eb (i.labels + 3) =
      (λ j. round_form out back test ch (sym hy j) before (sym hn j) ((ap (λ (k : ℕ). k + 1) (sym hn) ∙ sym ho) j) ((ap (λ (k : ℕ). k + 2) (sym hn) ∙ sym hb) j) (i.labels + 3)) in
      same_put a b res (stmt_part x out back a.labels) (chained (maybe_part init out back a.labels) (λ (r k : ℕ). for_loop out back test ch y r k)) (stmt_for x out back a.labels init test ch y h)
      (chain a i b before (maybe_part init out back a.labels) (λ (r k : ℕ). for_loop out back test ch y r k) res started
      (same_put i b res (round_form out back test ch y before i.labels (i.labels + 1) (i.labels + 2) (i.labels + 3)) (round_form out back test ch y' before n eo eb (i.labels + 3)) is behind))

  pub do_break : x.kind ≡ form.Break → IfOk res (λ p. Puts a b p (jump_part out a.labels)) → IfOk res (λ p. Puts a b p (stmt_part x out back a.labels))
  do_break h w = same_put a b res (stmt_part x out back a.labels) (jump_part out a.labels) (stmt_break x out back a.labels h) w

  pub do_continue : x.kind ≡ form.Continue → IfOk res (λ p. Puts a b p (jump_part back a.labels)) → IfOk res (λ p. Puts a b p (stmt_part x out back a.labels))
  do_continue h w = same_put a b res (stmt_part x out back a.labels) (jump_part back a.labels) (stmt_continue x out back a.labels h) w

  pub do_return : (value : Option TypedExpr) → x.kind ≡ form.Return value → IfOk res (λ p. Puts a b p (return_part value a.labels)) → IfOk res (λ p. Puts a b p (stmt_part x out back a.labels))
  do_return value h w = same_put a b res (stmt_part x out back a.labels) (return_part value a.labels) (stmt_return x out back a.labels value h) w

  pub do_assign : (left : TypedExpr) (sign : ℕ) (right : TypedExpr) (o : Option ChangeSign) → x.kind ≡ form.Assign left sign right → option_map change_as o ≡ change_of sign → IfOk res (λ p. Puts a b p (assigned_part (option_map change_as o) left right a.labels)) →
      IfOk res (λ p. Puts a b p (stmt_part x out back a.labels))
  do_assign left sign right o h e w =
      same_put a b res (stmt_part x out back a.labels) (assigned_part (option_map change_as o) left right a.labels)
      (stmt_assign x out back a.labels left sign right h ∙ ap (λ (c : Option Change). assigned_part c left right a.labels) (sym e)) w

  pub do_bump : (left : TypedExpr) (up : Bool) → x.kind ≡ form.Bump left up → IfOk res (λ p. Puts a b p (bump up (code_of left) a.labels 0 0)) → IfOk res (λ p. Puts a b p (stmt_part x out back a.labels))
  do_bump left up h w = same_put a b res (stmt_part x out back a.labels) (bump up (code_of left) a.labels 0 0) (stmt_bump x out back a.labels left up h) w

  pub do_run : (value : TypedExpr) → x.kind ≡ form.Run value → IfOk res (λ p. Puts a b p (done_part value a.labels)) → IfOk res (λ p. Puts a b p (stmt_part x out back a.labels))
  do_run value h w = same_put a b res (stmt_part x out back a.labels) (done_part value a.labels) (stmt_run x out back a.labels value h) w

pub do_empty : (x : TypedStmt) (out back : ℕ) (a : Body) → x.kind ≡ form.Empty → Puts a a 0 (stmt_part x out back a.labels)
do_empty x out back a h = nothing_put a (stmt_part x out back a.labels) (stmt_empty x out back a.labels h)

-- STATEMENTS, ONE AFTER THE OTHER

abbrev with_more : Part → Part → Part
with_more r c = record { items = r.items ++ c.items; next = c.next; need = max r.need c.need }

row_more : (ss : List Made) (s : Made) (n out back : ℕ) → in_row (ss ++ s ∷ []) n out back ≡ with_more (in_row ss n out back) (s (in_row ss n out back).next out back)
row_more [] s n out back =
    let c = s n out back in
    let need : max c.need 0 ≡ max 0 c.need = omega arith in
    (λ j. record { items = append-nil c.items j; next = c.next; need = need j })
row_more (d ∷ ss) s n out back =
    let c = d n out back in let r = in_row ss c.next out back in let m = s r.next out back in
    let rest : in_row (ss ++ s ∷ []) c.next out back ≡ with_more r m = row_more ss s c.next out back in
    let items : c.items ++ (r.items ++ m.items) ≡ (c.items ++ r.items) ++ m.items = sym (append_assoc c.items r.items m.items) in
    let need : max c.need (max r.need m.need) ≡ max (max c.need r.need) m.need = omega arith in
    ap (λ (w : Part). record { items = c.items ++ w.items; next = w.next; need = max c.need w.need }) rest ∙ (λ j. record { items = items j; next = m.next; need = need j })

block_more : (xs : List TypedStmt) (x : TypedStmt) (out back n : ℕ) → block_part (xs ++ x ∷ []) out back n ≡ with_more (block_part xs out back n) (stmt_part x out back (block_part xs out back n).next)
block_more xs x out back n =
    ap (λ (ms : List Made). in_row ms n out back) (map-append made_of xs (x ∷ [])) ∙ row_more (map made_of xs) (made_of x) n out back

pub none_done : (a : Body) (xs : List TypedStmt) (out back : ℕ) → Puts a a 0 (block_part (take 0 xs) out back a.labels)
none_done a xs out back = puts a a 0 0 [] (none_added a) refl

pub more_done : (a b c : Body) (xs : List TypedStmt) (i : ℕ) (x' : TypedStmt) (out back p q r : ℕ) → i < length xs → x' ≡ get_or xs i x' → Puts a b p (block_part (take i xs) out back a.labels) → Puts b c q (stmt_part x' out back b.labels) →
    r ≡ max p q → Puts a c r (block_part (take (i + 1) xs) out back a.labels)
more_done a b c xs i x' out back p q r lt is h k e =
    let front = take i xs in
    let one = block_part front out back a.labels in
    let k' : Puts b c q (stmt_part x' out back one.next) = subst (λ (n : ℕ). Puts b c q (stmt_part x' out back n)) h.labels k in
    let need : r ≡ max one.need (stmt_part x' out back one.next).need = e ∙ (λ j. max (h.need j) (k'.need j)) in
    let shown : take (i + 1) xs ≡ front ++ x' ∷ [] = take_more xs i x' lt ∙ ap (λ (y : TypedStmt). front ++ y ∷ []) (sym is) in
    subst (λ (ys : List TypedStmt). Puts a c r (block_part ys out back a.labels)) (sym shown)
    (subst (Puts a c r) (sym (block_more front x' out back a.labels)) (puts_both a b c p q r (max one.need (stmt_part x' out back one.next).need) one (λ (n : ℕ). stmt_part x' out back n) h k need))

pub all_done : (a b : Body) (xs : List TypedStmt) (i p out back : ℕ) → length xs ≤ i → Puts a b p (block_part (take i xs) out back a.labels) → Puts a b p (block_part xs out back a.labels)
all_done a b xs i p out back le h = subst (λ (ys : List TypedStmt). Puts a b p (block_part ys out back a.labels)) (take_all i xs le) h

-- NEW VALUES

module _ {E : Type 0} (law : CodeHasItsShape) (left right : TypedExpr) (o : Option ChangeSign) (a b : Body) (res : Result ℕ E) where
  pub do_becomes : o ≡ Some change.Becomes → IfOk res (λ p. Puts a b p (chained (spot_part left a.labels) (becomes_part left right))) → IfOk res (λ p. Puts a b p (assigned_part (option_map change_as o) left right a.labels))
  do_becomes e w =
      let s = (code_of left).spot a.labels in
      let c = value_part right s.next in
      let at : Place → Part = λ place. record { items = s.items ++ (c.items ++ put_place place); next = c.next; need = max s.need (parts_of place + c.need) } in
      same_put a b res (assigned_part (option_map change_as o) left right a.labels) (at (shape_of left).place)
      (ap (λ (q : Option ChangeSign). assigned_part (option_map change_as q) left right a.labels) e ∙ ap at ((law left).place a.labels)) w

  pub do_changes : (op : BinaryOp) → o ≡ Some (change.Changes op) → IfOk res (λ p. Puts a b p (chained (spot_part left a.labels) (changed_part op left right))) → IfOk res (λ p. Puts a b p (assigned_part (option_map change_as o) left right a.labels))
  do_changes op e w =
      let s = (code_of left).spot a.labels in
      let c = value_part right s.next in
      let pl = (shape_of left).place in
      let rest = λ (place : Place). c.items ++ Plain (Binary op) ∷ put_place place in
      let at : Place → Part = λ place. record { items = s.items ++ (copy_parts place ++ (get_place place ++ rest place)); next = c.next; need = max s.need (parts_of place + (parts_of place + (1 + c.need))) } in
      let assoc : copy_parts pl ++ (get_place pl ++ rest pl) ≡ (copy_parts pl ++ get_place pl) ++ rest pl = sym (append_assoc (copy_parts pl) (get_place pl) (rest pl)) in
      same_put a b res (assigned_part (option_map change_as o) left right a.labels) (chained (spot_part left a.labels) (changed_part op left right))
      (ap (λ (q : Option ChangeSign). assigned_part (option_map change_as q) left right a.labels) e ∙ (ap at ((law left).place a.labels)
      ∙ (λ j. record { items = s.items ++ assoc j; next = c.next; need = max s.need (parts_of pl + (parts_of pl + (1 + c.need))) }))) w

pub do_bumped : {E : Type 0} (law : CodeHasItsShape) (left : TypedExpr) (up : Bool) (a c b : Body) (p : ℕ) (res : Result ℕ E) → Puts a c p (spot_part left a.labels) →
    IfOk res (λ q. Ends c b (bump_place up (shape_of left).place) q (max p (parts_of (shape_of left).place + (parts_of (shape_of left).place + 2)))) → IfOk res (λ q. Puts a b q (bump up (code_of left) a.labels 0 0))
do_bumped law left up a c b p res h w =
    let s = (code_of left).spot a.labels in
    let pl = (shape_of left).place in
    let at : Place → Part = λ place. record { items = s.items ++ bump_place up place; next = s.next; need = max s.need (parts_of place + (parts_of place + 2)) } in
    same_put a b res (bump up (code_of left) a.labels 0 0) (at pl) (ap at ((law left).place a.labels)) (part_ends a c b p (spot_part left a.labels) (bump_place up pl) (λ (n : ℕ). max n (parts_of pl + (parts_of pl + 2))) res h w)

pub do_no_change : (left right : TypedExpr) (o : Option ChangeSign) (a : Body) → o ≡ None → Puts a a 0 (assigned_part (option_map change_as o) left right a.labels)
do_no_change left right o a e = nothing_put a (assigned_part (option_map change_as o) left right a.labels) (ap (λ (q : Option ChangeSign). assigned_part (option_map change_as q) left right a.labels) e)

-- the parts of a place, and a value behind them
pub do_stored : {E : Type 0} (left right : TypedExpr) (a c d b : Body) (p q : ℕ) (res : Result ℕ E) → Puts a c p (spot_part left a.labels) → Puts c d q (value_part right c.labels) →
    IfOk res (λ r. Ends d b (put_place (shape_of left).place) r (max p (parts_of (shape_of left).place + q))) → IfOk res (λ r. Puts a b r (chained (spot_part left a.labels) (becomes_part left right)))
do_stored left right a c d b p q res h k w =
    chain a c b p (spot_part left a.labels) (becomes_part left right) res h (part_ends c d b q (value_part right c.labels) (put_place (shape_of left).place) (λ (n : ℕ). max p (parts_of (shape_of left).place + n)) res k w)

-- the same, with the old value between
pub do_read : {E : Type 0} (left right : TypedExpr) (op : BinaryOp) (a c f d b : Body) (p q : ℕ) (res : Result ℕ E) → Puts a c p (spot_part left a.labels) → Adds c f (copy_parts (shape_of left).place ++ get_place (shape_of left).place) → Puts f d q (value_part right f.labels) →
    IfOk res (λ r. Ends d b (Plain (Binary op) ∷ put_place (shape_of left).place) r (max p (parts_of (shape_of left).place + (parts_of (shape_of left).place + (1 + q))))) → IfOk res (λ r. Puts a b r (chained (spot_part left a.labels) (changed_part op left right)))
do_read left right op a c f d b p q res h g k w =
    let pl = (shape_of left).place in
    chain a c b p (spot_part left a.labels) (changed_part op left right) res h
    (between_ends c f d b q (copy_parts pl ++ get_place pl) (λ (n : ℕ). value_part right n) (Plain (Binary op) ∷ put_place pl) (λ (n : ℕ). max p (parts_of pl + (parts_of pl + (1 + n)))) res g k w)
