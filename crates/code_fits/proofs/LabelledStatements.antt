-- The code of statements has labels of its own.
use Rattle.std.proofs.Common.{◌≡◌, ℕ, ◌+◌, Bool, true, false, ◌||◌, List, [], ◌∷◌, ◌++◌, map, Option, Some, None, refl, sym, subst}
use Rattle.std.specs.List.{list_any}
use Rattle.std.specs.Option.{option_map}
use Rattle.std.proofs.lemmas.Bool.{false≢true}
use Rattle.jp_store.specs.declared.value.Kind.{Kind}
use Rattle.jp_store.specs.declared.value.Kind.TheVariants.{Number, LongNumber, Reference}
use Rattle.jp_meaning.specs.declared.expr.TypedExpr.{TypedExpr}
use Rattle.jp_meaning.specs.declared.stmt.TypedStmt.{TypedStmt}
use Rattle.jp_meaning.specs.declared.stmt.TypedStmtKind.{TypedStmtKind, TypedStmtKind-F}
use Rattle.jp_meaning.specs.declared.stmt.TypedStmtKind.TheOpen as form
use Rattle.jp_meaning.specs.declared.stmt.TypedStmtKind.TheFolds.{ind-TypedStmt, fold-TypedStmtKind, fold-roll-TypedStmt, fold-roll-TypedStmtKind, map-TypedStmtKind}
use Rattle.jp_meaning.specs.Descriptors.{kind_of_type}
use Rattle.jp_meaning.specs.Signs.{Change, Becomes, Changes, change_of}
use Rattle.jvm_table.specs.declared.instr.Instr.{Instr}
use Rattle.jvm_table.specs.declared.instr.Jump.TheVariants.{Always}
use Rattle.jvm_table.specs.declared.instr.ConstantUse.{ConstantUse}
use Rattle.code_asm.specs.Items.{Wanted, Item, Plain, Uses}
use Rattle.gen_body.specs.Codes.{Codes, Place, LocalAt, FieldAt, StaticAt, ElementAt, Nowhere, coded}
use Rattle.gen_body.specs.Statements.{Made, nothing, copy_parts, get_place, put_place, push_default, declare, assign, step_place, bump_place, bump, in_row, test_codes, repeat, begin_loop, return_of, leave, made_step, made, block_code}
use Rattle.code_fits.specs.Encodable.{jump_step, jumps_out}
use Rattle.code_fits.proofs.Labels as labels
use Rattle.code_fits.proofs.LabelledExpressions.{OwnCoded, expr_own}

or_first : (x y : Bool) → x ≡ true → (x || y) ≡ true
or_first true y e = refl
or_first false y e = absurd (false≢true e)

or_second : (x y : Bool) → y ≡ true → (x || y) ≡ true
or_second true y e = refl
or_second false y e = e

module _ (label : ℕ) (P : ℕ → Type 0) where
  abbrev Own : Type 0 → ℕ → ℕ → List Item → Type 0
  Own = labels.Own label P

  -- what is asked of the labels where a `break` and a `continue` go, if there is one that goes out
  abbrev pub Ends : Bool → ℕ → ℕ → Type 0
  Ends x out back = x ≡ true → P out × P back

  -- the code of a statement
  abbrev pub OwnMade : Bool → Made → Type 0
  OwnMade x s = (n out back : ℕ) → Own (Ends x out back) n (s n out back).next (s n out back).items

  pub join : {asked : Type 0} {n m k : ℕ} {a b : List Item} → Own asked n m a → Own asked m k b → Own asked n k (a ++ b)
  join {asked} {n} {m} {k} {a} {b} h j = labels.joined label P asked n m k a b h j

  loose : {asked : Type 0} {n k : ℕ} {items : List Item} → Own (Unit {0}) n k items → Own asked n k items
  loose {asked} {n} {k} {items} h = labels.loose label P asked n k items h

  none : {asked : Type 0} (n : ℕ) → Own asked n n []
  none {asked} n = labels.no_items label P asked n

  pub quiet : {asked : Type 0} (n : ℕ) (instr : Instr) → Own asked n n (Plain instr ∷ [])
  quiet {asked} n instr = labels.quiet label P asked n instr

  uses : {asked : Type 0} (n : ℕ) (use_ : ConstantUse) (wanted : Wanted) → Own asked n n (Uses use_ wanted ∷ [])
  uses {asked} n use_ wanted = labels.uses label P asked n use_ wanted

  -- where one of two goes out
  left : {out back n k : ℕ} {items : List Item} (x y : Bool) → Own (Ends x out back) n k items → Own (Ends (x || y) out back) n k items
  left {out} {back} {n} {k} {items} x y h = labels.given label P (Ends x out back) (Ends (x || y) out back) n k items (λ f e. f (or_first x y e)) h

  right : {out back n k : ℕ} {items : List Item} (x y : Bool) → Own (Ends y out back) n k items → Own (Ends (x || y) out back) n k items
  right {out} {back} {n} {k} {items} x y h = labels.given label P (Ends y out back) (Ends (x || y) out back) n k items (λ f e. f (or_second x y e)) h

  expr : (e : TypedExpr) → OwnCoded label P (coded e)
  expr = expr_own label P

  value : {asked : Type 0} (e : TypedExpr) (n : ℕ) → Own asked n ((coded e).codes n).next ((coded e).codes n).value
  value e n = loose ((expr e).codes n).value

  spot : {asked : Type 0} (e : TypedExpr) (n : ℕ) → Own asked n ((coded e).spot n).next ((coded e).spot n).items
  spot e n = loose ((expr e).spot n)

  nothing_own : (x : Bool) → OwnMade x nothing
  nothing_own x n out back = none n

  pub default_own : {asked : Type 0} (kind : Kind) (n : ℕ) → Own asked n n (push_default kind ∷ [])
  default_own Number n = quiet n _
  default_own LongNumber n = quiet n _
  default_own Reference n = quiet n _

  copy_own : {asked : Type 0} (place : Place) (n : ℕ) → Own asked n n (copy_parts place)
  copy_own (LocalAt slot kind) n = none n
  copy_own (FieldAt key) n = quiet n _
  copy_own (StaticAt key) n = none n
  copy_own (ElementAt kind) n = quiet n _
  copy_own Nowhere n = none n

  get_own : {asked : Type 0} (place : Place) (n : ℕ) → Own asked n n (get_place place)
  get_own (LocalAt slot kind) n = quiet n _
  get_own (FieldAt key) n = uses n _ _
  get_own (StaticAt key) n = uses n _ _
  get_own (ElementAt kind) n = quiet n _
  get_own Nowhere n = none n

  put_own : {asked : Type 0} (place : Place) (n : ℕ) → Own asked n n (put_place place)
  put_own (LocalAt slot kind) n = quiet n _
  put_own (FieldAt key) n = uses n _ _
  put_own (StaticAt key) n = uses n _ _
  put_own (ElementAt kind) n = quiet n _
  put_own Nowhere n = none n

  step_own : {asked : Type 0} (up : Bool) (place : Place) (n : ℕ) → Own asked n n (step_place up place)
  step_own up place n = join (copy_own place n) (join (get_own place n) (join (quiet n _) (join (quiet n _) (put_own place n))))

  bump_own : {asked : Type 0} (up : Bool) (place : Place) (n : ℕ) → Own asked n n (bump_place up place)
  bump_own up (LocalAt slot Number) n = quiet n _
  bump_own up (LocalAt slot LongNumber) n = step_own up (LocalAt slot LongNumber) n
  bump_own up (LocalAt slot Reference) n = step_own up (LocalAt slot Reference) n
  bump_own up (FieldAt key) n = step_own up (FieldAt key) n
  bump_own up (StaticAt key) n = step_own up (StaticAt key) n
  bump_own up (ElementAt kind) n = step_own up (ElementAt kind) n
  bump_own up Nowhere n = none n

  declare_own : (x : Bool) (slot : ℕ) (initial : Option TypedExpr) (o : Option Kind) → OwnMade x (declare o slot (option_map coded initial))
  declare_own x slot initial None n out back = none n
  declare_own x slot None (Some kind) n out back = join (default_own kind n) (quiet n _)
  declare_own x slot (Some v) (Some kind) n out back = join (value v n) (quiet ((coded v).codes n).next _)

  assign_own : (x : Bool) (o : Option Change) (to from : TypedExpr) → OwnMade x (assign o (coded to) (coded from))
  assign_own x None to from n out back = none n
  assign_own x (Some Becomes) to from n out back =
      let s = (coded to).spot n in let c = (coded from).codes s.next in
      join (spot to n) (join (value from s.next) (put_own s.place c.next))
  assign_own x (Some (Changes op)) to from n out back =
      let s = (coded to).spot n in let c = (coded from).codes s.next in
      join (spot to n) (join (copy_own s.place s.next) (join (get_own s.place s.next) (join (value from s.next) (join (quiet c.next _) (put_own s.place c.next)))))

  bumped_own : (x up : Bool) (to : TypedExpr) → OwnMade x (bump up (coded to))
  bumped_own x up to n out back = let s = (coded to).spot n in join (spot to n) (bump_own up s.place s.next)

  test_own : (test : Option TypedExpr) (n to : ℕ) → Own (P to) n (test_codes test n).next ((test_codes test n).test false to)
  test_own None n to = labels.then_jump label P n n _ _ to (quiet n _)
  test_own (Some test) n to = ((expr test).codes n).test false to

  repeat_own : (asked : Type 0) (test : ℕ → Codes) (change body : Made) (z : Bool) (n out back : ℕ) → ((n to : ℕ) → Own (P to) n (test n).next ((test n).test false to)) → ((n : ℕ) → Own asked n (change n out back).next (change n out back).items) → OwnMade z body →
      Own asked n (repeat test change body n out back).next (repeat test change body n out back).items
  repeat_own asked test change body z n out back h i j =
      let c = test (n + 3) in let d = body c.next (n + 1) (n + 2) in let e = change d.next out back in
      labels.loop_own label P asked (Ends z (n + 1) (n + 2)) c.test d.items e.items n c.next d.next e.next (λ p q r. (p, q)) (h (n + 3) (n + 1)) (j c.next (n + 1) (n + 2)) (i d.next)

  for_own : (x : Bool) (init : Made) → OwnMade x init → (test : Option TypedExpr) (y : Bool) (change : Made) → OwnMade y change → (z : Bool) (body : Made) → OwnMade z body → OwnMade (x || y) (begin_loop init (repeat (test_codes test) change body))
  for_own x init hi test y change hc z body hb n out back =
      let c = init n out back in
      join (left x y (hi n out back)) (repeat_own (Ends (x || y) out back) (test_codes test) change body z c.next out back (test_own test) (λ n. right x y (hc n out back)) hb)

  leave_own : (x : Bool) (result : Option TypedExpr) → OwnMade x (λ n out back. leave result n)
  leave_own x None n out back = quiet n _
  leave_own x (Some v) n out back = by_kind (kind_of_type v.ty) where
    by_kind : (o : Option Kind) → Own (Ends x out back) n (return_of o ((coded v).codes n)).next (return_of o ((coded v).codes n)).items
    by_kind None = value v n
    by_kind (Some kind) = join (value v n) (quiet ((coded v).codes n).next _)

  abbrev kind_jumps : TypedStmtKind → Bool
  kind_jumps = fold-TypedStmtKind Bool Bool jump_step (λ s. s.kind)

  abbrev kind_made : TypedStmtKind → Made
  kind_made = fold-TypedStmtKind Made Made made_step (λ s. s.kind)

  abbrev OwnKind : Type 0
  OwnKind = (k : TypedStmtKind) × OwnMade (kind_jumps k) (kind_made k)

  abbrev OwnStmt : Type 0
  OwnStmt = (s : TypedStmt) × OwnMade (jumps_out s) (made s)

  order_own : (ss : List OwnStmt) → OwnMade (list_any (λ x. x) (map jumps_out (map (λ e. e.0) ss))) (in_row (map made (map (λ e. e.0) ss)))
  order_own [] n out back = none n
  order_own (s ∷ ss) n out back =
      let c = made s.0 n out back in
      let more = list_any (λ x. x) (map jumps_out (map (λ e. e.0) ss)) in
      join (left (jumps_out s.0) more (s.1 n out back)) (right (jumps_out s.0) more (order_own ss c.next out back))

  layer : (y : TypedStmtKind-F OwnKind OwnStmt) →
      OwnMade (jump_step (map-TypedStmtKind TypedStmtKind TypedStmt Bool Bool kind_jumps jumps_out (map-TypedStmtKind OwnKind OwnStmt TypedStmtKind TypedStmt (λ e. e.0) (λ e. e.0) y)))
      (made_step (map-TypedStmtKind TypedStmtKind TypedStmt Made Made kind_made made (map-TypedStmtKind OwnKind OwnStmt TypedStmtKind TypedStmt (λ e. e.0) (λ e. e.0) y)))
  layer (form.Block block) = order_own block
  layer form.Empty = nothing_own false
  layer (form.Local slot t initial) = declare_own false slot initial (kind_of_type t)
  layer (form.If test first None) = λ n out back.
      let c = (coded test).codes (n + 2) in let d = made first.0 c.next out back in
      labels.only_own label P (Ends (jumps_out first.0 || false) out back) c.test d.items n c.next d.next (((expr test).codes (n + 2)).test false n) (left (jumps_out first.0) false (first.1 c.next out back))
  layer (form.If test first (Some second)) = λ n out back.
      let c = (coded test).codes (n + 2) in let d = made first.0 c.next out back in let e = made second.0 d.next out back in
      labels.choice_own label P (Ends (jumps_out first.0 || jumps_out second.0) out back) c.test d.items e.items n c.next d.next e.next (((expr test).codes (n + 2)).test false n) (left (jumps_out first.0) (jumps_out second.0) (first.1 c.next out back)) (right (jumps_out first.0) (jumps_out second.0) (second.1 d.next out back))
  layer (form.While test body) = λ n out back.
      repeat_own (Ends false out back) (coded test).codes nothing (made body.0) (jumps_out body.0) n out back (λ n to. ((expr test).codes n).test false to) (λ n. none n) body.1
  layer (form.For None test None body) = for_own false nothing (nothing_own false) test false nothing (nothing_own false) (jumps_out body.0) (made body.0) body.1
  layer (form.For None test (Some change) body) = for_own false nothing (nothing_own false) test (jumps_out change.0) (made change.0) change.1 (jumps_out body.0) (made body.0) body.1
  layer (form.For (Some init) test None body) = for_own (jumps_out init.0) (made init.0) init.1 test false nothing (nothing_own false) (jumps_out body.0) (made body.0) body.1
  layer (form.For (Some init) test (Some change) body) = for_own (jumps_out init.0) (made init.0) init.1 test (jumps_out change.0) (made change.0) change.1 (jumps_out body.0) (made body.0) body.1
  layer form.Break = λ n out back. labels.branch label P (Ends true out back) n Always out (λ f. (f refl).0)
  layer form.Continue = λ n out back. labels.branch label P (Ends true out back) n Always back (λ f. (f refl).1)
  layer (form.Return result) = leave_own false result
  layer (form.Assign to sign from) = assign_own false (change_of sign) to from
  layer (form.Bump to up) = bumped_own false up to
  layer (form.Run e) = λ n out back. loose ((expr e).codes n).done

  with_both : {A B : Type 0} (Q : A → B → Type 0) (a c : A) (b d : B) → a ≡ c → b ≡ d → Q c d → Q a b
  with_both Q a c b d e f q = subst (λ x. Q x b) (sym e) (subst (λ y. Q c y) (sym f) q)

  stmt_own : (s : TypedStmt) → OwnMade (jumps_out s) (made s)
  stmt_own = ind-TypedStmt (λ k. OwnMade (kind_jumps k) (kind_made k)) (λ s. OwnMade (jumps_out s) (made s))
      (λ x y is. with_both OwnMade _ _ _ _ (fold-roll-TypedStmtKind Bool Bool jump_step (λ s. s.kind) x) (fold-roll-TypedStmtKind Made Made made_step (λ s. s.kind) x)
      (subst (λ (z : TypedStmtKind-F TypedStmtKind TypedStmt). OwnMade (jump_step (map-TypedStmtKind TypedStmtKind TypedStmt Bool Bool kind_jumps jumps_out z)) (made_step (map-TypedStmtKind TypedStmtKind TypedStmt Made Made kind_made made z))) is (layer y)))
      (λ x y is. with_both OwnMade _ _ _ _ (fold-roll-TypedStmt Bool Bool jump_step (λ s. s.kind) x) (fold-roll-TypedStmt Made Made made_step (λ s. s.kind) x)
      (subst (λ (z : form.TypedStmt-F TypedStmtKind TypedStmt). OwnMade (kind_jumps z.kind) (kind_made z.kind)) is y.kind.1))

  pub block_own : (ss : List TypedStmt) → OwnMade (list_any jumps_out ss) (block_code ss)
  block_own [] n out back = none n
  block_own (s ∷ ss) n out back =
      let c = made s n out back in
      join (left (jumps_out s) (list_any jumps_out ss) (stmt_own s n out back)) (right (jumps_out s) (list_any jumps_out ss) (block_own ss c.next out back))
