-- The code of a member that fits leaves its receiver alone.
use Rattle.std.proofs.Common.{◌≡◌, ℕ, ◌+◌, ◌≤◌, Bool, true, false, not, ◌&&◌, ◌||◌, List, [], ◌∷◌, ◌++◌, length, map, Option, Some, None, refl, sym, ap, ◌∙◌, subst, arith}
use Rattle.std.specs.Prelude.{◌==◌, cond, slice_get}
use Rattle.std.specs.List.{list_all}
use Rattle.std.specs.Option.{option_map, option_map_or}
use Rattle.std.proofs.lemmas.Bool.{false≢true, false_from_ne_true}
use Rattle.std.proofs.lemmas.Bool.Decides.{Decides-eqb}
use Rattle.class_form.proofs.Facts.{both}
use Rattle.jp_pred.specs.declared.hier.Hier.{Hier}
use Rattle.jp_pred.specs.declared.path.Path.{Path}
use Rattle.jp_pred.specs.declared.path.PathStep.{PathStep}
use Rattle.jp_pred.specs.declared.ty.Ty.{Ty}
use Rattle.jp_pred.specs.Names.{Word}
use Rattle.iface_codec.specs.declared.iface.Iface.{Iface}
use Rattle.iface_codec.specs.declared.iface.IfaceMethod.{IfaceMethod}
use Rattle.jp_store.specs.declared.value.Kind.{Kind}
use Rattle.jp_store.specs.declared.value.Kind.TheVariants.{Number, LongNumber, Reference}
use Rattle.jp_meaning.specs.declared.expr.TypedExpr.{TypedExpr}
use Rattle.jp_meaning.specs.declared.stmt.TypedStmt.{TypedStmt}
use Rattle.jp_meaning.specs.declared.stmt.TypedStmtKind.{TypedStmtKind, TypedStmtKind-F}
use Rattle.jp_meaning.specs.declared.stmt.TypedStmtKind.TheOpen as form
use Rattle.jp_meaning.specs.declared.stmt.TypedStmtKind.TheFolds.{ind-TypedStmt, fold-TypedStmtKind, fold-roll-TypedStmt, fold-roll-TypedStmtKind, map-TypedStmtKind}
use Rattle.jp_meaning.specs.declared.unit.TypedMember.{TypedMember}
use Rattle.jp_meaning.specs.declared.unit.TypedPart.{TypedPart}
use Rattle.jp_meaning.specs.declared.unit.TypedPart.TheVariants as part
use Rattle.jp_meaning.specs.Classes.{is_static}
use Rattle.jp_meaning.specs.Descriptors.{kind_of_type}
use Rattle.jp_meaning.specs.Members.{step_type}
use Rattle.jp_meaning.specs.Signs.{Change, Becomes, Changes, change_of}
use Rattle.jp_meaning.specs.Run.{Program}
use Rattle.code_trace.specs.Given.{has_receiver}
use Rattle.gen_body.specs.Codes.{Codes, Place, LocalAt, FieldAt, StaticAt, ElementAt, Nowhere, row_codes, coded}
use Rattle.gen_body.specs.Statements.{Part, Made, nothing, copy_parts, get_place, put_place, push_default, declare, assign, step_place, bump_place, bump, in_row, test_codes, repeat, begin_loop, return_of, leave, made_step, made, block_code}
use Rattle.gen_body.specs.Members.{step_code, steps_code, path_code, store_code, alias_code, aliases_code, given_to, super_code, end_code, framed, method_code, part_code, member_code}
use Rattle.gen_body.specs.Names.{are_nameable}
use Rattle.gen_body.specs.Correct.{keeps}
use Rattle.calls_fit.specs.Fitting.{Checked, all_fit, check, or_fits, is_target, stmt_step, stmt_fits}
use Rattle.gen_laws.specs.Laws.{FittingKeepsReceiver}
use Rattle.gen_laws.proofs.Keeping.{Keep, keep_all, joined, plain_ok, uses_ok, KeepCodes, plain_keeps, choice_keeps, FirstIs, construction_ok, expr_keeps}

-- a store in another local
stores_elsewhere : (r first : Bool) (slot : ℕ) → (slot == 0) ≡ first → not (r && first) ≡ true → (not r || not (slot == 0)) ≡ true
stores_elsewhere true true slot e h = absurd (false≢true h)
stores_elsewhere true false slot e h = ap (λ b. not b) e
stores_elsewhere false first slot e h = refl

module _ (p : Program) (head : Iface) (r : Bool) where
  default_ok : (kind : Kind) → keeps r (push_default kind) ≡ true
  default_ok Number = plain_ok r
  default_ok LongNumber = plain_ok r
  default_ok Reference = plain_ok r

  copy_keeps : (place : Place) → Keep r (copy_parts place)
  copy_keeps (LocalAt slot kind) = tt
  copy_keeps (FieldAt key) = (plain_ok r, tt)
  copy_keeps (StaticAt key) = tt
  copy_keeps (ElementAt kind) = (plain_ok r, tt)
  copy_keeps Nowhere = tt

  get_keeps : (place : Place) → Keep r (get_place place)
  get_keeps (LocalAt slot kind) = (plain_ok r, tt)
  get_keeps (FieldAt key) = (uses_ok r, tt)
  get_keeps (StaticAt key) = (uses_ok r, tt)
  get_keeps (ElementAt kind) = (plain_ok r, tt)
  get_keeps Nowhere = tt

  put_keeps : (place : Place) (first : Bool) → FirstIs r first place → not (r && first) ≡ true → Keep r (put_place place)
  put_keeps (LocalAt slot kind) first e h = (stores_elsewhere r first slot e h, tt)
  put_keeps (FieldAt key) first e h = (uses_ok r, tt)
  put_keeps (StaticAt key) first e h = (uses_ok r, tt)
  put_keeps (ElementAt kind) first e h = (plain_ok r, tt)
  put_keeps Nowhere first e h = tt

  step_keeps : (up : Bool) (place : Place) (first : Bool) → FirstIs r first place → not (r && first) ≡ true → Keep r (step_place up place)
  step_keeps up place first e h = joined r (copy_parts place) _ (copy_keeps place) (joined r (get_place place) _ (get_keeps place) (plain_ok r, (plain_ok r, put_keeps place first e h)))

  bump_keeps : (up : Bool) (place : Place) (first : Bool) → FirstIs r first place → not (r && first) ≡ true → Keep r (bump_place up place)
  bump_keeps up (LocalAt slot Number) first e h = (stores_elsewhere r first slot e h, tt)
  bump_keeps up (LocalAt slot LongNumber) first e h = step_keeps up (LocalAt slot LongNumber) first e h
  bump_keeps up (LocalAt slot Reference) first e h = step_keeps up (LocalAt slot Reference) first e h
  bump_keeps up (FieldAt key) first e h = step_keeps up (FieldAt key) first e h
  bump_keeps up (StaticAt key) first e h = step_keeps up (StaticAt key) first e h
  bump_keeps up (ElementAt kind) first e h = step_keeps up (ElementAt kind) first e h
  bump_keeps up Nowhere first e h = tt

  abbrev checks : TypedExpr → Checked
  checks = check p head r

  abbrev fits : TypedStmt → Bool
  fits = stmt_fits p head r

  -- the code of a statement that fits
  abbrev KeepMade : Bool → Made → Type 0
  KeepMade x m = x ≡ true → (n out back : ℕ) → Keep r (m n out back).items

  value_keeps : (e : TypedExpr) → (checks e).fits ≡ true → (n : ℕ) → KeepCodes r ((coded e).codes n)
  value_keeps e h n = (expr_keeps r p head e).codes h n

  declare_keeps : (slot : ℕ) (value : Option TypedExpr) (o : Option Kind) → KeepMade (not (r && slot == 0) && or_fits (λ e. (checks e).fits) value) (declare o slot (option_map coded value))
  declare_keeps slot value None e n out back = by_value value where
    by_value : (value : Option TypedExpr) → Keep r (declare None slot (option_map coded value) n out back).items
    by_value None = tt
    by_value (Some v) = tt
  declare_keeps slot None (Some kind) e n out back =
      let h = both (not (r && slot == 0)) true e in (default_ok kind, (stores_elsewhere r (slot == 0) slot refl h.0, tt))
  declare_keeps slot (Some v) (Some kind) e n out back =
      let h = both (not (r && slot == 0)) (checks v).fits e in
      joined r ((coded v).codes n).value _ (value_keeps v h.1 n).value (stores_elsewhere r (slot == 0) slot refl h.0, tt)

  assign_keeps : (o : Option Change) (left right : TypedExpr) → KeepMade (is_target r (checks left) && (checks right).fits) (assign o (coded left) (coded right))
  assign_keeps None left right e n out back = tt
  assign_keeps (Some Becomes) left right e n out back =
      let h = both (is_target r (checks left)) (checks right).fits e in
      let i = both (checks left).fits (not (r && (checks left).is_first)) h.0 in
      let k = expr_keeps r p head left in
      let s = (coded left).spot n in
      joined r s.items _ (k.spot i.0 n) (joined r ((coded right).codes s.next).value _ (value_keeps right h.1 s.next).value (put_keeps s.place (checks left).is_first (k.place n) i.1))
  assign_keeps (Some (Changes op)) left right e n out back =
      let h = both (is_target r (checks left)) (checks right).fits e in
      let i = both (checks left).fits (not (r && (checks left).is_first)) h.0 in
      let k = expr_keeps r p head left in
      let s = (coded left).spot n in
      joined r s.items _ (k.spot i.0 n) (joined r (copy_parts s.place) _ (copy_keeps s.place) (joined r (get_place s.place) _ (get_keeps s.place)
      (joined r ((coded right).codes s.next).value _ (value_keeps right h.1 s.next).value (plain_ok r, put_keeps s.place (checks left).is_first (k.place n) i.1))))

  bumped_keeps : (up : Bool) (left : TypedExpr) → KeepMade (is_target r (checks left)) (bump up (coded left))
  bumped_keeps up left e n out back =
      let i = both (checks left).fits (not (r && (checks left).is_first)) e in
      let k = expr_keeps r p head left in
      let s = (coded left).spot n in
      joined r s.items _ (k.spot i.0 n) (bump_keeps up s.place (checks left).is_first (k.place n) i.1)

  test_keeps : (test : Option TypedExpr) → or_fits (λ e. (checks e).fits) test ≡ true → (n : ℕ) → KeepCodes r (test_codes test n)
  test_keeps None e n = plain_keeps r _ 1 n (plain_ok r, tt)
  test_keeps (Some test) e n = value_keeps test e n

  repeat_keeps : (test : ℕ → Codes) (change body : Made) → ((n : ℕ) → KeepCodes r (test n)) → ((n out back : ℕ) → Keep r (change n out back).items) → ((n out back : ℕ) → Keep r (body n out back).items) → (n out back : ℕ) → Keep r (repeat test change body n out back).items
  repeat_keeps test change body h i j n out back =
      let c = test (n + 3) in let d = body c.next (n + 1) (n + 2) in
      (refl, joined r (c.test false (n + 1)) _ ((h (n + 3)).test false (n + 1)) (joined r d.items _ (j c.next (n + 1) (n + 2)) (refl, joined r (change d.next out back).items _ (i d.next out back) (refl, (refl, tt)))))

  leave_keeps : (value : Option TypedExpr) → or_fits (λ e. (checks e).fits) value ≡ true → (n : ℕ) → Keep r (leave value n).items
  leave_keeps None e n = (plain_ok r, tt)
  leave_keeps (Some v) e n = by_kind (kind_of_type v.ty) where
    by_kind : (o : Option Kind) → Keep r (return_of o ((coded v).codes n)).items
    by_kind None = (value_keeps v e n).value
    by_kind (Some kind) = joined r ((coded v).codes n).value _ (value_keeps v e n).value (plain_ok r, tt)

  abbrev kind_fits : TypedStmtKind → Bool
  kind_fits = fold-TypedStmtKind Bool Bool (stmt_step p head r) (λ s. s.kind)

  abbrev kind_made : TypedStmtKind → Made
  kind_made = fold-TypedStmtKind Made Made made_step (λ s. s.kind)

  abbrev KeptKind : Type 0
  KeptKind = (k : TypedStmtKind) × KeepMade (kind_fits k) (kind_made k)

  abbrev KeptStmt : Type 0
  KeptStmt = (s : TypedStmt) × KeepMade (fits s) (made s)

  order_keeps : (ss : List KeptStmt) → KeepMade (list_all (λ x. x) (map fits (map (λ e. e.0) ss))) (in_row (map made (map (λ e. e.0) ss)))
  order_keeps [] e n out back = tt
  order_keeps (s ∷ ss) e n out back =
      let h = both (fits s.0) (list_all (λ x. x) (map fits (map (λ e. e.0) ss))) e in
      let c = made s.0 n out back in
      joined r c.items _ (s.1 h.0 n out back) (order_keeps ss h.1 c.next out back)

  for_keeps : (x : Bool) (init : Made) → KeepMade x init → (test : Option TypedExpr) (y : Bool) (change : Made) → KeepMade y change → (z : Bool) (body : Made) → KeepMade z body → KeepMade (x && (or_fits (λ e. (checks e).fits) test && (y && z))) (begin_loop init (repeat (test_codes test) change body))
  for_keeps x init hi test y change hc z body hb e n out back =
      let t = or_fits (λ e. (checks e).fits) test in
      let h = both x (t && (y && z)) e in let i = both t (y && z) h.1 in let j = both y z i.1 in
      let c = init n out back in
      joined r c.items _ (hi h.0 n out back) (repeat_keeps (test_codes test) change body (test_keeps test i.0) (hc j.0) (hb j.1) c.next out back)

  layer : (y : TypedStmtKind-F KeptKind KeptStmt) →
      KeepMade (stmt_step p head r (map-TypedStmtKind TypedStmtKind TypedStmt Bool Bool kind_fits fits (map-TypedStmtKind KeptKind KeptStmt TypedStmtKind TypedStmt (λ e. e.0) (λ e. e.0) y)))
      (made_step (map-TypedStmtKind TypedStmtKind TypedStmt Made Made kind_made made (map-TypedStmtKind KeptKind KeptStmt TypedStmtKind TypedStmt (λ e. e.0) (λ e. e.0) y)))
  layer (form.Block block) = order_keeps block
  layer form.Empty = λ e n out back. tt
  layer (form.Local slot t value) = declare_keeps slot value (kind_of_type t)
  layer (form.If test first None) = λ e n out back.
      let h = both (checks test).fits (fits first.0 && true) e in let i = both (fits first.0) true h.1 in
      let c = (coded test).codes (n + 2) in
      joined r (c.test false n) _ ((value_keeps test h.0 (n + 2)).test false n) (joined r (made first.0 c.next out back).items _ (first.1 i.0 c.next out back) (refl, tt))
  layer (form.If test first (Some second)) = λ e n out back.
      let h = both (checks test).fits (fits first.0 && fits second.0) e in let i = both (fits first.0) (fits second.0) h.1 in
      let c = (coded test).codes (n + 2) in let d = made first.0 c.next out back in
      choice_keeps r c.test d.items (made second.0 d.next out back).items n ((value_keeps test h.0 (n + 2)).test false n) (first.1 i.0 c.next out back) (second.1 i.1 d.next out back)
  layer (form.While test body) = λ e n out back.
      let h = both (checks test).fits (fits body.0) e in
      repeat_keeps (coded test).codes nothing (made body.0) (value_keeps test h.0) (λ n out back. tt) (body.1 h.1) n out back
  layer (form.For None test None body) = for_keeps true nothing (λ e n out back. tt) test true nothing (λ e n out back. tt) (fits body.0) (made body.0) body.1
  layer (form.For None test (Some change) body) = for_keeps true nothing (λ e n out back. tt) test (fits change.0) (made change.0) change.1 (fits body.0) (made body.0) body.1
  layer (form.For (Some init) test None body) = for_keeps (fits init.0) (made init.0) init.1 test true nothing (λ e n out back. tt) (fits body.0) (made body.0) body.1
  layer (form.For (Some init) test (Some change) body) = for_keeps (fits init.0) (made init.0) init.1 test (fits change.0) (made change.0) change.1 (fits body.0) (made body.0) body.1
  layer form.Break = λ e n out back. (refl, tt)
  layer form.Continue = λ e n out back. (refl, tt)
  layer (form.Return value) = λ e n out back. leave_keeps value e n
  layer (form.Assign left sign right) = assign_keeps (change_of sign) left right
  layer (form.Bump left up) = bumped_keeps up left
  layer (form.Run value) = λ e n out back. (value_keeps value e n).done

  with_both : {A B : Type 0} (Q : A → B → Type 0) (a c : A) (b d : B) → a ≡ c → b ≡ d → Q c d → Q a b
  with_both Q a c b d e f q = subst (λ x. Q x b) (sym e) (subst (λ y. Q c y) (sym f) q)

  stmt_keeps : (s : TypedStmt) → KeepMade (fits s) (made s)
  stmt_keeps = ind-TypedStmt (λ k. KeepMade (kind_fits k) (kind_made k)) (λ s. KeepMade (fits s) (made s))
      (λ x y is. with_both KeepMade _ _ _ _ (fold-roll-TypedStmtKind Bool Bool (stmt_step p head r) (λ s. s.kind) x) (fold-roll-TypedStmtKind Made Made made_step (λ s. s.kind) x)
      (subst (λ (z : TypedStmtKind-F TypedStmtKind TypedStmt). KeepMade (stmt_step p head r (map-TypedStmtKind TypedStmtKind TypedStmt Bool Bool kind_fits fits z)) (made_step (map-TypedStmtKind TypedStmtKind TypedStmt Made Made kind_made made z))) is (layer y)))
      (λ x y is. with_both KeepMade _ _ _ _ (fold-roll-TypedStmt Bool Bool (stmt_step p head r) (λ s. s.kind) x) (fold-roll-TypedStmt Made Made made_step (λ s. s.kind) x)
      (subst (λ (z : form.TypedStmt-F TypedStmtKind TypedStmt). KeepMade (kind_fits z.kind) (kind_made z.kind)) is y.kind.1))

  block_keeps : (ss : List TypedStmt) → list_all fits ss ≡ true → (n out back : ℕ) → Keep r (block_code ss n out back).items
  block_keeps [] e n out back = tt
  block_keeps (s ∷ ss) e n out back =
      let h = both (fits s) (list_all fits ss) e in
      let c = made s n out back in
      joined r c.items _ (stmt_keeps s h.0 n out back) (block_keeps ss h.1 c.next out back)

  args_keep : (es : List TypedExpr) → all_fit (map checks es) ≡ true → (n : ℕ) → Keep r (row_codes (map coded es) n).items
  args_keep [] e n = tt
  args_keep (x ∷ xs) e n =
      let h = both (checks x).fits (all_fit (map checks xs)) e in
      joined r ((coded x).codes n).value _ (value_keeps x h.0 n).value (args_keep xs h.1 ((coded x).codes n).next)

  -- the code of aliases, which are stored behind what is given
  steps_keep : (hier : Hier) (steps : List PathStep) → Keep r (steps_code hier steps)
  steps_keep hier [] = tt
  steps_keep hier (step ∷ steps) = by_type (step_type hier step) (steps_keep hier steps) where
    by_type : (o : Option Ty) → Keep r (steps_code hier steps) → Keep r (step_code o step ++ steps_code hier steps)
    by_type None h = h
    by_type (Some t) h = (uses_ok r, h)

  path_keeps : (hier : Hier) (root : ℕ) (steps : List PathStep) (o : Option Kind) → Keep r (path_code hier root steps o)
  path_keeps hier root [] None = tt
  path_keeps hier root [] (Some kind) = (plain_ok r, tt)
  path_keeps hier root (step ∷ steps) o = (plain_ok r, steps_keep hier (step ∷ steps))

  store_keeps : (slot : ℕ) (o : Option Kind) → (r ≡ true → 1 ≤ slot) → Keep r (store_code slot o)
  store_keeps slot None h = tt
  store_keeps slot (Some kind) h = (by_receiver r h, tt) where
    by_receiver : (x : Bool) → (x ≡ true → 1 ≤ slot) → (not x || not (slot == 0)) ≡ true
    by_receiver false h = refl
    by_receiver true h = ap (λ b. not b) (false_from_ne_true (slot == 0) (λ e. omega (arith, h refl, (Decides-eqb slot 0).0 e)))

  aliases_keep : (hier : Hier) (slot : ℕ) (aliases : List (Path × Ty)) → (r ≡ true → 1 ≤ slot) → Keep r (aliases_code hier slot aliases)
  aliases_keep hier slot [] h = tt
  aliases_keep hier slot (alias ∷ more) h =
      let o = kind_of_type alias.1 in
      joined r (alias_code hier slot alias) _ (joined r (path_code hier alias.0.root alias.0.steps o) _ (path_keeps hier alias.0.root alias.0.steps o) (store_keeps slot o h)) (aliases_keep hier (slot + 1) more (λ e. omega (arith, h e)))

  end_keeps : (o : Option Kind) → Keep r (end_code o)
  end_keeps None = (plain_ok r, tt)
  end_keeps (Some kind) = (default_ok kind, (plain_ok r, tt))

  super_keeps : (o : Option Word) (m : TypedMember) (n : ℕ) → all_fit (map checks m.super_args) ≡ true → Keep r (super_code o m n).items
  super_keeps None m n e = tt
  super_keeps (Some superclass) m n e = (plain_ok r, joined r (row_codes (map coded m.super_args) n).items _ (args_keep m.super_args e n) (construction_ok r superclass m.super_params, tt))

  framed_keeps : (o : Option Kind) (start : Part) (m : TypedMember) → Keep r start.items → list_all fits m.block ≡ true → Keep r (framed o start m).items
  framed_keeps o start m h e = joined r start.items _ h (joined r (block_code m.block start.next 0 1).items _ (block_keeps m.block e start.next 0 1) (end_keeps o))

module _ (p : Program) (hier : Hier) (head : Iface) (m : TypedMember) where
  method_keeps : (r : Bool) (o : Option IfaceMethod) → list_all (stmt_fits p head r) m.block ≡ true → option_map_or (λ (method : IfaceMethod). not (is_static method.kind)) o false ≡ r → Keep r (method_code hier o m).items
  method_keeps r None e k = tt
  method_keeps r (Some method) e k = framed_keeps p head r (kind_of_type method.result) (record { items = aliases_code hier (given_to method) method.aliases; next = 2; need = 1 }) m (aliases_keep p head r hier (given_to method) method.aliases (λ is. received (is_static method.kind) (k ∙ is))) e where
    received : (static : Bool) → not static ≡ true → 1 ≤ cond static (length method.params) (1 + length method.params)
    received true e = absurd (false≢true e)
    received false e = omega arith

  part_keeps : (r : Bool) (q : TypedPart) → list_all (stmt_fits p head r) m.block ≡ true → all_fit (map (check p head r) m.super_args) ≡ true → has_receiver head q ≡ r → Keep r (part_code hier head m q).items
  part_keeps r (part.Field at) e f k = tt
  part_keeps r (part.Method at) e f k = method_keeps r (slice_get head.methods at) e k
  part_keeps r (part.Constructor at) e f k = framed_keeps p head r None (super_code head.superclass m 2) m (super_keeps p head r head.superclass m 2 f) e

pub receiver_kept : FittingKeepsReceiver
receiver_kept p hier head m e =
    let r = has_receiver head m.part in
    let h = both (list_all (stmt_fits p head r) m.block) (all_fit (map (check p head r) m.super_args) && are_nameable m.super_params) e in
    let i = both (all_fit (map (check p head r) m.super_args)) (are_nameable m.super_params) h.1 in
    keep_all r (member_code hier head m).items (part_keeps p hier head m r m.part h.0 i.0 refl)
