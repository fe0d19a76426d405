-- The same of encodable statements.
use Rattle.std.proofs.Common.{◌≡◌, ℕ, ◌+◌, Bool, true, false, not, ◌&&◌, List, [], ◌∷◌, map, Option, Some, None, refl, sym, subst}
use Rattle.std.specs.Prelude.{◌==◌}
use Rattle.std.specs.List.{list_all}
use Rattle.std.specs.Option.{option_map}
use Rattle.jp_store.specs.declared.value.Kind.{Kind}
use Rattle.jp_store.specs.declared.value.Kind.TheVariants.{Number, LongNumber, Reference}
use Rattle.jp_meaning.specs.declared.expr.TypedExpr.{TypedExpr}
use Rattle.jp_meaning.specs.declared.stmt.TypedStmt.{TypedStmt}
use Rattle.jp_meaning.specs.declared.stmt.TypedStmtKind.{TypedStmtKind, TypedStmtKind-F}
use Rattle.jp_meaning.specs.declared.stmt.TypedStmtKind.TheOpen as form
use Rattle.jp_meaning.specs.declared.stmt.TypedStmtKind.TheFolds.{ind-TypedStmt, fold-TypedStmtKind, fold-roll-TypedStmt, fold-roll-TypedStmtKind, map-TypedStmtKind}
use Rattle.jp_meaning.specs.Descriptors.{kind_of_type}
use Rattle.jp_meaning.specs.Signs.{Change, Becomes, Changes, change_of}
use Rattle.jp_meaning.specs.Run.{Program}
use Rattle.iface_codec.specs.declared.iface.Iface.{Iface}
use Rattle.code_asm.specs.Items.{Item}
use Rattle.gen_body.specs.Codes.{Codes, Place, LocalAt, FieldAt, StaticAt, ElementAt, Nowhere, coded}
use Rattle.gen_body.specs.Statements.{Made, nothing, copy_parts, get_place, put_place, push_default, declare, assign, step_place, bump_place, bump, in_row, test_codes, repeat, begin_loop, return_of, leave, made_step, made, block_code}
use Rattle.calls_fit.specs.Fitting.{Checked, check, or_fits, is_target, stmt_fits, stmt_step as checked_step}
use Rattle.code_fits.specs.Encodable.{is_in_reach, is_encodable, or_so, stmt_step, stmt_is_encodable}
use Rattle.code_fits.specs.Ordinary.{calls_ordinary, stmt_calls_ordinary, stmt_step as ordinary_step}
use Rattle.code_fits.proofs.Lines as lines
use Rattle.code_fits.proofs.Lines.{both_if, Single, single_type, load_opcode, store_opcode, return_opcode}
use Rattle.code_fits.proofs.LinesOfExpressions as exprs

module _ (G F : Type 0) where
  abbrev Each : List Item → Type 0
  Each = lines.Each G F

  pub default_fits : (kind : Kind) → lines.Fit G F (push_default kind)
  default_fits Number = (λ z. refl, λ f. tt)
  default_fits LongNumber = (λ z. refl, λ f. tt)
  default_fits Reference = (λ z. refl, λ f. tt)

  copy_fits : (place : Place) → Each (copy_parts place)
  copy_fits (LocalAt slot kind) = tt
  copy_fits (FieldAt key) = ((λ z. refl, λ f. tt), tt)
  copy_fits (StaticAt key) = tt
  copy_fits (ElementAt kind) = ((λ z. refl, λ f. tt), tt)
  copy_fits Nowhere = tt

  get_fits : (place : Place) → lines.PlaceFits G F place → Each (get_place place)
  get_fits (LocalAt slot kind) h = ((λ z. load_opcode kind slot h.0 (h.1 z), λ f. tt), tt)
  get_fits (FieldAt key) h = ((λ z. refl, λ f. tt), tt)
  get_fits (StaticAt key) h = ((λ z. refl, λ f. tt), tt)
  get_fits (ElementAt kind) h = ((λ z. refl, λ f. tt), tt)
  get_fits Nowhere h = tt

  put_fits : (place : Place) → lines.PlaceFits G F place → Each (put_place place)
  put_fits (LocalAt slot kind) h = ((λ z. store_opcode kind slot h.0 (h.1 z), λ f. tt), tt)
  put_fits (FieldAt key) h = ((λ z. refl, λ f. tt), tt)
  put_fits (StaticAt key) h = ((λ z. refl, λ f. tt), tt)
  put_fits (ElementAt kind) h = ((λ z. refl, λ f. tt), tt)
  put_fits Nowhere h = tt

  step_fits : (up : Bool) (place : Place) → lines.PlaceFits G F place → Each (step_place up place)
  step_fits up place h =
      lines.joined G F (copy_parts place) _ (copy_fits place) (lines.joined G F (get_place place) _ (get_fits place h) ((λ z. refl, λ f. tt), ((λ z. refl, λ f. tt), put_fits place h)))

  bump_fits : (up : Bool) (place : Place) → lines.PlaceFits G F place → Each (bump_place up place)
  bump_fits up (LocalAt slot Number) h = ((λ z. lines.increase_opcode up slot (h.1 z), λ f. tt), tt)
  bump_fits up (LocalAt slot LongNumber) h = step_fits up (LocalAt slot LongNumber) h
  bump_fits up (LocalAt slot Reference) h = step_fits up (LocalAt slot Reference) h
  bump_fits up (FieldAt key) h = step_fits up (FieldAt key) h
  bump_fits up (StaticAt key) h = step_fits up (StaticAt key) h
  bump_fits up (ElementAt kind) h = step_fits up (ElementAt kind) h
  bump_fits up Nowhere h = tt

module _ (G F : Type 0) (p : Program) (head : Iface) (r : Bool) where
  abbrev Every : List Item → Type 0
  Every = lines.Each G F

  abbrev checks : TypedExpr → Checked
  checks = check p head r

  abbrev fits : TypedStmt → Bool
  fits = stmt_fits p head r

  -- the code of a statement that is encodable under the one premise, and under the other fits and calls ordinary methods
  abbrev FitMade : Bool → Bool → Bool → Made → Type 0
  FitMade x o y m = (F → x ≡ true) → (F → o ≡ true) → (G → y ≡ true) → (n out back : ℕ) → Every (m n out back).items

  value_fits : (e : TypedExpr) → (F → (checks e).fits ≡ true) → (F → calls_ordinary e ≡ true) → (G → is_encodable e ≡ true) → (n : ℕ) → lines.FitCodes G F ((coded e).codes n)
  value_fits e h o g n = (exprs.expr_fits G F p head r e).codes h o g n

  nothing_fits : (x o y : Bool) → FitMade x o y nothing
  nothing_fits x o y e u g n out back = tt

  declare_fits : (slot : ℕ) (initial : Option TypedExpr) (o : Option Kind) → Single o → FitMade (not (r && slot == 0) && or_fits (λ e. (checks e).fits) initial) (or_so calls_ordinary initial) (is_in_reach slot && or_so is_encodable initial) (declare o slot (option_map coded initial))
  declare_fits slot initial None s e u g n out back = tt
  declare_fits slot None (Some kind) s e u g n out back =
      let i = both_if G (is_in_reach slot) true g in (default_fits G F kind, ((λ z. store_opcode kind slot s (i.0 z), λ f. tt), tt))
  declare_fits slot (Some v) (Some kind) s e u g n out back =
      let h = both_if F (not (r && slot == 0)) (checks v).fits e in let i = both_if G (is_in_reach slot) (is_encodable v) g in
      lines.joined G F ((coded v).codes n).value _ (value_fits v h.1 u i.1 n).value ((λ z. store_opcode kind slot s (i.0 z), λ f. tt), tt)

  assign_fits : (o : Option Change) (left right : TypedExpr) → FitMade (is_target r (checks left) && (checks right).fits) (calls_ordinary left && calls_ordinary right) (is_encodable left && is_encodable right) (assign o (coded left) (coded right))
  assign_fits None left right e u g n out back = tt
  assign_fits (Some Becomes) left right e u g n out back =
      let h = both_if F (is_target r (checks left)) (checks right).fits e in
      let i = both_if F (checks left).fits (not (r && (checks left).is_first)) h.0 in
      let v = both_if F (calls_ordinary left) (calls_ordinary right) u in
      let j = both_if G (is_encodable left) (is_encodable right) g in
      let k = exprs.expr_fits G F p head r left in
      let s = (coded left).spot n in
      lines.joined G F s.items _ (k.spot i.0 v.0 j.0 n) (lines.joined G F ((coded right).codes s.next).value _ (value_fits right h.1 v.1 j.1 s.next).value (put_fits G F s.place (k.place j.0 n)))
  assign_fits (Some (Changes op)) left right e u g n out back =
      let h = both_if F (is_target r (checks left)) (checks right).fits e in
      let i = both_if F (checks left).fits (not (r && (checks left).is_first)) h.0 in
      let v = both_if F (calls_ordinary left) (calls_ordinary right) u in
      let j = both_if G (is_encodable left) (is_encodable right) g in
      let k = exprs.expr_fits G F p head r left in
      let s = (coded left).spot n in
      lines.joined G F s.items _ (k.spot i.0 v.0 j.0 n) (lines.joined G F (copy_parts s.place) _ (copy_fits G F s.place) (lines.joined G F (get_place s.place) _ (get_fits G F s.place (k.place j.0 n))
      (lines.joined G F ((coded right).codes s.next).value _ (value_fits right h.1 v.1 j.1 s.next).value ((λ z. refl, λ f. tt), put_fits G F s.place (k.place j.0 n)))))

  bumped_fits : (up : Bool) (left : TypedExpr) → FitMade (is_target r (checks left)) (calls_ordinary left) (is_encodable left) (bump up (coded left))
  bumped_fits up left e u g n out back =
      let i = both_if F (checks left).fits (not (r && (checks left).is_first)) e in
      let k = exprs.expr_fits G F p head r left in
      let s = (coded left).spot n in
      lines.joined G F s.items _ (k.spot i.0 u g n) (bump_fits G F up s.place (k.place g n))

  test_fits : (test : Option TypedExpr) → (F → or_fits (λ e. (checks e).fits) test ≡ true) → (F → or_so calls_ordinary test ≡ true) → (G → or_so is_encodable test ≡ true) → (n : ℕ) → lines.FitCodes G F (test_codes test n)
  test_fits None e u g n = lines.plain_fits G F _ 1 n ((λ z. refl, λ f. tt), tt)
  test_fits (Some test) e u g n = value_fits test e u g n

  repeat_fits : (test : ℕ → Codes) (change body : Made) → ((n : ℕ) → lines.FitCodes G F (test n)) → ((n out back : ℕ) → Every (change n out back).items) → ((n out back : ℕ) → Every (body n out back).items) → (n out back : ℕ) → Every (repeat test change body n out back).items
  repeat_fits test change body h i j n out back =
      let c = test (n + 3) in let d = body c.next (n + 1) (n + 2) in
      ((λ z. refl, λ f. tt), lines.joined G F (c.test false (n + 1)) _ ((h (n + 3)).test false (n + 1)) (lines.joined G F d.items _ (j c.next (n + 1) (n + 2)) ((λ z. refl, λ f. tt), lines.joined G F (change d.next out back).items _ (i d.next out back) ((λ z. refl, λ f. tt), ((λ z. refl, λ f. tt), tt)))))

  leave_fits : (result : Option TypedExpr) → (F → or_fits (λ e. (checks e).fits) result ≡ true) → (F → or_so calls_ordinary result ≡ true) → (G → or_so is_encodable result ≡ true) → (n : ℕ) → Every (leave result n).items
  leave_fits None e u g n = ((λ z. refl, λ f. tt), tt)
  leave_fits (Some v) e u g n = by_kind (kind_of_type v.ty) (single_type v.ty) where
    by_kind : (o : Option Kind) → Single o → Every (return_of o ((coded v).codes n)).items
    by_kind None s = (value_fits v e u g n).value
    by_kind (Some kind) s = lines.joined G F ((coded v).codes n).value _ (value_fits v e u g n).value ((λ z. return_opcode kind s, λ f. tt), tt)

  abbrev kind_fits : TypedStmtKind → Bool
  kind_fits = fold-TypedStmtKind Bool Bool (checked_step p head r) (λ s. s.kind)

  abbrev kind_ordinary : TypedStmtKind → Bool
  kind_ordinary = fold-TypedStmtKind Bool Bool ordinary_step (λ s. s.kind)

  abbrev kind_encodable : TypedStmtKind → Bool
  kind_encodable = fold-TypedStmtKind Bool Bool stmt_step (λ s. s.kind)

  abbrev kind_made : TypedStmtKind → Made
  kind_made = fold-TypedStmtKind Made Made made_step (λ s. s.kind)

  abbrev FitKind : Type 0
  FitKind = (k : TypedStmtKind) × FitMade (kind_fits k) (kind_ordinary k) (kind_encodable k) (kind_made k)

  abbrev FitStmt : Type 0
  FitStmt = (s : TypedStmt) × FitMade (fits s) (stmt_calls_ordinary s) (stmt_is_encodable s) (made s)

  abbrev given : List FitStmt → Bool
  given ss = list_all (λ x. x) (map fits (map (λ e. e.0) ss))

  abbrev usual : List FitStmt → Bool
  usual ss = list_all (λ x. x) (map stmt_calls_ordinary (map (λ e. e.0) ss))

  abbrev told : List FitStmt → Bool
  told ss = list_all (λ x. x) (map stmt_is_encodable (map (λ e. e.0) ss))

  order_fits : (ss : List FitStmt) → FitMade (given ss) (usual ss) (told ss) (in_row (map made (map (λ e. e.0) ss)))
  order_fits [] e u g n out back = tt
  order_fits (s ∷ ss) e u g n out back =
      let h = both_if F (fits s.0) (given ss) e in let v = both_if F (stmt_calls_ordinary s.0) (usual ss) u in let i = both_if G (stmt_is_encodable s.0) (told ss) g in
      let c = made s.0 n out back in
      lines.joined G F c.items _ (s.1 h.0 v.0 i.0 n out back) (order_fits ss h.1 v.1 i.1 c.next out back)

  for_fits : (x xo xe : Bool) (init : Made) → FitMade x xo xe init → (test : Option TypedExpr) (y yo ye : Bool) (change : Made) → FitMade y yo ye change → (z zo ze : Bool) (body : Made) → FitMade z zo ze body →
      FitMade (x && (or_fits (λ e. (checks e).fits) test && (y && z))) (xo && (or_so calls_ordinary test && (yo && zo))) (xe && (or_so is_encodable test && (ye && ze))) (begin_loop init (repeat (test_codes test) change body))
  for_fits x xo xe init hi test y yo ye change hc z zo ze body hb e o g n out back =
      let t = or_fits (λ e. (checks e).fits) test in let v = or_so calls_ordinary test in let u = or_so is_encodable test in
      let h = both_if F x (t && (y && z)) e in let i = both_if F t (y && z) h.1 in let j = both_if F y z i.1 in
      let a = both_if F xo (v && (yo && zo)) o in let b = both_if F v (yo && zo) a.1 in let d = both_if F yo zo b.1 in
      let k = both_if G xe (u && (ye && ze)) g in let l = both_if G u (ye && ze) k.1 in let m = both_if G ye ze l.1 in
      let c = init n out back in
      lines.joined G F c.items _ (hi h.0 a.0 k.0 n out back) (repeat_fits (test_codes test) change body (test_fits test i.0 b.0 l.0) (hc j.0 d.0 m.0) (hb j.1 d.1 m.1) c.next out back)

  layer : (y : TypedStmtKind-F FitKind FitStmt) →
      FitMade (checked_step p head r (map-TypedStmtKind TypedStmtKind TypedStmt Bool Bool kind_fits fits (map-TypedStmtKind FitKind FitStmt TypedStmtKind TypedStmt (λ e. e.0) (λ e. e.0) y)))
      (ordinary_step (map-TypedStmtKind TypedStmtKind TypedStmt Bool Bool kind_ordinary stmt_calls_ordinary (map-TypedStmtKind FitKind FitStmt TypedStmtKind TypedStmt (λ e. e.0) (λ e. e.0) y)))
      (stmt_step (map-TypedStmtKind TypedStmtKind TypedStmt Bool Bool kind_encodable stmt_is_encodable (map-TypedStmtKind FitKind FitStmt TypedStmtKind TypedStmt (λ e. e.0) (λ e. e.0) y)))
      (made_step (map-TypedStmtKind TypedStmtKind TypedStmt Made Made kind_made made (map-TypedStmtKind FitKind FitStmt TypedStmtKind TypedStmt (λ e. e.0) (λ e. e.0) y)))
  layer (form.Block block) = order_fits block
  layer form.Empty = nothing_fits true true true
  layer (form.Local slot t initial) = declare_fits slot initial (kind_of_type t) (single_type t)
  layer (form.If test first None) = λ e o g n out back.
      let h = both_if F (checks test).fits (fits first.0 && true) e in let i = both_if F (fits first.0) true h.1 in
      let u = both_if F (calls_ordinary test) (stmt_calls_ordinary first.0 && true) o in let v = both_if F (stmt_calls_ordinary first.0) true u.1 in
      let j = both_if G (is_encodable test) (stmt_is_encodable first.0 && true) g in let k = both_if G (stmt_is_encodable first.0) true j.1 in
      let c = (coded test).codes (n + 2) in
      lines.joined G F (c.test false n) _ ((value_fits test h.0 u.0 j.0 (n + 2)).test false n) (lines.joined G F (made first.0 c.next out back).items _ (first.1 i.0 v.0 k.0 c.next out back) ((λ z. refl, λ f. tt), tt))
  layer (form.If test first (Some second)) = λ e o g n out back.
      let h = both_if F (checks test).fits (fits first.0 && fits second.0) e in let i = both_if F (fits first.0) (fits second.0) h.1 in
      let u = both_if F (calls_ordinary test) (stmt_calls_ordinary first.0 && stmt_calls_ordinary second.0) o in let v = both_if F (stmt_calls_ordinary first.0) (stmt_calls_ordinary second.0) u.1 in
      let j = both_if G (is_encodable test) (stmt_is_encodable first.0 && stmt_is_encodable second.0) g in let k = both_if G (stmt_is_encodable first.0) (stmt_is_encodable second.0) j.1 in
      let c = (coded test).codes (n + 2) in let d = made first.0 c.next out back in
      lines.choice_fits G F c.test d.items (made second.0 d.next out back).items n ((value_fits test h.0 u.0 j.0 (n + 2)).test false n) (first.1 i.0 v.0 k.0 c.next out back) (second.1 i.1 v.1 k.1 d.next out back)
  layer (form.While test body) = λ e o g n out back.
      let h = both_if F (checks test).fits (fits body.0) e in let u = both_if F (calls_ordinary test) (stmt_calls_ordinary body.0) o in let j = both_if G (is_encodable test) (stmt_is_encodable body.0) g in
      repeat_fits (coded test).codes nothing (made body.0) (value_fits test h.0 u.0 j.0) (λ n out back. tt) (body.1 h.1 u.1 j.1) n out back
  layer (form.For None test None body) = for_fits true true true nothing (nothing_fits true true true) test true true true nothing (nothing_fits true true true) (fits body.0) (stmt_calls_ordinary body.0) (stmt_is_encodable body.0) (made body.0) body.1
  layer (form.For None test (Some change) body) = for_fits true true true nothing (nothing_fits true true true) test (fits change.0) (stmt_calls_ordinary change.0) (stmt_is_encodable change.0) (made change.0) change.1 (fits body.0) (stmt_calls_ordinary body.0) (stmt_is_encodable body.0) (made body.0) body.1
  layer (form.For (Some init) test None body) = for_fits (fits init.0) (stmt_calls_ordinary init.0) (stmt_is_encodable init.0) (made init.0) init.1 test true true true nothing (nothing_fits true true true) (fits body.0) (stmt_calls_ordinary body.0) (stmt_is_encodable body.0) (made body.0) body.1
  layer (form.For (Some init) test (Some change) body) = for_fits (fits init.0) (stmt_calls_ordinary init.0) (stmt_is_encodable init.0) (made init.0) init.1 test (fits change.0) (stmt_calls_ordinary change.0) (stmt_is_encodable change.0) (made change.0) change.1 (fits body.0) (stmt_calls_ordinary body.0) (stmt_is_encodable body.0) (made body.0) body.1
  layer form.Break = λ e o g n out back. ((λ z. refl, λ f. tt), tt)
  layer form.Continue = λ e o g n out back. ((λ z. refl, λ f. tt), tt)
  layer (form.Return result) = λ e o g n out back. leave_fits result e o g n
  layer (form.Assign left sign right) = assign_fits (change_of sign) left right
  layer (form.Bump left up) = bumped_fits up left
  layer (form.Run e) = λ h o g n out back. (value_fits e h o g n).done

  with_four : {A B C D : Type 0} (Q : A → B → C → D → Type 0) (a e : A) (b f : B) (c g : C) (d h : D) → a ≡ e → b ≡ f → c ≡ g → d ≡ h → Q e f g h → Q a b c d
  with_four Q a e b f c g d h i j k l q = subst (λ w. Q w b c d) (sym i) (subst (λ x. Q e x c d) (sym j) (subst (λ y. Q e f y d) (sym k) (subst (λ z. Q e f g z) (sym l) q)))

  stmt_fit : (s : TypedStmt) → FitMade (fits s) (stmt_calls_ordinary s) (stmt_is_encodable s) (made s)
  stmt_fit = ind-TypedStmt (λ k. FitMade (kind_fits k) (kind_ordinary k) (kind_encodable k) (kind_made k)) (λ s. FitMade (fits s) (stmt_calls_ordinary s) (stmt_is_encodable s) (made s))
      (λ x y is. with_four FitMade _ _ _ _ _ _ _ _ (fold-roll-TypedStmtKind Bool Bool (checked_step p head r) (λ s. s.kind) x) (fold-roll-TypedStmtKind Bool Bool ordinary_step (λ s. s.kind) x) (fold-roll-TypedStmtKind Bool Bool stmt_step (λ s. s.kind) x) (fold-roll-TypedStmtKind Made Made made_step (λ s. s.kind) x)
      (subst (λ (z : TypedStmtKind-F TypedStmtKind TypedStmt). FitMade (checked_step p head r (map-TypedStmtKind TypedStmtKind TypedStmt Bool Bool kind_fits fits z)) (ordinary_step (map-TypedStmtKind TypedStmtKind TypedStmt Bool Bool kind_ordinary stmt_calls_ordinary z)) (stmt_step (map-TypedStmtKind TypedStmtKind TypedStmt Bool Bool kind_encodable stmt_is_encodable z)) (made_step (map-TypedStmtKind TypedStmtKind TypedStmt Made Made kind_made made z))) is (layer y)))
      (λ x y is. with_four FitMade _ _ _ _ _ _ _ _ (fold-roll-TypedStmt Bool Bool (checked_step p head r) (λ s. s.kind) x) (fold-roll-TypedStmt Bool Bool ordinary_step (λ s. s.kind) x) (fold-roll-TypedStmt Bool Bool stmt_step (λ s. s.kind) x) (fold-roll-TypedStmt Made Made made_step (λ s. s.kind) x)
      (subst (λ (z : form.TypedStmt-F TypedStmtKind TypedStmt). FitMade (kind_fits z.kind) (kind_ordinary z.kind) (kind_encodable z.kind) (kind_made z.kind)) is y.kind.1))

  pub block_fits : (ss : List TypedStmt) → (F → list_all fits ss ≡ true) → (F → list_all stmt_calls_ordinary ss ≡ true) → (G → list_all stmt_is_encodable ss ≡ true) → (n out back : ℕ) → Every (block_code ss n out back).items
  block_fits [] e o g n out back = tt
  block_fits (s ∷ ss) e o g n out back =
      let h = both_if F (fits s) (list_all fits ss) e in let u = both_if F (stmt_calls_ordinary s) (list_all stmt_calls_ordinary ss) o in let i = both_if G (stmt_is_encodable s) (list_all stmt_is_encodable ss) g in
      let c = made s n out back in
      lines.joined G F c.items _ (stmt_fit s h.0 u.0 i.0 n out back) (block_fits ss h.1 u.1 i.1 c.next out back)
