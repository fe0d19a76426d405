-- The same of statements.
use Rattle.std.proofs.Common.{◌≡◌, ℕ, ◌+◌, Bool, true, false, ◌&&◌, List, [], ◌∷◌, map, Option, Some, None, refl, subst}
use Rattle.std.specs.List.{list_all}
use Rattle.std.specs.Option.{option_map}
use Rattle.class_form.proofs.Facts.{both}
use Rattle.jp_store.specs.declared.value.Kind.{Kind}
use Rattle.jp_store.specs.declared.value.Kind.TheVariants.{Number, LongNumber, Reference}
use Rattle.jp_meaning.specs.declared.expr.TypedExpr.{TypedExpr}
use Rattle.jp_meaning.specs.declared.stmt.TypedStmt.{TypedStmt}
use Rattle.jp_meaning.specs.declared.stmt.TypedStmtKind.{TypedStmtKind, TypedStmtKind-F}
use Rattle.jp_meaning.specs.declared.stmt.TypedStmtKind.TheOpen as form
use Rattle.jp_meaning.specs.declared.stmt.TypedStmtKind.TheFolds.{ind-TypedStmt, fold-TypedStmtKind, fold-roll-TypedStmt, fold-roll-TypedStmtKind, map-TypedStmtKind}
use Rattle.jp_meaning.specs.Descriptors.{kind_of_type}
use Rattle.jp_meaning.specs.Signs.{Change, Becomes, Changes, change_of}
use Rattle.code_asm.specs.Items.{FieldOf, Plain, Uses, Mark}
use Rattle.jvm_table.specs.declared.instr.Instr.TheVariants.{Store}
use Rattle.jvm_table.specs.declared.instr.ConstantUse.TheVariants.{GetField, GetStatic, PutField, PutStatic}
use Rattle.gen_body.specs.Codes.{Codes, Place, LocalAt, FieldAt, StaticAt, ElementAt, Nowhere, coded}
use Rattle.gen_body.specs.Statements.{Made, nothing, copy_parts, get_place, put_place, push_default, declare, assign, step_place, bump_place, bump, in_row, test_codes, repeat, begin_loop, return_of, leave, made_step, made, block_code}
use Rattle.code_texts.specs.Short.{is_short_expr, or_so, stmt_step, is_short_stmt}
use Rattle.code_texts.proofs.TextsOfForms.{Fit, Each, joined, before, single, behind, FitCodes, plain_fits, choice_fits, PlaceFits}
use Rattle.code_texts.proofs.TextsOfExpressions.{with_two, expr_fits}

pub default_fits : (kind : Kind) → Fit (push_default kind)
default_fits Number = refl
default_fits LongNumber = refl
default_fits Reference = refl

copy_fits : (place : Place) → Each (copy_parts place)
copy_fits (LocalAt slot kind) = refl
copy_fits (FieldAt key) = refl
copy_fits (StaticAt key) = refl
copy_fits (ElementAt kind) = refl
copy_fits Nowhere = refl

get_fits : (place : Place) → PlaceFits place → Each (get_place place)
get_fits (LocalAt slot kind) h = refl
get_fits (FieldAt key) h = single (Uses GetField (FieldOf key)) h
get_fits (StaticAt key) h = single (Uses GetStatic (FieldOf key)) h
get_fits (ElementAt kind) h = refl
get_fits Nowhere h = refl

put_fits : (place : Place) → PlaceFits place → Each (put_place place)
put_fits (LocalAt slot kind) h = refl
put_fits (FieldAt key) h = single (Uses PutField (FieldOf key)) h
put_fits (StaticAt key) h = single (Uses PutStatic (FieldOf key)) h
put_fits (ElementAt kind) h = refl
put_fits Nowhere h = refl

step_fits : (up : Bool) (place : Place) → PlaceFits place → Each (step_place up place)
step_fits up place h = joined (copy_parts place) _ (copy_fits place) (joined (get_place place) _ (get_fits place h) (put_fits place h))

bump_fits : (up : Bool) (place : Place) → PlaceFits place → Each (bump_place up place)
bump_fits up (LocalAt slot Number) h = refl
bump_fits up (LocalAt slot LongNumber) h = step_fits up (LocalAt slot LongNumber) h
bump_fits up (LocalAt slot Reference) h = step_fits up (LocalAt slot Reference) h
bump_fits up (FieldAt key) h = step_fits up (FieldAt key) h
bump_fits up (StaticAt key) h = step_fits up (StaticAt key) h
bump_fits up (ElementAt kind) h = step_fits up (ElementAt kind) h
bump_fits up Nowhere h = refl

-- the texts in the code of a statement that passes a test fit
abbrev FitMade : Bool → Made → Type 0
FitMade passes m = passes ≡ true → (n out back : ℕ) → Each (m n out back).items

value_fits : (e : TypedExpr) → is_short_expr e ≡ true → (n : ℕ) → FitCodes ((coded e).codes n)
value_fits e h n = (expr_fits e).codes h n

nothing_fits : (passes : Bool) → FitMade passes nothing
nothing_fits passes e n out back = refl

declare_fits : (slot : ℕ) (initial : Option TypedExpr) (o : Option Kind) → FitMade (or_so is_short_expr initial) (declare o slot (option_map coded initial))
declare_fits slot initial None e n out back = refl
declare_fits slot None (Some kind) e n out back = before (push_default kind) (Plain (Store kind slot) ∷ []) (default_fits kind) refl
declare_fits slot (Some v) (Some kind) e n out back = behind ((coded v).codes n).value _ (value_fits v e n).value refl

assign_fits : (o : Option Change) (left right : TypedExpr) → FitMade (is_short_expr left && is_short_expr right) (assign o (coded left) (coded right))
assign_fits None left right e n out back = refl
assign_fits (Some Becomes) left right e n out back =
    let h = both (is_short_expr left) (is_short_expr right) e in
    let k = expr_fits left in let s = (coded left).spot n in
    joined s.items _ (k.spot h.0 n) (joined ((coded right).codes s.next).value (put_place s.place) (value_fits right h.1 s.next).value (put_fits s.place (k.place h.0 n)))
assign_fits (Some (Changes op)) left right e n out back =
    let h = both (is_short_expr left) (is_short_expr right) e in
    let k = expr_fits left in let s = (coded left).spot n in
    joined s.items _ (k.spot h.0 n) (joined (copy_parts s.place) _ (copy_fits s.place) (joined (get_place s.place) _ (get_fits s.place (k.place h.0 n))
    (joined ((coded right).codes s.next).value _ (value_fits right h.1 s.next).value (put_fits s.place (k.place h.0 n)))))

bumped_fits : (up : Bool) (left : TypedExpr) → FitMade (is_short_expr left) (bump up (coded left))
bumped_fits up left e n out back =
    let k = expr_fits left in let s = (coded left).spot n in joined s.items (bump_place up s.place) (k.spot e n) (bump_fits up s.place (k.place e n))

test_fits : (test : Option TypedExpr) → or_so is_short_expr test ≡ true → (n : ℕ) → FitCodes (test_codes test n)
test_fits None e n = plain_fits _ 1 n refl
test_fits (Some test) e n = value_fits test e n

repeat_fits : (test : ℕ → Codes) (change body : Made) → ((n : ℕ) → FitCodes (test n)) → ((n out back : ℕ) → Each (change n out back).items) → ((n out back : ℕ) → Each (body n out back).items) → (n out back : ℕ) → Each (repeat test change body n out back).items
repeat_fits test change body h i j n out back =
    let c = test (n + 3) in let d = body c.next (n + 1) (n + 2) in
    joined (c.test false (n + 1)) _ ((h (n + 3)).test false (n + 1)) (joined d.items _ (j c.next (n + 1) (n + 2)) (joined (change d.next out back).items _ (i d.next out back) refl))

leave_fits : (result : Option TypedExpr) → or_so is_short_expr result ≡ true → (n : ℕ) → Each (leave result n).items
leave_fits None e n = refl
leave_fits (Some v) e n = by_kind (kind_of_type v.ty) where
  by_kind : (o : Option Kind) → Each (return_of o ((coded v).codes n)).items
  by_kind None = (value_fits v e n).value
  by_kind (Some kind) = behind ((coded v).codes n).value _ (value_fits v e n).value refl

abbrev kind_short : TypedStmtKind → Bool
kind_short = fold-TypedStmtKind Bool Bool stmt_step (λ s. s.kind)

abbrev kind_made : TypedStmtKind → Made
kind_made = fold-TypedStmtKind Made Made made_step (λ s. s.kind)

abbrev FitKind : Type 0
FitKind = (k : TypedStmtKind) × FitMade (kind_short k) (kind_made k)

abbrev FitStmt : Type 0
FitStmt = (s : TypedStmt) × FitMade (is_short_stmt s) (made s)

abbrev all_short : List FitStmt → Bool
all_short ss = list_all (λ x. x) (map is_short_stmt (map (λ e. e.0) ss))

order_fits : (ss : List FitStmt) → FitMade (all_short ss) (in_row (map made (map (λ e. e.0) ss)))
order_fits [] e n out back = refl
order_fits (s ∷ ss) e n out back =
    let h = both (is_short_stmt s.0) (all_short ss) e in
    let c = made s.0 n out back in
    joined c.items _ (s.1 h.0 n out back) (order_fits ss h.1 c.next out back)

for_fits : (x : Bool) (init : Made) → FitMade x init → (test : Option TypedExpr) (y : Bool) (change : Made) → FitMade y change → (z : Bool) (body : Made) → FitMade z body →
    FitMade (x && (or_so is_short_expr test && (y && z))) (begin_loop init (repeat (test_codes test) change body))
for_fits x init hi test y change hc z body hb e n out back =
    let t = or_so is_short_expr test in
    let h = both x (t && (y && z)) e in let i = both t (y && z) h.1 in let j = both y z i.1 in
    let c = init n out back in
    joined c.items _ (hi h.0 n out back) (repeat_fits (test_codes test) change body (test_fits test i.0) (hc j.0) (hb j.1) c.next out back)

layer : (y : TypedStmtKind-F FitKind FitStmt) →
    FitMade (stmt_step (map-TypedStmtKind TypedStmtKind TypedStmt Bool Bool kind_short is_short_stmt (map-TypedStmtKind FitKind FitStmt TypedStmtKind TypedStmt (λ e. e.0) (λ e. e.0) y)))
    (made_step (map-TypedStmtKind TypedStmtKind TypedStmt Made Made kind_made made (map-TypedStmtKind FitKind FitStmt TypedStmtKind TypedStmt (λ e. e.0) (λ e. e.0) y)))
layer (form.Block block) = order_fits block
layer form.Empty = nothing_fits true
layer (form.Local slot t initial) = declare_fits slot initial (kind_of_type t)
layer (form.If test first None) = λ e n out back.
    let h = both (is_short_expr test) (is_short_stmt first.0 && true) e in let i = both (is_short_stmt first.0) true h.1 in
    let c = (coded test).codes (n + 2) in
    joined (c.test false n) _ ((value_fits test h.0 (n + 2)).test false n) (behind (made first.0 c.next out back).items (Mark n) (first.1 i.0 c.next out back) refl)
layer (form.If test first (Some second)) = λ e n out back.
    let h = both (is_short_expr test) (is_short_stmt first.0 && is_short_stmt second.0) e in let i = both (is_short_stmt first.0) (is_short_stmt second.0) h.1 in
    let c = (coded test).codes (n + 2) in let d = made first.0 c.next out back in
    choice_fits c.test d.items (made second.0 d.next out back).items n ((value_fits test h.0 (n + 2)).test false n) (first.1 i.0 c.next out back) (second.1 i.1 d.next out back)
layer (form.While test body) = λ e n out back.
    let h = both (is_short_expr test) (is_short_stmt body.0) e in
    repeat_fits (coded test).codes nothing (made body.0) (value_fits test h.0) (λ n out back. refl) (body.1 h.1) n out back
layer (form.For None test None body) = for_fits true nothing (nothing_fits true) test true nothing (nothing_fits true) (is_short_stmt body.0) (made body.0) body.1
layer (form.For None test (Some change) body) = for_fits true nothing (nothing_fits true) test (is_short_stmt change.0) (made change.0) change.1 (is_short_stmt body.0) (made body.0) body.1
layer (form.For (Some init) test None body) = for_fits (is_short_stmt init.0) (made init.0) init.1 test true nothing (nothing_fits true) (is_short_stmt body.0) (made body.0) body.1
layer (form.For (Some init) test (Some change) body) = for_fits (is_short_stmt init.0) (made init.0) init.1 test (is_short_stmt change.0) (made change.0) change.1 (is_short_stmt body.0) (made body.0) body.1
layer form.Break = λ e n out back. refl
layer form.Continue = λ e n out back. refl
layer (form.Return result) = λ e n out back. leave_fits result e n
layer (form.Assign left sign right) = assign_fits (change_of sign) left right
layer (form.Bump left up) = bumped_fits up left
layer (form.Run value) = λ e n out back. (value_fits value e n).done

stmt_fits : (s : TypedStmt) → FitMade (is_short_stmt s) (made s)
stmt_fits = ind-TypedStmt (λ k. FitMade (kind_short k) (kind_made k)) (λ s. FitMade (is_short_stmt s) (made s))
    (λ x y is. with_two FitMade _ _ _ _ (fold-roll-TypedStmtKind Bool Bool stmt_step (λ s. s.kind) x) (fold-roll-TypedStmtKind Made Made made_step (λ s. s.kind) x)
    (subst (λ (z : TypedStmtKind-F TypedStmtKind TypedStmt). FitMade (stmt_step (map-TypedStmtKind TypedStmtKind TypedStmt Bool Bool kind_short is_short_stmt z)) (made_step (map-TypedStmtKind TypedStmtKind TypedStmt Made Made kind_made made z))) is (layer y)))
    (λ x y is. with_two FitMade _ _ _ _ (fold-roll-TypedStmt Bool Bool stmt_step (λ s. s.kind) x) (fold-roll-TypedStmt Made Made made_step (λ s. s.kind) x)
    (subst (λ (z : form.TypedStmt-F TypedStmtKind TypedStmt). FitMade (kind_short z.kind) (kind_made z.kind)) is y.kind.1))

pub block_fits : (ss : List TypedStmt) → list_all is_short_stmt ss ≡ true → (n out back : ℕ) → Each (block_code ss n out back).items
block_fits [] e n out back = refl
block_fits (s ∷ ss) e n out back =
    let h = both (is_short_stmt s) (list_all is_short_stmt ss) e in
    let c = made s n out back in
    joined c.items _ (stmt_fits s h.0 n out back) (block_fits ss h.1 c.next out back)
