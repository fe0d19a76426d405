-- The code of expressions, one after the other, with one more.
use Rattle.std.proofs.Common.{◌≡◌, ℕ, ◌+◌, ◌<◌, ◌≤◌, List, [], ◌∷◌, ◌++◌, map, length, take, get_or, refl, sym, ap, ◌∙◌, subst, append-nil, arith}
use Rattle.std.specs.Prelude.{max}
use Rattle.std.proofs.lemmas.List.{append_assoc, map-append, take_more, take_all, length-map, length-take-le}
use Rattle.jp_meaning.specs.declared.expr.TypedExpr.{TypedExpr}
use Rattle.code_asm.specs.Items.{Item}
use Rattle.gen_body.specs.Codes.{Coded, Row, row_codes}
use Rattle.gen_body.specs.Statements.{Part}
use Rattle.gen_code.specs.declared.body.Body.{Body}
use Rattle.gen_code.specs.Emitted.{code_of}
use Rattle.gen_parts.specs.Emits.{Puts, row_step, value_step, value_part, all_part}
use Rattle.gen_expr.proofs.Steps.{none_added, puts, puts_both}

deeper : (c r k l m : ℕ) → m ≡ 1 + l → max c (1 + max (max r (l + k)) (l + 1)) ≡ max (max (max c (1 + r)) (m + k)) (m + 1)
deeper c r k l m h = omega (arith, h)

row_items : (es : List Coded) (e : Coded) (n : ℕ) → (row_codes (es ++ e ∷ []) n).items ≡ (row_codes es n).items ++ (e.codes (row_codes es n).next).value
row_items [] e n = append-nil (e.codes n).value
row_items (d ∷ es) e n =
    let c = d.codes n in
    ap (λ (z : List Item). c.value ++ z) (row_items es e c.next) ∙ sym (append_assoc c.value (row_codes es c.next).items (e.codes (row_codes es c.next).next).value)

row_next : (es : List Coded) (e : Coded) (n : ℕ) → (row_codes (es ++ e ∷ []) n).next ≡ (e.codes (row_codes es n).next).next
row_next [] e n = refl
row_next (d ∷ es) e n = row_next es e (d.codes n).next

row_need : (es : List Coded) (e : Coded) (n : ℕ) → (row_codes (es ++ e ∷ []) n).need ≡ max (max (row_codes es n).need (length es + (e.codes (row_codes es n).next).need)) (length es + 1)
row_need [] e n = omega arith
row_need (d ∷ es) e n =
    let c = d.codes n in
    ap (λ (z : ℕ). max c.need (1 + z)) (row_need es e c.next) ∙ deeper c.need (row_codes es c.next).need (e.codes (row_codes es c.next).next).need (length es) (length (d ∷ es)) (omega arith)

-- the code of one more expression, behind that of others
all_more : (xs : List TypedExpr) (x : TypedExpr) (n : ℕ) → all_part (xs ++ x ∷ []) n ≡
    (let r = all_part xs n in let c = value_part x r.next in record { items = r.items ++ c.items; next = c.next; need = max (max r.need (length xs + c.need)) (length xs + 1) })
all_more xs x n =
    let es = map code_of xs in
    let c = (code_of x).codes (row_codes es n).next in
    let named : row_codes (map code_of (xs ++ x ∷ [])) n ≡ row_codes (es ++ code_of x ∷ []) n = ap (λ (cs : List Coded). row_codes cs n) (map-append code_of xs (x ∷ [])) in
    let count : length es ≡ length xs = length-map xs code_of in
    ap row_step named ∙ (λ i. record { items = row_items es (code_of x) n i; next = row_next es (code_of x) n i; need = (row_need es (code_of x) n ∙ ap (λ (k : ℕ). max (max (row_codes es n).need (k + c.need)) (k + 1)) count) i })

-- nothing is written of no expressions
pub none_put : (a : Body) (xs : List TypedExpr) → Puts a a 0 (all_part (take 0 xs) a.labels)
none_put a xs = puts a a 0 0 [] (none_added a) refl

-- one more is written
pub more_put : (a b c : Body) (xs : List TypedExpr) (i k : ℕ) (x : TypedExpr) (p q r : ℕ) → i < length xs → x ≡ get_or xs i x → k ≡ i → Puts a b p (all_part (take i xs) a.labels) → Puts b c q (value_part x b.labels) →
    r ≡ max (max p (k + q)) (k + 1) → Puts a c r (all_part (take (i + 1) xs) a.labels)
more_put a b c xs i k x p q r lt is same h v e =
    let front = take i xs in
    let one = all_part front a.labels in
    let v' : Puts b c q (value_part x one.next) = subst (λ (n : ℕ). Puts b c q (value_part x n)) h.labels v in
    let two = value_part x one.next in
    let count : length front ≡ i = length-take-le i xs (omega (arith, lt)) in
    let known : k ≡ length front = same ∙ sym count in
    let need : r ≡ max (max one.need (length front + two.need)) (length front + 1) = e ∙ (λ j. max (max (h.need j) (known j + v'.need j)) (known j + 1)) in
    let shown : take (i + 1) xs ≡ front ++ x ∷ [] = take_more xs i x lt ∙ ap (λ (y : TypedExpr). front ++ y ∷ []) (sym is) in
    subst (λ (ys : List TypedExpr). Puts a c r (all_part ys a.labels)) (sym shown) (subst (Puts a c r) (sym (all_more front x a.labels)) (puts_both a b c p q r _ one (value_part x) h v need))

-- all are written
pub all_put : (a b : Body) (xs : List TypedExpr) (i p : ℕ) → length xs ≤ i → Puts a b p (all_part (take i xs) a.labels) → Puts a b p (all_part xs a.labels)
all_put a b xs i p le h = subst (λ (ys : List TypedExpr). Puts a b p (all_part ys a.labels)) (take_all i xs le) h
