-- Tables of instructions, one entry more at a time.
use Rattle.std.proofs.Common.{◌≡◌, ◌⊎◌, inl, inr, ℕ, zero, suc, ◌+◌, ◌<◌, ◌≤◌, List, [], ◌∷◌, ◌++◌, length, get_or, Option, None, Some, refl, sym, ap, ◌∙◌, subst, arith, length-append}
use Rattle.std.specs.Prelude.{slice_get, option_and_then}
use Rattle.std.proofs.lemmas.Option.{none-some, same_Some, slice_get_past, slice_get_cases}
use Rattle.class_form.specs.declared.class_file.ClassFile.{ClassFile}
use Rattle.jvm_table.specs.declared.decode.Row.{Row}
use Rattle.jvm_table.specs.Decode.{row_of, row_at}
use Rattle.jvm_table.specs.Opcodes.{form_in, rows as table}
use Rattle.jvm_quick.specs.Rows.{row_in, done_by, DoesAsAt, DoAsCode}

none_there : {A : Type 0} {B : Type 0} (x : A) → None ≡ Some x → B
none_there x e = absurd (none-some x e)

each_more : {X : Type 0} (P : ℕ → X → Type 0) (xs : List X) (x : X) → ((i : ℕ) (y : X) → slice_get xs i ≡ Some y → P i y) → P (length xs) x
    → (i : ℕ) (y : X) → slice_get (xs ++ x ∷ []) i ≡ Some y → P i y
each_more P [] x h p zero y e = subst (P zero) (same_Some x y e) p
each_more P [] x h p (suc i) y e = none_there y e
each_more P (z ∷ zs) x h p zero y e = h zero y e
each_more P (z ∷ zs) x h p (suc i) y e = each_more (λ k. P (suc k)) zs x (λ k. h (suc k)) p i y e

-- a list whose n entries are as P says
pub record AreFirst {X : Type 0} (P : ℕ → X → Type 0) (n : ℕ) (xs : List X) : Type 0 where
  pub count : length xs ≡ n
  pub each : (i : ℕ) (x : X) → slice_get xs i ≡ Some x → P i x

pub first_none : {X : Type 0} (P : ℕ → X → Type 0) → AreFirst P zero []
first_none P = record { count = refl; each = λ i x e. none_there x e }

pub first_more : {X : Type 0} (P : ℕ → X → Type 0) (n : ℕ) (xs : List X) (x : X) → AreFirst P n xs → P n x → AreFirst P (n + 1) (xs ++ x ∷ [])
first_more P n xs x a h = record {
  count = omega (arith, length-append xs (x ∷ []), a.count);
  each = each_more P xs x a.each (subst (λ k. P k x) (sym a.count) h);
}

no_byte : (code : List ℕ) (place : ℕ) → slice_get code place ≡ None → row_at code place ≡ None
no_byte code place n = ap (λ (o : Option ℕ). option_and_then (λ opcode. option_and_then (row_of code place) (form_in table opcode)) o) n

past : (file : ClassFile) (code : List ℕ) (rows : List (Option Row)) (place : ℕ) → slice_get rows place ≡ None → slice_get code place ≡ None → DoesAsAt file code place (row_in rows place)
past file code rows place e n = λ method f.
    ap (λ (o : Option (Option Row)). done_by file method (option_and_then (λ row. row) o) f) e
    ∙ sym (ap (λ (o : Option Row). done_by file method o f) (no_byte code place n))

-- the rows of a whole code
place_known : (file : ClassFile) (code : List ℕ) (rows : List (Option Row)) (place : ℕ) → AreFirst (DoesAsAt file code) (length code) rows
    → ((row : Option Row) × (place < length rows) × (slice_get rows place ≡ Some row) × (get_or rows place row ≡ row)) ⊎ ((length rows ≤ place) × (slice_get rows place ≡ None))
    → DoesAsAt file code place (row_in rows place)
place_known file code rows place a (inl p) = subst (λ (o : Option (Option Row)). DoesAsAt file code place (option_and_then (λ row. row) o)) (sym p.2) (a.each place p.0 p.2)
place_known file code rows place a (inr p) = past file code rows place p.1 (slice_get_past code place (omega (arith, p.0, a.count)))

pub code_all : (file : ClassFile) (code : List ℕ) (rows : List (Option Row)) → AreFirst (DoesAsAt file code) (length code) rows → DoAsCode file code rows
code_all file code rows a place = place_known file code rows place a (slice_get_cases rows place).1
