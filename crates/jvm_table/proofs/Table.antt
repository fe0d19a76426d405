-- The code's table of opcodes is that of the definitions.
use Rattle.std.proofs.Common.{◌≡◌, ℕ, zero, suc, ◌+◌, ◌<◌, List, [], ◌∷◌, get_or, Option, None, refl, sym, ap, ◌∙◌, arith}
use Rattle.jvm_table.specs.declared.opcode.Form.{Form}
use Rattle.jvm_table.specs.declared.opcode.TheConstants.{FORMS}
use Rattle.jvm_table.specs.Opcodes.{form_in, rows}

-- the forms of n opcodes from k on
abbrev tabled : ℕ → ℕ → List (Option Form)
tabled zero k = []
tabled (suc n) k = form_in rows k ∷ tabled n (suc k)

tabled_at : (n k i : ℕ) → i < n → get_or (tabled n k) i None ≡ form_in rows (k + i)
tabled_at zero k i h = absurd (omega arith)
tabled_at (suc n) k zero h = let e : k ≡ k + 0 = omega arith in ap (form_in rows) e
tabled_at (suc n) k (suc i) h = let e : suc k + i ≡ k + suc i = omega arith in tabled_at n (suc k) i (omega arith) ∙ ap (form_in rows) e

same : tabled 256 0 ≡ FORMS
same = refl

pub table_is : (opcode : ℕ) → opcode < 256 → get_or FORMS opcode None ≡ form_in rows opcode
table_is opcode h =
    let e : 0 + opcode ≡ opcode = omega arith in
    ap (λ t. get_or t opcode None) (sym same) ∙ tabled_at 256 0 opcode h ∙ ap (form_in rows) e
