-- What is answered of a part is answered of the whole.
use Rattle.std.proofs.Common.{◌≡◌, ℤ, List, Result, Vec, Global, sym, subst}
use Rattle.std.specs.Prelude.{Err, IsErrAnd}
use Rattle.std.proofs.lemmas.Result.{err_from_is_err_and}
use Rattle.print_form.specs.declared.literal.Literal.{Literal}
use Rattle.print_form.specs.declared.fault.NoProgram.{NoProgram}
use Rattle.print_form.specs.declared.fault.NoProgram.TheVariants.{NotYet, OutOfMemory}
use Rattle.print_form.specs.Deciding.{Decides}

fails : (P Q : List Literal → Type 0) (e : NoProgram) → ((ls : List Literal) → Q ls → P ls) → Decides P (Err e) → Decides Q (Err e)
fails P Q (NotYet place) part none = λ ls q. none ls (part ls q)
fails P Q OutOfMemory part none = tt

-- the part's fault is the whole's
pub still_fails : (P Q : List Literal → Type 0) (e : NoProgram) (r : Result (Vec ℤ Global) NoProgram) → IsErrAnd r (λ x. x ≡ e) → ((ls : List Literal) → Q ls → P ls) → Decides P (Err e) → Decides Q r
still_fails P Q e r is part none =
    let p = err_from_is_err_and r is in
    rw p.1 (subst (λ (x : NoProgram). Decides Q (Err x)) (sym p.2) (fails P Q e part none))
