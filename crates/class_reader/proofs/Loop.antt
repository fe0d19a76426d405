-- Reading items one after the other, as a loop does.
use Rattle.std.proofs.Common.{◌≡◌, ℕ, suc, ◌-◌, ◌+◌, ◌≤◌, ◌<◌, Bool, List, [], ◌∷◌, ◌++◌, Result, Ok, Err, eqb, refl, sym, ap, ◌∙◌, append_assoc, arith}
use Rattle.std.proofs.lemmas.List.{append-nil}
use Rattle.class_form.specs.declared.constant.Const.{Const}
use Rattle.class_form.specs.WellFormed.{is_wide}
use Rattle.class_reader.specs.declared.fault.Defect.{Defect}
use Rattle.class_reader.specs.declared.fault.Stop.{Stop}
use Rattle.class_reader.specs.declared.fault.Stop.TheVariants.{Fault, OutOfMemory}
use Rattle.class_reader.specs.declared.members.Held.{Held}
use Rattle.class_reader.specs.Fields.{◌>>=◌, Fails, many_at}
use Rattle.class_reader.specs.Reading.{entry_at, entries_at, held_at, all_held_at}

-- what was read before, and what is still read
abbrev pub with_front : {A : Type 0} → List A → Result (List A × List ℕ) Defect → Result (List A × List ℕ) Defect
with_front front read = read >>= λ x. Ok (front ++ x.0, x.1)

regroup : {A : Type 0} (front : List A) (n : A) (read : Result (List A × List ℕ) Defect) → with_front front (read >>= λ x. Ok (n ∷ x.0, x.1)) ≡ with_front (front ++ n ∷ []) read
regroup {A} front n (Ok x) = ap (λ (ns : List A). Ok (ns, x.1)) (simp append_assoc)
regroup front n (Err f) = refl

pub goes_on : {A : Type 0} (item : List ℕ → Result (A × List ℕ) Defect) (front : List A) (count i : ℕ) (bytes : List ℕ) (n : A) (after : List ℕ) (total : Result (List A × List ℕ) Defect) → i < count → item bytes ≡ Ok (n, after)
    → with_front front (many_at item (count - i) bytes) ≡ total → with_front (front ++ n ∷ []) (many_at item (count - (i + 1)) after) ≡ total
unfolding many_at
goes_on item front count i bytes n after total lt h so_far =
    let k : count - i ≡ suc (count - (i + 1)) = omega arith in
    let one : with_front front (many_at item (count - i) bytes) ≡ with_front (front ++ n ∷ []) (many_at item (count - (i + 1)) after) = rw (k, h) (regroup front n (many_at item (count - (i + 1)) after)) in
    sym one ∙ so_far

pub ends : {A : Type 0} (item : List ℕ → Result (A × List ℕ) Defect) (e : Stop) (front : List A) (count i : ℕ) (bytes : List ℕ) (total : Result (List A × List ℕ) Defect) → i < count → Fails e (item bytes)
    → with_front front (many_at item (count - i) bytes) ≡ total → Fails e total
unfolding many_at
ends item OutOfMemory front count i bytes total lt h so_far = tt
ends item (Fault f) front count i bytes total lt h so_far =
    let k : count - i ≡ suc (count - (i + 1)) = omega arith in
    let one : with_front front (many_at item (count - i) bytes) ≡ Err f = rw (k, h) refl in
    sym so_far ∙ one

pub is_done : {A : Type 0} (item : List ℕ → Result (A × List ℕ) Defect) (front : List A) (count i : ℕ) (bytes : List ℕ) (total : Result (List A × List ℕ) Defect) → count ≤ i → with_front front (many_at item (count - i) bytes) ≡ total → total ≡ Ok (front, bytes)
unfolding many_at
is_done {A} item front count i bytes total le so_far =
    let k : count - i ≡ 0 = omega arith in
    let one : with_front front (many_at item (count - i) bytes) ≡ Ok (front, bytes) = rw k (ap (λ (ns : List A). Ok (ns, bytes)) (append-nil front)) in
    sym so_far ∙ one

-- ---- the same for the entries of the pool

pub entries_go_on : (front : List Const) (behind : Bool) (count i : ℕ) (bytes : List ℕ) (n : Const) (after : List ℕ) (total : Result (List Const × List ℕ) Defect) → i < count → entry_at behind (eqb (count - (i + 1)) 0) bytes ≡ Ok (n, after)
    → with_front front (entries_at behind (count - i) bytes) ≡ total → with_front (front ++ n ∷ []) (entries_at (is_wide n) (count - (i + 1)) after) ≡ total
unfolding entries_at
entries_go_on front behind count i bytes n after total lt h so_far =
    let k : count - i ≡ suc (count - (i + 1)) = omega arith in
    let one : with_front front (entries_at behind (count - i) bytes) ≡ with_front (front ++ n ∷ []) (entries_at (is_wide n) (count - (i + 1)) after) = rw (k, h) (regroup front n (entries_at (is_wide n) (count - (i + 1)) after)) in
    sym one ∙ so_far

pub entries_end : (e : Stop) (front : List Const) (behind : Bool) (count i : ℕ) (bytes : List ℕ) (total : Result (List Const × List ℕ) Defect) → i < count → Fails e (entry_at behind (eqb (count - (i + 1)) 0) bytes)
    → with_front front (entries_at behind (count - i) bytes) ≡ total → Fails e total
unfolding entries_at
entries_end OutOfMemory front behind count i bytes total lt h so_far = tt
entries_end (Fault f) front behind count i bytes total lt h so_far =
    let k : count - i ≡ suc (count - (i + 1)) = omega arith in
    let one : with_front front (entries_at behind (count - i) bytes) ≡ Err f = rw (k, h) refl in
    sym so_far ∙ one

pub entries_are_done : (front : List Const) (behind : Bool) (count i : ℕ) (bytes : List ℕ) (total : Result (List Const × List ℕ) Defect) → count ≤ i → with_front front (entries_at behind (count - i) bytes) ≡ total → total ≡ Ok (front, bytes)
unfolding entries_at
entries_are_done front behind count i bytes total le so_far =
    let k : count - i ≡ 0 = omega arith in
    let one : with_front front (entries_at behind (count - i) bytes) ≡ Ok (front, bytes) = rw k (ap (λ (ns : List Const). Ok (ns, bytes)) (append-nil front)) in
    sym so_far ∙ one

-- ---- the same for the attributes of a member

pub held_go_on : (constants : List Const) (held more : Held) (count i : ℕ) (bytes after : List ℕ) (total : Result (Held × List ℕ) Defect) → i < count → held_at constants held bytes ≡ Ok (more, after)
    → all_held_at constants held (count - i) bytes ≡ total → all_held_at constants more (count - (i + 1)) after ≡ total
unfolding all_held_at
held_go_on constants held more count i bytes after total lt h so_far =
    let k : count - i ≡ suc (count - (i + 1)) = omega arith in
    let one : all_held_at constants held (count - i) bytes ≡ all_held_at constants more (count - (i + 1)) after = rw (k, h) refl in
    sym one ∙ so_far

pub held_end : (e : Stop) (constants : List Const) (held : Held) (count i : ℕ) (bytes : List ℕ) (total : Result (Held × List ℕ) Defect) → i < count → Fails e (held_at constants held bytes)
    → all_held_at constants held (count - i) bytes ≡ total → Fails e total
unfolding all_held_at
held_end OutOfMemory constants held count i bytes total lt h so_far = tt
held_end (Fault f) constants held count i bytes total lt h so_far =
    let k : count - i ≡ suc (count - (i + 1)) = omega arith in
    let one : all_held_at constants held (count - i) bytes ≡ Err f = rw (k, h) refl in
    sym so_far ∙ one

pub held_is_done : (constants : List Const) (held : Held) (count i : ℕ) (bytes : List ℕ) (total : Result (Held × List ℕ) Defect) → count ≤ i → all_held_at constants held (count - i) bytes ≡ total → total ≡ Ok (held, bytes)
unfolding all_held_at
held_is_done constants held count i bytes total le so_far =
    let k : count - i ≡ 0 = omega arith in
    let one : all_held_at constants held (count - i) bytes ≡ Ok (held, bytes) = rw k refl in
    sym so_far ∙ one
