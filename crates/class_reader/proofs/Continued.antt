-- What reading gives where more bytes stand behind, from what it gave without them.
use Rattle.std.proofs.Common.{◌≡◌, ◌≢◌, ℕ, zero, suc, ◌+◌, ◌-◌, ◌<◌, ◌≤◌, Bool, true, false, cond, ltb, List, ◌++◌, length, take, drop, Result, Ok, Err, refl, ap, arith, inl, inr, ◌⊎◌, length-append}
use Rattle.std.specs.Int.{w16, w32, w64, from_be_bytes}
use Rattle.std.proofs.lemmas.Bool.{ltb-true, ltb-false, lt-ltb, le-ltb}
use Rattle.std.proofs.lemmas.List.{take-append-le, drop-append-le, length-drop, length-take}
use Rattle.class_reader.specs.declared.fault.ClassKind.{ClassKind}
use Rattle.class_reader.specs.declared.fault.ClassKind.TheVariants as kinds
use Rattle.class_reader.specs.declared.fault.Defect.{Defect}
use Rattle.class_reader.specs.declared.fields.Edge.{Edge}
use Rattle.class_reader.specs.Fields.{◌>>=◌, fault, file_edge, u2_at, u4_at, u8_at, run_at, index_at, many_at}

-- the end of the input
abbrev pub end : Defect
end = record { kind = kinds.Truncated; left = 0 }

-- the same place, with more bytes behind it
abbrev pub grown : List ℕ → Defect → Defect
grown more d = record { kind = d.kind; left = d.left + length more }

-- a fault stands at one of this many bytes
pub record IsPlaced (lim : ℕ) (d : Defect) : Type 0 where
  pub kind : d.kind ≢ kinds.Truncated
  pub some : 0 < d.left
  pub within : d.left ≤ lim

-- What was read is read again, with more bytes behind it, and is right. A fault stays, unless it is the end.
abbrev pub Goes : {A : Type 0} → List ℕ → ℕ → (A → A) → (A → Type 0) → Result A Defect → Result A Defect → Type 0
Goes more lim grow Right (Ok x) r = (r ≡ Ok (grow x)) × Right x
Goes more lim grow Right (Err d) r = (d ≡ end) ⊎ (IsPlaced lim d × (r ≡ Err (grown more d)))

pub then : {A B : Type 0} (more : List ℕ) (lim : ℕ) (grow : A → A) (grow' : B → B) (Right : A → Type 0) (Right' : B → Type 0) (r r' : Result A Defect) (f f' : A → Result B Defect)
    → Goes more lim grow Right r r' → ((x : A) → Right x → Goes more lim grow' Right' (f x) (f' (grow x))) → Goes more lim grow' Right' (r >>= f) (r' >>= f')
then more lim grow grow' Right Right' (Ok x) r' f f' g h = rw g.0 (h x g.1)
then more lim grow grow' Right Right' (Err d) r' f f' (inl e) h = inl e
then more lim grow grow' Right Right' (Err d) r' f f' (inr p) h = inr (p.0, rw p.1 refl)

-- a value and the bytes behind it, which go on
abbrev pub with_more : {A : Type 0} → List ℕ → A × List ℕ → A × List ℕ
with_more more x = (x.0, x.1 ++ more)

-- the same, where all bytes are counted: those that a value took, and those behind it
abbrev pub Counts : {A : Type 0} → List ℕ → ℕ → (A → ℕ) → ℕ → Result (A × List ℕ) Defect → Result (A × List ℕ) Defect → Type 0
Counts more lim size all r r' = Goes more lim (with_more more) (λ x. size x.0 + length x.1 ≡ all) r r'

-- the same, where at least k bytes are read
abbrev pub Reads : {A : Type 0} → List ℕ → ℕ → ℕ → List ℕ → Result (A × List ℕ) Defect → Result (A × List ℕ) Defect → Type 0
Reads more lim k bytes r r' = Goes more lim (with_more more) (λ x. k + length x.1 ≤ length bytes) r r'

pub counted : {A : Type 0} (more : List ℕ) (lim k : ℕ) (bytes : List ℕ) (r r' : Result (A × List ℕ) Defect) → Counts more lim (λ x. k) (length bytes) r r' → Reads more lim k bytes r r'
counted more lim k bytes (Ok x) r' g = let e = g.1 in (g.0, omega arith)
counted more lim k bytes (Err d) r' g = g

pub further : {A : Type 0} (more : List ℕ) (lim k j : ℕ) (bytes rest : List ℕ) (r r' : Result (A × List ℕ) Defect) → k + length rest ≤ length bytes → Reads more lim j rest r r' → Reads more lim k bytes r r'
further more lim k j bytes rest (Ok x) r' le g = let le' = g.1 in (g.0, omega arith)
further more lim k j bytes rest (Err d) r' le g = g

-- one reading behind another
pub next : {A B : Type 0} (more : List ℕ) (lim k j : ℕ) (bytes : List ℕ) (r r' : Result (A × List ℕ) Defect) (f f' : A × List ℕ → Result (B × List ℕ) Defect)
    → Reads more lim k bytes r r' → ((x : A × List ℕ) → k + length x.1 ≤ length bytes → Reads more lim j x.1 (f x) (f' (with_more more x))) → Reads more lim k bytes (r >>= f) (r' >>= f')
next more lim k j bytes r r' f f' g h =
    then more lim (with_more more) (with_more more) (λ x. k + length x.1 ≤ length bytes) (λ x. k + length x.1 ≤ length bytes) r r' f f' g (λ x le. further more lim k j bytes x.1 (f x) (f' (with_more more x)) le (h x le))

-- a fault at the first of some bytes
pub fails : {A : Type 0} (more : List ℕ) (lim : ℕ) (grow : A → A) (Right : A → Type 0) (kind : ClassKind) (bytes : List ℕ) → kind ≢ kinds.Truncated → 0 < length bytes → length bytes ≤ lim → Goes more lim grow Right (Err (fault kind bytes)) (Err (fault kind (bytes ++ more)))
fails more lim grow Right kind bytes wrong some le = inr (record { kind = wrong; some = some; within = le }, ap (λ (n : ℕ). Err (record { kind = kind; left = n })) (length-append bytes more))

-- a test that is the same with more bytes behind
pub choose : {A : Type 0} (more : List ℕ) (lim : ℕ) (grow : A → A) (Right : A → Type 0) (b : Bool) (r r' s s' : Result A Defect) → Goes more lim grow Right r r' → Goes more lim grow Right s s' → Goes more lim grow Right (cond b r s) (cond b r' s')
choose more lim grow Right true r r' s s' g h = g
choose more lim grow Right false r r' s s' g h = h

-- ---- edges

-- an edge that moved with the bytes behind it
pub record IsMoved (more : List ℕ) (lim : ℕ) (e e' : Edge) : Type 0 where
  pub left : e'.left ≡ e.left + length more
  pub placed : IsPlaced lim e.short
  pub same : e'.short ≡ grown more e.short

-- an edge, and that with more bytes behind
pub record Later (more : List ℕ) (lim : ℕ) (e e' : Edge) : Type 0 where
  pub room : e'.left ≤ e.left + length more
  pub short : (e.short ≡ end) ⊎ IsMoved more lim e e'

pub file_later : (more : List ℕ) (lim : ℕ) → Later more lim file_edge file_edge
file_later more lim = record { room = omega arith; short = inl refl }

-- ---- fields

abbrev front_at : {A : Type 0} → (List ℕ → A) → ℕ → Edge → List ℕ → Result (A × List ℕ) Defect
front_at value k e bytes = cond (ltb (length bytes - e.left) k) (Err e.short) (Ok (value (take k bytes), drop k bytes))

front_cases : {A : Type 0} (value : List ℕ → A) (size : A → ℕ) (k : ℕ) (e e' : Edge) (bytes more : List ℕ) (lim : ℕ) (b : Bool) → ltb (length bytes - e.left) k ≡ b → Later more lim e e' → (k ≤ length bytes → size (value (take k bytes)) ≡ k)
    → Counts more lim size (length bytes) (cond b (Err e.short) (Ok (value (take k bytes), drop k bytes))) (front_at value k e' (bytes ++ more))
front_cases value size k e e' bytes more lim true h later sized =
    elim later.short [
      | inl is ↦ inl is
      | inr moved ↦
          let lt : length bytes - e.left < k = ltb-true _ _ h in
          let test : ltb (length (bytes ++ more) - e'.left) k ≡ true = lt-ltb _ _ (omega (arith, length-append bytes more, moved.left)) in
          inr (moved.placed, rw test (ap Err moved.same))
    ]
front_cases value size k e e' bytes more lim false h later sized =
    let le : k ≤ length bytes - e.left = ltb-false _ _ h in
    let enough : k ≤ length bytes = omega arith in
    let test : ltb (length (bytes ++ more) - e'.left) k ≡ false = le-ltb _ _ (omega (arith, length-append bytes more, later.room)) in
    (rw (test, take-append-le k bytes more enough, drop-append-le k bytes more enough) refl, omega (arith, length-drop k bytes, sized enough))

front : {A : Type 0} (value : List ℕ → A) (size : A → ℕ) (k : ℕ) (e e' : Edge) (bytes more : List ℕ) (lim : ℕ) → Later more lim e e' → (k ≤ length bytes → size (value (take k bytes)) ≡ k) → Counts more lim size (length bytes) (front_at value k e bytes) (front_at value k e' (bytes ++ more))
front value size k e e' bytes more lim later sized = front_cases value size k e e' bytes more lim (ltb (length bytes - e.left) k) refl later sized

pub u2_counts : (more : List ℕ) (lim : ℕ) (e e' : Edge) (bytes : List ℕ) → Later more lim e e' → Counts more lim (λ x. 2) (length bytes) (u2_at e bytes) (u2_at e' (bytes ++ more))
unfolding u2_at
u2_counts more lim e e' bytes later = front (from_be_bytes w16) (λ x. 2) 2 e e' bytes more lim later (λ enough. refl)

pub u4_counts : (more : List ℕ) (lim : ℕ) (e e' : Edge) (bytes : List ℕ) → Later more lim e e' → Counts more lim (λ x. 4) (length bytes) (u4_at e bytes) (u4_at e' (bytes ++ more))
unfolding u4_at
u4_counts more lim e e' bytes later = front (from_be_bytes w32) (λ x. 4) 4 e e' bytes more lim later (λ enough. refl)

pub u8_counts : (more : List ℕ) (lim : ℕ) (e e' : Edge) (bytes : List ℕ) → Later more lim e e' → Counts more lim (λ x. 8) (length bytes) (u8_at e bytes) (u8_at e' (bytes ++ more))
unfolding u8_at
u8_counts more lim e e' bytes later = front (from_be_bytes w64) (λ x. 8) 8 e e' bytes more lim later (λ enough. refl)

pub run_counts : (more : List ℕ) (lim : ℕ) (e e' : Edge) (k : ℕ) (bytes : List ℕ) → Later more lim e e' → Counts more lim length (length bytes) (run_at e k bytes) (run_at e' k (bytes ++ more))
unfolding run_at
run_counts more lim e e' k bytes later = front (λ text. text) length k e e' bytes more lim later (λ enough. omega (arith, length-take k bytes))

pub u2_goes : (more : List ℕ) (lim : ℕ) (e e' : Edge) (bytes : List ℕ) → Later more lim e e' → Reads more lim 2 bytes (u2_at e bytes) (u2_at e' (bytes ++ more))
u2_goes more lim e e' bytes later = counted more lim 2 bytes (u2_at e bytes) (u2_at e' (bytes ++ more)) (u2_counts more lim e e' bytes later)

pub u4_goes : (more : List ℕ) (lim : ℕ) (e e' : Edge) (bytes : List ℕ) → Later more lim e e' → Reads more lim 4 bytes (u4_at e bytes) (u4_at e' (bytes ++ more))
u4_goes more lim e e' bytes later = counted more lim 4 bytes (u4_at e bytes) (u4_at e' (bytes ++ more)) (u4_counts more lim e e' bytes later)

run_less : (more : List ℕ) (lim : ℕ) (bytes : List ℕ) (r r' : Result (List ℕ × List ℕ) Defect) → Counts more lim length (length bytes) r r' → Reads more lim 0 bytes r r'
run_less more lim bytes (Ok x) r' g = let e = g.1 in (g.0, omega arith)
run_less more lim bytes (Err d) r' g = g

pub run_goes : (more : List ℕ) (lim : ℕ) (e e' : Edge) (k : ℕ) (bytes : List ℕ) → Later more lim e e' → Reads more lim 0 bytes (run_at e k bytes) (run_at e' k (bytes ++ more))
run_goes more lim e e' k bytes later = run_less more lim bytes (run_at e k bytes) (run_at e' k (bytes ++ more)) (run_counts more lim e e' k bytes later)

pub index_goes : (more : List ℕ) (lim : ℕ) (e e' : Edge) (right : ℕ → Bool) (bytes : List ℕ) → length bytes ≤ lim → Later more lim e e' → Reads more lim 2 bytes (index_at e right bytes) (index_at e' right (bytes ++ more))
unfolding index_at
index_goes more lim e e' right bytes le later =
    next more lim 2 0 bytes (u2_at e bytes) (u2_at e' (bytes ++ more)) _ _ (u2_goes more lim e e' bytes later)
    (λ x less. choose more lim (with_more more) (λ y. 0 + length y.1 ≤ length x.1) (right x.0) (Ok x) (Ok (with_more more x)) (Err (fault kinds.Index bytes)) (Err (fault kinds.Index (bytes ++ more))) (refl, omega arith)
    (fails more lim (with_more more) (λ y. 0 + length y.1 ≤ length x.1) kinds.Index bytes (λ is. cc) (omega arith) le))

-- ---- lists of items

pub many_goes : {A : Type 0} (more : List ℕ) (lim k : ℕ) (item item' : List ℕ → Result (A × List ℕ) Defect) → ((bytes : List ℕ) → length bytes ≤ lim → Reads more lim k bytes (item bytes) (item' (bytes ++ more)))
    → (n : ℕ) (bytes : List ℕ) → length bytes ≤ lim → Reads more lim 0 bytes (many_at item n bytes) (many_at item' n (bytes ++ more))
unfolding many_at
many_goes more lim k item item' each zero bytes le = (refl, omega arith)
many_goes more lim k item item' each (suc n) bytes le =
    further more lim 0 k bytes bytes _ _ (omega arith) (next more lim k 0 bytes (item bytes) (item' (bytes ++ more)) _ _ (each bytes le) (λ x less. next more lim 0 0 x.1 (many_at item n x.1) (many_at item' n (x.1 ++ more)) _ _ (many_goes more lim k item item' each n x.1 (omega arith)) (λ y little. (refl, omega arith))))
