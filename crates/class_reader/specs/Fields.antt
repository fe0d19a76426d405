-- Reading the fields of a class file from the front of some bytes: the value and the bytes behind it, or the fault.
use Rattle.std.specs.Prelude.{◌≡◌, ℕ, zero, suc, ◌-◌, Bool, List, [], ◌∷◌, length, take, drop, Result, Ok, Err, nat_lt, if◌then◌else◌}
use Rattle.std.specs.Int.{w16, w32, w64, from_be_bytes}
use Rattle.class_reader.specs.declared.fault.ClassKind.{ClassKind}
use Rattle.class_reader.specs.declared.fault.ClassKind.TheVariants.{Truncated, Index}
use Rattle.class_reader.specs.declared.fault.Defect.{Defect}
use Rattle.class_reader.specs.declared.fault.Stop.{Stop}
use Rattle.class_reader.specs.declared.fault.Stop.TheVariants.{Fault, OutOfMemory}
use Rattle.class_reader.specs.declared.fields.Edge.{Edge}

-- one reading behind another: the first fault is the one that counts
infixl 10 ◌>>=◌
abbrev pub ◌>>=◌ : {A B : Type 0} → Result A Defect → (A → Result B Defect) → Result B Defect
(Ok x) >>= f = f x
(Err d) >>= f = Err d

-- why a function stopped is the fault of reading, unless memory ran out
abbrev pub Fails : {Y : Type 0} → Stop → Result Y Defect → Type 0
Fails OutOfMemory read = Unit {0}
Fails (Fault d) read = read ≡ Err d

-- what a function returned, seen by view, is what reading gives, unless memory ran out
abbrev pub Gives : {X Y : Type 0} → (X → Y) → Result X Stop → Result Y Defect → Type 0
Gives view (Ok x) read = read ≡ Ok (view x)
Gives view (Err e) read = Fails e read

-- the fault at the first of these bytes
abbrev pub fault : ClassKind → List ℕ → Defect
fault kind bytes = record { kind = kind; left = length bytes }

-- the end of the file
abbrev pub file_edge : Edge
file_edge = record { left = 0; short = record { kind = Truncated; left = 0 } }

-- numbers of two, four and eight bytes, the highest first, within an edge
unfoldable pub u2_at : Edge → List ℕ → Result (ℕ × List ℕ) Defect
u2_at edge bytes =
    if nat_lt (length bytes - edge.left) 2 then Err edge.short else Ok (from_be_bytes w16 (take 2 bytes), drop 2 bytes)

unfoldable pub u4_at : Edge → List ℕ → Result (ℕ × List ℕ) Defect
u4_at edge bytes =
    if nat_lt (length bytes - edge.left) 4 then Err edge.short else Ok (from_be_bytes w32 (take 4 bytes), drop 4 bytes)

unfoldable pub u8_at : Edge → List ℕ → Result (ℕ × List ℕ) Defect
u8_at edge bytes =
    if nat_lt (length bytes - edge.left) 8 then Err edge.short else Ok (from_be_bytes w64 (take 8 bytes), drop 8 bytes)

-- this many bytes
unfoldable pub run_at : Edge → ℕ → List ℕ → Result (List ℕ × List ℕ) Defect
run_at edge count bytes =
    if nat_lt (length bytes - edge.left) count then Err edge.short else Ok (take count bytes, drop count bytes)

-- an index that is right
unfoldable pub index_at : Edge → (ℕ → Bool) → List ℕ → Result (ℕ × List ℕ) Defect
index_at edge is_right bytes = do
  index ← u2_at edge bytes
  if is_right index.0 then Ok index else Err (fault Index bytes)

-- a list of this many items
unfoldable pub many_at : {A : Type 0} → (List ℕ → Result (A × List ℕ) Defect) → ℕ → List ℕ → Result (List A × List ℕ) Defect
many_at item zero bytes = Ok ([], bytes)
many_at item (suc n) bytes = do
  first ← item bytes
  others ← many_at item n first.1
  Ok (first.0 ∷ others.0, others.1)
