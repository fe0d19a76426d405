-- One entry more, and one table more.
use Rattle.std.proofs.Common.{◌≡◌, ℕ, zero, suc, ◌+◌, ◌<◌, List, [], ◌∷◌, ◌++◌, length, take, get_or, refl, sym, ap, ◌∙◌, subst, arith, length-append, append_assoc, ◌⊎◌, inl, inr}
use Rattle.std.proofs.Math.Nat.{eq-or-lt_of_le}
use Rattle.std.proofs.Math.ListN.{get_or-append}
use Rattle.std.proofs.Math.Seq.{get_or-append_seam}
use Rattle.std.proofs.lemmas.List.{take_more, length-take}
use Rattle.class_form.specs.declared.class_file.ClassFile.{ClassFile}
use Rattle.jvm_load.specs.declared.tables.TableEntry.{TableEntry}
use Rattle.jvm_load.specs.declared.tables.Listing.{Listing}
use Rattle.jvm_load.specs.Tables.{Key, key_cmp, key_of, entry_of, entries_from, found_above, IsTable, AreTables}

entries_more : (at i : ℕ) (keys : List Key) (k : Key) → entries_from at i (keys ++ k ∷ []) ≡ entries_from at i keys ++ entry_of (at, i + length keys) ∷ []
entries_more at i [] k = let e : i ≡ i + 0 = omega arith in ap (λ n. entry_of (at, n) ∷ []) e
entries_more at i (x ∷ keys) k =
    let e : i + 1 + length keys ≡ i + suc (length keys) = omega arith in
    ap (λ l. entry_of (at, i) ∷ l) (entries_more at (i + 1) keys k ∙ ap (λ n. entries_from at (i + 1) keys ++ entry_of (at, n) ∷ []) e)

-- one entry more of a file
pub next_entry : (at m : ℕ) (keys : List Key) (front items : List TableEntry) → m < length keys → items ≡ front ++ entries_from at 0 (take m keys)
    → items ++ entry_of (at, m) ∷ [] ≡ front ++ entries_from at 0 (take (m + 1) keys)
next_entry at m keys front items lt h =
    let k = get_or keys m ([], []) in
    let n : 0 + length (take m keys) ≡ m = omega (arith, length-take m keys) in
    let last : entries_from at 0 (take m keys ++ k ∷ []) ≡ entries_from at 0 (take m keys) ++ entry_of (at, m) ∷ []
    = entries_more at 0 (take m keys) k ∙ ap (λ i. entries_from at 0 (take m keys) ++ entry_of (at, i) ∷ []) n in
    ap (λ l. l ++ entry_of (at, m) ∷ []) h ∙ append_assoc front (entries_from at 0 (take m keys)) (entry_of (at, m) ∷ [])
    ∙ ap (λ l. front ++ l) (sym last ∙ ap (entries_from at 0) (sym (take_more keys m ([], []) lt)))

-- no tables
pub tables_none : (listing : Listing) (files : List ClassFile) → AreTables listing files zero []
tables_none listing files = record { count = refl; each = λ at h. absurd (omega arith) }

by_place : (listing : Listing) (files : List ClassFile) (n at : ℕ) (tables : List (List TableEntry)) (table : List TableEntry) → length tables ≡ n
    → IsTable key_cmp (key_of listing files) (found_above listing files n) table → (at ≡ n) ⊎ (at < n)
    → (at < n → IsTable key_cmp (key_of listing files) (found_above listing files at) (get_or tables at []))
    → IsTable key_cmp (key_of listing files) (found_above listing files at) (get_or (tables ++ table ∷ []) at [])
by_place listing files n at tables table c t (inl e) before =
    let same : length tables ≡ at = c ∙ sym e in
    let last : get_or (tables ++ table ∷ []) at [] ≡ table = ap (λ k. get_or (tables ++ table ∷ []) k []) (sym same) ∙ get_or-append_seam tables table [] [] in
    subst (λ (l : List TableEntry). IsTable key_cmp (key_of listing files) (found_above listing files at) l) (sym last)
    (subst (λ (k : ℕ). IsTable key_cmp (key_of listing files) (found_above listing files k) table) (sym e) t)
by_place listing files n at tables table c t (inr lt) before =
    let within : at < length tables = omega (arith, c) in
    subst (λ (l : List TableEntry). IsTable key_cmp (key_of listing files) (found_above listing files at) l) (sym (get_or-append tables (table ∷ []) [] at within)) (before lt)

-- one table more
pub tables_more : (listing : Listing) (files : List ClassFile) (n : ℕ) (tables : List (List TableEntry)) (table : List TableEntry) → AreTables listing files n tables
    → IsTable key_cmp (key_of listing files) (found_above listing files n) table → AreTables listing files (n + 1) (tables ++ table ∷ [])
tables_more listing files n tables table a t = record {
  count = omega (arith, length-append tables (table ∷ []), a.count);
  each = λ at k. by_place listing files n at tables table a.count t (eq-or-lt_of_le (omega arith)) (a.each at);
}
