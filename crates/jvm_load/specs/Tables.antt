-- Tables: what a search finds, one entry for each key that it finds something for, in order of keys.
use Rattle.std.specs.Prelude.{◌≡◌, ℕ, ◌+◌, ◌<◌, ◌≤◌, Bool, ◌&&◌, List, [], ◌∷◌, length, map, position, slice_get, get_or, unwrap_or, Option, Some, None}
use Rattle.std.specs.Option.{option_map, option_map_or}
use Rattle.std.specs.List.{find}
use Rattle.std.specs.declared.cmp.Ordering.{Ordering}
use Rattle.std.specs.declared.cmp.Ordering.TheVariants.{Less, Equal, Greater}
use Rattle.std.specs.Ordering.{nat_cmp, ordering_then}
use Rattle.std.specs.Cmp.Lexicographic.{slice_cmp}
use Rattle.std.specs.Str.{bytes_eq}
use Rattle.class_form.specs.declared.class_file.ClassFile.{ClassFile}
use Rattle.jp_store.specs.Classes.{line, find_field}
use Rattle.jvm_load.specs.FileClasses.{text_at, name_of, classes_of}
use Rattle.jvm_load.specs.Methods.{find_method}
use Rattle.jvm_load.specs.declared.tables.TableEntry.{TableEntry}
use Rattle.jvm_load.specs.declared.tables.Listing.{Listing}
use Rattle.jvm_load.specs.declared.tables.Listing.TheVariants.{OfClasses, OfMethods, OfFields}
use Rattle.jvm_load.specs.declared.tables.KeyText.{KeyText}

-- what entries are ordered by: a name and a descriptor, or nothing and a name
abbrev pub Key : Type 0
Key = List ℕ × List ℕ

-- the order of bytes, first of the first parts
abbrev pub key_cmp : Key → Key → Ordering
key_cmp a b = ordering_then (slice_cmp nat_cmp a.0 b.0) (slice_cmp nat_cmp a.1 b.1)

-- whether a key is the wanted one
abbrev pub is_key : Key → Key → Bool
is_key wanted key = bytes_eq key.0 wanted.0 && bytes_eq key.1 wanted.1

-- the texts that are pointed to
abbrev pub key_text : KeyText → Key
key_text key = (key.name.now, key.descriptor.now)

-- the keys of what the file at a position has, in its order: of methods, of fields, or of all classes
abbrev pub keys_at : Listing → List ClassFile → ℕ → List Key
keys_at OfClasses files at = map (λ file. ([], name_of file)) files
keys_at OfMethods files at = option_map_or (λ file. map (λ m. (text_at file m.name, text_at file m.descriptor)) file.methods) (slice_get files at) []
keys_at OfFields files at = option_map_or (λ file. map (λ m. ([], text_at file m.name)) file.fields) (slice_get files at) []

-- the key of an entry
abbrev pub key_of : Listing → List ClassFile → TableEntry → Key
key_of listing files entry = unwrap_or (slice_get (keys_at listing files entry.file) entry.member) ([], [])

-- the entry of a file and a member
abbrev pub entry_of : ℕ × ℕ → TableEntry
entry_of found = record { file = found.0; member = found.1 }

-- the first of some files that has something of this key, and where it stands there
abbrev pub first_entry : Listing → List ClassFile → List ℕ → Key → Option TableEntry
first_entry listing files [] key = None
first_entry listing files (at ∷ more) key =
    option_map_or (λ i. Some (entry_of (at, i))) (position (is_key key) (keys_at listing files at)) (first_entry listing files more key)

-- what the upward search finds from a class
abbrev pub found_above : Listing → List ClassFile → ℕ → Key → Option TableEntry
found_above listing files at key = first_entry listing files (line (classes_of files) at) key

-- the keys of a table rise
abbrev pub Rises : {K : Type 0} → (K → K → Ordering) → (TableEntry → K) → List TableEntry → Type 0
Rises cmp key table = (i j : ℕ) (d : TableEntry) → i < j → j < length table → cmp (key (get_or table i d)) (key (get_or table j d)) ≡ Less

-- A table holds exactly what a search finds.
pub record IsTable {K : Type 0} (cmp : K → K → Ordering) (key : TableEntry → K) (finds : K → Option TableEntry) (table : List TableEntry) : Type 0 where
  pub rises : Rises cmp key table
  pub sound : (i : ℕ) (d : TableEntry) → i < length table → finds (key (get_or table i d)) ≡ Some (get_or table i d)
  pub complete : (k : K) (e : TableEntry) → finds k ≡ Some e → (i : ℕ) × (i < length table) × ((d : TableEntry) → key (get_or table i d) ≡ k)

-- The entry at a place has the key.
pub record IsAt (key : TableEntry → Key) (table : List TableEntry) (wanted : Key) (i : ℕ) : Type 0 where
  pub within : i < length table
  pub same : (d : TableEntry) → key_cmp (key (get_or table i d)) wanted ≡ Equal

-- No entry has the key, which would go to a place.
pub record IsGap (key : TableEntry → Key) (table : List TableEntry) (wanted : Key) (i : ℕ) : Type 0 where
  pub within : i ≤ length table
  pub before : (j : ℕ) (d : TableEntry) → j < i → key_cmp (key (get_or table j d)) wanted ≡ Less
  pub behind : (j : ℕ) (d : TableEntry) → i ≤ j → j < length table → key_cmp (key (get_or table j d)) wanted ≡ Greater

-- the first of some entries that has the key
abbrev pub first_with : (TableEntry → Key) → List TableEntry → Key → Option TableEntry
first_with key entries wanted = find (λ e. is_key wanted (key e)) entries

-- the entries of a file from a member on, whose keys are these
abbrev pub entries_from : ℕ → ℕ → List Key → List TableEntry
entries_from at i [] = []
entries_from at i (key ∷ keys) = entry_of (at, i) ∷ entries_from at (i + 1) keys

-- the entries of a file
abbrev pub entries_at : Listing → List ClassFile → ℕ → List TableEntry
entries_at listing files at = entries_from at 0 (keys_at listing files at)

-- tables of what is found upwards from the first n classes
pub record AreTables (listing : Listing) (files : List ClassFile) (n : ℕ) (tables : List (List TableEntry)) : Type 0 where
  pub count : length tables ≡ n
  pub each : (at : ℕ) → at < n → IsTable key_cmp (key_of listing files) (found_above listing files at) (get_or tables at [])

-- The method table of a class: one entry for each name and descriptor for which the upward search finds a method, in
-- order of names and then of descriptors, with the positions that it finds.
abbrev pub IsMethodTable : List ClassFile → ℕ → List TableEntry → Type 0
IsMethodTable files at table = IsTable key_cmp (key_of OfMethods files) (λ key. option_map entry_of (find_method files at key.0 key.1)) table

-- The field table of a class: one entry for each name for which the upward search finds a field, in order of names,
-- with the positions that it finds.
abbrev pub IsFieldTable : List ClassFile → ℕ → List TableEntry → Type 0
IsFieldTable files at table =
    IsTable (slice_cmp nat_cmp) (λ entry. (key_of OfFields files entry).1) (λ name. option_map entry_of (find_field (classes_of files) at name)) table
