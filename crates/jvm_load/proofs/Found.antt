-- The first entry of a key among the members of some files is what is found in them.
use Rattle.std.proofs.Common.{◌≡◌, ℕ, ◌+◌, Bool, true, false, cond, List, [], ◌∷◌, map, Option, Some, None, refl, sym, ap, ◌∙◌, arith, suc}
use Rattle.std.specs.Prelude.{position, slice_get, unwrap_or}
use Rattle.std.specs.Option.{option_map, option_map_or, option_or}
use Rattle.std.specs.List.{position_from, flat_map}
use Rattle.std.specs.Str.{bytes_eq}
use Rattle.std.proofs.lemmas.List.Folds.{find-append}
use Rattle.std.proofs.lemmas.Iterator.Adapters.{position_from-zero}
use Rattle.class_form.specs.declared.class_file.ClassFile.{ClassFile}
use Rattle.jp_store.specs.Classes.{Class, place_of, first_field, own_fields}
use Rattle.jvm_load.specs.FileClasses.{text_at, name_of, class_of, classes_of}
use Rattle.jvm_load.specs.Methods.{is_method, own_method, first_method}
use Rattle.jvm_load.specs.declared.tables.TableEntry.{TableEntry}
use Rattle.jvm_load.specs.declared.tables.Listing.{Listing}
use Rattle.jvm_load.specs.declared.tables.Listing.TheVariants.{OfClasses, OfMethods, OfFields}
use Rattle.jvm_load.specs.Tables.{Key, is_key, keys_at, key_of, entry_of, first_entry, first_with, entries_from, entries_at}
use Rattle.jvm_load.proofs.Positions.{position_map}
use Rattle.jvm_load.proofs.Members.{own_is}

chosen : (at i : ℕ) (b : Bool) (more : Option ℕ) → cond b (Some (entry_of (at, i))) (option_map (λ n. entry_of (at, n)) more) ≡ option_map (λ n. entry_of (at, n)) (cond b (Some i) more)
chosen at i true more = refl
chosen at i false more = refl

in_entries : (key : TableEntry → Key) (wanted : Key) (at i : ℕ) (keys : List Key) → ((j : ℕ) (k : Key) → slice_get keys j ≡ Some k → key (entry_of (at, i + j)) ≡ k)
    → first_with key (entries_from at i keys) wanted ≡ option_map (λ n. entry_of (at, n)) (position_from (is_key wanted) i keys)
in_entries key wanted at i [] h = refl
in_entries key wanted at i (k ∷ keys) h =
    let same : i + 0 ≡ i = omega arith in
    let e : key (entry_of (at, i)) ≡ k = ap (λ n. key (entry_of (at, n))) (sym same) ∙ h 0 k refl in
    let rest = in_entries key wanted at (i + 1) keys (λ j m f.
    let next : i + 1 + j ≡ i + suc j = omega arith in
    ap (λ n. key (entry_of (at, n))) next ∙ h (suc j) m f) in
    ap (λ y. cond (is_key wanted y) (Some (entry_of (at, i))) (first_with key (entries_from at (i + 1) keys) wanted)) e
    ∙ ap (λ o. cond (is_key wanted k) (Some (entry_of (at, i))) o) rest
    ∙ chosen at i (is_key wanted k) (position_from (is_key wanted) (i + 1) keys)

in_file : (listing : Listing) (files : List ClassFile) (wanted : Key) (at : ℕ)
    → first_with (key_of listing files) (entries_at listing files at) wanted ≡ option_map (λ n. entry_of (at, n)) (position (is_key wanted) (keys_at listing files at))
in_file listing files wanted at =
    let keys = keys_at listing files at in
    in_entries (key_of listing files) wanted at 0 keys (λ j k e.
    let same : 0 + j ≡ j = omega arith in
    ap (λ n. key_of listing files (entry_of (at, n))) same ∙ ap (λ o. unwrap_or o ([], [])) e)
    ∙ ap (option_map (λ n. entry_of (at, n))) (sym (position_from-zero (is_key wanted) keys))

either : (at : ℕ) (o : Option ℕ) (more : Option TableEntry) → option_or (option_map (λ n. entry_of (at, n)) o) more ≡ option_map_or (λ i. Some (entry_of (at, i))) o more
either at None more = refl
either at (Some i) more = refl

-- the first entry of a key among those of some files
pub in_line : (listing : Listing) (files : List ClassFile) (line : List ℕ) (wanted : Key)
    → first_with (key_of listing files) (flat_map (entries_at listing files) line) wanted ≡ first_entry listing files line wanted
in_line listing files [] wanted = refl
in_line listing files (at ∷ more) wanted =
    let key = key_of listing files in
    let rest = first_entry listing files more wanted in
    find-append (λ (e : TableEntry). is_key wanted (key e)) (entries_at listing files at) (flat_map (entries_at listing files) more)
    ∙ ap (λ o. option_or o (first_with key (flat_map (entries_at listing files) more) wanted)) (in_file listing files wanted at)
    ∙ ap (λ o. option_or (option_map (λ n. entry_of (at, n)) (position (is_key wanted) (keys_at listing files at))) o) (in_line listing files more wanted)
    ∙ either at (position (is_key wanted) (keys_at listing files at)) rest

-- methods

own_by : (name descriptor : List ℕ) (o : Option ClassFile)
    → position (is_key (name, descriptor)) (option_map_or (λ (file : ClassFile). map (λ m. (text_at file m.name, text_at file m.descriptor)) file.methods) o [])
    ≡ option_map_or (λ (file : ClassFile). position (is_method name descriptor file) file.methods) o None
own_by name descriptor None = refl
own_by name descriptor (Some file) = position_map (λ m. (text_at file m.name, text_at file m.descriptor)) (is_key (name, descriptor)) file.methods

pair_more : (at : ℕ) (o : Option ℕ) (more : Option (ℕ × ℕ)) → option_map_or (λ i. Some (entry_of (at, i))) o (option_map entry_of more) ≡ option_map entry_of (option_map_or (λ i. Some (at, i)) o more)
pair_more at None more = refl
pair_more at (Some i) more = refl

pub methods_found : (files : List ClassFile) (name descriptor : List ℕ) (line : List ℕ) → first_entry OfMethods files line (name, descriptor) ≡ option_map entry_of (first_method files name descriptor line)
methods_found files name descriptor [] = refl
methods_found files name descriptor (at ∷ more) =
    ap (λ o. option_map_or (λ i. Some (entry_of (at, i))) o (first_entry OfMethods files more (name, descriptor))) (own_by name descriptor (slice_get files at))
    ∙ ap (λ o. option_map_or (λ i. Some (entry_of (at, i))) (own_method files name descriptor at) o) (methods_found files name descriptor more)
    ∙ pair_more at (own_method files name descriptor at) (first_method files name descriptor more)

-- fields

own_field_by : (name : List ℕ) (o : Option ClassFile)
    → position (is_key ([], name)) (option_map_or (λ (file : ClassFile). map (λ m. ([], text_at file m.name)) file.fields) o [])
    ≡ option_map_or (λ (file : ClassFile). position (λ member. bytes_eq (text_at file member.name) name) file.fields) o None
own_field_by name None = refl
own_field_by name (Some file) = position_map (λ m. ([], text_at file m.name)) (is_key ([], name)) file.fields

pub fields_found : (files : List ClassFile) (name : List ℕ) (line : List ℕ) → first_entry OfFields files line ([], name) ≡ option_map entry_of (first_field (classes_of files) name line)
fields_found files name [] = refl
fields_found files name (at ∷ more) =
    ap (λ o. option_map_or (λ i. Some (entry_of (at, i))) o (first_entry OfFields files more ([], name))) (own_field_by name (slice_get files at) ∙ sym (own_is files name at))
    ∙ ap (λ o. option_map_or (λ i. Some (entry_of (at, i))) (position (λ f. bytes_eq f.name name) (own_fields (classes_of files) at)) o) (fields_found files name more)
    ∙ pair_more at (position (λ f. bytes_eq f.name name) (own_fields (classes_of files) at)) (first_field (classes_of files) name more)

-- classes

class_by : (o : Option ℕ) → option_map_or (λ i. Some (entry_of (0, i))) o None ≡ option_map (λ i. entry_of (0, i)) o
class_by None = refl
class_by (Some i) = refl

pub classes_found : (files : List ClassFile) (name : List ℕ) → first_entry OfClasses files (0 ∷ []) ([], name) ≡ option_map (λ i. entry_of (0, i)) (place_of (classes_of files) name)
classes_found files name =
    let named = position (λ file. bytes_eq (name_of file) name) files in
    ap (λ o. option_map_or (λ i. Some (entry_of (0, i))) o None) (position_map (λ (file : ClassFile). ([], name_of file)) (is_key ([], name)) files ∙ sym (position_map class_of (λ (k : Class). bytes_eq k.name name) files))
    ∙ class_by (place_of (classes_of files) name)
