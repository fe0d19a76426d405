-- What the tables say of the searches of classes, methods and fields.
use Rattle.std.proofs.Common.{◌≡◌, ◌≢◌, ℕ, suc, zero, ◌<◌, false, List, [], ◌∷◌, ◌++◌, length, map, get_or, Option, Some, None, refl, sym, ap, ◌∙◌, arith}
use Rattle.std.specs.Prelude.{IfSome, slice_get, unwrap_or}
use Rattle.std.specs.Option.{option_map, option_map_or}
use Rattle.std.specs.Str.{bytes_eq}
use Rattle.std.proofs.lemmas.List.{length-map}
use Rattle.std.proofs.lemmas.Option.{slice_get-map}
use Rattle.std.proofs.lemmas.List.Quantifiers.{position-Some}
use Rattle.class_form.specs.declared.class_file.ClassFile.{ClassFile}
use Rattle.class_form.specs.declared.member.MemberInfo.{MemberInfo}
use Rattle.jp_store.specs.Classes.{Class, super_of, line_from, line, place_of}
use Rattle.jvm_load.specs.FileClasses.{class_of, classes_of, text_at}
use Rattle.jvm_load.specs.Methods.{own_method, first_method, find_method}
use Rattle.jvm_load.specs.declared.tables.TableEntry.{TableEntry}
use Rattle.jvm_load.specs.declared.tables.Listing.TheVariants.{OfClasses, OfMethods, OfFields}
use Rattle.jvm_load.specs.Tables.{Key, key_cmp, key_of, entry_of, first_entry, found_above, IsTable, IsMethodTable, IsFieldTable}
use Rattle.jvm_load.proofs.Found.{methods_found, fields_found, classes_found}
use Rattle.jvm_load.proofs.Sorted.{alike}

-- classes

members : (o : Option ℕ) → option_map (λ (e : TableEntry). e.member) (option_map (λ i. entry_of (0, i)) o) ≡ o
members None = refl
members (Some i) = refl

pub class_is : (files : List ClassFile) (name : List ℕ) (o : Option TableEntry) → o ≡ first_entry OfClasses files (0 ∷ []) ([], name) → option_map (λ (e : TableEntry). e.member) o ≡ place_of (classes_of files) name
class_is files name o h = ap (option_map (λ (e : TableEntry). e.member)) (h ∙ classes_found files name) ∙ members (place_of (classes_of files) name)

pub class_within : (files : List ClassFile) (name : List ℕ) (o : Option ℕ) → o ≡ place_of (classes_of files) name → IfSome o (λ at. at < length files)
class_within files name None h = tt
class_within files name (Some at) h =
    let any : Class = record { name = []; superclass = None; interfaces = []; is_interface = false; is_abstract = false; fields = [] } in
    let p = position-Some (λ (c : Class). bytes_eq c.name name) (classes_of files) at any (sym h) in
    omega (arith, p.0, length-map files class_of)

-- methods

pairs : (o : Option (ℕ × ℕ)) → option_map (λ (e : TableEntry). (e.file, e.member)) (option_map entry_of o) ≡ o
pairs None = refl
pairs (Some p) = refl

pub positions : (o : Option TableEntry) (p : Option (ℕ × ℕ)) → o ≡ option_map entry_of p → option_map (λ (e : TableEntry). (e.file, e.member)) o ≡ p
positions o p h = ap (option_map (λ (e : TableEntry). (e.file, e.member))) h ∙ pairs p

pub method_table_is : (files : List ClassFile) (class : ℕ) (table : List TableEntry) → IsTable key_cmp (key_of OfMethods files) (found_above OfMethods files class) table → IsMethodTable files class table
method_table_is files class table t =
    alike (key_of OfMethods files) (found_above OfMethods files class) table t (λ key. option_map entry_of (find_method files class key.0 key.1))
    (λ key. methods_found files key.0 key.1 (line (classes_of files) class))

-- what is found upwards is its file's own
own_found : (files : List ClassFile) (name descriptor : List ℕ) (at : ℕ) (more : List ℕ) (o : Option ℕ) (f i : ℕ) → own_method files name descriptor at ≡ o
    → (first_method files name descriptor more ≡ Some (f, i) → own_method files name descriptor f ≡ Some i)
    → option_map_or (λ i. Some (at, i)) o (first_method files name descriptor more) ≡ Some (f, i) → own_method files name descriptor f ≡ Some i
own_found files name descriptor at more None f i e ih h = ih h
own_found files name descriptor at more (Some j) f i e ih h =
    let file : at ≡ f = grind (arith, h) in
    let member : j ≡ i = grind (arith, h) in
    ap (own_method files name descriptor) (sym file) ∙ e ∙ ap (λ n. Some n) member

found_own : (files : List ClassFile) (name descriptor : List ℕ) (line : List ℕ) (f i : ℕ) → first_method files name descriptor line ≡ Some (f, i) → own_method files name descriptor f ≡ Some i
found_own files name descriptor [] f i h = grind (arith, h)
found_own files name descriptor (at ∷ more) f i h =
    own_found files name descriptor at more (own_method files name descriptor at) f i refl (found_own files name descriptor more f i) h

line_begins : (n : ℕ) (classes : List Class) (at : ℕ) → zero < n → (more : List ℕ) × (line_from n classes [] at ≡ at ∷ more)
unfolding line_from
line_begins zero classes at h = absurd (omega arith)
line_begins (suc n) classes at h = (option_map_or (line_from n classes ([] ++ at ∷ [])) (super_of classes at) [], refl)

-- what is found in the class itself is its own method
pub own_there : (files : List ClassFile) (name descriptor : List ℕ) (class f i : ℕ) → f ≡ class → find_method files class name descriptor ≡ Some (f, i) → Some i ≡ own_method files name descriptor class
own_there files name descriptor class f i e h =
    sym (ap (own_method files name descriptor) (sym e) ∙ found_own files name descriptor (line (classes_of files) class) f i h)

begun : (files : List ClassFile) (name descriptor : List ℕ) (class : ℕ) → class < length files → (j : ℕ) → own_method files name descriptor class ≡ Some j → find_method files class name descriptor ≡ Some (class, j)
begun files name descriptor class lt j e =
    let b = line_begins (length (classes_of files)) (classes_of files) class (omega (arith, length-map files class_of)) in
    ap (first_method files name descriptor) b.1 ∙ ap (λ o. option_map_or (λ i. Some (class, i)) o (first_method files name descriptor b.0)) e

-- where something is found in another class, or nothing, the class has none of its own
pub own_away : (files : List ClassFile) (name descriptor : List ℕ) (class f i : ℕ) → class < length files → f ≢ class → find_method files class name descriptor ≡ Some (f, i) → (o : Option ℕ) → own_method files name descriptor class ≡ o → None ≡ o
own_away files name descriptor class f i lt ne h None e = refl
own_away files name descriptor class f i lt ne h (Some j) e =
    let same : Some (class, j) ≡ Some (f, i) = sym (begun files name descriptor class lt j e) ∙ h in
    absurd (ne (grind (arith, same)))

pub own_none : (files : List ClassFile) (name descriptor : List ℕ) (class : ℕ) → class < length files → find_method files class name descriptor ≡ None → (o : Option ℕ) → own_method files name descriptor class ≡ o → None ≡ o
own_none files name descriptor class lt h None e = refl
own_none files name descriptor class lt h (Some j) e =
    let same : Some (class, j) ≡ None = sym (begun files name descriptor class lt j e) ∙ h in
    grind (arith, same)

-- fields

none_or : (o : Option MemberInfo) (g : MemberInfo → Key) → ((m : MemberInfo) → (g m).0 ≡ []) → (unwrap_or {T = Key} (option_map g o) ([], [])).0 ≡ []
none_or None g h = refl
none_or (Some m) g h = h m

nothing_first : (o : Option ClassFile) (i : ℕ)
    → (unwrap_or {T = Key} (slice_get (option_map_or (λ (file : ClassFile). map (λ (m : MemberInfo). ([], text_at file m.name)) file.fields) o []) i) ([], [])).0 ≡ []
nothing_first None i = refl
nothing_first (Some file) i =
    let g : MemberInfo → Key = λ m. ([], text_at file m.name) in
    ap (λ (p : Option Key). (unwrap_or {T = Key} p ([], [])).0) (slice_get-map g file.fields i) ∙ none_or (slice_get file.fields i) g (λ m. refl)

field_key : (files : List ClassFile) (e : TableEntry) → key_of OfFields files e ≡ ([], (key_of OfFields files e).1)
field_key files e = ap (λ x. (x, (key_of OfFields files e).1)) (nothing_first (slice_get files e.file) e.member)

pub field_table_is : (files : List ClassFile) (class : ℕ) (table : List TableEntry) → IsTable key_cmp (key_of OfFields files) (found_above OfFields files class) table → IsFieldTable files class table
field_table_is files class table t =
    let key = key_of OfFields files in
    let up = line (classes_of files) class in
    record {
      rises = λ i j d lt within.
          let a = get_or table i d in
          let b = get_or table j d in
          ap (λ x. key_cmp x ([], (key b).1)) (sym (field_key files a)) ∙ ap (key_cmp (key a)) (sym (field_key files b)) ∙ t.rises i j d lt within;
      sound = λ i d lt.
          let e = get_or table i d in
          sym (fields_found files (key e).1 up) ∙ ap (first_entry OfFields files up) (sym (field_key files e)) ∙ t.sound i d lt;
      complete = λ name e h.
          let c = t.complete ([], name) e (fields_found files name up ∙ h) in
          (c.0, c.1, λ d. ap (λ (k : Key). k.1) (c.2 d));
    }
