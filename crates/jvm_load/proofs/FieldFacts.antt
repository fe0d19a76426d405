-- The fields of files' classes, as the classes have them.
use Rattle.std.proofs.Common.{◌≡◌, ◌≢◌, ℕ, ◌+◌, ◌<◌, Bool, true, false, cond, List, [], ◌∷◌, ◌++◌, length, map, filter, take, reverse, get_or, Option, Some, None, refl, sym, ap, ◌∙◌, arith, append_assoc, eq-eqb}
use Rattle.std.specs.Prelude.{slice_get, option_and_then, if◌then◌else◌, ◌&&◌}
use Rattle.std.specs.Option.{option_map, option_map_or}
use Rattle.std.specs.Str.{bytes_eq}
use Rattle.std.proofs.lemmas.Option.{slice_get-map, slice_get_read}
use Rattle.std.proofs.lemmas.List.{length-map, map-append, take-map, take_more, reverse-append}
use Rattle.std.proofs.lemmas.List.Elements.{filter_more}
use Rattle.std.proofs.lemmas.Bool.{ne_eqb}
use Rattle.class_form.specs.declared.class_file.ClassFile.{ClassFile}
use Rattle.class_form.specs.declared.member.MemberInfo.{MemberInfo}
use Rattle.jp_store.specs.declared.value.Value.{Value}
use Rattle.jp_store.specs.declared.value.Kind.{Kind}
use Rattle.jp_store.specs.Classes.{Class, Field, Key, Found, first_statics, has_role, own_fields, own_part, first_value, kind_of, fitted, offset_in}
use Rattle.jvm_load.specs.FileClasses.{class_of, classes_of, field_of_member, text_at}
use Rattle.jvm_load.specs.Fields.{member_role, first_of, fitted_in}

-- a file that is looked up
pub there_is : (files : List ClassFile) (at : ℕ) (file : ClassFile) → at < length files → file ≡ get_or files at file → slice_get files at ≡ Some file
there_is files at file h e = slice_get_read files (length files) at file refl h e

role_is : (file : ClassFile) (b : Bool) (m : MemberInfo) → has_role b (field_of_member file m) ≡ member_role b m
role_is file true m = refl
role_is file false m = refl

pick_map : (g : MemberInfo → Field) (u : Bool) (x : MemberInfo) (ys : List MemberInfo) → cond u (g x ∷ map g ys) (map g ys) ≡ map g (cond u (x ∷ ys) ys)
pick_map g true x ys = refl
pick_map g false x ys = refl

pub filtered : (file : ClassFile) (b : Bool) (xs : List MemberInfo) → filter (has_role b) (map (field_of_member file) xs) ≡ map (field_of_member file) (filter (member_role b) xs)
filtered file b [] = refl
filtered file b (x ∷ xs) =
    let g = λ (m : MemberInfo). field_of_member file m in
    ap (λ t. cond t (g x ∷ filter (has_role b) (map g xs)) (filter (has_role b) (map g xs))) (role_is file b x)
    ∙ ap (λ l. cond (member_role b x) (g x ∷ l) l) (filtered file b xs)
    ∙ pick_map g (member_role b x) x (filter (member_role b) xs)

-- the first values of fields
pub firsts : (file : ClassFile) (xs : List MemberInfo) → map first_value (map (field_of_member file) xs) ≡ map (first_of file) xs
firsts file [] = refl
firsts file (x ∷ xs) = ap (λ l. first_of file x ∷ l) (firsts file xs)

pub firsts_of : (file : ClassFile) (b : Bool) (xs : List MemberInfo) → map first_value (filter (has_role b) (map (field_of_member file) xs)) ≡ map (first_of file) (filter (member_role b) xs)
firsts_of file b xs = ap (λ l. map first_value l) (filtered file b xs) ∙ firsts file (filter (member_role b) xs)

own_of : (b : Bool) (o : Option ClassFile) → filter (has_role b) (option_map_or (λ (c : Class). c.fields) (option_map class_of o) []) ≡ option_map_or (λ file. map (field_of_member file) (filter (member_role b) file.fields)) o []
own_of b None = refl
own_of b (Some file) = filtered file b file.fields

-- what a class declares, by its file
pub own_part_is : (files : List ClassFile) (b : Bool) (at : ℕ) → own_part b (classes_of files) at ≡ option_map_or (λ file. map (field_of_member file) (filter (member_role b) file.fields)) (slice_get files at) []
own_part_is files b at = ap (λ o. filter (has_role b) (option_map_or (λ (c : Class). c.fields) o [])) (slice_get-map class_of files at) ∙ own_of b (slice_get files at)

pub own_values : (files : List ClassFile) (at : ℕ) (file : ClassFile) → slice_get files at ≡ Some file → map (first_of file) (filter (member_role false) file.fields) ≡ map first_value (own_part false (classes_of files) at)
own_values files at file h =
    sym (ap (λ l. map first_value l) (own_part_is files false at ∙ ap (λ o. option_map_or (λ (f : ClassFile). map (field_of_member f) (filter (member_role false) f.fields)) o []) h) ∙ firsts file (filter (member_role false) file.fields))

pub no_values : (files : List ClassFile) (at : ℕ) → slice_get files at ≡ None → own_part false (classes_of files) at ≡ []
no_values files at h = own_part_is files false at ∙ ap (λ o. option_map_or (λ (f : ClassFile). map (field_of_member f) (filter (member_role false) f.fields)) o []) h

pub own_count_is : (files : List ClassFile) (at : ℕ) (file : ClassFile) → slice_get files at ≡ Some file → length (filter (member_role false) file.fields) ≡ length (own_part false (classes_of files) at)
own_count_is files at file h =
    sym (ap length (own_part_is files false at ∙ ap (λ o. option_map_or (λ (f : ClassFile). map (field_of_member f) (filter (member_role false) f.fields)) o []) h) ∙ length-map (filter (member_role false) file.fields) (field_of_member file))

-- one field more
picked : (f : MemberInfo → Value) (p : MemberInfo → Bool) (xs : List MemberInfo) (i : ℕ) (x : MemberInfo) → i < length xs → x ≡ get_or xs i x → map f (filter p (take (i + 1) xs)) ≡ map f (filter p (take i xs)) ++ map f (filter p (x ∷ []))
picked f p xs i x lt e =
    ap (λ l. map f l) (filter_more p xs i x lt) ∙ map-append f (filter p (take i xs)) (filter p (get_or xs i x ∷ []))
    ∙ ap (λ y. map f (filter p (take i xs)) ++ map f (filter p (y ∷ []))) (sym e)

pub one_more : (f : MemberInfo → Value) (p : MemberInfo → Bool) (xs : List MemberInfo) (i : ℕ) (x : MemberInfo) (front items : List Value) → i < length xs → x ≡ get_or xs i x → items ≡ front ++ map f (filter p (take i xs))
    → items ++ map f (filter p (x ∷ [])) ≡ front ++ map f (filter p (take (i + 1) xs))
one_more f p xs i x front items lt e h =
    ap (λ l. l ++ map f (filter p (x ∷ []))) h ∙ append_assoc front (map f (filter p (take i xs))) (map f (filter p (x ∷ []))) ∙ ap (λ l. front ++ l) (sym (picked f p xs i x lt e))

-- the topmost class of a line comes first
pub turned : (below : List ℕ) (at : ℕ) → reverse (below ++ at ∷ []) ≡ at ∷ reverse below
turned below at = reverse-append below (at ∷ [])

plus_both : (n k : ℕ) (o : Option ℕ) → option_map (λ m. n + m) (option_map (λ m. k + m) o) ≡ option_map (λ m. (n + k) + m) o
plus_both n k None = refl
plus_both n k (Some m) = let e : n + (k + m) ≡ (n + k) + m = omega arith in ap Some e

pub offset_further : (classes : List Class) (class c before : ℕ) (more : List ℕ) → c ≢ class → option_map (λ m. before + m) (offset_in classes class (c ∷ more)) ≡ option_map (λ m. (before + length (own_part false classes c)) + m) (offset_in classes class more)
offset_further classes class c before more ne =
    ap (λ t. option_map (λ m. before + m) (if t then Some 0 else option_map (λ n. length (own_part false classes c) + n) (offset_in classes class more))) (ne_eqb c class ne)
    ∙ plus_both before (length (own_part false classes c)) (offset_in classes class more)

pub offset_here : (classes : List Class) (class before : ℕ) (more : List ℕ) → option_map (λ m. before + m) (offset_in classes class (class ∷ more)) ≡ Some before
offset_here classes class before more =
    ap (λ t. option_map (λ m. before + m) (if t then Some 0 else option_map (λ n. length (own_part false classes class) + n) (offset_in classes class more))) (eq-eqb class class refl)
    ∙ (let e : before + 0 ≡ before = omega arith in ap Some e)

-- a field with so many before it, of the kind that its descriptor stands for
found_with : ℕ → ℕ → Option Kind → Option Found
found_with at n kind = option_map (λ k. record { class = at; slot = n; kind = k }) kind

counted : (file : ClassFile) (s : Bool) (i : ℕ) (xs : List MemberInfo) → length (filter (has_role s) (take i (map (field_of_member file) xs))) ≡ length (filter (member_role s) (take i xs))
counted file s i xs =
    ap (λ l. length (filter (has_role s) l)) (take-map (field_of_member file) i xs) ∙ ap length (filtered file s (take i xs))
    ∙ length-map (filter (member_role s) (take i xs)) (field_of_member file)

abbrev fitted_by : Bool → List ℕ → List Field → ℕ → ℕ → Field → Option Found
fitted_by s d own at i f =
    if has_role s f && bytes_eq f.descriptor d then option_map (λ kind. record { class = at; slot = length (filter (has_role s) (take i own)); kind = kind }) (kind_of f.descriptor) else None

by_member : (file : ClassFile) (s : Bool) (d : List ℕ) (at i : ℕ) (o : Option MemberInfo) → option_and_then (fitted_by s d (map (field_of_member file) file.fields) at i) (option_map (field_of_member file) o) ≡ option_and_then (fitted_in s d at i file) o
unfolding found_with
by_member file s d at i None = refl
by_member file s d at i (Some m) =
    ap (λ t. if t && bytes_eq (text_at file m.descriptor) d then found_with at (length (filter (has_role s) (take i (map (field_of_member file) file.fields)))) (kind_of (text_at file m.descriptor)) else None) (role_is file s m)
    ∙ ap (λ n. if member_role s m && bytes_eq (text_at file m.descriptor) d then found_with at n (kind_of (text_at file m.descriptor)) else None) (counted file s i file.fields)

own_is_mapped : (files : List ClassFile) (at : ℕ) (file : ClassFile) → slice_get files at ≡ Some file → own_fields (classes_of files) at ≡ map (field_of_member file) file.fields
own_is_mapped files at file h = ap (λ o. option_map_or (λ (c : Class). c.fields) o []) (slice_get-map class_of files at ∙ ap (option_map class_of) h)

pub fitted_is : (files : List ClassFile) (s : Bool) (key : Key) (at i : ℕ) (file : ClassFile) → slice_get files at ≡ Some file
    → option_and_then (fitted_in s key.descriptor at i file) (slice_get file.fields i) ≡ option_and_then (fitted s key (classes_of files) at i) (slice_get (own_fields (classes_of files) at) i)
fitted_is files s key at i file h =
    sym (ap (λ own. option_and_then (fitted_by s key.descriptor own at i) (slice_get own i)) (own_is_mapped files at file h)
    ∙ ap (option_and_then (fitted_by s key.descriptor (map (field_of_member file) file.fields) at i)) (slice_get-map (field_of_member file) file.fields i)
    ∙ by_member file s key.descriptor at i (slice_get file.fields i))

pub nothing_fits : (files : List ClassFile) (s : Bool) (key : Key) (at i : ℕ) → slice_get files at ≡ None
    → option_and_then (fitted s key (classes_of files) at i) (slice_get (own_fields (classes_of files) at) i) ≡ None
nothing_fits files s key at i h =
    ap (λ own. option_and_then (fitted_by s key.descriptor own at i) (slice_get own i)) (ap (λ o. option_map_or (λ (c : Class). c.fields) o []) (slice_get-map class_of files at ∙ ap (option_map class_of) h))

-- the static fields of one class more
pub one_file_more : (files : List ClassFile) (i : ℕ) (file : ClassFile) (statics : List (List Value)) (values : List Value) → i < length files → file ≡ get_or files i file → statics ≡ first_statics (classes_of (take i files))
    → values ≡ map first_value (filter (has_role true) (class_of file).fields) → statics ++ values ∷ [] ≡ first_statics (classes_of (take (i + 1) files))
one_file_more files i file statics values lt e h k =
    let f = λ (c : Class). map first_value (filter (has_role true) c.fields) in
    ap (λ (l : List (List Value)). l ++ values ∷ []) h ∙ ap (λ (v : List Value). first_statics (classes_of (take i files)) ++ v ∷ []) (k ∙ ap (λ (g : ClassFile). f (class_of g)) e)
    ∙ sym (ap (λ (fs : List ClassFile). first_statics (classes_of fs)) (take_more files i file lt) ∙ ap (λ (cs : List Class). map f cs) (map-append class_of (take i files) (get_or files i file ∷ []))
    ∙ map-append f (map class_of (take i files)) (class_of (get_or files i file) ∷ []))
