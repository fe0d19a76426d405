-- What a file is made of is well formed.
use Rattle.std.proofs.Common.{◌≡◌, ℕ, ◌+◌, ◌<◌, Bool, true, false, List, [], ◌∷◌, ◌++◌, map, length, Option, Some, None, refl, sym, ap, ◌∙◌, subst, arith, lt-ltb}
use Rattle.std.specs.Prelude.{◌&&◌, ◌||◌, ◌==◌, not, nat_lt, slice_get, option_and_then, unwrap_or, codes}
use Rattle.std.specs.List.{list_any, list_all, sum_by}
use Rattle.std.proofs.lemmas.Bool.{and_parts}
use Rattle.std.proofs.lemmas.List.{length-map}
use Rattle.std.proofs.lemmas.List.Folds.{list_all-append}
use Rattle.std.proofs.Math.Bool.{or-true}
use Rattle.class_form.specs.declared.class_file.ClassFile.{ClassFile}
use Rattle.class_form.specs.declared.constant.Const.{Const}
use Rattle.class_form.specs.declared.constant.Const.TheVariants.{Unused, Utf8, Integer, Float, Long, Double, Class, Text, Fieldref, Methodref, InterfaceMethodref, NameAndType}
use Rattle.class_form.specs.declared.member.Attribute.{Attribute}
use Rattle.class_form.specs.declared.member.Code.{Code}
use Rattle.class_form.specs.declared.member.MemberInfo.{MemberInfo}
use Rattle.class_form.specs.Constants.{text_in, class_in, utf8_at, class_name_at}
use Rattle.class_form.specs.WellFormed.{WellFormed, is_utf8, is_class, is_of, names, is_code, is_code_text, has_code, attributes_fit, attribute_size, code_size, any_code_fits, code_count, member_fits, has_code_name, pool_fits, is_spaced, text_fits, has_right_indices}
use Rattle.code_asm.specs.Held.{Extends, InFiles, hold}
use Rattle.gen_class.proofs.Growing.{longer}

both : (a b : Bool) → a ≡ true → b ≡ true → (a && b) ≡ true
both a b p q = ap (λ (x : Bool). x && b) p ∙ q

-- AN INDEX THAT NAMES A TEXT OR A CLASS

text_is : (constant : Option Const) (text : List ℕ) → option_and_then text_in constant ≡ Some text → is_of is_utf8 constant ≡ true
text_is None text e = absurd cc
text_is (Some (Utf8 bytes)) text e = refl
text_is (Some Unused) text e = absurd cc
text_is (Some (Integer n)) text e = absurd cc
text_is (Some (Float bits)) text e = absurd cc
text_is (Some (Long n)) text e = absurd cc
text_is (Some (Double bits)) text e = absurd cc
text_is (Some (Class name)) text e = absurd cc
text_is (Some (Text text')) text e = absurd cc
text_is (Some (Fieldref class name)) text e = absurd cc
text_is (Some (Methodref class name)) text e = absurd cc
text_is (Some (InterfaceMethodref class name)) text e = absurd cc
text_is (Some (NameAndType name descriptor)) text e = absurd cc

class_is : (at : ℕ → Option (List ℕ)) (constant : Option Const) (text : List ℕ) → option_and_then at (option_and_then class_in constant) ≡ Some text → is_of is_class constant ≡ true
class_is at None text e = absurd cc
class_is at (Some (Class name)) text e = refl
class_is at (Some Unused) text e = absurd cc
class_is at (Some (Utf8 bytes)) text e = absurd cc
class_is at (Some (Integer n)) text e = absurd cc
class_is at (Some (Float bits)) text e = absurd cc
class_is at (Some (Long n)) text e = absurd cc
class_is at (Some (Double bits)) text e = absurd cc
class_is at (Some (Text text')) text e = absurd cc
class_is at (Some (Fieldref class name)) text e = absurd cc
class_is at (Some (Methodref class name)) text e = absurd cc
class_is at (Some (InterfaceMethodref class name)) text e = absurd cc
class_is at (Some (NameAndType name descriptor)) text e = absurd cc

names_text : (file : ClassFile) (index : ℕ) (text : List ℕ) → utf8_at file index ≡ Some text → names is_utf8 file.constants index ≡ true
names_text file index text e = text_is (slice_get file.constants index) text e

pub names_class : (file : ClassFile) (index : ℕ) (text : List ℕ) → class_name_at file index ≡ Some text → names is_class file.constants index ≡ true
names_class file index text e = class_is (utf8_at file) (slice_get file.constants index) text e

pub name_classes : {B : Type 0} (file : ClassFile) (text : B → List ℕ) (indices : List ℕ) (ys : List B) → map (class_name_at file) indices ≡ map (λ y. Some (text y)) ys → list_all (names is_class file.constants) indices ≡ true
name_classes file text [] ys e = refl
name_classes file text (index ∷ indices) [] e = absurd cc
name_classes file text (index ∷ indices) (y ∷ ys) e =
    let first : class_name_at file index ≡ Some (text y) = cc in
    let rest : map (class_name_at file) indices ≡ map (λ y. Some (text y)) ys = cc in
    both _ _ (names_class file index (text y) first) (name_classes file text indices ys rest)

-- texts of names that are there
pub texts_of : {A B : Type 0} (at : A → Option (List ℕ)) (text : B → List ℕ) (xs : List A) (ys : List B) → map at xs ≡ map (λ y. Some (text y)) ys → map (λ x. unwrap_or (at x) []) xs ≡ map text ys
texts_of at text [] [] e = refl
texts_of at text [] (y ∷ ys) e = absurd cc
texts_of at text (x ∷ xs) [] e = absurd cc
texts_of at text (x ∷ xs) (y ∷ ys) e =
    let first : at x ≡ Some (text y) = cc in
    let rest : map at xs ≡ map (λ y. Some (text y)) ys = cc in
    ap (λ (l : List ℕ). l ∷ map (λ x. unwrap_or (at x) []) xs) (ap (λ (o : Option (List ℕ)). unwrap_or o []) first) ∙ ap (λ (ls : List (List ℕ)). text y ∷ ls) (texts_of at text xs ys rest)

-- A FIELD AND A METHOD

module _ (constants : List Const) (member : MemberInfo) (bare : member.attributes ≡ []) where
  no_others : list_all (λ attribute. not (is_code constants attribute)) member.attributes ≡ true
  no_others = ap (λ (l : List Attribute). list_all (λ attribute. not (is_code constants attribute)) l) bare

  few : (o : Option Code) → attributes_fit constants (code_count o) [] ≡ true
  few None = refl
  few (Some code) = refl

  counted : attributes_fit constants (code_count member.code) member.attributes ≡ true
  counted = ap (λ (l : List Attribute). attributes_fit constants (code_count member.code) l) bare ∙ few member.code

  all_fit : names is_utf8 constants member.name ≡ true → names is_utf8 constants member.descriptor ≡ true → any_code_fits constants member.code ≡ true → member_fits constants member ≡ true
  all_fit n d c = both _ _ (both _ _ (both _ _ (both _ _ n d) c) counted) no_others

-- the name of a member was added, then its descriptor, and then perhaps more
pub fits_in : (member : MemberInfo) (first second last : List Const) (name descriptor : List ℕ) → member.attributes ≡ [] → ((constants : List Const) → any_code_fits constants member.code ≡ true) → Extends first second → Extends second last
    → InFiles first (λ file. utf8_at file member.name ≡ Some name) → InFiles second (λ file. utf8_at file member.descriptor ≡ Some descriptor) → InFiles last (λ file. member_fits file.constants member ≡ true)
fits_in member first second last name descriptor bare code grows goes names_it describes file more e =
    let later : InFiles second (λ file. utf8_at file member.name ≡ Some name) = longer (λ (file : ClassFile). utf8_at file member.name ≡ Some name) first second grows names_it in
    let n : utf8_at file member.name ≡ Some name = longer (λ (file : ClassFile). utf8_at file member.name ≡ Some name) second last goes later file more e in
    let d : utf8_at file member.descriptor ≡ Some descriptor = longer (λ (file : ClassFile). utf8_at file member.descriptor ≡ Some descriptor) second last goes describes file more e in
    all_fit file.constants member bare (names_text file member.name name n) (names_text file member.descriptor descriptor d) (code file.constants)

size_fits : (code : Code) → code.attributes ≡ [] → length code.bytes < 65536 → nat_lt (code_size code) 4294967296 ≡ true
unfolding code_size
size_fits code bare short =
    lt-ltb _ _ (subst (λ (l : List Attribute). 12 + length code.bytes + sum_by attribute_size l < 4294967296) (sym bare) (omega arith))

pub code_is_fit : (code : Code) (o : Option Code) → o ≡ Some code → 0 < length code.bytes → length code.bytes < 65536 → code.attributes ≡ [] → (constants : List Const) → any_code_fits constants o ≡ true
code_is_fit code o e some short bare constants =
    ap (λ (o : Option Code). any_code_fits constants o) e
    ∙ both _ _ (both _ _ (both _ _ (lt-ltb 0 (length code.bytes) some) (lt-ltb (length code.bytes) 65536 short)) (ap (λ (l : List Attribute). attributes_fit constants 0 l) bare)) (size_fits code bare short)

-- MEMBERS

pub all_push : (constants : List Const) (xs : List MemberInfo) (x : MemberInfo) → list_all (member_fits constants) xs ≡ true → member_fits constants x ≡ true → list_all (member_fits constants) (xs ++ x ∷ []) ≡ true
all_push constants xs x all one = list_all-append (member_fits constants) xs (x ∷ []) ∙ both _ _ all (both _ true one refl)

pub all_longer : (a b : List Const) (xs : List MemberInfo) → Extends a b → InFiles a (λ file. list_all (member_fits file.constants) xs ≡ true) → InFiles b (λ file. list_all (member_fits file.constants) xs ≡ true)
all_longer a b xs e h = longer (λ (file : ClassFile). list_all (member_fits file.constants) xs ≡ true) a b e h

-- A WHOLE FILE

-- where code stands is named first of all
pub held_first : (text : List ℕ) → (hold [] (Utf8 text)).constants ≡ Utf8 text ∷ []
unfolding hold
held_first text = refl

names_code : (file : ClassFile) (more : List Const) → file.constants ≡ Unused ∷ Utf8 (codes "Code") ∷ more → has_code_name file ≡ true
names_code file more e =
    let none = not (list_any has_code file.fields || list_any has_code file.methods) in
    ap (λ (l : List Const). none || list_any is_code_text l) e ∙ or-true none

four : (a b c d : Bool) → (a && b && c && d) ≡ true → (a ≡ true) × (b ≡ true) × (c ≡ true) × (d ≡ true)
four a b c d e =
    let abc = and_parts (a && b && c) d e in let ab = and_parts (a && b) c abc.0 in let x = and_parts a b ab.0 in
    (x.0, x.1, ab.1, abc.1)

pub well_formed_is : {A B : Type 0} (file : ClassFile) (list more : List Const) (own super : List ℕ) (supers : A → List ℕ) (interfaces : List A) (fields : List B) (count : ℕ)
    → file.constants ≡ Unused ∷ list → list ≡ Utf8 (codes "Code") ∷ more → class_name_at file file.this_class ≡ Some own → class_name_at file file.super_class ≡ Some super
    → map (class_name_at file) file.interfaces ≡ map (λ x. Some (supers x)) interfaces → length file.fields ≡ length fields → length file.methods ≡ count → file.attributes ≡ []
    → list_all (member_fits file.constants) file.fields ≡ true → list_all (member_fits file.constants) file.methods ≡ true
    → (pool_fits (Unused ∷ list) && nat_lt (length interfaces) 65536 && nat_lt (length fields) 65536 && nat_lt count 65536) ≡ true → WellFormed file
well_formed_is file list more own super supers interfaces fields count has code this above around many methods bare fields_fit methods_fit fit =
    let f = four (pool_fits (Unused ∷ list)) (nat_lt (length interfaces) 65536) (nat_lt (length fields) 65536) (nat_lt count 65536) fit in
    let p : pool_fits file.constants ≡ true = ap (λ (l : List Const). pool_fits l) has ∙ f.0 in
    let pool = four (nat_lt (length file.constants) 65536) (is_spaced true file.constants) (list_all text_fits file.constants) (list_all (has_right_indices file.constants) file.constants) p in
    let same : length file.interfaces ≡ length interfaces = sym (length-map file.interfaces (class_name_at file)) ∙ ap (λ (l : List (Option (List ℕ))). length l) around ∙ length-map interfaces (λ x. Some (supers x)) in
    record {
      count = pool.0;
      spaced = pool.1;
      texts = pool.2;
      indices = pool.3;
      this_class = names_class file file.this_class own this;
      super_class = ap (λ (b : Bool). (file.super_class == 0) || b) (names_class file file.super_class super above) ∙ or-true (file.super_class == 0);
      interface_count = ap (λ (n : ℕ). nat_lt n 65536) same ∙ f.1;
      interfaces = name_classes file supers file.interfaces interfaces around;
      field_count = ap (λ (n : ℕ). nat_lt n 65536) many ∙ f.2;
      fields = fields_fit;
      method_count = ap (λ (n : ℕ). nat_lt n 65536) methods ∙ f.3;
      methods = methods_fit;
      attributes = ap (λ (l : List Attribute). attributes_fit file.constants 0 l) bare;
      code_name = names_code file more (has ∙ ap (λ (l : List Const). Unused ∷ l) code);
    }

-- what isn't so where a test passes doesn't pass it
pub fails_test : (b : Bool) (P : Type 0) → (b ≡ true → P) → (P → ⊥) → b ≡ false
fails_test true P f g = absurd (g (f refl))
fails_test false P f g = refl
