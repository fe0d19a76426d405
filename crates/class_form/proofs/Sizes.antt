-- How many bytes the parts of a class file take.
use Rattle.std.proofs.Common.{◌≡◌, ℕ, List, [], ◌∷◌, length, refl, arith, length-append}
use Rattle.std.specs.Prelude.{flat_map}
use Rattle.std.specs.List.{sum_by}
use Rattle.std.proofs.lemmas.List.Sums.{sum_by-cons}
use Rattle.std.proofs.lemmas.List.Concat.{flat_map-cons}
use Rattle.class_form.specs.declared.constant.Const.{Const}
use Rattle.class_form.specs.declared.constant.Const.TheVariants.{Unused, Utf8, Integer, Float, Long, Double, Class, Text, Fieldref, Methodref, InterfaceMethodref, NameAndType}
use Rattle.class_form.specs.declared.member.Attribute.{Attribute}
use Rattle.class_form.specs.declared.member.Code.{Code}
use Rattle.class_form.specs.WellFormed.{attribute_size, code_size, constant_size}
use Rattle.class_form.specs.Layout.{u2, u4, u8, constant_bytes, attribute_bytes, attribute_list_bytes, code_content}

pub length-u2 : (n : ℕ) → length (u2 n) ≡ 2
unfolding u2
length-u2 n = refl

pub length-u4 : (n : ℕ) → length (u4 n) ≡ 4
unfolding u4
length-u4 n = refl

pub length-u8 : (n : ℕ) → length (u8 n) ≡ 8
unfolding u8
length-u8 n = refl

pub length-attribute : (a : Attribute) → length (attribute_bytes a) ≡ attribute_size a
unfolding attribute_bytes
length-attribute a = simp (length-append, length-u2, length-u4) (omega arith)

pub length-list : (list : List Attribute) → length (flat_map attribute_bytes list) ≡ sum_by attribute_size list
length-list [] = refl
length-list (a ∷ more) = rw (flat_map-cons, sum_by-cons) (simp length-append (omega (arith, length-attribute a, length-list more)))

pub length-code_content : (code : Code) → length (code_content code) ≡ code_size code
unfolding code_content code_size attribute_list_bytes
length-code_content code = simp (length-append, length-u2, length-u4, length-list) (omega arith)

pub length-constant_bytes : (c : Const) → length (constant_bytes c) ≡ constant_size c
unfolding constant_bytes
length-constant_bytes Unused = refl
length-constant_bytes (Utf8 text) = simp (length-append, length-u2) (omega arith)
length-constant_bytes (Integer n) = simp length-u4 (omega arith)
length-constant_bytes (Float bits) = simp length-u4 (omega arith)
length-constant_bytes (Long n) = simp length-u8 (omega arith)
length-constant_bytes (Double bits) = simp length-u8 (omega arith)
length-constant_bytes (Class name) = simp length-u2 (omega arith)
length-constant_bytes (Text text) = simp length-u2 (omega arith)
length-constant_bytes (Fieldref class name) = simp (length-append, length-u2) (omega arith)
length-constant_bytes (Methodref class name) = simp (length-append, length-u2) (omega arith)
length-constant_bytes (InterfaceMethodref class name) = simp (length-append, length-u2) (omega arith)
length-constant_bytes (NameAndType name descriptor) = simp (length-append, length-u2) (omega arith)
