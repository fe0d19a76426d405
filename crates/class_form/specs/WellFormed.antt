-- When a class file is well formed: each index names a constant of the right kind, and each list, text and code
-- fits the field that counts it (JVM specification, second edition, 4.1 to 4.7).
use Rattle.std.specs.Prelude.{ℕ, ◌+◌, Bool, true, false, not, ◌&&◌, ◌||◌, if◌then◌else◌, IsTrue, nat_lt, ◌==◌, List, [], ◌∷◌, length, Option, Some, None, is_some, slice_get, codes}
use Rattle.std.specs.List.{list_all, list_any, sum_by}
use Rattle.std.specs.Str.{bytes_eq}
use Rattle.class_form.specs.declared.constant.Const.{Const}
use Rattle.class_form.specs.declared.constant.Const.TheVariants.{Unused, Utf8, Long, Double, Class, Text, Fieldref, Methodref, InterfaceMethodref, NameAndType}
use Rattle.class_form.specs.declared.class_file.ClassFile.{ClassFile}
use Rattle.class_form.specs.declared.member.Attribute.{Attribute}
use Rattle.class_form.specs.declared.member.Code.{Code}
use Rattle.class_form.specs.declared.member.MemberInfo.{MemberInfo}

-- a constant without a place of its own in the file
abbrev pub is_unused : Const → Bool
is_unused Unused = true
is_unused _ = false

-- a constant that takes two indices
abbrev pub is_wide : Const → Bool
is_wide (Long n) = true
is_wide (Double bits) = true
is_wide _ = false

abbrev pub is_utf8 : Const → Bool
is_utf8 (Utf8 text) = true
is_utf8 _ = false

abbrev pub is_class : Const → Bool
is_class (Class name) = true
is_class _ = false

abbrev pub is_name_and_type : Const → Bool
is_name_and_type (NameAndType name descriptor) = true
is_name_and_type _ = false

-- whether a constant is there and is of a kind
abbrev pub is_of : (Const → Bool) → Option Const → Bool
is_of kind None = false
is_of kind (Some constant) = kind constant

-- whether an index names a constant of a kind
abbrev pub names : (Const → Bool) → List Const → ℕ → Bool
names kind constants index = is_of kind (slice_get constants index)

-- whether a constant is the text `Code`
abbrev pub is_code_text : Const → Bool
is_code_text (Utf8 text) = bytes_eq text (codes "Code")
is_code_text _ = false

-- Whether Unused stands exactly where it has to: first of all, and behind each constant that takes two indices.
-- The flag says whether it has to stand here.
abbrev pub is_spaced : Bool → List Const → Bool
is_spaced behind [] = not behind
is_spaced behind (constant ∷ more) =
    (if behind then is_unused constant else not (is_unused constant)) && is_spaced (is_wide constant) more

-- a byte of a text: neither 0 nor from 0xF0 up
abbrev pub is_text_byte : ℕ → Bool
is_text_byte byte = nat_lt 0 byte && nat_lt byte 240

-- whether a text fits, where the constant is one
abbrev pub text_fits : Const → Bool
text_fits (Utf8 text) = nat_lt (length text) 65536 && list_all is_text_byte text
text_fits _ = true

-- whether a constant's indices name constants of the right kinds
abbrev pub has_right_indices : List Const → Const → Bool
has_right_indices constants (Class name) = names is_utf8 constants name
has_right_indices constants (Text text) = names is_utf8 constants text
has_right_indices constants (Fieldref class name) = names is_class constants class && names is_name_and_type constants name
has_right_indices constants (Methodref class name) = names is_class constants class && names is_name_and_type constants name
has_right_indices constants (InterfaceMethodref class name) = names is_class constants class && names is_name_and_type constants name
has_right_indices constants (NameAndType name descriptor) = names is_utf8 constants name && names is_utf8 constants descriptor
has_right_indices constants _ = true

-- whether an attribute is named `Code`
abbrev pub is_code : List Const → Attribute → Bool
is_code constants attribute = names is_code_text constants attribute.name

-- whether an attribute's name is a text, and its content fits
abbrev pub attribute_fits : List Const → Attribute → Bool
attribute_fits constants attribute = names is_utf8 constants attribute.name && nat_lt (length attribute.content) 4294967296

-- whether these attributes fit, and with `more` their count
abbrev pub attributes_fit : List Const → ℕ → List Attribute → Bool
attributes_fit constants more attributes = nat_lt (more + length attributes) 65536 && list_all (attribute_fits constants) attributes

-- how many bytes a constant takes: its tag, and its numbers or its text (4.4)
abbrev pub constant_size : Const → ℕ
constant_size Unused = 0
constant_size (Utf8 text) = 3 + length text
constant_size (Class name) = 3
constant_size (Text text) = 3
constant_size (Long n) = 9
constant_size (Double bits) = 9
constant_size _ = 5

-- how many bytes an attribute takes
abbrev pub attribute_size : Attribute → ℕ
attribute_size attribute = 6 + length attribute.content

-- how many bytes the content of the attribute `Code` takes (4.7.3)
unfoldable pub code_size : Code → ℕ
code_size code = 12 + length code.bytes + sum_by attribute_size code.attributes

-- whether code has 1 to 65,535 bytes, and it and its attributes fit
abbrev pub code_fits : List Const → Code → Bool
code_fits constants code =
    nat_lt 0 (length code.bytes) && nat_lt (length code.bytes) 65536 && attributes_fit constants 0 code.attributes
    && nat_lt (code_size code) 4294967296

-- the same of code that may be missing
abbrev pub any_code_fits : List Const → Option Code → Bool
any_code_fits constants None = true
any_code_fits constants (Some code) = code_fits constants code

-- the attributes beside those that are kept: the code, where there is one
abbrev pub code_count : Option Code → ℕ
code_count None = 0
code_count (Some code) = 1

-- whether a member's indices are right, its code and attributes fit, and no other attribute is named `Code`
abbrev pub member_fits : List Const → MemberInfo → Bool
member_fits constants member =
    names is_utf8 constants member.name && names is_utf8 constants member.descriptor && any_code_fits constants member.code
    && attributes_fit constants (code_count member.code) member.attributes
    && list_all (λ attribute. not (is_code constants attribute)) member.attributes

abbrev pub has_code : MemberInfo → Bool
has_code member = is_some member.code

-- an index that names a class, or 0 for none
abbrev pub is_super_class : List Const → ℕ → Bool
is_super_class constants index = index == 0 || names is_class constants index

-- whether a file with a member that has code has the name of the attribute in which code stands
abbrev pub has_code_name : ClassFile → Bool
has_code_name file =
    not (list_any has_code file.fields || list_any has_code file.methods) || list_any is_code_text file.constants

pub record WellFormed (file : ClassFile) : Type 0 where
  -- the constants: their count, where Unused stands, the texts, and the indices
  pub count : IsTrue (nat_lt (length file.constants) 65536)
  pub spaced : IsTrue (is_spaced true file.constants)
  pub texts : IsTrue (list_all text_fits file.constants)
  pub indices : IsTrue (list_all (has_right_indices file.constants) file.constants)
  -- the class itself is named; the super class may be missing
  pub this_class : IsTrue (names is_class file.constants file.this_class)
  pub super_class : IsTrue (is_super_class file.constants file.super_class)
  pub interface_count : IsTrue (nat_lt (length file.interfaces) 65536)
  pub interfaces : IsTrue (list_all (names is_class file.constants) file.interfaces)
  pub field_count : IsTrue (nat_lt (length file.fields) 65536)
  pub fields : IsTrue (list_all (member_fits file.constants) file.fields)
  pub method_count : IsTrue (nat_lt (length file.methods) 65536)
  pub methods : IsTrue (list_all (member_fits file.constants) file.methods)
  pub attributes : IsTrue (attributes_fit file.constants 0 file.attributes)
  pub code_name : IsTrue (has_code_name file)

-- the same facts as one test
abbrev pub pool_fits : List Const → Bool
pool_fits constants =
    nat_lt (length constants) 65536 && is_spaced true constants && list_all text_fits constants
    && list_all (has_right_indices constants) constants

abbrev pub head_fits : List Const → ClassFile → Bool
head_fits constants file =
    names is_class constants file.this_class && is_super_class constants file.super_class && nat_lt (length file.interfaces) 65536
    && list_all (names is_class constants) file.interfaces

abbrev pub count_members_fit : List Const → List MemberInfo → Bool
count_members_fit constants members = nat_lt (length members) 65536 && list_all (member_fits constants) members

abbrev pub is_well_formed : ClassFile → Bool
is_well_formed file =
    pool_fits file.constants && head_fits file.constants file
    && (count_members_fit file.constants file.fields && count_members_fit file.constants file.methods
    && attributes_fit file.constants 0 file.attributes && has_code_name file)
