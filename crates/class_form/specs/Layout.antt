-- The bytes of a well-formed class file of version 48.0 (JVM specification, second edition, 4.1 to 4.7). Where the
-- standard leaves a choice, the order of a member's attributes and which text `Code` names its code, this is a
-- relation, and else a function. The counts and indices of a file that isn't well formed are cut to their fields.
use Rattle.std.specs.Prelude.{◌≡◌, ℕ, ◌<◌, ◌^◌, not, FitsSigned, List, [], ◌∷◌, ◌++◌, length, flat_map, Option, Some, None, IfSome}
use Rattle.std.specs.List.{filter, All}
use Rattle.std.specs.Int.{w16, w32, w64, to_be_bytes, cast_unsigned}
use Rattle.class_form.specs.declared.constant.Const.{Const}
use Rattle.class_form.specs.declared.constant.Const.TheVariants.{Unused, Utf8, Integer, Float, Long, Double, Class, Text, Fieldref, Methodref, InterfaceMethodref, NameAndType}
use Rattle.class_form.specs.declared.class_file.ClassFile.{ClassFile}
use Rattle.class_form.specs.declared.member.Attribute.{Attribute}
use Rattle.class_form.specs.declared.member.Code.{Code}
use Rattle.class_form.specs.declared.member.MemberInfo.{MemberInfo}
use Rattle.class_form.specs.WellFormed.{is_code}

-- a number in two, four or eight bytes, the highest first
unfoldable pub u2 : ℕ → List ℕ
u2 n = to_be_bytes w16 n

unfoldable pub u4 : ℕ → List ℕ
u4 n = to_be_bytes w32 n

unfoldable pub u8 : ℕ → List ℕ
u8 n = to_be_bytes w64 n

-- a constant by its tag (4.4); Unused has no bytes
unfoldable pub constant_bytes : Const → List ℕ
constant_bytes Unused = []
constant_bytes (Utf8 text) = 1 ∷ u2 (length text) ++ text
constant_bytes (Integer n) = 3 ∷ u4 (cast_unsigned w32 n)
constant_bytes (Float bits) = 4 ∷ u4 bits
constant_bytes (Long n) = 5 ∷ u8 (cast_unsigned w64 n)
constant_bytes (Double bits) = 6 ∷ u8 bits
constant_bytes (Class name) = 7 ∷ u2 name
constant_bytes (Text text) = 8 ∷ u2 text
constant_bytes (Fieldref class name) = 9 ∷ u2 class ++ u2 name
constant_bytes (Methodref class name) = 10 ∷ u2 class ++ u2 name
constant_bytes (InterfaceMethodref class name) = 11 ∷ u2 class ++ u2 name
constant_bytes (NameAndType name descriptor) = 12 ∷ u2 name ++ u2 descriptor

-- an attribute: its name, and its content behind the content's length (4.7)
unfoldable pub attribute_bytes : Attribute → List ℕ
attribute_bytes a = u2 a.name ++ u4 (length a.content) ++ a.content

-- a list of attributes behind its length
unfoldable pub attribute_list_bytes : List Attribute → List ℕ
attribute_list_bytes list = u2 (length list) ++ flat_map attribute_bytes list

-- the content of the attribute `Code`, whose exception table is empty (4.7.3)
unfoldable pub code_content : Code → List ℕ
code_content code =
    u2 code.max_stack ++ u2 code.max_locals ++ u4 (length code.bytes) ++ code.bytes ++ u2 0 ++ attribute_list_bytes code.attributes

-- code as the one attribute that it stands in
abbrev pub IsCodeAttribute : Option Code → List Attribute → Type 0
IsCodeAttribute None found = found ≡ []
IsCodeAttribute (Some code) found = (name : ℕ) × (found ≡ record { name = name; content = code_content code } ∷ [])

-- Of all the attributes of a member, the one named `Code` is the member's code, and the others are kept in order.
pub record HasAttributes (constants : List Const) (code : Option Code) (kept all : List Attribute) : Type 0 where
  pub code_attribute : IsCodeAttribute code (filter (is_code constants) all)
  pub others : filter (λ a. not (is_code constants a)) all ≡ kept

-- a member, with all its attributes in this order (4.5, 4.6)
unfoldable pub member_bytes : MemberInfo → List Attribute → List ℕ
member_bytes m all = u2 m.flags ++ u2 m.name ++ u2 m.descriptor ++ attribute_list_bytes all

-- the numbers of code that `WellFormed` doesn't bound are of their fields' widths
pub record CodeInRange (code : Code) : Type 0 where
  pub max_stack : code.max_stack < 65536
  pub max_locals : code.max_locals < 65536

-- the same of a member
pub record MemberInRange (m : MemberInfo) : Type 0 where
  pub flags : m.flags < 65536
  pub code : IfSome m.code CodeInRange

-- These bytes are the member.
pub record EncodesMember (constants : List Const) (m : MemberInfo) (bytes : List ℕ) : Type 0 where
  pub all : List Attribute
  pub has_attributes : HasAttributes constants m.code m.attributes all
  pub spelled : bytes ≡ member_bytes m all
  pub numbers : MemberInRange m

-- members one after the other
abbrev pub EncodesMembers : List Const → List MemberInfo → List ℕ → Type 0
EncodesMembers constants [] bytes = bytes ≡ []
EncodesMembers constants (m ∷ more) bytes =
    (front : List ℕ) × (back : List ℕ) × EncodesMember constants m front × EncodesMembers constants more back × (bytes ≡ front ++ back)

-- the number of a constant is of its width
abbrev pub NumberInRange : Const → Type 0
NumberInRange (Integer n) = FitsSigned w32 n
NumberInRange (Float bits) = bits < 2 ^ 32
NumberInRange (Long n) = FitsSigned w64 n
NumberInRange (Double bits) = bits < 2 ^ 64
NumberInRange _ = Unit {0}

-- the magic number, and the minor and the major version
unfoldable pub head_bytes : List ℕ
head_bytes = u4 0xcafebabe ++ u2 0 ++ u2 48

-- the constants behind their count
unfoldable pub pool_bytes : List Const → List ℕ
pool_bytes constants = u2 (length constants) ++ flat_map constant_bytes constants

-- the access flags, this class, the super class and the interfaces
unfoldable pub declared_bytes : ClassFile → List ℕ
declared_bytes file = u2 file.flags ++ u2 file.this_class ++ u2 file.super_class ++ u2 (length file.interfaces) ++ flat_map u2 file.interfaces

-- a whole class file, with these bytes for its fields and its methods (4.1)
unfoldable pub class_file_bytes : ClassFile → List ℕ → List ℕ → List ℕ
class_file_bytes file fields methods =
    head_bytes ++ pool_bytes file.constants ++ declared_bytes file ++ u2 (length file.fields) ++ fields ++ u2 (length file.methods) ++ methods
    ++ attribute_list_bytes file.attributes

-- These bytes are the class file.
pub record Encodes (file : ClassFile) (bytes : List ℕ) : Type 0 where
  pub field_bytes : List ℕ
  pub method_bytes : List ℕ
  pub fields : EncodesMembers file.constants file.fields field_bytes
  pub methods : EncodesMembers file.constants file.methods method_bytes
  pub spelled : bytes ≡ class_file_bytes file field_bytes method_bytes
  pub numbers : All NumberInRange file.constants
  pub flags : file.flags < 65536
