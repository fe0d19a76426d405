-- What a file's constants name (JVM specification, second edition, 4.4).
use Rattle.std.specs.Prelude.{ℕ, List, Option, Some, None, slice_get, option_and_then}
use Rattle.class_form.specs.declared.constant.Const.{Const}
use Rattle.class_form.specs.declared.constant.Const.TheVariants.{Unused, Utf8, Integer, Float, Long, Double, Class, Text, Fieldref, Methodref, InterfaceMethodref, NameAndType}
use Rattle.class_form.specs.declared.class_file.ClassFile.{ClassFile}
use Rattle.class_form.specs.Constants.{utf8_at, class_name_at}
use Rattle.jp_store.specs.Classes.{Key}

-- the class and the name and type of a field's constant
abbrev pub field_in : Const → Option (ℕ × ℕ)
field_in (Fieldref class name) = Some (class, name)
field_in Unused = None
field_in (Utf8 bytes) = None
field_in (Integer n) = None
field_in (Float bits) = None
field_in (Long n) = None
field_in (Double bits) = None
field_in (Class name) = None
field_in (Text text) = None
field_in (Methodref class name) = None
field_in (InterfaceMethodref class name) = None
field_in (NameAndType name descriptor) = None

-- those of a constant that names a method of a class
abbrev pub method_in : Const → Option (ℕ × ℕ)
method_in (Methodref class name) = Some (class, name)
method_in Unused = None
method_in (Utf8 bytes) = None
method_in (Integer n) = None
method_in (Float bits) = None
method_in (Long n) = None
method_in (Double bits) = None
method_in (Class name) = None
method_in (Text text) = None
method_in (Fieldref class name) = None
method_in (InterfaceMethodref class name) = None
method_in (NameAndType name descriptor) = None

-- those of a constant that names a method of an interface
abbrev pub interface_method_in : Const → Option (ℕ × ℕ)
interface_method_in (InterfaceMethodref class name) = Some (class, name)
interface_method_in Unused = None
interface_method_in (Utf8 bytes) = None
interface_method_in (Integer n) = None
interface_method_in (Float bits) = None
interface_method_in (Long n) = None
interface_method_in (Double bits) = None
interface_method_in (Class name) = None
interface_method_in (Text text) = None
interface_method_in (Fieldref class name) = None
interface_method_in (Methodref class name) = None
interface_method_in (NameAndType name descriptor) = None

-- the name and the descriptor that such a constant names
abbrev pub name_and_type_in : Const → Option (ℕ × ℕ)
name_and_type_in (NameAndType name descriptor) = Some (name, descriptor)
name_and_type_in Unused = None
name_and_type_in (Utf8 bytes) = None
name_and_type_in (Integer n) = None
name_and_type_in (Float bits) = None
name_and_type_in (Long n) = None
name_and_type_in (Double bits) = None
name_and_type_in (Class name) = None
name_and_type_in (Text text) = None
name_and_type_in (Fieldref class name) = None
name_and_type_in (Methodref class name) = None
name_and_type_in (InterfaceMethodref class name) = None

-- the text of a string literal
abbrev pub string_in : Const → Option ℕ
string_in (Text text) = Some text
string_in Unused = None
string_in (Utf8 bytes) = None
string_in (Integer n) = None
string_in (Float bits) = None
string_in (Long n) = None
string_in (Double bits) = None
string_in (Class name) = None
string_in (Fieldref class name) = None
string_in (Methodref class name) = None
string_in (InterfaceMethodref class name) = None
string_in (NameAndType name descriptor) = None

-- the member that the constant at an index names, where it is of the right kind
abbrev pub member_named : (Const → Option (ℕ × ℕ)) → ClassFile → ℕ → Option Key
member_named kind file index =
    option_and_then (λ m. option_and_then (λ class. option_and_then (λ t. option_and_then (λ name. option_and_then (λ descriptor.
    Some (record { class = class; name = name; descriptor = descriptor })) (utf8_at file t.1)) (utf8_at file t.0))
    (option_and_then name_and_type_in (slice_get file.constants m.1))) (class_name_at file m.0))
    (option_and_then kind (slice_get file.constants index))

-- the bytes of the string literal at an index
abbrev pub literal_at : ClassFile → ℕ → Option (List ℕ)
literal_at file index = option_and_then (utf8_at file) (option_and_then string_in (slice_get file.constants index))
