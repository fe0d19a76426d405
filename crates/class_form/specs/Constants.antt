-- What a file's indices name, and an attribute by its name.
use Rattle.std.specs.Prelude.{ℕ, Bool, false, List, Option, Some, None, slice_get, option_and_then}
use Rattle.std.specs.List.{find}
use Rattle.std.specs.Str.{bytes_eq}
use Rattle.class_form.specs.declared.constant.Const.{Const}
use Rattle.class_form.specs.declared.constant.Const.TheVariants.{Unused, Utf8, Integer, Float, Long, Double, Class, Text, Fieldref, Methodref, InterfaceMethodref, NameAndType}
use Rattle.class_form.specs.declared.class_file.ClassFile.{ClassFile}
use Rattle.class_form.specs.declared.member.Attribute.{Attribute}

-- the text of a constant that is one
abbrev pub text_in : Const → Option (List ℕ)
text_in (Utf8 bytes) = Some bytes
text_in Unused = None
text_in (Integer n) = None
text_in (Float bits) = None
text_in (Long n) = None
text_in (Double bits) = None
text_in (Class name) = None
text_in (Text text) = None
text_in (Fieldref class name) = None
text_in (Methodref class name) = None
text_in (InterfaceMethodref class name) = None
text_in (NameAndType name descriptor) = None

-- the index of a class's name, of a constant that is a class
abbrev pub class_in : Const → Option ℕ
class_in (Class name) = Some name
class_in Unused = None
class_in (Utf8 bytes) = None
class_in (Integer n) = None
class_in (Float bits) = None
class_in (Long n) = None
class_in (Double bits) = None
class_in (Text text) = None
class_in (Fieldref class name) = None
class_in (Methodref class name) = None
class_in (InterfaceMethodref class name) = None
class_in (NameAndType name descriptor) = None

-- the text at an index of the constants
abbrev pub utf8_at : ClassFile → ℕ → Option (List ℕ)
utf8_at file index = option_and_then text_in (slice_get file.constants index)

-- the name of the class at an index of the constants
abbrev pub class_name_at : ClassFile → ℕ → Option (List ℕ)
class_name_at file index =
    option_and_then (utf8_at file) (option_and_then class_in (slice_get file.constants index))

-- whether a text that was looked up is there and is this one
abbrev pub is_text : Option (List ℕ) → List ℕ → Bool
is_text None text = false
is_text (Some found) text = bytes_eq found text

-- the first attribute of the class under a name
abbrev pub attribute_named : ClassFile → List ℕ → Option Attribute
attribute_named file name = find (λ attribute. is_text (utf8_at file attribute.name) name) file.attributes
