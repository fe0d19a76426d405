-- The classes of class files. An index that names no text stands for the empty name.
use Rattle.std.specs.Prelude.{ℕ, ◌==◌, Bool, not, List, [], map, Option, Some, None, unwrap_or, bit_and, if◌then◌else◌}
use Rattle.class_form.specs.declared.class_file.ClassFile.{ClassFile}
use Rattle.class_form.specs.declared.member.MemberInfo.{MemberInfo}
use Rattle.class_form.specs.Constants.{utf8_at, class_name_at}
use Rattle.jp_store.specs.Classes.{Class, Field}

-- the text at an index
abbrev pub text_at : ClassFile → ℕ → List ℕ
text_at file index = unwrap_or (utf8_at file index) []

-- the name of the class at an index
abbrev pub class_text_at : ClassFile → ℕ → List ℕ
class_text_at file index = unwrap_or (class_name_at file index) []

-- the name of a file's class
abbrev pub name_of : ClassFile → List ℕ
name_of file = class_text_at file file.this_class

-- whether flags have the flag (JVM specification, second edition, 4.1, 4.5, 4.6)
abbrev pub has_flag : ℕ → ℕ → Bool
has_flag flag flags = not (bit_and flags flag == 0)

abbrev pub is_static : MemberInfo → Bool
is_static member = has_flag 0x0008 member.flags

-- a field of a file
abbrev pub field_of_member : ClassFile → MemberInfo → Field
field_of_member file member = record { name = text_at file member.name; descriptor = text_at file member.descriptor; is_static = is_static member }

-- the name of the super class; the index 0 stands for none
abbrev pub superclass_of : ClassFile → Option (List ℕ)
superclass_of file = if file.super_class == 0 then None else Some (class_text_at file file.super_class)

-- the class of a file
abbrev pub class_of : ClassFile → Class
class_of file = record {
  name = name_of file;
  superclass = superclass_of file;
  interfaces = map (class_text_at file) file.interfaces;
  is_interface = has_flag 0x0200 file.flags;
  is_abstract = has_flag 0x0400 file.flags;
  fields = map (field_of_member file) file.fields;
}

-- the classes of files
abbrev pub classes_of : List ClassFile → List Class
classes_of files = map class_of files
