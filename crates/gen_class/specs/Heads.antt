-- What names a class and its supertypes in its file.
use Rattle.std.specs.Prelude.{◌≡◌, map, Some}
use Rattle.std.specs.Option.{option_map_or}
use Rattle.class_form.specs.declared.class_file.ClassFile.{ClassFile}
use Rattle.class_form.specs.Constants.{class_name_at}
use Rattle.iface_codec.specs.declared.iface.Iface.{Iface}
use Rattle.jp_store.specs.Classes.{object_name}
use Rattle.jp_meaning.specs.Descriptors.{internal_name}
use Rattle.gen_class.specs.declared.heads.Heading.{Heading}

-- in the file the indices name the class, its superclass, which is Object where none is declared, and its interfaces
pub record NamesClass (head : Iface) (heading : Heading) (file : ClassFile) : Type 0 where
  pub this_class : class_name_at file heading.this_class ≡ Some (internal_name head.name)
  pub super_class : class_name_at file heading.super_class ≡ Some (option_map_or internal_name head.superclass object_name)
  pub interfaces : map (class_name_at file) heading.interfaces ≡ map (λ name. Some (internal_name name)) head.interfaces
