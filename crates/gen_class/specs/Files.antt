-- A class's file, put together.
use Rattle.std.specs.Prelude.{ℕ, List, [], ◌∷◌}
use Rattle.class_form.specs.declared.class_file.ClassFile.{ClassFile}
use Rattle.class_form.specs.declared.constant.Const.{Const}
use Rattle.class_form.specs.declared.constant.Const.TheVariants.{Unused}
use Rattle.class_form.specs.declared.member.MemberInfo.{MemberInfo}
use Rattle.gen_class.specs.declared.heads.Heading.{Heading}

-- with these constants from index 1 on, and no attributes
abbrev pub file_with : List Const → ℕ → Heading → List MemberInfo → List MemberInfo → ClassFile
file_with list flags heading fields methods = record {
  constants = Unused ∷ list;
  flags = flags;
  this_class = heading.this_class;
  super_class = heading.super_class;
  interfaces = heading.interfaces;
  fields = fields;
  methods = methods;
  attributes = [];
}
