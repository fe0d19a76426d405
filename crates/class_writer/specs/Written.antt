-- The bytes that are written for a class file: its layout, with the code of a member as its first attribute.
use Rattle.std.specs.Prelude.{ℕ, not, List, ◌∷◌, flat_map, Option, Some, None}
use Rattle.std.specs.List.{prefix_len}
use Rattle.class_form.specs.declared.constant.Const.{Const}
use Rattle.class_form.specs.declared.class_file.ClassFile.{ClassFile}
use Rattle.class_form.specs.declared.member.Attribute.{Attribute}
use Rattle.class_form.specs.declared.member.Code.{Code}
use Rattle.class_form.specs.declared.member.MemberInfo.{MemberInfo}
use Rattle.class_form.specs.WellFormed.{is_code_text}
use Rattle.class_form.specs.Layout.{code_content, member_bytes, class_file_bytes}

-- the index of the first text `Code`, or the count of the constants
abbrev pub code_name : List Const → ℕ
code_name constants = prefix_len (λ constant. not (is_code_text constant)) constants

-- code as an attribute of this name
abbrev pub code_attribute : ℕ → Code → Attribute
code_attribute name code = record { name = name; content = code_content code }

-- the attributes of a member, its code first
abbrev pub with_code : ℕ → Option Code → List Attribute → List Attribute
with_code name None kept = kept
with_code name (Some code) kept = code_attribute name code ∷ kept

-- a member whose code has this name
abbrev pub written_member : ℕ → MemberInfo → List ℕ
written_member name m = member_bytes m (with_code name m.code m.attributes)

abbrev pub written_members : ℕ → List MemberInfo → List ℕ
written_members name members = flat_map (written_member name) members

abbrev pub written : ClassFile → List ℕ
written file =
    class_file_bytes file (written_members (code_name file.constants) file.fields) (written_members (code_name file.constants) file.methods)
