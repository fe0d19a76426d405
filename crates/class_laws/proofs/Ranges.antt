-- The numbers of a file that is encoded are of their fields' widths.
use Rattle.std.proofs.Common.{ℕ, List, [], ◌∷◌}
use Rattle.std.specs.List.{AllByRecursion}
use Rattle.std.proofs.lemmas.List.Elements.{All-from_recursion}
use Rattle.class_form.specs.declared.constant.Const.{Const}
use Rattle.class_form.specs.declared.class_file.ClassFile.{ClassFile}
use Rattle.class_form.specs.declared.member.MemberInfo.{MemberInfo}
use Rattle.class_form.specs.Layout.{Encodes, EncodesMembers, MemberInRange}
use Rattle.class_writer.specs.Laws.{FileInRange}

members_in_range : (cs : List Const) (ms : List MemberInfo) (bytes : List ℕ) → EncodesMembers cs ms bytes → AllByRecursion MemberInRange ms
members_in_range cs [] bytes e = tt
members_in_range cs (m ∷ more) bytes e =
    let one = e.2 in
    (one.numbers, members_in_range cs more e.1 e.3)

pub in_range : (file : ClassFile) (bytes : List ℕ) → Encodes file bytes → FileInRange file
in_range file bytes e = record {
  constants = e.numbers;
  fields = All-from_recursion MemberInRange file.fields (members_in_range file.constants file.fields e.field_bytes e.fields);
  methods = All-from_recursion MemberInRange file.methods (members_in_range file.constants file.methods e.method_bytes e.methods);
  flags = e.flags;
}
