-- The names of a member that the code borrows, as lists.
use Rattle.jvm_step.specs.declared.constants.MemberName.{MemberName}
use Rattle.jp_store.specs.Classes.{Key}

-- the names that are pointed to
abbrev pub named : MemberName → Key
named member = record { class = member.class.now; name = member.name.now; descriptor = member.descriptor.now }
