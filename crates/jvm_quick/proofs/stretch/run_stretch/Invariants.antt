use Rattle.std.proofs.Common.{◌≡◌, Some}
use Rattle.class_form.specs.declared.class_file.ClassFile.{ClassFile}
use Rattle.class_form.specs.declared.member.MemberInfo.{MemberInfo}
use Rattle.jvm_quick.specs.Rows.{DoAs}
use Rattle.jvm_quick.specs.Stretches.{moved_by}
use Rattle.jvm_quick.proofs.stretch.run_stretch.Given as goal

-- so many instructions have led here
abbrev pub invariant-loop-count : goal.invariant-loop-count
invariant-loop-count l = (file : ClassFile) (method : MemberInfo) → DoAs file method l.rows → moved_by file method l.count l.initial.frame ≡ Some l.frame
