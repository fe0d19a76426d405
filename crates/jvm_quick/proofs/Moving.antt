-- Instructions of a method one after the other.
use Rattle.std.proofs.Common.{◌≡◌, ℕ, zero, suc, ◌+◌, List, Option, Some, None, refl, sym, ap, ◌∙◌, subst, arith}
use Rattle.std.specs.Prelude.{option_and_then}
use Rattle.class_form.specs.declared.class_file.ClassFile.{ClassFile}
use Rattle.class_form.specs.declared.member.MemberInfo.{MemberInfo}
use Rattle.jvm_table.specs.declared.decode.Row.{Row}
use Rattle.jvm_table.specs.declared.frame.Frame.{Frame}
use Rattle.jvm_table.specs.Act.{Act, Moves, NoRow, act, acts}
use Rattle.jvm_quick.specs.declared.stretch.Quick.{Quick}
use Rattle.jvm_quick.specs.Rows.{row_in, done_by, DoAs}
use Rattle.jvm_quick.specs.Stretches.{Says, next_of, moved_by}

module _ (file : ClassFile) (method : MemberInfo) where
  pub moved_zero : (f : Frame) → moved_by file method zero f ≡ Some f
  unfolding moved_by
  moved_zero f = refl

  -- where an instruction leads from a frame
  abbrev pub step_from : Frame → Option Frame
  step_from f = next_of (acts file method f)

  pub moved_suc : (n : ℕ) (f : Frame) → moved_by file method (suc n) f ≡ option_and_then step_from (moved_by file method n f)
  unfolding moved_by
  moved_suc n f = refl

  pub moved_more : (n : ℕ) (f g h : Frame) → moved_by file method n f ≡ Some g → acts file method g ≡ Moves h → moved_by file method (n + 1) f ≡ Some h
  moved_more n f g h e a =
      let k : n + 1 ≡ suc n = omega arith in
      ap (λ (m : ℕ). moved_by file method m f) k ∙ moved_suc n f ∙ ap (λ (o : Option Frame). option_and_then step_from o) e ∙ ap next_of a

  pub no_row_there : (rows : List (Option Row)) (f : Frame) → DoAs file method rows → row_in rows f.place ≡ None → acts file method f ≡ NoRow
  no_row_there rows f h e = sym (h f) ∙ ap (λ (o : Option Row). done_by file method o f) e

  pub row_there : (rows : List (Option Row)) (f : Frame) (row : Row) → DoAs file method rows → row_in rows f.place ≡ Some row → act file method row.instr (record f { place = row.next }) ≡ acts file method f
  row_there rows f row h e = ap (λ (o : Option Row). done_by file method o f) (sym e) ∙ h f

pub says_same : (answer : Quick) (old new : Frame) (a b : Act) → a ≡ b → Says answer old new a → Says answer old new b
says_same answer old new a b e s = subst (λ (x : Act). Says answer old new x) e s
