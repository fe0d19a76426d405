-- Turns in a row, from instructions of one frame in a row.
use Rattle.std.proofs.Common.{◌≡◌, ℕ, zero, suc, ◌+◌, ◌-◌, ◌<◌, List, Option, Some, None, refl, sym, ap, ◌∙◌, subst, arith}
use Rattle.std.specs.Prelude.{slice_get, option_and_then}
use Rattle.std.proofs.lemmas.Option.{none-some, same_Some, option_and_then_some}
use Rattle.class_form.specs.declared.class_file.ClassFile.{ClassFile}
use Rattle.class_form.specs.declared.member.MemberInfo.{MemberInfo}
use Rattle.jvm_table.specs.declared.frame.Frame.{Frame}
use Rattle.jvm_table.specs.Act.{Act, on_found, Moves, ShowsInt, ShowsText, Asks, Effects, Invokes, Leaves, Fails, NoRow, acts}
use Rattle.jvm_step.specs.declared.state.State.{State}
use Rattle.jvm_step.specs.Turn.{Turn, Goes, Shows, Wants, Stops, turn, turn_of, with_frame}
use Rattle.jvm_quick.specs.declared.stretch.Quick.{Quick}
use Rattle.jvm_quick.specs.declared.stretch.Quick.TheVariants.{Moved, Trapped, NoRow as NoRowThere, Other}
use Rattle.jvm_quick.specs.Stretches.{next_of, moved_by, EndsAt, IsStretch}
use Rattle.jvm_quick.proofs.Moving.{moved_zero, moved_suc, step_from}
use Rattle.jvm_quick.specs.Walks.{gone, gone_by, Closes, LeadsTo, IsWalk}

next_is : (a : Act) (f : Frame) → next_of a ≡ Some f → a ≡ Moves f
next_is (Moves g) f e = ap Moves (same_Some g f e)
next_is (ShowsInt n g) f e = absurd (none-some f e)
next_is (ShowsText bytes g) f e = absurd (none-some f e)
next_is (Asks g) f e = absurd (none-some f e)
next_is (Effects op push g) f e = absurd (none-some f e)
next_is (Invokes call push g) f e = absurd (none-some f e)
next_is (Leaves v) f e = absurd (none-some f e)
next_is (Fails kind) f e = absurd (none-some f e)
next_is NoRow f e = absurd (none-some f e)

gone_is : (t : Turn) (st : State) → gone t ≡ Some st → t ≡ Goes st
gone_is (Goes now) st e = ap Goes (same_Some now st e)
gone_is (Shows bytes now) st e = absurd (none-some st e)
gone_is (Wants now) st e = absurd (none-some st e)
gone_is (Stops halt) st e = absurd (none-some st e)

module _ (files : List ClassFile) where
  pub gone_zero : (st : State) → gone_by files zero st ≡ Some st
  unfolding gone_by
  gone_zero st = refl

  abbrev turn_from : State → Option State
  turn_from st = gone (turn_of files st)

  gone_suc : (n : ℕ) (st : State) → gone_by files (suc n) st ≡ option_and_then turn_from (gone_by files n st)
  unfolding gone_by
  gone_suc n st = refl

  -- n turns and one more
  abbrev OneMore : ℕ → State → State → Type 0
  OneMore n st last = (before : State) × (gone_by files n st ≡ Some before) × (turn_of files before ≡ Goes last)

  pub one_before : (n : ℕ) (st last : State) → gone_by files (suc n) st ≡ Some last → OneMore n st last
  one_before n st last e =
      option_and_then_some turn_from (gone_by files n st) last (sym (gone_suc n st) ∙ e)
      (λ before b t. (before, b, gone_is (turn_of files before) last t))

  -- the instruction that runs is found step by step
  abbrev in_method : State → ClassFile → Act
  in_method st file = on_found (slice_get file.methods st.current.method) (λ method. acts file method st.current.frame)

  acts_turn : (st : State) (file : ClassFile) (method : MemberInfo) → slice_get files st.current.file ≡ Some file → slice_get file.methods st.current.method ≡ Some method → turn_of files st ≡ turn files st (acts file method st.current.frame)
  acts_turn st file method e m =
      ap (λ (o : Option ClassFile). turn files st (on_found o (in_method st))) e
      ∙ ap (λ (o : Option MemberInfo). turn files st (on_found o (λ method. acts file method st.current.frame))) m

  -- the turn of a frame of a known method
  frame_turn : (st : State) (file : ClassFile) (method : MemberInfo) (f : Frame) → slice_get files st.current.file ≡ Some file → slice_get file.methods st.current.method ≡ Some method → turn_of files (with_frame f st) ≡ turn files (with_frame f st) (acts file method f)
  frame_turn st file method f e m = acts_turn (with_frame f st) file method e m

  pub stretch_gone : (st : State) (file : ClassFile) (method : MemberInfo) (n : ℕ) (last : Frame) → slice_get files st.current.file ≡ Some file → slice_get file.methods st.current.method ≡ Some method → moved_by file method n st.current.frame ≡ Some last → gone_by files n st ≡ Some (with_frame last st)
  stretch_gone st file method zero last e m h =
      gone_zero st ∙ ap (λ (f : Frame). Some (with_frame f st)) (same_Some st.current.frame last (sym (moved_zero file method st.current.frame) ∙ h))
  stretch_gone st file method (suc n) last e m h =
      option_and_then_some (step_from file method) (moved_by file method n st.current.frame) last (sym (moved_suc file method n st.current.frame) ∙ h)
      (λ mid b t.
      gone_suc n st
      ∙ ap (λ (o : Option State). option_and_then turn_from o) (stretch_gone st file method n mid e m b)
      ∙ ap gone (frame_turn st file method mid e m ∙ ap (turn files (with_frame mid st)) (next_is (acts file method mid) last t)))

  -- how a stretch ends, as a turn
  closes : (st : State) (file : ClassFile) (method : MemberInfo) (end : Quick) (last new : Frame) → slice_get files st.current.file ≡ Some file → slice_get file.methods st.current.method ≡ Some method → EndsAt end last new (acts file method last) → Closes end (with_frame last st) (with_frame new st) (turn_of files (with_frame last st))
  closes st file method Moved last new e m h = ap (λ (f : Frame). with_frame f st) h
  closes st file method (Trapped kind) last new e m h = frame_turn st file method last e m ∙ ap (turn files (with_frame last st)) h
  closes st file method NoRowThere last new e m h =
      frame_turn st file method last e m ∙ ap (turn files (with_frame last st)) h.0
      ∙ ap (λ (place : ℕ). turn files (with_frame (record last { place = place }) st) NoRow) (sym h.1)
  closes st file method Other last new e m h = ap (λ (f : Frame). with_frame f st) h

  pub stretch_leads : (st : State) (file : ClassFile) (method : MemberInfo) (n : ℕ) (end : Quick) (new : Frame) → slice_get files st.current.file ≡ Some file → slice_get file.methods st.current.method ≡ Some method → IsStretch file method n end st.current.frame new → LeadsTo files n end st (with_frame new st)
  stretch_leads st file method n end new e m s =
      (with_frame s.0 st, stretch_gone st file method n s.0 e m s.1, closes st file method end s.0 new e m s.2)

  -- the last of some turns that only go on
  pub moved_walk : (n m : ℕ) (st now : State) → m ≡ n + 1 → LeadsTo files m Moved st now → IsWalk files n st (Goes now)
  moved_walk n m st now e l =
      let k : m ≡ suc n = omega (arith, e) in
      let o = one_before n st l.0 (sym (ap (λ (j : ℕ). gone_by files j st) k) ∙ l.1) in
      (o.0, o.1, o.2 ∙ ap Goes (sym l.2))
