-- What an answer of the machine says where the program is one of prints.
use Rattle.std.proofs.Common.{◌≡◌, ℕ, ◌*◌, ◌<◌, ℤ, List, [], ◌∷◌, length, flat_map, Option, Some, None, inl, inr, refl, sym, ap, ◌∙◌, subst}
use Rattle.std.specs.Prelude.{is_some, IfOk, OnErr, MatchResult, Result, Ok, Err}
use Rattle.std.specs.Fmt.{signed_decimal}
use Rattle.jp_outside.specs.Bytes.{AppendsFront}
use Rattle.class_form.specs.declared.class_file.ClassFile.{ClassFile}
use Rattle.jvm_step.specs.declared.value.End.{End}
use Rattle.jvm_step.specs.declared.value.End.TheVariants.{Done, Trap, Cut, ReadFault, WriteFault, BadCode}
use Rattle.jvm_step.specs.Run.{Finish, Tells, Ran, ReadCause, FaultsAtRead, Ended, machine_run}
use Rattle.mini_jvm.specs.Memory.{StoppedAt}
use Rattle.jpred_cli.specs.Built.{class_of}
use Rattle.jpred_cli.specs.Steps.{Printed, printed}
use Rattle.jpred_cli.proofs.Prints.{ReadsNothing, machine_prints, passes_quietly}

-- what holds of a program and a name holds of what they are
pub at_files : (program : List ClassFile) (name main : List ℕ) (numbers : List ℤ) → program ≡ class_of main numbers ∷ [] → name ≡ main → (P : List ClassFile → List ℕ → Type 0) → P program name → P (class_of main numbers ∷ []) main
at_files program name main numbers p n P h = subst (P (class_of main numbers ∷ [])) n (subst (λ (q : List ClassFile). P q name) p h)

told_same : (old left : Option (List ℕ)) (bytes : List ℕ) → Tells old bytes → is_some left ≡ is_some old → Tells left bytes → left ≡ old
told_same None None bytes t s u = refl
told_same (Some a) (Some b) bytes t s u = ap Some (u ∙ sym t)
told_same None (Some b) bytes t s u = cc
told_same (Some a) None bytes t s u = cc

module _ (main : List ℕ) (numbers : List ℤ) (limit : ℕ) (enough : 2 * length numbers < limit) where
  abbrev files : List ClassFile
  files = class_of main numbers ∷ []

  no_read : (bytes : List ℕ) (left before now : Option (List ℕ)) → FaultsAtRead files main limit bytes left before now → ⊥
  no_read bytes left before now (state, next, rest, out, p, e, t, w) =
      subst ReadsNothing e (passes_quietly main numbers limit bytes state rest out p).1

  abbrev finish : List ℕ → Finish
  finish bytes = record { end = Done; input = bytes; out = flat_map signed_decimal numbers }

  ended : (bytes : List ℕ) (end : End) (left before now : Option (List ℕ)) → Ended (machine_run files main limit bytes) end left before now → Ended (finish bytes) end left before now
  ended bytes end left before now h = subst (λ (f : Finish). Ended f end left before now) (machine_prints main numbers limit bytes enough) h

  -- what was written
  writes : (bytes : List ℕ) (end : End) (left before now : Option (List ℕ)) → AppendsFront before now (printed numbers) → Ran files main limit bytes end left before now → Printed numbers end before now
  writes bytes Done left before now front h = (ended bytes Done left before now h).2
  writes bytes WriteFault left before now front h = front
  writes bytes ReadFault left before now front h = no_read bytes left before now h
  writes bytes Cut left before now front h = cc ((ended bytes Cut left before now h).0)
  writes bytes (Trap kind) left before now front h = cc ((ended bytes (Trap kind) left before now h).0)
  writes bytes (BadCode class method pc) left before now front h = cc ((ended bytes (BadCode class method pc) left before now h).0)

  -- all of the input is left
  leaves : (bytes : List ℕ) (end : End) (left before now : Option (List ℕ)) → Ran files main limit bytes end left before now → Tells left bytes
  leaves bytes Done left before now h = (ended bytes Done left before now h).1
  leaves bytes Cut left before now h = (ended bytes Cut left before now h).1
  leaves bytes (Trap kind) left before now h = (ended bytes (Trap kind) left before now h).1
  leaves bytes (BadCode class method pc) left before now h = (ended bytes (BadCode class method pc) left before now h).1
  leaves bytes ReadFault left before now h = absurd (no_read bytes left before now h)
  leaves bytes WriteFault left before now (state, next, rest, out, shown, p, e, t, w) =
      subst (λ (l : List ℕ). Tells left l) (passes_quietly main numbers limit bytes state rest out p).0 t

  leaves_all : (bytes : List ℕ) (left before now : Option (List ℕ)) → StoppedAt files main limit bytes left before now → Tells left bytes
  leaves_all bytes left before now (inl h) = h.0
  leaves_all bytes left before now (inr (state, rest, out, p, t, w)) =
      subst (λ (l : List ℕ). Tells left l) (passes_quietly main numbers limit bytes state rest out p).0 t

  faults_stay : (bytes : List ℕ) (end : End) (left before now : Option (List ℕ)) (f f' : ℕ) → Ran files main limit bytes end left before now → ReadCause end f f' → f' ≡ f
  faults_stay bytes Done left before now f f' h r = r
  faults_stay bytes Cut left before now f f' h r = r
  faults_stay bytes (Trap kind) left before now f f' h r = r
  faults_stay bytes (BadCode class method pc) left before now f f' h r = r
  faults_stay bytes WriteFault left before now f f' h r = r
  faults_stay bytes ReadFault left before now f f' h r = absurd (no_read bytes left before now h)

  abbrev pub RanOn : End → (old left before now : Option (List ℕ)) → Type 0
  RanOn end old left before now = (bytes : List ℕ) × Tells old bytes × Ran files main limit bytes end left before now

  pub answer_writes : {E : Type 0} (r : Result End E) (old left before now : Option (List ℕ)) → IfOk r (λ end. RanOn end old left before now) → AppendsFront before now (printed numbers) → IfOk r (λ end. Printed numbers end before now)
  answer_writes (Ok end) old left before now (bytes, t, h) front = writes bytes end left before now front h
  answer_writes (Err e) old left before now h front = tt

  pub answer_leaves : {E : Type 0} (r : Result End E) (old left before now : Option (List ℕ)) → IfOk r (λ end. RanOn end old left before now) → OnErr r ((bytes : List ℕ) × Tells old bytes × StoppedAt files main limit bytes left before now) → is_some left ≡ is_some old → left ≡ old
  answer_leaves (Ok end) old left before now (bytes, t, h) w s = told_same old left bytes t s (leaves bytes end left before now h)
  answer_leaves (Err e) old left before now h (bytes, t, w) s = told_same old left bytes t s (leaves_all bytes left before now w)

  pub answer_faults : {E : Type 0} (r : Result End E) (old left before now : Option (List ℕ)) (f f' : ℕ) → IfOk r (λ end. RanOn end old left before now) → MatchResult r (λ end. ReadCause end f f') (λ _. f' ≡ f) → f' ≡ f
  answer_faults (Ok end) old left before now f f' (bytes, t, h) c = faults_stay bytes end left before now f f' h c
  answer_faults (Err e) old left before now f f' h c = c

  pub answer_front : (old before now : Option (List ℕ)) → ((bytes : List ℕ) × Tells old bytes × AppendsFront before now (machine_run files main limit bytes).out) → AppendsFront before now (printed numbers)
  answer_front old before now (bytes, t, h) = subst (λ (f : Finish). AppendsFront before now f.out) (machine_prints main numbers limit bytes enough) h
