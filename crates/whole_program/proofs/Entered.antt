-- A call starts the method that it finds, and comes out as that method's run does.
use Rattle.std.proofs.Common.{◌≡◌, ℕ, suc, ◌+◌, ◌*◌, ◌≤◌, List, [], ◌∷◌, Option, Some, None, refl, sym, ap, ◌∙◌, subst, arith}
use Rattle.std.specs.Prelude.{Bool, true, false, is_some, unwrap_or, option_and_then, slice_get, if◌then◌else◌}
use Rattle.std.specs.Option.{option_map}
use Rattle.std.proofs.lemmas.Bool.{false≢true}
use Rattle.class_form.specs.declared.class_file.ClassFile.{ClassFile}
use Rattle.class_form.specs.declared.member.MemberInfo.{MemberInfo}
use Rattle.class_form.specs.declared.member.Code.{Code}
use Rattle.class_form.specs.Constants.{utf8_at}
use Rattle.jp_store.specs.declared.value.Value.{Value}
use Rattle.jp_store.specs.Store.{Store}
use Rattle.jp_does.specs.OpenTrace.{Event, calls_in}
use Rattle.jp_meaning.specs.Run.{Run, Came, Ended}
use Rattle.jvm_table.specs.declared.frame.Frame.{Frame}
use Rattle.jvm_table.specs.Descriptors.{Signature, signature_of}
use Rattle.jvm_table.specs.Act.{Call, Leaves}
use Rattle.jvm_load.specs.FileClasses.{is_static}
use Rattle.jvm_step.specs.declared.state.State.{State}
use Rattle.jvm_step.specs.declared.state.Running.{Running}
use Rattle.jvm_step.specs.Turn as step_of
use Rattle.jvm_step.specs.Turn.{Goes, turn, is_on_null, called, found_by, wants_static, same_truth, code_where}
use Rattle.jvm_step.specs.Run.{on_turn, exec}
use Rattle.code_trace.specs.Entry as alone
use Rattle.whole_program.specs.Right.{RunsAs}
use Rattle.whole_program.proofs.Acts.{pushes, gives_back, Sane, sane}
use Rattle.whole_program.proofs.Script.{world}
use Rattle.whole_program.proofs.Obeys.{st, waiting, go_call, ending_map, TrapCost, LimitCost, LimitLeast, Invoked, TB, UB, LB, Out, acts_in}

same_refl : (b : Bool) → same_truth b b ≡ true
same_refl true = refl
same_refl false = refl

abbrev pub running : ℕ × ℕ → Frame → Running
running at frame = record { file = at.0; method = at.1; frame = frame }

entered_same : (at : ℕ × ℕ) (args : List Value) (o : Option Code) →
    option_and_then (λ code. option_map (step_of.entered at.0 at.1 code) (step_of.variables code.max_locals (step_of.placed args))) o
    ≡ option_map (running at) (option_and_then (λ code. option_map (alone.entered code) (alone.variables code.max_locals (alone.placed args))) o)
entered_same at args None = refl
entered_same at args (Some code) = by_room (alone.variables code.max_locals (alone.placed args)) where
  by_room : (v : Option (List (Option Value))) → option_map (step_of.entered at.0 at.1 code) v ≡ option_map (running at) (option_map (alone.entered code) v)
  by_room None = refl
  by_room (Some locals) = refl

-- the machine enters the method that a call finds
pub entry_of : (files : List ClassFile) (c : Call) (at : ℕ × ℕ) (file : ClassFile) (me : MemberInfo) (frame : Frame) → slice_get files at.0 ≡ Some file → slice_get file.methods at.1 ≡ Some me → is_static me ≡ wants_static c.target → alone.entry me c.args ≡ Some frame →
    step_of.entry files (wants_static c.target) c.args at ≡ Some (running at frame)
entry_of files c at file me frame a b role e =
    ap (λ (o : Option ClassFile). option_and_then (λ file. option_and_then enters (slice_get file.methods at.1)) o) a
    ∙ ap (λ (o : Option MemberInfo). option_and_then enters o) b
    ∙ by_role
    ∙ entered_same at c.args me.code
    ∙ ap (option_map (running at)) e where
      enter : Option Code → Option Running
      enter o = option_and_then (λ code. option_map (step_of.entered at.0 at.1 code) (step_of.variables code.max_locals (step_of.placed c.args))) o

      enters : MemberInfo → Option Running
      enters method = enter (code_where (wants_static c.target) method)

      by_role : enters me ≡ enter me.code
      by_role = ap (λ (b : Bool). enter (if b then me.code else None)) (ap (same_truth (wants_static c.target)) role ∙ same_refl (wants_static c.target))

module _ (files : List ClassFile) (g : ℕ × ℕ) (f on : Frame) (cs : List Running) (s : Store) (c : Call) (push : Bool) (file : ClassFile) (me : MemberInfo) (m : RunsAs files s.heap c file me) where
  abbrev x : State
  x = st g f cs s

  abbrev callers : List Running
  callers = waiting x on ∷ cs

  started : is_on_null c.target c.args ≡ false → (i o : List ℕ) (n : ℕ) → go_call files x c push on i o (suc n) ≡ exec files n (st m.at m.frame callers s) i o
  started null i o n =
      ap (on_turn files (exec files n) i o)
      (ap (λ (b : Bool). called x b on (option_and_then (step_of.entry files (wants_static c.target) c.args) (found_by files s.heap c.target c.args))) null
      ∙ ap (λ (o : Option (ℕ × ℕ)). called x false on (option_and_then (step_of.entry files (wants_static c.target) c.args) o)) m.found
      ∙ ap (called x false on) (entry_of files c m.at file me m.frame m.file_there m.method_there m.role m.enters))

  results : (o : Option (List ℕ)) (b : Bool) → option_map is_some (option_map (λ (s : Signature). s.result) (option_and_then signature_of o)) ≡ Some b → option_map (λ (s : Signature). is_some s.result) (signature_of (unwrap_or o [])) ≡ Some b
  results None b e = absurd (false≢true (ap is_some e))
  results (Some d) b e = by_signature (signature_of d) e where
    by_signature : (z : Option Signature) → option_map is_some (option_map (λ (s : Signature). s.result) z) ≡ Some b → option_map (λ (s : Signature). is_some s.result) z ≡ Some b
    by_signature None e = absurd (false≢true (ap is_some e))
    by_signature (Some s) e = e

  -- the called method returns a value where the call wants one
  pushed_by : pushes c.target ≡ Some push → (given : Option Value) → gives_back file me ≡ Some (is_some given) → is_some given ≡ push
  pushed_by wants given back =
      let a = results (utf8_at file me.descriptor) (is_some given) back in
      let b = ap (λ (d : List ℕ). option_map (λ (s : Signature). is_some s.result) (signature_of d)) m.descriptor ∙ wants in
      ap (λ (o : Option Bool). unwrap_or o push) (sym a ∙ b)

  -- a call comes out as the run of the method that it finds, where what that costs is paid for
  pub entered_by : (fee inner outer : ℕ) (cost saved t t' : ℕ) (i o : List ℕ) → pushes c.target ≡ Some push → is_on_null c.target c.args ≡ false →
      (c' own : ℕ) (es : List (Event Call)) (cost' saved' : ℕ) → c' + cost' + t * fee + saved ≤ cost + t' * fee + saved' + own * fee → c' + cost' + inner + t * fee ≤ cost + outer + t' * fee + own * fee →
      own + calls_in es ≤ c' → t' ≤ suc t → (r : Run Value) →
      Out files fee inner file me m.at m.file_there m.method_there callers (λ n. exec files n (st m.at m.frame callers s) i o) c' own t es cost' saved' r →
      Invoked files fee outer x c push on cost saved (world t' s i o) r
  entered_by fee inner outer cost saved t t' i o wants null c' own es cost' saved' few limit least ticks (Came v u) z = record {
    count = suc z.count;
    at = m.at;
    frame = z.frame;
    given = z.given;
    value = z.value;
    pushed = pushed_by wants z.given (subst (Sane file me) z.act (sane file me z.frame));
    leaves = acts_in files fee inner file me m.at m.file_there m.method_there callers z.frame callers u.store (Leaves z.given) z.act;
    comes = λ n. let e : suc z.count + n ≡ suc (z.count + n) = omega arith in ap (go_call files x c push on i o) e ∙ started null i o (z.count + n) ∙ z.comes n;
    few = omega (arith, few, z.few);
    least = omega (arith, z.least, least, ticks);
  }
  entered_by fee inner outer cost saved t t' i o wants null c' own es cost' saved' few limit least ticks (Ended e u) z =
      ending_map (λ n. exec files n (st m.at m.frame callers s) i o) (go_call files x c push on i o) (λ j. suc j) (started null i o) e u
      (TB fee c' own t cost' saved') (UB fee inner c' own t cost') (LB c' own t es) (TrapCost fee cost saved t') (LimitCost fee outer cost t') (LimitLeast t')
      (λ j y. omega (arith, y, few)) (λ j y. omega (arith, y, limit)) (λ j y. omega (arith, y, least, ticks)) z
