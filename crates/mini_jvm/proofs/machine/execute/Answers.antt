use Rattle.class_form.specs.declared.class_file.ClassFile.{ClassFile}
use Rattle.std.proofs.Common.{rules, ℤ, ◌+◌, true, List, ◌∷◌, w32, to_z, of_z, ◌≡◌, refl, sym, ap, ◌∙◌, subst, arith}
use Rattle.std.specs.Fmt.{signed_decimal}
use Rattle.std.proofs.lemmas.Int.{to_z-of_z}
use Rattle.std.proofs.lemmas.Result.{IfOk-weaker}
use Rattle.jp_outside.specs.Bytes.{AppendsFront}
use Rattle.jvm_step.specs.declared.value.End.TheVariants.{ReadFault}
use Rattle.std.specs.Io.KnownBytes.{append_known}
use Rattle.jp_store.specs.declared.value.Value.TheVariants.{Int}
use Rattle.jvm_table.specs.Stack.{Held}
use Rattle.jvm_step.specs.declared.state.State.{State}
use Rattle.jvm_step.specs.Run.{end_of, with_read}
use Rattle.mini_jvm.specs.Steps.{as_turn}
use Rattle.mini_jvm.proofs.Steps.{OnInput, reached_start, reached_gone, reached_sum, reached_goes, reached_shows, reached_reads, reached_as, on_ok, on_true, no_fault, stops, cut, read_fails, write_fails, front_here, front_written, wants_here, WantsOn, at_error}
use Rattle.mini_jvm.proofs.Room.{room_to_read}
use Rattle.mini_jvm.proofs.machine.execute.Goals as goal

pub turns-init : goal.turns-init
turns-init g c = record {
  within = omega arith;
  reached = reached_start c.args.linked.now c.args.state (g.I.Source.left c.args.input.now) (g.O.Sink.taken c.args.out.now);
  reads = refl;
  writes = refl;
}

pub returns-in_err-walk-clause-stopped : goal.returns-in_err-walk-clause-stopped
returns-in_err-walk-clause-stopped g c = λ main s.
    front_here c.args.linked.now main c.args.limit c.turns.done c.args.state c.turns.state c.turns.ended (g.I.Source.left c.args.input.now) (g.I.Source.left c.turns.input) (g.O.Sink.taken c.args.out.now) (g.O.Sink.taken c.turns.out) s (omega arith) c.turns.invariant.reached

pub returns-in_err-walk-clause-wanting : goal.returns-in_err-walk-clause-wanting
returns-in_err-walk-clause-wanting g c = λ main s.
    at_error c.from_residual.result (WantsOn c.args.linked.now main c.args.limit (g.I.Source.left c.args.input.now) (g.I.Source.left c.turns.input) (g.O.Sink.taken c.args.out.now) (g.O.Sink.taken c.turns.out))
    (wants_here c.args.linked.now main c.args.limit c.turns.done c.args.state c.turns.state c.turns.ended (g.I.Source.left c.args.input.now) (g.I.Source.left c.turns.input) (g.O.Sink.taken c.args.out.now) (g.O.Sink.taken c.turns.out) s (omega arith) c.turns.invariant.reached)

pub returns-then-is_err-clause-ran : goal.returns-then-is_err-clause-ran
returns-then-is_err-clause-ran g c = λ main s.
    let n = c.in_ok-walk.walk.count in
    let walked = c.in_ok-walk.ensures.walk in
    let i = c.turns.done + n in
    let r = reached_gone c.args.linked.now n c.turns.done c.args.state c.turns.state walked.0 c.turns.ended (g.I.Source.left c.args.input.now) (g.I.Source.left c.turns.input) (g.O.Sink.taken c.args.out.now) (g.O.Sink.taken c.turns.out) c.turns.invariant.reached walked.1 in
    let m = c.in-PrintInt.n in
    let same : to_z w32 (of_z w32 m) ≡ m = search (rules, to_z-of_z) in
    let taken = g.O.Sink.taken c.turns.out in
    let taken' = g.O.Sink.taken c.print.new.out in
    let front = subst (λ (k : ℤ). AppendsFront taken taken' (signed_decimal k)) same c.print.ensures.front in
    write_fails c.args.linked.now main c.args.limit i c.args.state walked.0 c.walk_on.new.state c.turns.ended (g.I.Source.left c.args.input.now) (g.I.Source.left c.turns.input) (g.O.Sink.taken c.args.out.now) taken taken' (signed_decimal m) s (omega (arith, c.in_ok-walk.ensures.within)) r
    (walked.2 ∙ ap (λ step. as_turn step c.walk_on.new.state) c.in-PrintInt.is) front

pub returns-then-is_err-clause-stopped : goal.returns-then-is_err-clause-stopped
returns-then-is_err-clause-stopped g c = λ main s.
    let n = c.in_ok-walk.walk.count in
    let walked = c.in_ok-walk.ensures.walk in
    let i = c.turns.done + n in
    let r = reached_gone c.args.linked.now n c.turns.done c.args.state c.turns.state walked.0 c.turns.ended (g.I.Source.left c.args.input.now) (g.I.Source.left c.turns.input) (g.O.Sink.taken c.args.out.now) (g.O.Sink.taken c.turns.out) c.turns.invariant.reached walked.1 in
    let m = c.in-PrintInt.n in
    let same : to_z w32 (of_z w32 m) ≡ m = search (rules, to_z-of_z) in
    let taken = g.O.Sink.taken c.turns.out in
    let taken' = g.O.Sink.taken c.print.new.out in
    let front = subst (λ (k : ℤ). AppendsFront taken taken' (signed_decimal k)) same c.print.ensures.front in
    front_written c.args.linked.now main c.args.limit i c.args.state walked.0 c.walk_on.new.state c.turns.ended (g.I.Source.left c.args.input.now) (g.I.Source.left c.turns.input) (g.O.Sink.taken c.args.out.now) taken taken' (signed_decimal m) s (omega (arith, c.in_ok-walk.ensures.within)) r
    (walked.2 ∙ ap (λ step. as_turn step c.walk_on.new.state) c.in-PrintInt.is) front

pub returns-then-is_err-2-clause-ran : goal.returns-then-is_err-2-clause-ran
returns-then-is_err-2-clause-ran g c = λ main s.
    let n = c.in_ok-walk.walk.count in
    let walked = c.in_ok-walk.ensures.walk in
    let i = c.turns.done + n in
    let r = reached_gone c.args.linked.now n c.turns.done c.args.state c.turns.state walked.0 c.turns.ended (g.I.Source.left c.args.input.now) (g.I.Source.left c.turns.input) (g.O.Sink.taken c.args.out.now) (g.O.Sink.taken c.turns.out) c.turns.invariant.reached walked.1 in
    write_fails c.args.linked.now main c.args.limit i c.args.state walked.0 c.walk_on.new.state c.turns.ended (g.I.Source.left c.args.input.now) (g.I.Source.left c.turns.input) (g.O.Sink.taken c.args.out.now) (g.O.Sink.taken c.turns.out) (g.O.Sink.taken c.write_all.new.out) c.in-PrintText.bytes.now s (omega (arith, c.in_ok-walk.ensures.within)) r
    (walked.2 ∙ ap (λ step. as_turn step c.walk_on.new.state) c.in-PrintText.is) c.write_all.ensures.front

pub returns-then-is_err-2-clause-stopped : goal.returns-then-is_err-2-clause-stopped
returns-then-is_err-2-clause-stopped g c = λ main s.
    let n = c.in_ok-walk.walk.count in
    let walked = c.in_ok-walk.ensures.walk in
    let i = c.turns.done + n in
    let r = reached_gone c.args.linked.now n c.turns.done c.args.state c.turns.state walked.0 c.turns.ended (g.I.Source.left c.args.input.now) (g.I.Source.left c.turns.input) (g.O.Sink.taken c.args.out.now) (g.O.Sink.taken c.turns.out) c.turns.invariant.reached walked.1 in
    front_written c.args.linked.now main c.args.limit i c.args.state walked.0 c.walk_on.new.state c.turns.ended (g.I.Source.left c.args.input.now) (g.I.Source.left c.turns.input) (g.O.Sink.taken c.args.out.now) (g.O.Sink.taken c.turns.out) (g.O.Sink.taken c.write_all.new.out) c.in-PrintText.bytes.now s (omega (arith, c.in_ok-walk.ensures.within)) r
    (walked.2 ∙ ap (λ step. as_turn step c.walk_on.new.state) c.in-PrintText.is) c.write_all.ensures.front

pub returns-in-Err-clause-ran : goal.returns-in-Err-clause-ran
returns-in-Err-clause-ran g c = λ main s.
    let n = c.in_ok-walk.walk.count in
    let walked = c.in_ok-walk.ensures.walk in
    let i = c.turns.done + n in
    let r = reached_gone c.args.linked.now n c.turns.done c.args.state c.turns.state walked.0 c.turns.ended (g.I.Source.left c.args.input.now) (g.I.Source.left c.turns.input) (g.O.Sink.taken c.args.out.now) (g.O.Sink.taken c.turns.out) c.turns.invariant.reached walked.1 in
    subst (λ left. OnInput c.args.linked.now main c.args.limit ReadFault (g.I.Source.left c.args.input.now) left (g.O.Sink.taken c.args.out.now) (g.O.Sink.taken c.turns.out)) (sym c.in-Err.ensures.kept)
    (read_fails c.args.linked.now main c.args.limit i c.args.state walked.0 c.walk_on.new.state c.turns.ended (g.I.Source.left c.args.input.now) (g.I.Source.left c.turns.input) (g.O.Sink.taken c.args.out.now) (g.O.Sink.taken c.turns.out) s (omega (arith, c.in_ok-walk.ensures.within)) r
    (walked.2 ∙ ap (λ step. as_turn step c.walk_on.new.state) c.in-Read.is))

pub returns-in-Err-clause-stopped : goal.returns-in-Err-clause-stopped
returns-in-Err-clause-stopped g c = λ main s.
    let n = c.in_ok-walk.walk.count in
    let walked = c.in_ok-walk.ensures.walk in
    let i = c.turns.done + n in
    let r = reached_gone c.args.linked.now n c.turns.done c.args.state c.turns.state walked.0 c.turns.ended (g.I.Source.left c.args.input.now) (g.I.Source.left c.turns.input) (g.O.Sink.taken c.args.out.now) (g.O.Sink.taken c.turns.out) c.turns.invariant.reached walked.1 in
    front_here c.args.linked.now main c.args.limit i c.args.state walked.0 c.turns.ended (g.I.Source.left c.args.input.now) (g.I.Source.left c.turns.input) (g.O.Sink.taken c.args.out.now) (g.O.Sink.taken c.turns.out) s (omega (arith, c.in_ok-walk.ensures.within)) r

pub returns-in-Stop-clause-ran : goal.returns-in-Stop-clause-ran
returns-in-Stop-clause-ran g c = λ main s.
    let n = c.in_ok-walk.walk.count in
    let walked = c.in_ok-walk.ensures.walk in
    let i = c.turns.done + n in
    let r = reached_gone c.args.linked.now n c.turns.done c.args.state c.turns.state walked.0 c.turns.ended (g.I.Source.left c.args.input.now) (g.I.Source.left c.turns.input) (g.O.Sink.taken c.args.out.now) (g.O.Sink.taken c.turns.out) c.turns.invariant.reached walked.1 in
    let files = c.args.linked.now in
    let old = g.I.Source.left c.args.input.now in
    let left = g.I.Source.left c.turns.input in
    let before = g.O.Sink.taken c.args.out.now in
    let taken = g.O.Sink.taken c.turns.out in
    let stopped = stops files main c.args.limit i c.args.state walked.0 c.turns.ended old left before taken c.in-Stop.halt s (omega (arith, c.in_ok-walk.ensures.within)) r (walked.2 ∙ ap (λ step. as_turn step c.walk_on.new.state) c.in-Stop.is) in
    IfOk-weaker c.halted.result (λ end. end ≡ end_of c.program.result.now c.in-Stop.halt) (λ end. OnInput files main c.args.limit end old left before taken)
    (λ end e. subst (λ x. OnInput files main c.args.limit x old left before taken) (sym (e ∙ ap (λ (fs : List ClassFile). end_of fs c.in-Stop.halt) c.program.ensures)) stopped) c.halted.ensures

pub returns-in-Stop-clause-stopped : goal.returns-in-Stop-clause-stopped
returns-in-Stop-clause-stopped g c = λ main s.
    let n = c.in_ok-walk.walk.count in
    let walked = c.in_ok-walk.ensures.walk in
    let i = c.turns.done + n in
    let r = reached_gone c.args.linked.now n c.turns.done c.args.state c.turns.state walked.0 c.turns.ended (g.I.Source.left c.args.input.now) (g.I.Source.left c.turns.input) (g.O.Sink.taken c.args.out.now) (g.O.Sink.taken c.turns.out) c.turns.invariant.reached walked.1 in
    front_here c.args.linked.now main c.args.limit i c.args.state walked.0 c.turns.ended (g.I.Source.left c.args.input.now) (g.I.Source.left c.turns.input) (g.O.Sink.taken c.args.out.now) (g.O.Sink.taken c.turns.out) s (omega (arith, c.in_ok-walk.ensures.within)) r

pub returns-in-Stop-clause-wanting : goal.returns-in-Stop-clause-wanting
returns-in-Stop-clause-wanting g c = λ main s.
    let n = c.in_ok-walk.walk.count in
    let walked = c.in_ok-walk.ensures.walk in
    let i = c.turns.done + n in
    let r = reached_gone c.args.linked.now n c.turns.done c.args.state c.turns.state walked.0 c.turns.ended (g.I.Source.left c.args.input.now) (g.I.Source.left c.turns.input) (g.O.Sink.taken c.args.out.now) (g.O.Sink.taken c.turns.out) c.turns.invariant.reached walked.1 in
    at_error c.halted.result (WantsOn c.args.linked.now main c.args.limit (g.I.Source.left c.args.input.now) (g.I.Source.left c.turns.input) (g.O.Sink.taken c.args.out.now) (g.O.Sink.taken c.turns.out))
    (wants_here c.args.linked.now main c.args.limit i c.args.state walked.0 c.turns.ended (g.I.Source.left c.args.input.now) (g.I.Source.left c.turns.input) (g.O.Sink.taken c.args.out.now) (g.O.Sink.taken c.turns.out) s (omega (arith, c.in_ok-walk.ensures.within)) r)

pub turns-preserved-in-Move : goal.turns-preserved-in-Move
turns-preserved-in-Move g c =
    let n = c.in_ok-walk.walk.count in
    let walked = c.in_ok-walk.ensures.walk in
    let files = c.args.linked.now in
    let i = c.turns.done in
    let first = c.args.state in
    let now = walked.0 in
    let next = c.walk_on.new.state in
    let ended = c.turns.ended in
    let old = g.I.Source.left c.args.input.now in
    let left = g.I.Source.left c.turns.input in
    let before = g.O.Sink.taken c.args.out.now in
    let taken = g.O.Sink.taken c.turns.out in
    let r = reached_gone files n i first c.turns.state now ended old left before taken c.turns.invariant.reached walked.1 in
    let turn = walked.2 ∙ ap (λ step. as_turn step next) c.in-Move.is in
    record {
      within = omega (arith, c.in_ok-walk.ensures.within);
      reached = reached_sum files i n first next ended old left before taken (reached_goes files (i + n) first now next ended old left before taken r turn);
      reads = c.turns.invariant.reads;
      writes = c.turns.invariant.writes;
    }

pub turns-preserved-else-is_err : goal.turns-preserved-else-is_err
turns-preserved-else-is_err g c =
    let n = c.in_ok-walk.walk.count in
    let walked = c.in_ok-walk.ensures.walk in
    let files = c.args.linked.now in
    let i = c.turns.done in
    let first = c.args.state in
    let now = walked.0 in
    let next = c.walk_on.new.state in
    let ended = c.turns.ended in
    let old = g.I.Source.left c.args.input.now in
    let left = g.I.Source.left c.turns.input in
    let before = g.O.Sink.taken c.args.out.now in
    let taken = g.O.Sink.taken c.turns.out in
    let r = reached_gone files n i first c.turns.state now ended old left before taken c.turns.invariant.reached walked.1 in
    let taken' = g.O.Sink.taken c.print.new.out in
    let fine = sym c.if-is_err.ensures.value in
    let m = c.in-PrintInt.n in
    let same : to_z w32 (of_z w32 m) ≡ m = search (rules, to_z-of_z) in
    let turn = walked.2 ∙ ap (λ step. as_turn step next) c.in-PrintInt.is in
    let whole = on_ok c.print.result (taken' ≡ append_known taken (signed_decimal (to_z w32 (of_z w32 m)))) fine c.print.ensures.whole in
    record {
      within = omega (arith, c.in_ok-walk.ensures.within);
      reached = reached_sum files i n first next ended old left before taken' (reached_shows files (i + n) first now next ended old left before taken taken' (signed_decimal m) r turn (whole ∙ ap (λ (k : ℤ). append_known taken (signed_decimal k)) same));
      reads = c.turns.invariant.reads;
      writes = no_fault c.print.result (g.O.Sink.faults c.turns.out) (g.O.Sink.faults c.print.new.out) fine c.print.ensures.cause ∙ c.turns.invariant.writes;
    }

pub turns-preserved-else-is_err-2 : goal.turns-preserved-else-is_err-2
turns-preserved-else-is_err-2 g c =
    let n = c.in_ok-walk.walk.count in
    let walked = c.in_ok-walk.ensures.walk in
    let files = c.args.linked.now in
    let i = c.turns.done in
    let first = c.args.state in
    let now = walked.0 in
    let next = c.walk_on.new.state in
    let ended = c.turns.ended in
    let old = g.I.Source.left c.args.input.now in
    let left = g.I.Source.left c.turns.input in
    let before = g.O.Sink.taken c.args.out.now in
    let taken = g.O.Sink.taken c.turns.out in
    let r = reached_gone files n i first c.turns.state now ended old left before taken c.turns.invariant.reached walked.1 in
    let taken' = g.O.Sink.taken c.write_all.new.out in
    let fine = sym c.if-is_err-2.ensures.value in
    let turn = walked.2 ∙ ap (λ step. as_turn step next) c.in-PrintText.is in
    let whole = on_ok c.write_all.result (taken' ≡ append_known taken c.in-PrintText.bytes.now) fine c.write_all.ensures.whole in
    record {
      within = omega (arith, c.in_ok-walk.ensures.within);
      reached = reached_sum files i n first next ended old left before taken' (reached_shows files (i + n) first now next ended old left before taken taken' c.in-PrintText.bytes.now r turn whole);
      reads = c.turns.invariant.reads;
      writes = no_fault c.write_all.result (g.O.Sink.faults c.turns.out) (g.O.Sink.faults c.write_all.new.out) fine c.write_all.ensures.cause ∙ c.turns.invariant.writes;
    }

pub turns-preserved : goal.turns-preserved
turns-preserved g c =
    let n = c.in_ok-walk.walk.count in
    let walked = c.in_ok-walk.ensures.walk in
    let files = c.args.linked.now in
    let i = c.turns.done in
    let first = c.args.state in
    let now = walked.0 in
    let next = c.walk_on.new.state in
    let ended = c.turns.ended in
    let old = g.I.Source.left c.args.input.now in
    let left = g.I.Source.left c.turns.input in
    let before = g.O.Sink.taken c.args.out.now in
    let taken = g.O.Sink.taken c.turns.out in
    let r = reached_gone files n i first c.turns.state now ended old left before taken c.turns.invariant.reached walked.1 in
    let m = c.in-Ok.n in
    let same : to_z w32 (of_z w32 m) ≡ m = search (rules, to_z-of_z) in
    let turn = walked.2 ∙ ap (λ step. as_turn step next) c.in-Read.is in
    let old_stack = next.current.frame.stack in
    let stack = c.push.new.self in
    let room : c.push.result ≡ true = c.push.ensures.pushed ∙ room_to_read files now next turn in
    let pushed = on_true c.push.result (stack ≡ record old_stack { values = Int (to_z w32 (of_z w32 m)) ∷ old_stack.values }) room c.push.ensures.yes in
    let with_stack : Held → State = λ s. record next { current = record next.current { frame = record next.current.frame { stack = s } } } in
    let read : with_stack stack ≡ with_read m next = ap with_stack pushed ∙ ap (λ (k : ℤ). with_read k next) same in
    let left' = g.I.Source.left c.read_number.new.input in
    record {
      within = omega (arith, c.in_ok-walk.ensures.within);
      reached = reached_sum files i n first (with_stack stack) c.read_number.new.ended old left' before taken (reached_reads files (i + n) first now next (with_stack stack) ended c.read_number.new.ended old left left' before taken m r turn c.in-Ok.ensures.read read);
      reads = c.in-Ok.ensures.cause ∙ c.turns.invariant.reads;
      writes = c.turns.invariant.writes;
    }

pub returns-clause-ran : goal.returns-clause-ran
returns-clause-ran g c = λ main s.
    cut c.args.linked.now main c.args.limit c.turns.done c.args.state c.turns.state c.turns.ended (g.I.Source.left c.args.input.now) (g.I.Source.left c.turns.input) (g.O.Sink.taken c.args.out.now) (g.O.Sink.taken c.turns.out) s (omega arith) (omega arith) c.turns.invariant.reached

pub returns-clause-stopped : goal.returns-clause-stopped
returns-clause-stopped g c = λ main s.
    front_here c.args.linked.now main c.args.limit c.turns.done c.args.state c.turns.state c.turns.ended (g.I.Source.left c.args.input.now) (g.I.Source.left c.turns.input) (g.O.Sink.taken c.args.out.now) (g.O.Sink.taken c.turns.out) s (omega arith) c.turns.invariant.reached
