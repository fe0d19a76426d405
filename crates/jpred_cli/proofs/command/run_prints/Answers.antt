use Rattle.std.proofs.Common.{◌≡◌, ◌≤◌, ◌<◌, ◌*◌, ℕ, ℤ, List, [], ◌∷◌, length, sym, ap, ◌∙◌, subst, arith, Option, Result}
use Rattle.std.specs.Prelude.{IfOk, OnErr}
use Rattle.jvm_step.specs.declared.value.End.{End}
use Rattle.class_form.specs.declared.class_file.ClassFile.{ClassFile}
use Rattle.jp_outside.specs.Bytes.{AppendsFront}
use Rattle.jvm_load.specs.Loadable.{IsLoadable}
use Rattle.jvm_step.specs.Run.{Tells, Ran, Stopped}
use Rattle.mini_jvm.specs.Memory.{StoppedAt}
use Rattle.jpred_cli.specs.Built.{class_of}
use Rattle.jpred_cli.specs.Steps.{printed}
use Rattle.jpred_cli.proofs.Loads.{loadable}
use Rattle.jpred_cli.proofs.Runs.{at_files, answer_writes, answer_leaves, answer_faults, answer_front}
use Rattle.jpred_cli.proofs.command.run_prints.Goals as goal

pub load-requires : goal.load-requires
load-requires g c =
    subst (λ (f : ClassFile). IsLoadable (f ∷ [])) (sym c.requires.class) (loadable c.args.main.now c.args.numbers.now c.requires.few)

enough : (numbers : List ℤ) → length numbers ≤ 200 → 2 * length numbers < 1000000000
enough numbers few = omega arith

-- what the machine's answer says of the program that was loaded holds of the class of these prints
on_class : (program : List ClassFile) (name : List ℕ) (file : ClassFile) (main : List ℕ) (numbers : List ℤ) → program ≡ file ∷ [] → name ≡ main → file ≡ class_of main numbers → (P : List ClassFile → List ℕ → Type 0) → P program name → P (class_of main numbers ∷ []) main
on_class program name file main numbers loaded named built P h = at_files program name main numbers (loaded ∙ ap (λ f. f ∷ []) built) named P h

ran : {E : Type 0} (r : Result End E) (program : List ClassFile) (name : List ℕ) (file : ClassFile) (main : List ℕ) (numbers : List ℤ) (old left before now : Option (List ℕ)) → program ≡ file ∷ [] → name ≡ main → file ≡ class_of main numbers → IfOk r (λ end. (bytes : List ℕ) × Tells old bytes × Ran program name 1000000000 bytes end left before now) → IfOk r (λ end. (bytes : List ℕ) × Tells old bytes × Ran (class_of main numbers ∷ []) main 1000000000 bytes end left before now)
ran r program name file main numbers old left before now loaded named built h =
    on_class program name file main numbers loaded named built (λ (p : List ClassFile) (n : List ℕ). IfOk r (λ end. (bytes : List ℕ) × Tells old bytes × Ran p n 1000000000 bytes end left before now)) h

front : (program : List ClassFile) (name : List ℕ) (file : ClassFile) (main : List ℕ) (numbers : List ℤ) (old before now : Option (List ℕ)) → program ≡ file ∷ [] → name ≡ main → file ≡ class_of main numbers → length numbers ≤ 200 → ((bytes : List ℕ) × Tells old bytes × Stopped program name 1000000000 bytes before now) → AppendsFront before now (printed numbers)
front program name file main numbers old before now loaded named built few h =
    answer_front main numbers 1000000000 (enough numbers few) old before now
    (on_class program name file main numbers loaded named built (λ (p : List ClassFile) (n : List ℕ). (bytes : List ℕ) × Tells old bytes × Stopped p n 1000000000 bytes before now) h)

pub returns-clause-front : goal.returns-clause-front
returns-clause-front g c =
    front c.in_ok-program.program c.in_ok-name.name c.args.file c.args.main.now c.args.numbers.now (g.I.Source.left c.args.input.now) (g.O.Sink.taken c.args.out.now) (g.O.Sink.taken c.run.new.out)
    c.in_ok-program.ensures (c.in_ok-name.ensures ∙ c.as_bytes.ensures.value) c.requires.class c.requires.few c.run.ensures.stopped

pub returns-clause-ran : goal.returns-clause-ran
returns-clause-ran g c =
    let old = g.I.Source.left c.args.input.now in
    let left = g.I.Source.left c.run.new.input in
    let before = g.O.Sink.taken c.args.out.now in
    let now = g.O.Sink.taken c.run.new.out in
    let named = c.in_ok-name.ensures ∙ c.as_bytes.ensures.value in
    answer_writes c.args.main.now c.args.numbers.now 1000000000 (enough c.args.numbers.now c.requires.few) c.run.result old left before now
    (ran c.run.result c.in_ok-program.program c.in_ok-name.name c.args.file c.args.main.now c.args.numbers.now old left before now c.in_ok-program.ensures named c.requires.class c.run.ensures.ran)
    (front c.in_ok-program.program c.in_ok-name.name c.args.file c.args.main.now c.args.numbers.now old before now c.in_ok-program.ensures named c.requires.class c.requires.few c.run.ensures.stopped)

pub returns-clause-input : goal.returns-clause-input
returns-clause-input g c =
    let old = g.I.Source.left c.args.input.now in
    let left = g.I.Source.left c.run.new.input in
    let before = g.O.Sink.taken c.args.out.now in
    let now = g.O.Sink.taken c.run.new.out in
    let named = c.in_ok-name.ensures ∙ c.as_bytes.ensures.value in
    answer_leaves c.args.main.now c.args.numbers.now 1000000000 (enough c.args.numbers.now c.requires.few) c.run.result old left before now
    (ran c.run.result c.in_ok-program.program c.in_ok-name.name c.args.file c.args.main.now c.args.numbers.now old left before now c.in_ok-program.ensures named c.requires.class c.run.ensures.ran)
    (on_class c.in_ok-program.program c.in_ok-name.name c.args.file c.args.main.now c.args.numbers.now c.in_ok-program.ensures named c.requires.class
    (λ (p : List ClassFile) (n : List ℕ). OnErr c.run.result ((bytes : List ℕ) × Tells old bytes × StoppedAt p n 1000000000 bytes left before now)) c.run.ensures.wanting)
    c.run.ensures.tells

pub returns-clause-input_faults : goal.returns-clause-input_faults
returns-clause-input_faults g c =
    let old = g.I.Source.left c.args.input.now in
    let left = g.I.Source.left c.run.new.input in
    let before = g.O.Sink.taken c.args.out.now in
    let now = g.O.Sink.taken c.run.new.out in
    let named = c.in_ok-name.ensures ∙ c.as_bytes.ensures.value in
    answer_faults c.args.main.now c.args.numbers.now 1000000000 (enough c.args.numbers.now c.requires.few) c.run.result old left before now (g.I.Source.faults c.args.input.now) (g.I.Source.faults c.run.new.input)
    (ran c.run.result c.in_ok-program.program c.in_ok-name.name c.args.file c.args.main.now c.args.numbers.now old left before now c.in_ok-program.ensures named c.requires.class c.run.ensures.ran)
    c.run.ensures.read_cause
