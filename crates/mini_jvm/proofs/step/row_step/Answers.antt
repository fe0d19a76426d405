use Rattle.std.proofs.Common.{◌≡◌, ℕ, List, sym, ap, ◌∙◌}
use Rattle.std.specs.Prelude.{slice_get}
use Rattle.class_form.specs.declared.class_file.ClassFile.{ClassFile}
use Rattle.std.proofs.lemmas.Result.{IfOk-weaker}
use Rattle.jvm_step.specs.Act.{left_to_do}
use Rattle.jvm_step.specs.Turn as turn
use Rattle.jvm_calls.specs.Passing.{at_place}
use Rattle.mini_jvm.specs.Steps.{row_turn}
use Rattle.mini_jvm.proofs.Joins.{finished}
use Rattle.mini_jvm.proofs.step.row_step.Goals as goal

pub returns : goal.returns
returns c =
    let files = c.args.linked.now in
    let st = c.args.state.now in
    IfOk-weaker c.finish.result
    (λ step. (place : ℕ) → row_turn (at_place place st) step c.finish.new.state ≡ turn.turn files (at_place place st) (left_to_do c.in-Some.file.now c.in-Some-one_instr.left c.one_instr.new.frame))
    (λ step. row_turn st step c.finish.new.state ≡ turn.turn_of files st)
    (λ step h. finished files st c.in-Some.file.now c.in-Some-get.method.now c.one_instr.new.frame c.in-Some-one_instr.left step c.finish.new.state (ap (λ (fs : List ClassFile). slice_get fs st.current.file) (sym c.program.ensures) ∙ sym c.in-Some.ensures.file) (sym c.in-Some-get.ensures.value) c.in-Some-one_instr.ensures h)
    c.finish.ensures
