use Rattle.std.proofs.Common.{◌≡◌, ◌∷◌, false, sym, ap, ◌∙◌, subst, List, Some}
use Rattle.std.specs.Prelude.{option_and_then}
use Rattle.std.specs.Option.{option_map}
use Rattle.std.proofs.lemmas.Result.{IfOk-weaker}
use Rattle.jvm_table.specs.Act as table
use Rattle.jvm_table.specs.Act.{args_taken}
use Rattle.jp_store.specs.declared.value.Value.TheVariants.{Ref}
use Rattle.class_form.specs.declared.class_file.ClassFile.{ClassFile}
use Rattle.jvm_step.specs.Names.{named}
use Rattle.jvm_step.specs.Turn as turn
use Rattle.jvm_calls.specs.Passing.{as_turn, at_place}
use Rattle.jvm_calls.proofs.Turns.{by_receiver}
use Rattle.jvm_calls.proofs.call.call_by_receiver.Goals as goal

pub returns-in_ok-push_front-in-Ref : goal.returns-in_ok-push_front-in-Ref
returns-in_ok-push_front-in-Ref c =
    let files = c.args.linked.now in
    let st = c.args.state.now in
    let f = st.current.frame in
    let key = named c.args.member.now in
    let taken : args_taken c.args.signature.now.parameters f ≡ Some (c.in-Some.args, c.take_args.new.frame) =
    ap (λ kinds. args_taken kinds f) (sym c.parameters.ensures) ∙ sym c.in_ok-args.ensures ∙ ap (option_map (λ args. (args, c.take_args.new.frame))) c.in-Some.is in
    IfOk-weaker c.pass.result
    (λ passed. (place : _) → as_turn (at_place place st) passed c.pass.new.state ≡ turn.called (at_place place st) false c.pop.new.frame (option_and_then (turn.entry files false c.push_front.new.self) c.find_virtual-found.result))
    (λ passed. (place : _) → as_turn (at_place place st) passed c.pass.new.state ≡ turn.turn files (at_place place st) (table.calls_virtual key f))
    (λ passed h place. h place ∙ sym (by_receiver files (at_place place st) key f c.take_args.new.frame c.pop.new.frame c.args.signature.now c.in-Some.args c.push_front.new.self c.in-Some-pop.receiver c.in-Ref.number c.find_virtual-found.result (sym c.requires) taken c.in-Some-pop.ensures c.in-Ref.is (c.in_ok-push_front-in-Ref.ensures ∙ ap (λ v. v ∷ c.in-Some.args) (sym c.in-Ref.is)) (subst (λ (fs : List ClassFile). c.find_virtual-found.result ≡ turn.found_by fs st.heap (table.VirtualMethod key.name key.descriptor) (Ref c.in-Ref.number ∷ c.in-Some.args)) c.program.ensures (c.find_virtual-found.ensures c.in-Some.args))))
    c.pass.ensures
