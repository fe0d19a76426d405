use Rattle.std.proofs.Common.{◌≡◌, true, false, ℕ, Some, sym, ap, ◌∙◌}
use Rattle.std.specs.Prelude.{option_and_then}
use Rattle.std.specs.Option.{option_map}
use Rattle.std.proofs.lemmas.Result.{IfOk-weaker}
use Rattle.jvm_table.specs.Constants.{method_in, member_named}
use Rattle.jvm_table.specs.Act as table
use Rattle.jvm_table.specs.Act.{args_taken}
use Rattle.jvm_step.specs.Turn as turn
use Rattle.jvm_link.specs.Links.{signed}
use Rattle.jvm_calls.specs.Passing.{as_turn, at_place}
use Rattle.jvm_calls.proofs.Turns.{static_unsigned, static_untaken, static_linked}
use Rattle.jvm_calls.proofs.call.call_static.Goals as goal

pub returns-in_default : goal.returns-in_default
returns-in_default c = λ file h place.
    let st = c.args.state.now in
    let named = member_named method_in file c.args.index in
    sym (static_unsigned c.args.linked.now (at_place place st) named st.current.frame (sym (c.signature.ensures file h) ∙ ap (option_map (λ s. s.now)) c.in_default.is))

pub returns-in_default-2 : goal.returns-in_default-2
returns-in_default-2 c = λ file h place.
    let st = c.args.state.now in
    let named = member_named method_in file c.args.index in
    let signature = c.in-Some.signature.now in
    let signed_is : option_and_then signed named ≡ Some signature = sym (c.signature.ensures file h) ∙ ap (option_map (λ s. s.now)) c.in-Some.is in
    sym (static_untaken c.args.linked.now (at_place place st) named st.current.frame signature signed_is
    (ap (λ kinds. args_taken kinds st.current.frame) (sym c.parameters.ensures) ∙ sym c.in_ok-args.ensures ∙ ap (option_map (λ args. (args, c.take_args.new.frame))) c.in_default-2.is))

pub returns : goal.returns
returns c = λ file h.
    let files = c.args.linked.now in
    let st = c.args.state.now in
    let f = st.current.frame in
    let named = member_named method_in file c.args.index in
    let signature = c.in-Some.signature.now in
    let signed_is : option_and_then signed named ≡ Some signature = sym (c.signature.ensures file h) ∙ ap (option_map (λ s. s.now)) c.in-Some.is in
    let taken : args_taken signature.parameters f ≡ Some (c.in-Some-2.args, c.take_args.new.frame) =
    ap (λ kinds. args_taken kinds f) (sym c.parameters.ensures) ∙ sym c.in_ok-args.ensures ∙ ap (option_map (λ args. (args, c.take_args.new.frame))) c.in-Some-2.is in
    IfOk-weaker c.pass.result
    (λ passed. (place : ℕ) → as_turn (at_place place st) passed c.pass.new.state ≡ turn.called (at_place place st) false c.take_args.new.frame (option_and_then (turn.entry files true c.in-Some-2.args) c.static_method-found.result))
    (λ passed. (place : ℕ) → as_turn (at_place place st) passed c.pass.new.state ≡ turn.turn files (at_place place st) (table.on_found named (λ key. table.invoked key.descriptor f (table.calls (table.StaticMethod key)))))
    (λ passed e place. e place ∙ sym (static_linked files (at_place place st) named f c.take_args.new.frame signature c.in-Some-2.args c.static_method-found.result signed_is taken (c.static_method-found.ensures file h st.heap c.in-Some-2.args)))
    c.pass.ensures
