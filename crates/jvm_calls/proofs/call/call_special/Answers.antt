use Rattle.std.proofs.Common.{◌≡◌, false, ℕ, List, ◌∷◌, Some, sym, ap, ◌∙◌, subst}
use Rattle.std.specs.Prelude.{option_and_then, slice_get}
use Rattle.std.specs.Option.{option_map}
use Rattle.std.proofs.lemmas.Option.{same_Some}
use Rattle.std.proofs.lemmas.Result.{IfOk-weaker}
use Rattle.class_form.specs.declared.class_file.ClassFile.{ClassFile}
use Rattle.jvm_table.specs.Constants.{method_in, member_named}
use Rattle.jvm_table.specs.Descriptors.{signature_of}
use Rattle.jvm_table.specs.Act as table
use Rattle.jvm_table.specs.Act.{args_taken}
use Rattle.jvm_step.specs.Names.{named}
use Rattle.jvm_step.specs.Turn as turn
use Rattle.jvm_link.specs.Links.{signed, special_of}
use Rattle.jvm_calls.specs.Passing.{as_turn, at_place}
use Rattle.jvm_calls.proofs.Turns.{special_call, special_call_alone, special_call_other}
use Rattle.jvm_calls.proofs.call.call_special.Goals as goal

pub returns-in_default-pop : goal.returns-in_default-pop
returns-in_default-pop c = λ file h place.
    let files = c.args.linked.now in
    let st = c.args.state.now in
    let f = st.current.frame in
    let index = c.args.index in
    let key = named c.in-Some-method_name.member in
    let signature = c.in-Some-signature.signature.now in
    let there : slice_get files st.current.file ≡ Some c.in-Some.file.now =
    sym (ap (λ (fs : List ClassFile). slice_get fs st.current.file) c.program.ensures) ∙ sym c.file.ensures.file ∙ ap (option_map (λ x. x.now)) c.in-Some.is in
    let same : c.in-Some.file.now ≡ file = same_Some c.in-Some.file.now file (sym there ∙ h) in
    let n : member_named method_in file index ≡ Some key = subst (λ (x : ClassFile). member_named method_in x index ≡ Some key) same (sym c.in-Some-method_name.ensures) in
    let signed_is : signature_of key.descriptor ≡ Some signature = sym (ap (option_and_then signed) n) ∙ sym (c.signature.ensures file h) ∙ ap (option_map (λ s. s.now)) c.in-Some-signature.is in
    let taken : args_taken signature.parameters f ≡ Some (c.in-Some-2.args, c.take_args.new.frame) =
    ap (λ kinds. args_taken kinds f) (sym c.parameters.ensures) ∙ sym c.in_ok-args.ensures ∙ ap (option_map (λ args. (args, c.take_args.new.frame))) c.in-Some-2.is in
    sym (special_call_alone files (at_place place st) file (member_named method_in file index) key f c.take_args.new.frame signature c.in-Some-2.args n (sym c.if-names_object_init.ensures) signed_is taken c.in_default-pop.ensures)

pub returns-then-not-has_kind : goal.returns-then-not-has_kind
returns-then-not-has_kind c = λ file h place.
    let files = c.args.linked.now in
    let st = c.args.state.now in
    let f = st.current.frame in
    let index = c.args.index in
    let key = named c.in-Some-method_name.member in
    let signature = c.in-Some-signature.signature.now in
    let there : slice_get files st.current.file ≡ Some c.in-Some.file.now =
    sym (ap (λ (fs : List ClassFile). slice_get fs st.current.file) c.program.ensures) ∙ sym c.file.ensures.file ∙ ap (option_map (λ x. x.now)) c.in-Some.is in
    let same : c.in-Some.file.now ≡ file = same_Some c.in-Some.file.now file (sym there ∙ h) in
    let n : member_named method_in file index ≡ Some key = subst (λ (x : ClassFile). member_named method_in x index ≡ Some key) same (sym c.in-Some-method_name.ensures) in
    let signed_is : signature_of key.descriptor ≡ Some signature = sym (ap (option_and_then signed) n) ∙ sym (c.signature.ensures file h) ∙ ap (option_map (λ s. s.now)) c.in-Some-signature.is in
    let taken : args_taken signature.parameters f ≡ Some (c.in-Some-2.args, c.take_args.new.frame) =
    ap (λ kinds. args_taken kinds f) (sym c.parameters.ensures) ∙ sym c.in_ok-args.ensures ∙ ap (option_map (λ args. (args, c.take_args.new.frame))) c.in-Some-2.is in
    sym (special_call_other files (at_place place st) file (member_named method_in file index) key f c.take_args.new.frame c.pop.new.frame signature c.in-Some-2.args c.in-Some-pop.receiver n (sym c.if-names_object_init.ensures) signed_is taken c.in-Some-pop.ensures (sym c.if-not-has_kind.ensures))

pub returns : goal.returns
returns c = λ file h.
    let files = c.args.linked.now in
    let st = c.args.state.now in
    let f = st.current.frame in
    let index = c.args.index in
    let key = named c.in-Some-method_name.member in
    let signature = c.in-Some-signature.signature.now in
    let there : slice_get files st.current.file ≡ Some c.in-Some.file.now =
    sym (ap (λ (fs : List ClassFile). slice_get fs st.current.file) c.program.ensures) ∙ sym c.file.ensures.file ∙ ap (option_map (λ x. x.now)) c.in-Some.is in
    let same : c.in-Some.file.now ≡ file = same_Some c.in-Some.file.now file (sym there ∙ h) in
    let n : member_named method_in file index ≡ Some key = subst (λ (x : ClassFile). member_named method_in x index ≡ Some key) same (sym c.in-Some-method_name.ensures) in
    let signed_is : signature_of key.descriptor ≡ Some signature = sym (ap (option_and_then signed) n) ∙ sym (c.signature.ensures file h) ∙ ap (option_map (λ s. s.now)) c.in-Some-signature.is in
    let taken : args_taken signature.parameters f ≡ Some (c.in-Some-2.args, c.take_args.new.frame) =
    ap (λ kinds. args_taken kinds f) (sym c.parameters.ensures) ∙ sym c.in_ok-args.ensures ∙ ap (option_map (λ args. (args, c.take_args.new.frame))) c.in-Some-2.is in
    let all = c.in-Some-pop.receiver ∷ c.in-Some-2.args in
    let found = c.special_method-found.ensures file h st.heap all ∙ ap (option_and_then (special_of files file st.heap all)) n in
    IfOk-weaker c.pass.result
    (λ passed. (place : ℕ) → as_turn (at_place place st) passed c.pass.new.state ≡ turn.called (at_place place st) c.is_null.result c.pop.new.frame (option_and_then (turn.entry files false c.push_front.new.self) c.special_method-found.result))
    (λ passed. (place : ℕ) → as_turn (at_place place st) passed c.pass.new.state ≡ turn.turn files (at_place place st) (table.on_found (member_named method_in file index) (λ key. table.calls_special file key f)))
    (λ passed e place. e place ∙ sym (special_call files (at_place place st) file (member_named method_in file index) key f c.take_args.new.frame c.pop.new.frame signature c.in-Some-2.args c.push_front.new.self c.in-Some-pop.receiver c.is_null.result c.special_method-found.result
    n (sym c.if-names_object_init.ensures) signed_is taken c.in-Some-pop.ensures (sym c.if-not-has_kind.ensures) c.in_ok-push_front.ensures c.is_null.ensures found))
    c.pass.ensures
