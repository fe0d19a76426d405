use Rattle.std.proofs.Common.{◌∷◌, sym, ◌∙◌, ap}
use Rattle.iface_codec.specs.declared.iface.Iface.{Iface}
use Rattle.std.proofs.Common.{List}
use Rattle.type_rules.specs.Lookups.{superclasses, method_among, interfaces_above}
use Rattle.type_heads.specs.Supertypes.{classes_at}
use Rattle.type_heads.proofs.Upwards.{method_by, first_of_two, second_of_two}
use Rattle.type_heads.proofs.methods.method_of.Goals as goal

pub returns-then-is_some : goal.returns-then-is_some
returns-then-is_some c =
    let heads = c.args.heads.now in
    first_of_two _ c.method_upwards-found.result _ (method_among c.args.own.now c.args.name.now c.args.count (interfaces_above heads (c.in-Some.class.now ∷ superclasses heads c.in-Some.class.now))) c.method_upwards-found.ensures (sym c.is_some.ensures ∙ c.if-is_some.true)
    ∙ sym (method_by c.args.own.now c.args.name.now c.args.class.now c.args.count heads c.in-Some.class.now (sym c.in-Some.ensures))

pub returns : goal.returns
returns c =
    let heads = c.args.heads.now in
    let among = λ (hs : List Iface). method_among c.args.own.now c.args.name.now c.args.count hs in
    let line = c.in-Some.class.now ∷ superclasses heads c.in-Some.class.now in
    c.method_among.ensures
    ∙ (ap (λ l. among (classes_at l)) c.as_slice-2.ensures.value
    ∙ (ap among c.in_ok-above.ensures
    ∙ (ap (λ l. among (interfaces_above heads (classes_at l))) c.as_slice.ensures.value
    ∙ (ap (λ l. among (interfaces_above heads l)) c.in_ok-line.ensures
    ∙ (second_of_two _ c.method_upwards-found.result _ (among (interfaces_above heads line)) c.method_upwards-found.ensures (sym c.is_some.ensures ∙ c.if-is_some.false)
    ∙ sym (method_by c.args.own.now c.args.name.now c.args.class.now c.args.count heads c.in-Some.class.now (sym c.in-Some.ensures)))))))
