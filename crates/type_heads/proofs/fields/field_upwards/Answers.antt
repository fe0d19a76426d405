use Rattle.std.proofs.Common.{◌≡◌, ◌-◌, ◌+◌, suc, zero, length, sym, ◌∙◌, arith}
use Rattle.type_heads.specs.Members.{own_field}
use Rattle.type_heads.proofs.Upwards.{here, top, onward, last, fields_walked}
use Rattle.type_heads.proofs.fields.field_upwards.Goals as goal

pub returns-then-is_some : goal.returns-then-is_some
returns-then-is_some c =
    let heads = c.args.heads.now in
    here (own_field c.args.name.now) (length heads - c.loop-i._i) heads c.loop-i.class.now _ c.own_field-found.result c.own_field-found.ensures (sym c.is_some.ensures ∙ c.if-is_some.true) ∙ (c.loop-i.invariant ∙ fields_walked c.args.name.now heads c.args.class.now c.requires)

pub returns-in_default : goal.returns-in_default
returns-in_default c =
    let heads = c.args.heads.now in
    top (own_field c.args.name.now) (length heads - c.loop-i._i) heads c.loop-i.class.now _ c.own_field-found.result c.own_field-found.ensures (sym c.is_some.ensures ∙ c.if-is_some.false) c.in_default.ensures ∙ (c.loop-i.invariant ∙ fields_walked c.args.name.now heads c.args.class.now c.requires)

pub loop-i-preserved : goal.loop-i-preserved
loop-i-preserved c =
    let heads = c.args.heads.now in
    let n = length heads - (c.loop-i._i + 1) in
    let k : length heads - c.loop-i._i ≡ suc n = omega arith in
    onward (own_field c.args.name.now) (length heads - c.loop-i._i) n heads c.loop-i.class.now c.in-Some.up.now _ c.own_field-found.result k c.own_field-found.ensures (sym c.is_some.ensures ∙ c.if-is_some.false) c.in-Some.ensures ∙ c.loop-i.invariant

pub returns : goal.returns
returns c =
    let heads = c.args.heads.now in
    let k : length heads - c.loop-i._i ≡ zero = omega arith in
    c.own_field.ensures ∙ (last (own_field c.args.name.now) (length heads - c.loop-i._i) heads c.loop-i.class.now k ∙ (c.loop-i.invariant ∙ fields_walked c.args.name.now heads c.args.class.now c.requires))
