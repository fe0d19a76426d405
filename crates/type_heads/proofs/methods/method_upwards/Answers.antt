use Rattle.std.proofs.Common.{◌≡◌, ◌-◌, ◌+◌, suc, zero, length, sym, ◌∙◌, arith}
use Rattle.type_heads.specs.Members.{own_method}
use Rattle.type_heads.proofs.Upwards.{here, top, onward, last, methods_walked}
use Rattle.type_heads.proofs.methods.method_upwards.Goals as goal

pub returns-then-is_some : goal.returns-then-is_some
returns-then-is_some c =
    let heads = c.args.heads.now in
    here (own_method c.args.own.now c.args.name.now c.args.count) (length heads - c.loop-i._i) heads c.loop-i.class.now _ c.own_method-found.result c.own_method-found.ensures (sym c.is_some.ensures ∙ c.if-is_some.true) ∙ (c.loop-i.invariant ∙ methods_walked c.args.own.now c.args.name.now c.args.count heads c.args.class.now c.requires)

pub returns-in_default : goal.returns-in_default
returns-in_default c =
    let heads = c.args.heads.now in
    top (own_method c.args.own.now c.args.name.now c.args.count) (length heads - c.loop-i._i) heads c.loop-i.class.now _ c.own_method-found.result c.own_method-found.ensures (sym c.is_some.ensures ∙ c.if-is_some.false) c.in_default.ensures ∙ (c.loop-i.invariant ∙ methods_walked c.args.own.now c.args.name.now c.args.count heads c.args.class.now c.requires)

pub loop-i-preserved : goal.loop-i-preserved
loop-i-preserved c =
    let heads = c.args.heads.now in
    let n = length heads - (c.loop-i._i + 1) in
    let k : length heads - c.loop-i._i ≡ suc n = omega arith in
    onward (own_method c.args.own.now c.args.name.now c.args.count) (length heads - c.loop-i._i) n heads c.loop-i.class.now c.in-Some.up.now _ c.own_method-found.result k c.own_method-found.ensures (sym c.is_some.ensures ∙ c.if-is_some.false) c.in-Some.ensures ∙ c.loop-i.invariant

pub returns : goal.returns
returns c =
    let heads = c.args.heads.now in
    let k : length heads - c.loop-i._i ≡ zero = omega arith in
    c.own_method.ensures ∙ (last (own_method c.args.own.now c.args.name.now c.args.count) (length heads - c.loop-i._i) heads c.loop-i.class.now k ∙ (c.loop-i.invariant ∙ methods_walked c.args.own.now c.args.name.now c.args.count heads c.args.class.now c.requires))
