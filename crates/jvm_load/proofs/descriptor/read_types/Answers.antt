use Rattle.std.proofs.Common.{◌≡◌, ◌+◌, ◌-◌, List, suc, zero, ◌∷◌, Some, None, length, sym, ap, ◌∙◌, arith, append-nil, eq-eqb}
use Rattle.std.proofs.lemmas.Bool.{ne_eqb}
use Rattle.jp_store.specs.declared.value.Kind.{Kind}
use Rattle.jvm_table.specs.Descriptors.{types_in, first_type}
use Rattle.jvm_load.specs.Texts.{joined}
use Rattle.jvm_load.proofs.Types.{ends_at_zero, ends_short, ends_closed, ends_wrong, one_more}
use Rattle.jvm_load.proofs.descriptor.read_types.Goals as goal

pub returns-in_default : goal.returns-in_default
returns-in_default c =
    let kinds = c.loop-i.kinds.items in
    let k = length c.args.text.now - c.loop-i._i in
    sym (ap (joined kinds) (ends_short k c.loop-i.rest.now c.in_default.ensures.cases)) ∙ c.loop-i.invariant

pub returns-then-c-eq41 : goal.returns-then-c-eq41
returns-then-c-eq41 c =
    let kinds = c.loop-i.kinds.items in
    let n = length c.args.text.now - (c.loop-i._i + 1) in
    let k : length c.args.text.now - c.loop-i._i ≡ suc n = omega arith in
    let b = c.in-Some.c.now in
    let more = c.in-Some.more.now in
    sym (ap (λ m. joined kinds (types_in m c.loop-i.rest.now)) k
    ∙ ap (λ t. joined kinds (types_in (suc n) t)) c.in-Some.ensures.cases.0
    ∙ ap (joined kinds) (ends_closed n b more (eq-eqb b 41 c.if-c-eq41.true))
    ∙ ap (λ (l : List Kind). Some (l, more)) (append-nil kinds)) ∙ c.loop-i.invariant

pub returns-in_default-first_type : goal.returns-in_default-first_type
returns-in_default-first_type c =
    let kinds = c.loop-i.kinds.items in
    let n = length c.args.text.now - (c.loop-i._i + 1) in
    let k : length c.args.text.now - c.loop-i._i ≡ suc n = omega arith in
    let b = c.in-Some.c.now in
    let more = c.in-Some.more.now in
    let e : first_type (b ∷ more) ≡ None = ap first_type (sym c.in-Some.ensures.cases.0) ∙ sym c.in_default-first_type.ensures in
    sym (ap (λ m. joined kinds (types_in m c.loop-i.rest.now)) k
    ∙ ap (λ t. joined kinds (types_in (suc n) t)) c.in-Some.ensures.cases.0
    ∙ ap (joined kinds) (ends_wrong n b more (ne_eqb b 41 c.if-c-eq41.false) e)) ∙ c.loop-i.invariant

pub loop-i-preserved : goal.loop-i-preserved
loop-i-preserved c =
    let kinds = c.loop-i.kinds.items in
    let n = length c.args.text.now - (c.loop-i._i + 1) in
    let k : length c.args.text.now - c.loop-i._i ≡ suc n = omega arith in
    let b = c.in-Some.c.now in
    let more = c.in-Some.more.now in
    let kind = c.in-Some-first_type.kind in
    let rest = c.in-Some-first_type.more.now in
    let e : first_type (b ∷ more) ≡ Some (kind, rest) = ap first_type (sym c.in-Some.ensures.cases.0) ∙ sym c.in-Some-first_type.ensures in
    ap (λ l. joined l (types_in n rest)) c.in_ok-push.ensures.items
    ∙ sym (ap (λ m. joined kinds (types_in m c.loop-i.rest.now)) k
    ∙ ap (λ t. joined kinds (types_in (suc n) t)) c.in-Some.ensures.cases.0
    ∙ one_more n b more kinds kind rest (ne_eqb b 41 c.if-c-eq41.false) e) ∙ c.loop-i.invariant

pub returns : goal.returns
returns c =
    let kinds = c.loop-i.kinds.items in
    let k : length c.args.text.now - c.loop-i._i ≡ zero = omega arith in
    sym (ap (λ m. joined kinds (types_in m c.loop-i.rest.now)) k ∙ ap (joined kinds) (ends_at_zero c.loop-i.rest.now)) ∙ c.loop-i.invariant
