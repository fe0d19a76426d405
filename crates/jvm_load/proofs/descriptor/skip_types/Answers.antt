use Rattle.std.proofs.Common.{◌≡◌, ◌+◌, ◌-◌, List, ℕ, suc, zero, ◌∷◌, Option, Some, None, length, sym, ap, ◌∙◌, arith, eq-eqb}
use Rattle.std.specs.Option.{option_map}
use Rattle.std.specs.Borrow.{Bor}
use Rattle.std.proofs.lemmas.Bool.{ne_eqb}
use Rattle.jvm_table.specs.Descriptors.{types_in, first_type}
use Rattle.jvm_load.specs.Texts.{text_behind}
use Rattle.jvm_load.proofs.Types.{ends_at_zero, ends_short, ends_closed, ends_wrong, skips_one}
use Rattle.jvm_load.proofs.descriptor.skip_types.Goals as goal

abbrev pointed : Option (Bor (List ℕ)) → Option (List ℕ)
pointed rest = option_map (λ r. r.now) rest

pub returns-in_err-c : goal.returns-in_err-c
returns-in_err-c c =
    let k = length c.args.text.now - c.loop-i._i in
    ap pointed c.from_residual.ensures ∙ sym (ap text_behind (ends_short k c.loop-i.rest.now c.in_err-c.ensures.cases)) ∙ c.loop-i.invariant

pub returns-then-c-eq41 : goal.returns-then-c-eq41
returns-then-c-eq41 c =
    let n = length c.args.text.now - (c.loop-i._i + 1) in
    let k : length c.args.text.now - c.loop-i._i ≡ suc n = omega arith in
    let b = c.in_ok-c.c.now in
    let more = c.in_ok-c.more.now in
    sym (ap (λ m. text_behind (types_in m c.loop-i.rest.now)) k
    ∙ ap (λ t. text_behind (types_in (suc n) t)) c.in_ok-c.ensures.cases.0
    ∙ ap text_behind (ends_closed n b more (eq-eqb b 41 c.if-c-eq41.true))) ∙ c.loop-i.invariant

pub returns-in_err-more : goal.returns-in_err-more
returns-in_err-more c =
    let n = length c.args.text.now - (c.loop-i._i + 1) in
    let k : length c.args.text.now - c.loop-i._i ≡ suc n = omega arith in
    let b = c.in_ok-c.c.now in
    let more = c.in_ok-c.more.now in
    let e : first_type (b ∷ more) ≡ None = ap first_type (sym c.in_ok-c.ensures.cases.0) ∙ sym c.in_err-more.ensures in
    ap pointed c.from_residual-in_err-more.ensures ∙ sym (ap (λ m. text_behind (types_in m c.loop-i.rest.now)) k
    ∙ ap (λ t. text_behind (types_in (suc n) t)) c.in_ok-c.ensures.cases.0
    ∙ ap text_behind (ends_wrong n b more (ne_eqb b 41 c.if-c-eq41.false) e)) ∙ c.loop-i.invariant

pub loop-i-preserved : goal.loop-i-preserved
loop-i-preserved c =
    let n = length c.args.text.now - (c.loop-i._i + 1) in
    let k : length c.args.text.now - c.loop-i._i ≡ suc n = omega arith in
    let b = c.in_ok-c.c.now in
    let more = c.in_ok-c.more.now in
    let kind = c.in_ok-more.field-0-0 in
    let rest = c.in_ok-more.more.now in
    let e : first_type (b ∷ more) ≡ Some (kind, rest) = ap first_type (sym c.in_ok-c.ensures.cases.0) ∙ sym c.in_ok-more.ensures in
    sym (ap (λ m. text_behind (types_in m c.loop-i.rest.now)) k
    ∙ ap (λ t. text_behind (types_in (suc n) t)) c.in_ok-c.ensures.cases.0
    ∙ skips_one n b more kind rest (ne_eqb b 41 c.if-c-eq41.false) e) ∙ c.loop-i.invariant

pub returns : goal.returns
returns c =
    let k : length c.args.text.now - c.loop-i._i ≡ zero = omega arith in
    sym (ap (λ m. text_behind (types_in m c.loop-i.rest.now)) k ∙ ap text_behind (ends_at_zero c.loop-i.rest.now)) ∙ c.loop-i.invariant
