use Rattle.std.proofs.Common.{◌≡◌, ℕ, ◌+◌, ◌<◌, Option, Some, None, Bool, true, false, length, drop, refl, sym, ◌∙◌, ap, arith}
use Rattle.std.specs.Prelude.{◌&&◌, not, slice_get}
use Rattle.std.specs.Option.{option_copied, is_some, is_none}
use Rattle.std.specs.Borrow.{Bor}
use Rattle.jp_pred.specs.declared.ty.Ty.{Ty}
use Rattle.type_rules.specs.Types.{all_agree}
use Rattle.decl_rules.specs.Pairs.{agree_at}
use Rattle.decl_rules.specs.Signatures.{types_in}
use Rattle.decl_rules.proofs.Places.{next_pair, last_pair}
use Rattle.decl_rules.proofs.clashes.all_agree.Goals as goal

none_is : (o : Option (Bor Ty)) (r : Bool) → is_some o ≡ not r → r ≡ is_none (option_copied o)
none_is None true e = refl
none_is None false e = absurd cc
none_is (Some x) true e = absurd cc
none_is (Some x) false e = refl

pub returns-then-not-agree_at : goal.returns-then-not-agree_at
returns-then-not-agree_at c =
    let ts = types_in c.args.first.now in
    let us = types_in c.args.second.now in
    let i = c.loop-i.i in
    let within : i < length ts = omega arith in
    let one : false ≡ agree_at ts us i = sym c.if-not-agree_at.true ∙ c.agree_at.ensures in
    ap (λ b. b && all_agree (drop (i + 1) ts) (drop (i + 1) us)) one ∙ (next_pair ts us i within ∙ c.loop-i.invariant)

pub loop-i-preserved : goal.loop-i-preserved
loop-i-preserved c =
    let ts = types_in c.args.first.now in
    let us = types_in c.args.second.now in
    let i = c.loop-i.i in
    let within : i < length ts = omega arith in
    let one : true ≡ agree_at ts us i = sym c.if-not-agree_at.false ∙ c.agree_at.ensures in
    ap (λ b. b && all_agree (drop (i + 1) ts) (drop (i + 1) us)) one ∙ (next_pair ts us i within ∙ c.loop-i.invariant)

pub returns : goal.returns
returns c =
    let ts = types_in c.args.first.now in
    let us = types_in c.args.second.now in
    let i = c.loop-i.i in
    let end : i ≡ length ts = omega arith in
    let count : c.param_count-count.result ≡ i = omega arith in
    none_is c.param_type.result c.is_none.result c.is_none.ensures ∙ (ap is_none c.param_type.ensures
    ∙ (ap (λ (j : ℕ). is_none (slice_get us j)) count ∙ (last_pair ts us i end ∙ c.loop-i.invariant)))
