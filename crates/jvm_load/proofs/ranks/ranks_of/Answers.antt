use Rattle.std.proofs.Common.{ℕ, ◌+◌, List, sym, ◌∙◌, subst, arith}
use Rattle.jvm_load.proofs.Counted.{ranks_none, rank_of_static, rank_of_other, ranks_all, RankedSoFar}
use Rattle.jvm_load.proofs.ranks.ranks_of.Goals as goal
use Rattle.jvm_load.proofs.ranks.ranks_of.Goals.{then-is_static_member+in_ok-push, else-is_static_member+in_ok-push-2}

pub loop-field-init : goal.loop-field-init
loop-field-init c = subst (λ (l : List ℕ). RankedSoFar c.args.fields.now 0 l 0 0) (sym c.new-ranks.ensures.items) (ranks_none c.args.fields.now)

pub overflow_add-statics : goal.overflow_add-statics
overflow_add-statics c = omega (arith, c.loop-field.invariant.few_statics, c.loop-field-test.true, c.requires)

pub overflow_add-others : goal.overflow_add-others
overflow_add-others c = omega (arith, c.loop-field.invariant.few_others, c.loop-field-test.true, c.requires)

pub loop-field-preserved : goal.loop-field-preserved
loop-field-preserved c =
    let fields = c.args.fields.now in
    let l = c.loop-field in
    let m = c.field-item.result in
    elim c.if-is_static_member.branch [
      | then-is_static_member+in_ok-push w ↦
          rw (w.ranks-is, w.statics-is, w.others-is) (subst (λ (o : List ℕ). RankedSoFar fields (l.field-index + 1) o (l.statics + 1) l.others) (sym w.in_ok-push.ensures.items)
          (rank_of_static fields l.field-index l.ranks.items m l.statics l.others c.loop-field-test.true c.field-item.is (sym c.is_static_member.ensures ∙ w.if-is_static_member.true) l.invariant))
      | else-is_static_member+in_ok-push-2 w ↦
          rw (w.ranks-is, w.statics-is, w.others-is) (subst (λ (o : List ℕ). RankedSoFar fields (l.field-index + 1) o l.statics (l.others + 1)) (sym w.in_ok-push-2.ensures.items)
          (rank_of_other fields l.field-index l.ranks.items m l.statics l.others c.loop-field-test.true c.field-item.is (sym c.is_static_member.ensures ∙ w.if-is_static_member.false) l.invariant))
    ]

pub returns : goal.returns
returns c = ranks_all c.args.fields.now c.loop-field.field-index c.loop-field.ranks.items c.loop-field.statics c.loop-field.others (omega (arith, c.loop-field-test.false, c.loop-field.auto.field-index-end)) c.loop-field.invariant
