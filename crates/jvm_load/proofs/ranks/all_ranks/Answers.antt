use Rattle.std.proofs.Common.{◌+◌, List, ℕ, sym, subst, arith}
use Rattle.class_form.specs.declared.member.MemberInfo.{MemberInfo}
use Rattle.jvm_load.specs.Places.{IsRanked, AreRanked}
use Rattle.jvm_load.proofs.Counted.{ranked_none, ranked_more}
use Rattle.jvm_load.proofs.ranks.all_ranks.Goals as goal

pub loop-file-init : goal.loop-file-init
loop-file-init c = subst (λ (l : List (List ℕ)). AreRanked c.args.files.now 0 l) (sym c.new-ranks.ensures.items) (ranked_none c.args.files.now)

pub loop-file-preserved : goal.loop-file-preserved
loop-file-preserved c =
    let files = c.args.files.now in
    let l = c.loop-file in
    let file = c.file-item.result in
    let fields : IsRanked file.fields c.in_ok-ranks_of.field-0.items = subst (λ (ms : List MemberInfo). IsRanked ms c.in_ok-ranks_of.field-0.items) c.as_slice.ensures c.in_ok-ranks_of.ensures in
    subst (λ (o : List (List ℕ)). AreRanked files (l.file-index + 1) o) (sym c.in_ok-push.ensures.items)
    (ranked_more files l.file-index l.ranks.items file c.new.result c.loop-file-test.true c.file-item.is l.invariant
    (subst (λ (r : List ℕ). IsRanked file.fields r) (sym c.new.ensures) fields))

pub returns : goal.returns
returns c =
    let l = c.loop-file in
    subst (λ n. AreRanked c.args.files.now n l.ranks.items) (omega (arith, c.loop-file-test.false, l.auto.file-index-end)) l.invariant
