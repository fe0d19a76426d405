use Rattle.std.proofs.Common.{refl, sym, ◌∙◌, arith}
use Rattle.whole_classes.proofs.Wholeness.{there_at, lacking, is_whole, whole_more, all_whole, not_whole}
use Rattle.whole_classes.proofs.whole.first_without_body.Goals as goal

pub loop-at-preserved : goal.loop-at-preserved
loop-at-preserved c =
    let classes = c.args.classes.now in
    let class = c.index-classes-at.result in
    whole_more classes c.loop-at.at class (there_at classes c.loop-at.at class c.loop-at-test.true c.index-classes-at.is) (is_whole classes class (sym c.in_ok-lacks.ensures ∙ c.if-lacks.false)) c.loop-at.invariant

pub returns-then-lacks-clause-whole : goal.returns-then-lacks-clause-whole
returns-then-lacks-clause-whole c =
    let classes = c.args.classes.now in
    let class = c.index-classes-at.result in
    let is_there = there_at classes c.loop-at.at class c.loop-at-test.true c.index-classes-at.is in
    ((λ e. absurd cc), (λ all. absurd (not_whole classes c.loop-at.at class is_there (sym c.in_ok-lacks.ensures ∙ c.if-lacks.true) all)))

pub returns-then-lacks-clause-first : goal.returns-then-lacks-clause-first
returns-then-lacks-clause-first c =
    let classes = c.args.classes.now in
    let class = c.index-classes-at.result in
    record {
      class = class;
      is_there = there_at classes c.loop-at.at class c.loop-at-test.true c.index-classes-at.is;
      lacks = lacking classes class (sym c.in_ok-lacks.ensures ∙ c.if-lacks.true);
      before = c.loop-at.invariant;
    }

pub returns-clause-whole : goal.returns-clause-whole
returns-clause-whole c = ((λ e. all_whole c.args.classes.now c.loop-at.at (omega arith) c.loop-at.invariant), (λ all. refl))
