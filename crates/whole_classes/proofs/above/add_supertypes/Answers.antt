use Rattle.std.proofs.Common.{List, sym, subst, ◌++◌, ◌∙◌, ap}
use Rattle.jp_pred.specs.Names.{Word}
use Rattle.jp_pred.specs.Hierarchy.{or_none}
use Rattle.type_heads.specs.Supertypes.{words_at}
use Rattle.whole_classes.specs.Above.{IsJoined}
use Rattle.whole_classes.proofs.Reach.{joined_none, joined_more, parents_of, no_parents}
use Rattle.whole_classes.proofs.above.add_supertypes.Goals as goal

pub returns-in_default-clause-met : goal.returns-in_default-clause-met
returns-in_default-clause-met c =
    let met = words_at c.args.met.now.items in
    subst (λ (l : List Word). IsJoined met met l) (sym (no_parents c.args.classes.now c.args.name.now (sym c.in_default.ensures))) (joined_none met)

pub returns-clause-met : goal.returns-clause-met
returns-clause-met c =
    let class = c.in-Some.class.now in
    let old = words_at c.args.met.now.items in
    let between = words_at c.add_superclass.new.met.items in
    let new = words_at c.add_names.new.met.items in
    subst (λ (l : List Word). IsJoined new old l)
    (ap (λ (l : List Word). or_none class.head.superclass ++ l) c.as_slice.ensures ∙ sym (parents_of c.args.classes.now c.args.name.now class (sym c.in-Some.ensures)))
    (joined_more new between old (or_none class.head.superclass) c.as_slice.result.now c.in_ok-add_superclass.ensures.met c.in_ok-add_names.ensures.met)

pub returns-clause-fresh : goal.returns-clause-fresh
returns-clause-fresh c = λ base j. c.in_ok-add_names.ensures.fresh base (c.in_ok-add_superclass.ensures.fresh base j)
