use Rattle.std.proofs.Common.{List, sym, subst}
use Rattle.std.specs.Borrow.{Bor}
use Rattle.jp_pred.specs.Names.{Word}
use Rattle.jp_pred.specs.Hierarchy.{parents}
use Rattle.jp_meaning.specs.Classes.{hier_in}
use Rattle.type_heads.specs.Supertypes.{words_at}
use Rattle.whole_classes.specs.Above.{IsJoined}
use Rattle.whole_classes.proofs.Reach.{joined_none, joined_flat}
use Rattle.whole_classes.proofs.above.go_up.Goals as goal

pub loop-name-init : goal.loop-name-init
loop-name-init c =
    let met = words_at c.args.met.now.items in
    record { met = joined_none met; fresh = subst (λ (l : List (Bor Word)). IsJoined met met (words_at l)) (sym c.new-fresh.ensures.items) (joined_none met) }

pub loop-name-preserved : goal.loop-name-preserved
loop-name-preserved c = record {
  met = joined_flat (parents (hier_in c.args.classes.now)) (words_at c.add_supertypes.new.met.items) (words_at c.loop-name.met.items) (words_at c.args.met.now.items) c.args.frontier.now c.loop-name.name-index c.name-item.result c.loop-name-test.true c.name-item.is
      c.loop-name.invariant.met c.in_ok-add_supertypes.ensures.met;
  fresh = c.in_ok-add_supertypes.ensures.fresh (words_at c.args.met.now.items) c.loop-name.invariant.fresh;
}
