use Rattle.std.proofs.Common.{ℕ, List, sym, ◌∙◌, subst}
use Rattle.jp_store.specs.Classes.{supers_of}
use Rattle.jvm_load.specs.FileClasses.{classes_of}
use Rattle.jvm_load.specs.Above.{IsJoined}
use Rattle.jvm_load.proofs.Reach.{joined_none, joined_flat}
use Rattle.jvm_load.proofs.above.go_up.Goals as goal

pub loop-at-init : goal.loop-at-init
loop-at-init c =
    let met = c.args.met.now.items in
    record { met = joined_none met; fresh = subst (λ (l : List ℕ). IsJoined met met l) (sym c.new-fresh.ensures.items) (joined_none met) }

pub loop-at-preserved : goal.loop-at-preserved
loop-at-preserved c = record {
  met = joined_flat (supers_of (classes_of c.args.files.now)) c.add_all.new.met.items c.loop-at.met.items c.args.met.now.items c.args.frontier.now c.loop-at.at-index c.loop-at-test.true c.loop-at.invariant.met
      (subst (λ (l : List ℕ). IsJoined c.add_all.new.met.items c.loop-at.met.items l) (c.as_slice.ensures.value ∙ c.in_ok-supers.ensures) c.in_ok-add_all.ensures.met);
  fresh = c.in_ok-add_all.ensures.fresh c.args.met.now.items c.loop-at.invariant.fresh;
}
