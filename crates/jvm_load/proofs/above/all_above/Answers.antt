use Rattle.std.proofs.Common.{ℕ, ◌+◌, List, sym, ◌∙◌, subst}
use Rattle.jvm_load.specs.FileClasses.{classes_of}
use Rattle.jvm_load.specs.Above.{AreAbove}
use Rattle.jvm_load.proofs.Reach.{above_none, above_more}
use Rattle.jvm_load.proofs.above.all_above.Goals as goal

pub loop-at-init : goal.loop-at-init
loop-at-init c =
    let classes = classes_of c.args.files.now in
    subst (λ (l : List (List ℕ)). AreAbove classes 0 l) (sym c.new-lists.ensures.items) (above_none classes)

pub loop-at-preserved : goal.loop-at-preserved
loop-at-preserved c =
    let classes = classes_of c.args.files.now in
    let lists = c.loop-at.lists.items in
    subst (λ (l : List (List ℕ)). AreAbove classes (c.loop-at.at + 1) l) (sym c.in_ok-push.ensures.items)
    (above_more classes c.loop-at.at lists c.new.result c.loop-at.invariant (λ up. c.new.ensures up ∙ c.in_ok-find_above.ensures up))
