use Rattle.std.proofs.Common.{◌≡◌, ◌+◌, List, sym, subst}
use Rattle.jvm_link.specs.declared.constant.Constant.{Constant}
use Rattle.jvm_link.proofs.Filled.{AreFirst, first_none, first_more, first_all}
use Rattle.jvm_link.proofs.linked.constants_of.Goals as goal

pub loop-index-preserved : goal.loop-index-preserved
loop-index-preserved c =
    let files = c.args.program.now in
    let file = c.args.file.now in
    let l = c.loop-index in
    let found = c.in_ok-constant_at in
    subst (λ (constants : List Constant). AreFirst files file (l.index + 1) constants) (sym c.in_ok-push.ensures.items)
    (first_more files file l.index l.constants.items found.field-0 l.invariant found.ensures.constant found.ensures.within)
