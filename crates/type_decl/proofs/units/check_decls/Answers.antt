use Rattle.std.proofs.Common.{Some, take, refl, ap}
use Rattle.type_decl.specs.Limits.{decl_fits}
use Rattle.type_decl.proofs.Opens.{all_at}
use Rattle.type_decl.proofs.Declarations.{none_checked, one_more_checked, all_checked}
use Rattle.type_decl.proofs.units.check_decls.Goals as goal

pub loop-at-init : goal.loop-at-init
loop-at-init c = none_checked c.args.heads c.args.decls.now c.args.first.now.fault (Some c.new.result) (ap Some c.new.ensures)

pub check_decl-requires : goal.check_decl-requires
check_decl-requires c = all_at decl_fits c.args.decls.now c.loop-at.at c.index-decls-at.result c.loop-at-test.true c.index-decls-at.is c.requires

pub loop-at-preserved : goal.loop-at-preserved
loop-at-preserved c =
    one_more_checked c.args.heads c.loop-at.heads c.args.decls.now c.loop-at.at c.index-decls-at.result (take c.loop-at.at c.args.decls.now) c.args.first.now.fault c.loop-at.first.fault c.check_decl.new.first.fault
    c.loop-at.done c.in_ok-done.done c.in_ok-one.one c.loop-at-test.true c.index-decls-at.is refl c.loop-at.invariant c.in_ok-one.ensures c.in_ok-done.ensures

pub returns : goal.returns
returns c =
    all_checked c.args.heads c.loop-at.heads c.args.decls.now c.loop-at.at c.args.first.now.fault c.loop-at.first.fault c.loop-at.done c.loop-at-test.false c.loop-at.invariant
