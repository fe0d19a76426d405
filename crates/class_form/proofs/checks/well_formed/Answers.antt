use Rattle.class_form.proofs.Facts.{test_is}
use Rattle.class_form.proofs.checks.well_formed.Goals as goal

pub returns : goal.returns
returns c = rw c.all_fits.ensures (test_is c.args.file.now)
