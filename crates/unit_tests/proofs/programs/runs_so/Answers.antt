use Rattle.std.proofs.Common.{◌≡◌, ℕ, ◌<◌, ◌^◌, List, length, sym, subst, arith, rules}
use Rattle.jvm_load.specs.Loadable.{IsLoadable}
use Rattle.unit_tests.proofs.Loading.{loadable}
use Rattle.unit_tests.proofs.programs.runs_so.Goals as goal

pub load-requires : goal.load-requires
load-requires g c = subst IsLoadable (sym c.as_slice.ensures) (loadable c.in-Ok.built.files (search (arith, rules)) c.in-Ok.ensures.3.formed)
