-- The calls of programs that fit.
use Rattle.jp_meaning.specs.Run.{Program}
use Rattle.whole_program.specs.Fits.{EachCallFits}
use Rattle.calls_fit.specs.Fitting.{ProgramFits}

abbrev pub CallsOfFittingPrograms : Type 0
CallsOfFittingPrograms = (p : Program) → ProgramFits p → EachCallFits p
