use Rattle.std.proofs.Common.{◌≡◌, ℕ, List, Option, Result, refl, sym, ap, ◌∙◌}
use Rattle.std.specs.Prelude.{OnOk}
use Rattle.std.proofs.lemmas.Result.{on_ok_weaker}
use Rattle.std.specs.Io.KnownBytes.{append_known}
use Rattle.cli_text.specs.declared.ending.Ending.{Ending}
use Rattle.cli_text.specs.declared.ending.Ending.TheVariants.{ClassFault, OutputFault, OutOfMemory}
use Rattle.cli_text.specs.Lines.{line_of}
use Rattle.cli_text.proofs.Fronts.{class_fault_line}
use Rattle.cli_text.proofs.reporting.write_line.Goals as goal

-- what was written is the line of the ending
line_written : {T E : Type 0} (r : Result T E) (is ending : Ending) (main unit bytes : List ℕ) (old new : Option (List ℕ)) → ending ≡ is → bytes ≡ line_of is main unit → OnOk r (new ≡ append_known old bytes) → OnOk r (new ≡ append_known old (line_of ending main unit))
line_written r is ending main unit bytes old new e line written =
    on_ok_weaker r (λ w. w ∙ ap (append_known old) (line ∙ ap (λ (x : Ending). line_of x main unit) (sym e))) written

pub returns-in-ClassFault-clause-whole : goal.returns-in-ClassFault-clause-whole
returns-in-ClassFault-clause-whole g c =
    line_written _ ClassFault c.args.ending.now c.args.main.now c.args.unit.now _ _ _ c.in-ClassFault.is (class_fault_line c.args.main.now) c.write_parts-in-ClassFault.ensures.whole

pub returns-in-OutputFault-clause-whole : goal.returns-in-OutputFault-clause-whole
returns-in-OutputFault-clause-whole g c =
    line_written _ OutputFault c.args.ending.now c.args.main.now c.args.unit.now _ _ _ c.in-OutputFault.is refl c.write_all-in-OutputFault.ensures.whole

pub returns-in-OutOfMemory-clause-whole : goal.returns-in-OutOfMemory-clause-whole
returns-in-OutOfMemory-clause-whole g c =
    line_written _ OutOfMemory c.args.ending.now c.args.main.now c.args.unit.now _ _ _ c.in-OutOfMemory.is refl c.write_all-in-OutOfMemory.ensures.whole
