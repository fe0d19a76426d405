-- What reads back is read as the same unit.
use Rattle.std.proofs.Common.{◌≡◌, ℕ, List, Result, Ok, Err, refl, sym, ap, ◌∙◌}
use Rattle.std.specs.Prelude.{MatchResult}
use Rattle.jp_ast.specs.declared.decl.SourceUnit.{SourceUnit}
use Rattle.jp_print.specs.Places.{unplaced_unit}
use Rattle.jp_print.specs.ReadsBack.{ReadsBack}
use Rattle.jp_read.specs.declared.fault.ReadFault.{ReadFault}
use Rattle.jp_read.specs.declared.fault.ReadFault.TheVariants.{Lex, Parse, OutOfMemory}
use Rattle.jp_read.specs.Reads.{Reads, IsUnit}

is_unit : (text : List ℕ) (unit : SourceUnit) (r : ReadsBack text unit) → IsUnit text r.again
is_unit text unit r = record { tokens = r.tokens; lexed = r.lexed; parsed = r.parsed }

pub read_again : (text : List ℕ) (unit : SourceUnit) (result : Result SourceUnit ReadFault) → ReadsBack text unit → Reads text result →
    MatchResult result (λ again. unplaced_unit again ≡ unplaced_unit unit) (λ why. why ≡ OutOfMemory)
read_again text unit (Ok again) r reads = sym (ap unplaced_unit (reads.only r.again (is_unit text unit r))) ∙ r.same
read_again text unit (Err (Lex fault)) r reads = absurd (reads.no_unit r.again (is_unit text unit r))
read_again text unit (Err (Parse fault)) r reads = absurd (reads.no_unit r.again (is_unit text unit r))
read_again text unit (Err OutOfMemory) r reads = refl
