use Rattle.std.proofs.Common.{subst}
use Rattle.std.specs.Prelude.{ℕ, List}
use Rattle.jp_read.specs.Reads.{Reads}
use Rattle.syntax_laws.proofs.Again.{read_again}
use Rattle.syntax_laws.proofs.round_trip.printed_and_read.Goals as goal

pub returns-in-Ok : goal.returns-in-Ok
returns-in-Ok c =
    let reads : Reads c.in-Ok.text.items c.read.result = subst (λ (x : List ℕ). Reads x c.read.result) c.deref.ensures.value c.read.ensures in
    read_again c.in-Ok.text.items c.args.unit.now c.read.result (c.in-Ok.ensures.reads_back c.requires) reads
