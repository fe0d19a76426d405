use Rattle.std.proofs.Common.{List, take, sym, subst}
use Rattle.std.proofs.lemmas.List.{take_more}
use Rattle.jvm_load.specs.declared.tables.TableEntry.{TableEntry as Entry}
use Rattle.jvm_load.specs.Tables.{key_of, key_cmp, first_with, IsTable}
use Rattle.jvm_load.proofs.tables.sort_entries.Goals as goal

pub loop-entry-preserved : goal.loop-entry-preserved
loop-entry-preserved c =
    let key = key_of c.args.listing c.args.files.now in
    let entries = c.args.entries.now in
    let i = c.loop-entry.entry-index in
    subst (λ (l : List Entry). IsTable key_cmp key (first_with key l) c.add_entry.new.table.items) (sym (take_more entries i (record { file = 0; member = 0 }) c.loop-entry-test.true))
    (c.in_ok-add_entry.ensures (take i entries) c.loop-entry.invariant)
