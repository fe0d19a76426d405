use Rattle.std.proofs.Common.{◌≡◌, List, sym, ap, subst, ◌∙◌}
use Rattle.jvm_load.specs.declared.tables.TableEntry.{TableEntry as Entry}
use Rattle.jvm_load.specs.Tables.{Key, key_of, key_cmp, first_entry, first_with, IsTable}
use Rattle.jvm_load.proofs.Sorted.{alike}
use Rattle.jvm_load.proofs.Found.{in_line}
use Rattle.jvm_load.proofs.tables.table_of.Goals as goal

pub returns : goal.returns
returns c =
    let listing = c.args.listing in
    let files = c.args.files.now in
    let key = key_of listing files in
    let line = c.args.line.now in
    let items = c.in_ok-sort_entries.field-0.items in
    let ordered = c.as_slice.result.now in
    let same : (wanted : Key) → first_with key ordered wanted ≡ first_entry listing files line wanted
    = λ wanted.
    ap (λ (l : List Entry). first_with key l wanted) c.as_slice.ensures.value ∙ c.in_ok-order_entries.ensures wanted
    ∙ ap (λ (l : List Entry). first_with key l wanted) c.in_ok-entries.ensures ∙ in_line listing files line wanted in
    subst (λ (l : List Entry). IsTable key_cmp key (first_entry listing files line) l) (sym c.new.ensures)
    (alike key (first_with key ordered) items c.in_ok-sort_entries.ensures (first_entry listing files line) same)
