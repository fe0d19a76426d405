use Rattle.std.proofs.Common.{List, [], ◌∷◌, ◌++◌, sym, subst}
use Rattle.jvm_load.specs.declared.tables.TableEntry.{TableEntry as Entry}
use Rattle.jvm_load.specs.Tables.{Key, key_of, key_cmp, key_text, first_with, IsTable, IsAt, IsGap}
use Rattle.jvm_load.proofs.Sorted.{kept, put}
use Rattle.jvm_load.proofs.tables.add_entry.Goals as goal

-- the entry is put into its gap
pub returns-in_ok-insert : goal.returns-in_ok-insert
returns-in_ok-insert c = λ entries t.
    let key = key_of c.args.listing c.args.files.now in
    let table = c.args.table.now.items in
    let at = c.in-Err.at in
    let g : IsGap key table (key c.args.entry) at
    = subst (λ (w : Key). IsGap key table w at) c.key_at-key.ensures (subst (λ (l : List Entry). IsGap key l (key_text c.key_at-key.result) at) c.as_slice.ensures.value c.in-Err.ensures.absent) in
    subst (λ (l : List Entry). IsTable key_cmp key (first_with key (entries ++ c.args.entry ∷ [])) l) (sym c.in_ok-insert.ensures.items) (put key entries table c.args.entry at t g)

-- there is one of its key
pub returns-in_default : goal.returns-in_default
returns-in_default c = λ entries t.
    let key = key_of c.args.listing c.args.files.now in
    let table = c.args.table.now.items in
    let at = c.in_default.field-0 in
    let a : IsAt key table (key c.args.entry) at
    = subst (λ (w : Key). IsAt key table w at) c.key_at-key.ensures (subst (λ (l : List Entry). IsAt key l (key_text c.key_at-key.result) at) c.as_slice.ensures.value c.in_default.ensures.found) in
    kept key entries c.args.entry table t at a
