use Rattle.std.proofs.Common.{◌≡◌, ℕ, ◌+◌, ◌<◌, List, length, get_or, sym, ap, subst, ◌∙◌, arith}
use Rattle.jp_store.specs.Classes.{line}
use Rattle.jvm_load.specs.FileClasses.{classes_of}
use Rattle.jvm_load.specs.declared.tables.TableEntry.{TableEntry as Entry}
use Rattle.jvm_load.specs.Tables.{key_of, key_cmp, first_entry, found_above, IsTable, AreTables}
use Rattle.jvm_load.proofs.LineLemmas.{line_in, lines_count}
use Rattle.jvm_load.proofs.Growth.{tables_more}
use Rattle.jvm_load.proofs.tables.all_tables.Goals as goal

pub loop-line-preserved : goal.loop-line-preserved
loop-line-preserved c =
    let listing = c.args.listing in
    let files = c.args.files.now in
    let classes = classes_of files in
    let n = length files in
    let i = c.loop-line.line-index in
    let count = lines_count classes n in
    let same = ap length c.requires.lines in
    let within : i < n = omega (arith, count, same, c.loop-line-test.true) in
    let up : c.as_slice.result.now ≡ line classes i
    = c.as_slice.ensures ∙ c.line-item.is ∙ ap (λ l. get_or l i c.line-item.result) c.requires.lines ∙ line_in classes n i c.line-item.result within in
    let t : IsTable key_cmp (key_of listing files) (found_above listing files i) c.in_ok-table_of.field-0
    = subst (λ (l : List ℕ). IsTable key_cmp (key_of listing files) (first_entry listing files l) c.in_ok-table_of.field-0) up c.in_ok-table_of.ensures in
    subst (λ (l : List (List Entry)). AreTables listing files (i + 1) l) (sym c.in_ok-push.ensures.items)
    (tables_more listing files i c.loop-line.tables.items c.in_ok-table_of.field-0 c.loop-line.invariant t)

pub returns : goal.returns
returns c =
    let files = c.args.files.now in
    let count = lines_count (classes_of files) (length files) in
    let same = ap length c.requires.lines in
    let all : c.loop-line.line-index ≡ length files = omega (arith, count, same, c.loop-line-test.false, c.loop-line.auto.line-index-end) in
    subst (λ (n : ℕ). AreTables c.args.listing files n c.loop-line.tables.items) all c.loop-line.invariant
