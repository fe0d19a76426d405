use Rattle.std.proofs.Common.{rules}
use Rattle.std.specs.Ordering.{is_lt}
use Rattle.std.proofs.lemmas.Fn.{always_returns_same}
use Rattle.jvm_load.specs.declared.tables.TableEntry.{TableEntry as Entry}
use Rattle.jvm_load.specs.Tables.{key_of, key_cmp}
use Rattle.jvm_load.proofs.Stable.{order, same_first}
use Rattle.jvm_load.proofs.tables.order_entries.Goals as goal

-- the closure compares by keys, and the sort is stable
pub returns : goal.returns
returns c = λ wanted.
    let key = key_of c.args.listing c.args.files.now in
    let lt = λ (x y : Entry). is_lt (key_cmp (key x) (key y)) in
    same_first key c.args.entries.now.items c.sort_by.new.self.items
    (λ x. c.sort_by.ensures.stable lt (order key) (always_returns_same _ _ _ (λ a r g called. search rules)) x) wanted
