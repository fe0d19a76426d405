use Rattle.std.proofs.Common.{◌≡◌, ◌+◌, ◌-◌, ◌/◌, ◌<◌, length, get_or, Less, Greater, sym, ap, ◌∙◌, arith}
use Rattle.std.proofs.lemmas.List.{get_or_default}
use Rattle.jvm_load.specs.declared.tables.TableEntry.{TableEntry as Entry}
use Rattle.jvm_load.specs.Tables.{Key, key_of, key_cmp, key_text}
use Rattle.jvm_load.proofs.Sorted.{less_before, greater_behind}
use Rattle.jvm_load.proofs.tables.bisect.Goals as goal

pub loop-low-preserved-in-Less : goal.loop-low-preserved-in-Less
loop-low-preserved-in-Less c =
    let key = key_of c.args.listing c.args.files.now in
    let table = c.args.table.now in
    let wanted = key_text c.args.key in
    let m = c.loop-low.low + (c.loop-low.high - c.loop-low.low) / 2 in
    let within : m < length table = omega (arith, c.loop-low-test.true, c.loop-low.invariant.within) in
    let less : (d : Entry) → key_cmp (key (get_or table m d)) wanted ≡ Less
    = λ d. ap (λ (k : Key). key_cmp k wanted) (ap key (get_or_default table m d (record { file = 0; member = 0 }) within) ∙ sym c.key_at.ensures) ∙ sym c.compare_keys.ensures ∙ c.in-Less.is in
    record {
      order = omega (arith, c.loop-low-test.true);
      within = c.loop-low.invariant.within;
      before = less_before key table wanted c.requires m within less;
      behind = c.loop-low.invariant.behind;
    }

pub loop-low-preserved : goal.loop-low-preserved
loop-low-preserved c =
    let key = key_of c.args.listing c.args.files.now in
    let table = c.args.table.now in
    let wanted = key_text c.args.key in
    let m = c.loop-low.low + (c.loop-low.high - c.loop-low.low) / 2 in
    let within : m < length table = omega (arith, c.loop-low-test.true, c.loop-low.invariant.within) in
    let greater : (d : Entry) → key_cmp (key (get_or table m d)) wanted ≡ Greater
    = λ d. ap (λ (k : Key). key_cmp k wanted) (ap key (get_or_default table m d (record { file = 0; member = 0 }) within) ∙ sym c.key_at.ensures) ∙ sym c.compare_keys.ensures ∙ c.in-Greater.is in
    record {
      order = omega (arith, c.loop-low-test.true);
      within = omega (arith, within);
      before = c.loop-low.invariant.before;
      behind = greater_behind key table wanted c.requires m within greater;
    }
