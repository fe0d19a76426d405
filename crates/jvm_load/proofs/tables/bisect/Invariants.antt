use Rattle.std.proofs.Common.{◌≡◌, ℕ, ◌-◌, ◌<◌, ◌≤◌, length, get_or, Less, Greater}
use Rattle.jvm_load.specs.declared.tables.TableEntry.{TableEntry as Entry}
use Rattle.jvm_load.specs.Tables.{key_of, key_cmp, key_text}
use Rattle.jvm_load.proofs.tables.bisect.Given as goal

-- what stands before the part that is left is less, and what stands behind it is greater
abbrev pub invariant-loop-low : goal.invariant-loop-low
invariant-loop-low l = record {
  order : l.low ≤ l.high;
  within : l.high ≤ length l.table;
  before : (j : ℕ) (d : Entry) → j < l.low → key_cmp (key_of l.listing l.files (get_or l.table j d)) (key_text l.key) ≡ Less;
  behind : (j : ℕ) (d : Entry) → l.high ≤ j → j < length l.table → key_cmp (key_of l.listing l.files (get_or l.table j d)) (key_text l.key) ≡ Greater;
}

abbrev pub decreases-loop-low : goal.decreases-loop-low
decreases-loop-low l = l.high - l.low
