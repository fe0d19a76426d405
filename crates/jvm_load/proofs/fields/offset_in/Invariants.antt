use Rattle.std.proofs.Common.{◌≡◌, ◌+◌, ◌*◌, ◌≤◌, length, reverse}
use Rattle.std.specs.Option.{option_map}
use Rattle.jp_store.specs.Classes.{offset_in}
use Rattle.jvm_load.specs.FileClasses.{classes_of}
use Rattle.jvm_load.proofs.fields.offset_in.Given as goal

-- the values of the classes that were passed, and the offset from there on
abbrev pub invariant-loop-at : goal.invariant-loop-at
invariant-loop-at l = record {
  sum : option_map (λ n. l.before + n) (offset_in (classes_of l.files) l.class (reverse l.rest)) ≡ offset_in (classes_of l.files) l.class (reverse l.line);
  most : l.before + length l.rest * 4294967295 ≤ length l.line * 4294967295;
}

abbrev pub decreases-loop-at : goal.decreases-loop-at
decreases-loop-at l = length l.rest
