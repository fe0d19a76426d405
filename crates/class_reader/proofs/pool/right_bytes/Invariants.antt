use Rattle.std.proofs.Common.{◌≡◌, ◌+◌, drop}
use Rattle.std.specs.List.{prefix_len}
use Rattle.class_form.specs.WellFormed.{is_text_byte}
use Rattle.class_reader.proofs.pool.right_bytes.Given as goal

-- the first byte that may not stand in a text is among those left
abbrev pub invariant-loop-byte : goal.invariant-loop-byte
invariant-loop-byte l = record {
  counted : l.count ≡ l.byte-index;
  left : prefix_len is_text_byte l.text ≡ l.count + prefix_len is_text_byte (drop l.byte-index l.text);
}
