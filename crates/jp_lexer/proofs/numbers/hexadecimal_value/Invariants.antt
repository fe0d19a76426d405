use Rattle.std.proofs.Common.{◌≡◌, ◌<◌, ◌^◌, take}
use Rattle.std.specs.Str.Parse.{AllDigits, digits_value}
use Rattle.jp_lexer.proofs.numbers.hexadecimal_value.Given as goal

abbrev pub invariant-loop-byte : goal.invariant-loop-byte
invariant-loop-byte l = record {
  each : AllDigits 16 (take l.byte-index l.digits);
  value : l.value ≡ digits_value 16 (take l.byte-index l.digits);
  bound : l.value < 16 ^ l.byte-index;
}
