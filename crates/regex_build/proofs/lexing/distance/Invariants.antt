-- The digits that are left, after the value so far, write the number of the whole.
use Rattle.std.proofs.Common.{◌≡◌, ◌≤◌, min, drop}
use Rattle.std.specs.List.{filter}
use Rattle.text_grammar.specs.Bytes.{is_digit}
use Rattle.text_grammar.specs.Numbers.{value_after, value_of}
use Rattle.regex_build.proofs.lexing.distance.Given as goal

abbrev pub invariant-loop-byte : goal.invariant-loop-byte
invariant-loop-byte l = record {
  value_is : min (value_after l.value (filter is_digit (drop l.byte-index l.bytes))) 4294967295 ≡ min (value_of (filter is_digit l.bytes)) 4294967295;
  low : l.value ≤ 4294967295;
}
