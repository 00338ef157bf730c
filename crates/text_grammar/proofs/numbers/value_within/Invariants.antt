use Rattle.std.proofs.Common.{◌≡◌, ◌≤◌, drop}
use Rattle.text_grammar.specs.Numbers.{value_after, value_of}
use Rattle.text_grammar.proofs.numbers.value_within.Given as goal

-- the digits that are left, after the number so far, denote the number
abbrev pub invariant-loop-digit : goal.invariant-loop-digit
invariant-loop-digit l = record {
  value_is : value_after l.value (drop l.digit-index l.digits) ≡ value_of l.digits;
  low : l.value ≤ l.fn.most;
}
