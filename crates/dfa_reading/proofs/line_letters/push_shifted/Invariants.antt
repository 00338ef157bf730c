use Rattle.std.proofs.Common.{◌≡◌, ◌++◌, take}
use Rattle.dfa_reading.specs.LineLetters.{shifted}
use Rattle.dfa_reading.proofs.line_letters.push_shifted.Given as goal

abbrev pub invariant-loop-letter : goal.invariant-loop-letter
invariant-loop-letter l = l.out.items ≡ l.initial.out.items ++ shifted l.by (take l.letter-index l.letters)
