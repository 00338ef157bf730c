use Rattle.std.proofs.Common.{◌≡◌, ◌≤◌, length, take}
use Rattle.word_output.proofs.StateLetterLemmas.{letters_there}
use Rattle.word_output.proofs.state_letters.distinct_letters.Given as goal

abbrev pub invariant-loop-state : goal.invariant-loop-state
invariant-loop-state l = record { items : l.found.items ≡ letters_there (take l.state-index l.letters); few : length l.found.items ≤ l.state-index }
