use Rattle.std.proofs.Common.{◌≡◌, ◌++◌, take}
use Rattle.reference.specs.Words.{after_letter}
use Rattle.reference.proofs.words.push_after.Given as goal

abbrev pub invariant-loop-word : goal.invariant-loop-word
invariant-loop-word l = l.words.items ≡ l.initial.words.items ++ after_letter (take l.word-index l.shorter) l.letter
