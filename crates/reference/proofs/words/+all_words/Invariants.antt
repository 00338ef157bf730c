use Rattle.std.proofs.Common.{◌≡◌}
use Rattle.reference.proofs.WordSteps.{longer}
use Rattle.reference.proofs.words.+all_words.Given as goal

abbrev pub invariant-loop-letter : goal.invariant-loop-letter
invariant-loop-letter l = l.words.items ≡ longer l.letter l.shorter.items

abbrev pub decreases-all_words : goal.decreases-all_words
decreases-all_words l = l.length
