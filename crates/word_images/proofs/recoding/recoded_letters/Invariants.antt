use Rattle.std.proofs.Common.{◌≡◌}
use Rattle.word_images.specs.RecodedLetters.{first_recoded}
use Rattle.word_images.proofs.recoding.recoded_letters.Given as goal

-- the letters of the states so far
abbrev pub invariant-loop-state : goal.invariant-loop-state
invariant-loop-state l = l.letters.items ≡ first_recoded l.morphism l.place l.function l.state
