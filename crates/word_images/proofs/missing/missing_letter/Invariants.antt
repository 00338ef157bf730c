use Rattle.std.proofs.Common.{ℕ, ◌<◌, get_or, pos}
use Rattle.morph_words.specs.Uniform.{HasRule}
use Rattle.word_images.proofs.missing.missing_letter.Given as goal

-- the letters so far have rules
abbrev pub invariant-loop-letter : goal.invariant-loop-letter
invariant-loop-letter l = (i : ℕ) → i < l.letter-index → HasRule l.morphism (get_or l.letter-items i (pos 0))
