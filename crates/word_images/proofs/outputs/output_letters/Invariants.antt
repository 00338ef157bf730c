use Rattle.std.proofs.Common.{◌≡◌, take}
use Rattle.morph_words.specs.Images.{applied}
use Rattle.word_images.proofs.outputs.output_letters.Given as goal

-- the images of the letters so far
abbrev pub invariant-loop-letter : goal.invariant-loop-letter
invariant-loop-letter l = l.found.items ≡ applied l.morphism (take l.letter-index l.letter-items)
