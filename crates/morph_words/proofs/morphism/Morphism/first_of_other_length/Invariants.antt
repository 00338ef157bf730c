use Rattle.std.proofs.Common.{◌≡◌}
use Rattle.morph_words.specs.FirstOther.{first_other}
use Rattle.morph_words.proofs.morphism.Morphism.first_of_other_length.Given as goal

-- the first rule of another length is one of those that are left
abbrev pub invariant-loop-letter : goal.invariant-loop-letter
invariant-loop-letter l = first_other l.length l.letter-iterator ≡ first_other l.length l.initial.letter-iterator
