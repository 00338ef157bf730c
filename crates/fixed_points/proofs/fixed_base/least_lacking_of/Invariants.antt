use Rattle.morph_words.specs.Uniform.{IsLeastOf}
use Rattle.fixed_points.specs.LeastLetters.{LacksAmong}
use Rattle.fixed_points.proofs.fixed_base.least_lacking_of.Given as goal

abbrev pub invariant-loop-letter : goal.invariant-loop-letter
invariant-loop-letter l = IsLeastOf (LacksAmong l.morphism l.word l.letter-index) l.found
