use Rattle.morph_words.specs.Uniform.{IsLeastOf}
use Rattle.fixed_points.specs.LeastLetters.{LacksBelow}
use Rattle.fixed_points.proofs.fixed_base.least_lacking.Given as goal

abbrev pub invariant-loop-letter : goal.invariant-loop-letter
invariant-loop-letter l = IsLeastOf (LacksBelow l.morphism l.letters l.letter-index) l.found
