use Rattle.morph_words.proofs.UniformLemmas.{lengths_or_not, one_lengths}
use Rattle.morph_words.proofs.laws.morphisms_have_one_length.Goals as goal

pub returns-clause-some : goal.returns-clause-some
returns-clause-some c = lengths_or_not

pub returns-clause-one : goal.returns-clause-one
returns-clause-one c = one_lengths
