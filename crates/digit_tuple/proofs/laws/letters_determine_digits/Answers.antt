use Rattle.digit_tuple.proofs.LetterLemmas.{code_of-injective}
use Rattle.digit_tuple.proofs.laws.letters_determine_digits.Goals as goal

pub returns : goal.returns
returns c = code_of-injective
