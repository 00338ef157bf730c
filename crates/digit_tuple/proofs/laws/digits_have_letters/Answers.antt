use Rattle.digit_tuple.proofs.LetterLemmas.{code_of-below}
use Rattle.digit_tuple.proofs.laws.digits_have_letters.Goals as goal

pub returns : goal.returns
returns c = code_of-below
