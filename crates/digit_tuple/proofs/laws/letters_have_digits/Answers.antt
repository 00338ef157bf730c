use Rattle.digit_tuple.proofs.LetterLemmas.{digits_from_letter}
use Rattle.digit_tuple.proofs.laws.letters_have_digits.Goals as goal

pub returns : goal.returns
returns c = digits_from_letter
