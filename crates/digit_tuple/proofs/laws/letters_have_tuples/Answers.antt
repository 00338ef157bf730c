use Rattle.digit_tuple.proofs.TupleLemmas.{tuple_from_letter}
use Rattle.digit_tuple.proofs.laws.letters_have_tuples.Goals as goal

pub returns : goal.returns
returns c = tuple_from_letter
