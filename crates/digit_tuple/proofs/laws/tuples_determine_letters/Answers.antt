use Rattle.digit_tuple.proofs.TupleLemmas.{one_letter}
use Rattle.digit_tuple.proofs.laws.tuples_determine_letters.Goals as goal

pub returns : goal.returns
returns c = one_letter
