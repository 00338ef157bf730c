use Rattle.digit_tuple.proofs.TupleLemmas.{one_tuple}
use Rattle.digit_tuple.proofs.laws.letters_determine_tuples.Goals as goal

pub returns : goal.returns
returns c = one_tuple
