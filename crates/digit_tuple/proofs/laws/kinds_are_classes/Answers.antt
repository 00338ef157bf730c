use Rattle.digit_tuple.proofs.WidthLemmas.{IsEquivalence-lead}
use Rattle.digit_tuple.proofs.laws.kinds_are_classes.Goals as goal

pub returns : goal.returns
returns c = IsEquivalence-lead
