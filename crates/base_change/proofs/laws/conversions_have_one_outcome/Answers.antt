use Rattle.base_change.proofs.OneConversions.{conversions_one}
use Rattle.base_change.proofs.laws.conversions_have_one_outcome.Goals as goal

pub returns : goal.returns
returns c = conversions_one c.letter_reversals_have_one_outcome.ensures
