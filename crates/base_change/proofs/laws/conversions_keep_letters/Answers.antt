use Rattle.base_change.proofs.ConversionLemmas.{conversions_keep}
use Rattle.base_change.proofs.laws.conversions_keep_letters.Goals as goal

pub returns : goal.returns
returns c = conversions_keep c.rank_is_positional.ensures
