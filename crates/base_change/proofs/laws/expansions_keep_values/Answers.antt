use Rattle.base_change.proofs.DigitLemmas.{expansions_keep_values}
use Rattle.base_change.proofs.laws.expansions_keep_values.Goals as goal

pub returns : goal.returns
returns c = expansions_keep_values
