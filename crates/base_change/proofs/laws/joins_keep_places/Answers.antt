use Rattle.base_change.proofs.PlaceLemmas.{joins_keep}
use Rattle.base_change.proofs.laws.joins_keep_places.Goals as goal

pub returns : goal.returns
returns c = joins_keep
