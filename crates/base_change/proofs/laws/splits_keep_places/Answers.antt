use Rattle.base_change.proofs.PlaceLemmas.{splits_keep}
use Rattle.base_change.proofs.laws.splits_keep_places.Goals as goal

pub returns : goal.returns
returns c = splits_keep
