use Rattle.listings.proofs.NextLemmas.{listings_are_over}
use Rattle.listings.proofs.laws.listings_are_over.Goals as goal

pub returns : goal.returns
returns c = listings_are_over
