use Rattle.listings.proofs.OneListing.{listings_are_one}
use Rattle.listings.proofs.laws.listings_are_one.Goals as goal

pub returns : goal.returns
returns c = listings_are_one
