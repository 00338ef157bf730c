use Rattle.headlines.proofs.ListingSteps as steps
use Rattle.headlines.proofs.listing.infinities.Goals as goal

pub returns : goal.returns
returns c = steps.infinities
