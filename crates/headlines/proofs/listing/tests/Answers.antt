use Rattle.headlines.proofs.ListingSteps as steps
use Rattle.headlines.proofs.listing.tests.Goals as goal

pub returns : goal.returns
returns c = steps.tests
