use Rattle.listing_commands.proofs.ListingSoundness.{test_sound, inf_sound}
use Rattle.listing_commands.proofs.listing.one_outcome.Goals as goal

pub returns-clause-test : goal.returns-clause-test
returns-clause-test c = λ limit ledger text. (test_sound limit ledger text).single

pub returns-clause-inf : goal.returns-clause-inf
returns-clause-inf c = λ limit ledger text. (inf_sound limit ledger text).single
