use Rattle.table_listings.proofs.OneAnswer.{equal_lists}
use Rattle.table_listings.proofs.laws.equal_lists_have_one_answer.Goals as goal

pub returns : goal.returns
returns c = equal_lists
