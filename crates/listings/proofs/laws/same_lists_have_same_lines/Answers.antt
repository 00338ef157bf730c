use Rattle.listings.proofs.NextLemmas.{same_lists_have_same_lines}
use Rattle.listings.proofs.laws.same_lists_have_same_lines.Goals as goal

pub returns : goal.returns
returns c = same_lists_have_same_lines
