use Rattle.digit_tuple.specs.Keys.{LeadAlike}
use Rattle.digit_tuple.proofs.WidthLemmas.{IsOneWidth-equivalence, IsEquivalence-lead}
use Rattle.digit_tuple.proofs.laws.exploration_has_one_width.Goals as goal

pub returns : goal.returns
returns c after start letters = IsOneWidth-equivalence (LeadAlike after start) letters (IsEquivalence-lead after start)
