use Rattle.base_change.proofs.GroupLemmas.{words_are_padded_groups}
use Rattle.base_change.proofs.laws.words_are_padded_groups.Goals as goal

pub returns : goal.returns
returns c = words_are_padded_groups
