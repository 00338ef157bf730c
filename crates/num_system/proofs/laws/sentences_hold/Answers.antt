use Rattle.num_system.proofs.LinkLemmas.{sentences}
use Rattle.num_system.proofs.laws.sentences_hold.Goals as goal

pub returns : goal.returns
returns c = sentences
