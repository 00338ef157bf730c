use Rattle.definitions.proofs.SameMeanings.{bindings_matter}
use Rattle.definitions.proofs.laws.bindings_matter_by_meaning.Goals as goal

pub returns : goal.returns
returns c = bindings_matter
