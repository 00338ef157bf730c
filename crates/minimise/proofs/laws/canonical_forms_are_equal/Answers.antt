use Rattle.minimise.proofs.CanonicalLemmas.{canonical_forms}
use Rattle.minimise.proofs.laws.canonical_forms_are_equal.Goals as goal

pub returns : goal.returns
returns c = canonical_forms
