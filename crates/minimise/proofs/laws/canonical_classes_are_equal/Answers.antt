use Rattle.minimise.proofs.ClassFormLemmas.{canonical_classes_are_equal}
use Rattle.minimise.proofs.laws.canonical_classes_are_equal.Goals as goal

pub returns : goal.returns
returns c = canonical_classes_are_equal
