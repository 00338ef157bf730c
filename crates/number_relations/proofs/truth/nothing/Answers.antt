use Rattle.std.proofs.Common.{sym, subst}
use Rattle.minimise.specs.Canonical.{IsCanonical}
use Rattle.minimise.proofs.NoWordLemmas.{IsCanonical-bare}
use Rattle.number_relations.proofs.truth.nothing.Goals as goal

pub of_canonical-requires-clause-canonical : goal.of_canonical-requires-clause-canonical
of_canonical-requires-clause-canonical c = subst IsCanonical (sym c.in_ok-dfa.ensures) (IsCanonical-bare c.in_ok-alphabet.alphabet)
