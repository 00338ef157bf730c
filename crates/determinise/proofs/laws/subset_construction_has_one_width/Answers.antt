use Rattle.std.proofs.Common.{ℕ}
use Rattle.digit_tuple.specs.Automaton.{Path, letters_of}
use Rattle.digit_tuple.proofs.WidthLemmas.{IsEquivalence-facts, IsOneWidth-equivalence}
use Rattle.determinise.specs.Subsets.{Alike}
use Rattle.determinise.proofs.laws.subset_construction_has_one_width.Goals as goal

pub returns : goal.returns
returns c n = IsOneWidth-equivalence (Alike n) (letters_of n) (IsEquivalence-facts {X = ℕ} (Path n 0))
