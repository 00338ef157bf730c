use Rattle.std.proofs.Common.{◌++◌, reverse}
use Rattle.digit_tuple.specs.Deterministic.{accepts_of, letters_of}
use Rattle.digit_tuple.specs.Letters.{IsWord}
use Rattle.digit_tuple.proofs.WidthLemmas.{IsEquivalence-values, IsOneWidth-equivalence}
use Rattle.determinise.specs.Reversed.{SameReversedResidual}
use Rattle.determinise.proofs.laws.reversal_has_one_width.Goals as goal

pub returns : goal.returns
returns c d = IsOneWidth-equivalence (SameReversedResidual d) (letters_of d) (IsEquivalence-values (IsWord (letters_of d)) (λ w u. accepts_of d (reverse (w ++ u))))
