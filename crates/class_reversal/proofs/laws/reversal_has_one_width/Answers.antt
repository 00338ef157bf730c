use Rattle.std.proofs.Common.{◌++◌, reverse}
use Rattle.digit_tuple.specs.Deterministic.{letters_of}
use Rattle.digit_tuple.specs.Letters.{IsWord}
use Rattle.digit_tuple.proofs.WidthLemmas.{IsEquivalence-values, IsOneWidth-equivalence}
use Rattle.residual_classes.specs.ClassFunctions.{class_after}
use Rattle.class_reversal.specs.ReversedClasses.{SameReversedClassAfter}
use Rattle.class_reversal.proofs.laws.reversal_has_one_width.Goals as goal

pub returns : goal.returns
returns c d classes = IsOneWidth-equivalence (SameReversedClassAfter d classes) (letters_of d) (IsEquivalence-values (IsWord (letters_of d)) (λ w u. class_after d classes (reverse (w ++ u))))
