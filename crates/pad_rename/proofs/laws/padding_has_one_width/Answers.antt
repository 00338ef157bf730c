use Rattle.digit_tuple.specs.Deterministic.{letters_of}
use Rattle.digit_tuple.proofs.WidthLemmas.{IsOneWidth-equivalence}
use Rattle.pad_rename.specs.Padding.{PaddedAlike}
use Rattle.pad_rename.proofs.WidthLaws.{IsEquivalence-padded}
use Rattle.pad_rename.proofs.laws.padding_has_one_width.Goals as goal

pub returns : goal.returns
returns c d direction = IsOneWidth-equivalence (PaddedAlike direction d) (letters_of d) (IsEquivalence-padded d direction)
