use Rattle.digit_tuple.proofs.WidthLemmas.{IsOneWidth-equivalence}
use Rattle.validity.specs.ValidParts.{ValidityAlike}
use Rattle.validity.proofs.WidthLaws.{IsEquivalence-validity}
use Rattle.validity.proofs.laws.validity_has_one_width.Goals as goal

pub returns : goal.returns
returns c a languages letters = IsOneWidth-equivalence (ValidityAlike a languages) letters (IsEquivalence-validity a languages)
