use Rattle.digit_tuple.specs.Deterministic.{letters_of}
use Rattle.digit_tuple.proofs.WidthLemmas.{IsOneWidth-equivalence}
use Rattle.lang_ops.specs.Star.{StarAlike}
use Rattle.lang_ops.proofs.WidthLaws.{IsEquivalence-star}
use Rattle.lang_ops.proofs.laws.star_has_one_width.Goals as goal

pub returns : goal.returns
returns c a = IsOneWidth-equivalence (StarAlike a) (letters_of a) (IsEquivalence-star a)
