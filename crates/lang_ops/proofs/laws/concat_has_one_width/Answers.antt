use Rattle.digit_tuple.specs.Deterministic.{letters_of}
use Rattle.digit_tuple.proofs.WidthLemmas.{IsOneWidth-equivalence}
use Rattle.lang_ops.specs.Concatenation.{ConcatAlike}
use Rattle.lang_ops.proofs.WidthLaws.{IsEquivalence-concat}
use Rattle.lang_ops.proofs.laws.concat_has_one_width.Goals as goal

pub returns : goal.returns
returns c a b = IsOneWidth-equivalence (ConcatAlike a b) (letters_of a) (IsEquivalence-concat a b)
