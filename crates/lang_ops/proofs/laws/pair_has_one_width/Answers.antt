use Rattle.digit_tuple.specs.Deterministic.{letters_of}
use Rattle.digit_tuple.proofs.WidthLemmas.{IsOneWidth-equivalence}
use Rattle.lang_ops.specs.Pairs.{PairAlike}
use Rattle.lang_ops.proofs.WidthLaws.{IsEquivalence-pair}
use Rattle.lang_ops.proofs.laws.pair_has_one_width.Goals as goal

pub returns : goal.returns
returns c a b = IsOneWidth-equivalence (PairAlike a b) (letters_of a) (IsEquivalence-pair a b)
