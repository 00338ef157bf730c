-- The width of a number.
use Rattle.std.specs.Prelude.{◌≡◌, ℕ, ◌<◌}
use Rattle.digit_tuple.specs.Width.{HasApart, HasWidth, IsEquivalence}
use Rattle.digit_tuple.specs.declared.direction.Direction.{Direction}
use Rattle.numeration.specs.Systems.{System}
use Rattle.constants.specs.Constants.{ConstantAlike}

-- words are alike that the representations of a number do not distinguish, as equals are
abbrev pub ConstantAlikeIsEquivalence : Type 0
ConstantAlikeIsEquivalence = (direction : Direction) (s : System) (n : ℕ) → IsEquivalence (ConstantAlike direction s n)

-- two widths of one number are equal
abbrev pub OneConstantWidth : Type 0
OneConstantWidth = (direction : Direction) (s : System) (n j k : ℕ) → HasWidth (ConstantAlike direction s n) s.digits j → HasWidth (ConstantAlike direction s n) s.digits k → j ≡ k

-- no more words are apart than the width says
abbrev pub ConstantWidthExcludes : Type 0
ConstantWidthExcludes = (direction : Direction) (s : System) (n j k : ℕ) → k < j → HasWidth (ConstantAlike direction s n) s.digits k → ¬ HasApart (ConstantAlike direction s n) s.digits j
