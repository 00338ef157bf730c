-- The width of an order.
use Rattle.std.specs.Prelude.{◌≡◌, ℕ, ◌<◌}
use Rattle.digit_tuple.specs.Deterministic.{Automaton}
use Rattle.digit_tuple.specs.Width.{HasApart, HasWidth, IsEquivalence}
use Rattle.digit_tuple.specs.declared.direction.Direction.{Direction}
use Rattle.number_order.specs.Orders.{OrderAlike, pair_letters}

-- words are alike that an order does not distinguish, as equals are
abbrev pub OrderAlikeIsEquivalence : Type 0
OrderAlikeIsEquivalence = (direction : Direction) (language : Automaton) → IsEquivalence (OrderAlike direction language)

-- two widths of one order are equal
abbrev pub OneOrderWidth : Type 0
OneOrderWidth = (direction : Direction) (language : Automaton) (j k : ℕ) → HasWidth (OrderAlike direction language) (pair_letters language) j → HasWidth (OrderAlike direction language) (pair_letters language) k → j ≡ k

-- no more words are apart than the width says
abbrev pub OrderWidthExcludes : Type 0
OrderWidthExcludes = (direction : Direction) (language : Automaton) (j k : ℕ) → k < j → HasWidth (OrderAlike direction language) (pair_letters language) k → ¬ HasApart (OrderAlike direction language) (pair_letters language) j
