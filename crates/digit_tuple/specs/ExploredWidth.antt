-- The width of an exploration.
use Rattle.std.specs.Prelude.{ℕ, List, Option}
use Rattle.digit_tuple.specs.Keys.{LeadAlike}
use Rattle.digit_tuple.specs.Width.{IsEquivalence, IsOneWidth}

-- words are alike that lead to one key, or to none, as equals are
abbrev pub LeadAlikeIsEquivalence : Type 0
LeadAlikeIsEquivalence = (after : List ℕ → ℕ → Option (List ℕ)) (start : List ℕ) → IsEquivalence (LeadAlike after start)

-- an exploration has one width
abbrev pub OneExploredWidth : Type 0
OneExploredWidth = (after : List ℕ → ℕ → Option (List ℕ)) (start : List ℕ) (letters : ℕ) → IsOneWidth (LeadAlike after start) letters
