-- The steps of sealing a system: its order, and then the three steps of its successor. Of each the letters are looked at first.
use Rattle.std.specs.Prelude.{ℕ, ◌+◌, ◌≤◌}
use Rattle.digit_tuple.specs.Deterministic.{Automaton}
use Rattle.digit_tuple.specs.Letters.{IsAlphabet, IsTooLarge}
use Rattle.digit_tuple.specs.Width.{HasApart, HasWidth}
use Rattle.digit_tuple.specs.declared.direction.Direction.{Direction}
use Rattle.minimise.specs.Canonical.{IsCanonical}
use Rattle.numeration.specs.Systems.{System}
use Rattle.numeration.specs.Relations.{IsLanguageOf, IsOrderOf}
use Rattle.number_order.specs.Orders.{OrderAlike, pair_sizes, pair_letters}
use Rattle.num_system.specs.SuccessorSteps.{AreWithin, Exceeds, chain_sizes}

-- the canonical automaton of the system's language
pub record IsMinimalLanguage (direction : Direction) (s : System) (language : Automaton) : Type 0 where
  pub accepts : IsLanguageOf direction s language
  pub canonical : IsCanonical language

-- and of its order
pub record IsMinimalOrder (direction : Direction) (s : System) (less : Automaton) : Type 0 where
  pub holds : IsOrderOf direction s less
  pub canonical : IsCanonical less

-- the step of the order: two tracks have an alphabet, and the width is within the limit
pub record IsOrderWithin (direction : Direction) (language : Automaton) (limit : ℕ) : Type 0 where
  pub fits : IsAlphabet (pair_sizes language)
  pub width : (n : ℕ) × (n ≤ limit) × HasWidth (OrderAlike direction language) (pair_letters language) n

-- each step: three tracks have an alphabet too, and the widths of the successor's steps are within the limit
pub record IsSealedWithin (direction : Direction) (language less : Automaton) (limit : ℕ) : Type 0 where
  pub order : IsOrderWithin direction language limit
  pub fits : IsAlphabet (chain_sizes less)
  pub successor : AreWithin direction less limit

-- the first step that exceeds does so by letters
pub data ExceedsByLetters (direction : Direction) (s : System) (limit : ℕ) : Type 0 where
  letters_at_order : (language : Automaton) → IsMinimalLanguage direction s language → IsTooLarge (pair_sizes language) → ExceedsByLetters direction s limit
  letters_at_successor : (language less : Automaton) → IsMinimalLanguage direction s language → IsOrderWithin direction language limit
      → IsMinimalOrder direction s less → IsTooLarge (chain_sizes less) → ExceedsByLetters direction s limit

-- the first step that exceeds does so by states
pub data ExceedsByStates (direction : Direction) (s : System) (limit : ℕ) : Type 0 where
  states_at_order : (language : Automaton) → IsMinimalLanguage direction s language → IsAlphabet (pair_sizes language)
      → HasApart (OrderAlike direction language) (pair_letters language) (limit + 1) → ExceedsByStates direction s limit
  states_at_successor : (language less : Automaton) → IsMinimalLanguage direction s language → IsOrderWithin direction language limit
      → IsMinimalOrder direction s less → IsAlphabet (chain_sizes less) → Exceeds direction less limit → ExceedsByStates direction s limit
