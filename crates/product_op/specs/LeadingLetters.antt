-- Letters by which states lead on.
use Rattle.std.specs.Prelude.{◌≡◌, ℕ, ◌<◌, ◌⊎◌, List, [], Option, None}
use Rattle.std.specs.List.{All, AllPairs, Contains, flat_map, range_with_len}
use Rattle.digit_tuple.specs.Deterministic.{transitions_of}
use Rattle.digit_tuple.specs.Keys.{KeyTransition}
use Rattle.digit_tuple.specs.PartIndex.{letters_with}
use Rattle.product_op.specs.Readings.{Reading}

-- the letters by whose parts a transition leads on from a state, transition by transition
abbrev pub letters_on : Reading → ℕ → List ℕ
letters_on r state = flat_map (λ transition. letters_with r.parts transition.letter) (transitions_of r.automaton state)

-- letters of the alphabet, in order, such that all others lead to no key
pub record AreLeading (letters : ℕ) (after : ℕ → Option (List ℕ)) (some : List ℕ) : Type 0 where
  pub in_range : All (λ a. a < letters) some
  pub ascending : AllPairs (λ a b. a < b) some
  pub others : (a : ℕ) → a < letters → ¬ Contains some a → after a ≡ None

-- letters of the alphabet, such that all others lead to no key
pub record AreFound (letters : ℕ) (after : ℕ → Option (List ℕ)) (found : List ℕ) : Type 0 where
  pub in_range : All (λ a. a < letters) found
  pub others : (a : ℕ) → a < letters → ¬ Contains found a → after a ≡ None

-- none of the letters, or all of them
abbrev pub AreFewLetters : ℕ → List ℕ → Type 0
AreFewLetters letters few = (few ≡ []) ⊎ (few ≡ range_with_len 0 letters)

-- the transition by the letter to the key
abbrev pub key_transition : ℕ → List ℕ → KeyTransition
key_transition a key = record { letter = a; key = key }
