-- States for the listed ones that words lead to. Nobody has to believe this: it serves the code of the step `read`.
use Rattle.std.specs.Prelude.{◌≡◌, ◌↔◌, ℕ, ◌<◌, ℤ, List, Option, None, length, map, MatchOption, slice_index, slice_index_or}
use Rattle.std.specs.List.{All, AllZip}
use Rattle.digit_tuple.specs.Deterministic.{Automaton, states_of, run_of}
use Rattle.digit_tuple.specs.Explored.{key_at}
use Rattle.dfa_reading.specs.Branching.{IsLetterOfDigits}
use Rattle.dfa_reading.specs.Listed.{Listed, MovesAlong}

-- the listed state of a key; one past the listed states is none
abbrev pub listed_of : List (List ℕ) → ℕ → ℕ
listed_of keys t = slice_index (key_at keys t) 0

-- a word leads to a state whose key is the listed state that the tuples lead to, or to none, and the tuples then to no listed state
pub record AreListedStates (sizes : List ℕ) (listed : Listed) (keys : List (List ℕ)) (d : Automaton) : Type 0 where
  pub sizes_are : d.sizes ≡ sizes
  pub count : length keys ≡ states_of d
  pub long : All (λ key. 0 < length key) keys
  pub leads : (tuples : List (List ℕ)) (w : List ℕ) → AllZip (IsLetterOfDigits sizes) tuples w
      → MatchOption (run_of d 0 w) ((q : ℕ) → ¬ MovesAlong sizes listed 0 tuples q)
      (λ t. (t < states_of d) × ((q : ℕ) → MovesAlong sizes listed 0 tuples q ↔ ((q ≡ listed_of keys t) × (q < length listed.outputs))))

-- the output of the listed state of each key
abbrev pub listed_letters : List (Option ℤ) → List (List ℕ) → List (Option ℤ)
listed_letters outputs keys = map (λ key. slice_index_or outputs (slice_index key 0) None) keys
