-- Keys numbered in the order in which they were first seen.
use Rattle.std.specs.Prelude.{◌≡◌, ◌≢◌, ℕ, ◌<◌, List, [], ◌∷◌, ◌++◌, length, Bool, Option, None, Some, slice_index_or, ◌⊎◌, MatchOption}
use Rattle.std.specs.List.{AllPairs}
use Rattle.digit_tuple.specs.Deterministic.{Automaton, step_of, accepting_of, states_of}
use Rattle.digit_tuple.specs.declared.transitions.Transition.{Transition}
use Rattle.digit_tuple.specs.Keys.{KeyTransition}

-- no two of the keys are the same
abbrev pub AreApart : List (List ℕ) → Type 0
AreApart keys = AllPairs (λ k l. k ≢ l) keys

abbrev pub key_at : List (List ℕ) → ℕ → List ℕ
key_at keys number = slice_index_or keys number []

-- the key has the number: the keys stay, or it is a new one and goes last
pub record IsNumbered (old new : List (List ℕ)) (key : List ℕ) (number : ℕ) : Type 0 where
  pub apart : AreApart new
  pub key_is : key_at new number ≡ key
  pub old_or_new : ((new ≡ old) × (number < length old)) ⊎ ((number ≡ length old) × (new ≡ old ++ key ∷ []))

-- numbering the keys that the key transitions lead to, in turn, takes the old keys to the new ones, and gives the transitions
abbrev pub AreNumbered : List KeyTransition → List Transition → List (List ℕ) → List (List ℕ) → Type 0
AreNumbered [] [] old new = old ≡ new
AreNumbered [] (transition ∷ transitions) old new = ⊥
AreNumbered (from ∷ key_transitions) [] old new = ⊥
AreNumbered (from ∷ key_transitions) (transition ∷ transitions) old new =
    (transition.letter ≡ from.letter) × ((next : List (List ℕ)) × IsNumbered old next from.key transition.target × AreNumbered key_transitions transitions next new)

-- numbering the keys that the first of the key transitions lead to takes the old keys to so many new ones
pub record NumbersSome (key_transitions : List KeyTransition) (old new : List (List ℕ)) (count : ℕ) : Type 0 where
  pub prefix : List KeyTransition
  pub rest : List KeyTransition
  pub transitions : List Transition
  pub transitions_are : key_transitions ≡ prefix ++ rest
  pub numbered : AreNumbered prefix transitions old new
  pub count_is : length new ≡ count

-- the automaton has a state for each key, in their order, and its transitions lead as theirs do
pub record IsExplored (letters : ℕ) (start : List ℕ) (after : List ℕ → ℕ → Option (List ℕ)) (accepts : List ℕ → Bool) (keys : List (List ℕ)) (d : Automaton) : Type 0 where
  pub count : length keys ≡ states_of d
  pub start_is : key_at keys 0 ≡ start
  pub apart : AreApart keys
  pub accepting : (q : ℕ) → q < states_of d → accepting_of d q ≡ accepts (key_at keys q)
  pub transitions : (q a : ℕ) → q < states_of d → a < letters → MatchOption (step_of d q a) (after (key_at keys q) a ≡ None) (λ t. (t < states_of d) × (after (key_at keys q) a ≡ Some (key_at keys t)))
