-- States that zero letters lead to, and what a search for states keeps.
use Rattle.std.specs.Prelude.{◌≡◌, ◌≢◌, ℕ, ◌<◌, Bool, true, false, List, ◌++◌, length, ◌↔◌, ◌⊎◌, slice_index_or}
use Rattle.std.specs.List.{All, AllByRecursion, AllPairs, Contains}
use Rattle.digit_tuple.specs.Automaton.{Branching, Path, states_of}
use Rattle.digit_tuple.specs.Paddings.{zeros}
use Rattle.digit_tuple.specs.declared.transitions.Transition.{Transition}

-- the set has the states that some number of zero letters leads to from the initial one, in order
pub record AreAfterZeros (n : Branching) (set : List ℕ) : Type 0 where
  pub in_range : All (λ q. q < states_of n) set
  pub ascending : AllPairs (λ p q. p < q) set
  pub members : (q : ℕ) → Contains set q ↔ ((k : ℕ) × Path n 0 (zeros k) q)

-- whether a flag is there and set
abbrev pub flag_at : List Bool → ℕ → Bool
flag_at flags place = slice_index_or flags place false

-- each letter of the word is one of those that are flagged
abbrev pub IsOverFlagged : List Bool → List ℕ → Type 0
IsOverFlagged flags word = AllByRecursion (λ letter. flag_at flags letter ≡ true) word

-- the state is led to from one of the initial states by a word over the flagged letters
abbrev pub IsReached : Branching → List Bool → List ℕ → ℕ → Type 0
IsReached n letters first q = (p : ℕ) × Contains first p × ((word : List ℕ) × IsOverFlagged letters word × Path n p word q)

-- the states that have been found are flagged and no others, each was found once, and there is a flag for each state
pub record AreFound (count : ℕ) (flags : List Bool) (found : List ℕ) : Type 0 where
  pub size : length flags ≡ count
  pub in_range : All (λ q. q < count) found
  pub apart : AllPairs (λ p q. p ≢ q) found
  pub flagged : (q : ℕ) → (flag_at flags q ≡ true) ↔ Contains found q

-- those found before come first, and those of the more that are new come after them
pub record AreFoundToo (old new : List ℕ) (IsMore : ℕ → Type 0) : Type 0 where
  pub later : List ℕ
  pub new_is : new ≡ old ++ later
  pub from : (q : ℕ) → Contains new q → Contains old q ⊎ IsMore q
  pub all : (q : ℕ) → IsMore q → Contains new q

-- a transition by a flagged letter leads to the state
abbrev pub IsTargetOf : List Bool → List Transition → ℕ → Type 0
IsTargetOf letters transitions q = (transition : Transition) × Contains transitions transition × (flag_at letters transition.letter ≡ true) × (transition.target ≡ q)

-- the list has the flagged places, in order
pub record AreFlagged (flags : List Bool) (set : List ℕ) : Type 0 where
  pub ascending : AllPairs (λ p q. p < q) set
  pub members : (q : ℕ) → Contains set q ↔ (flag_at flags q ≡ true)
