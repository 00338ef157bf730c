-- The rows of the automaton of an expression's letters.
use Rattle.std.specs.Prelude.{◌≡◌, ℕ, zero, suc, ◌<◌, false, List, [], length, slice_get, slice_index_or, IsSomeAnd, Contains, AllPairs, ◌↔◌}
use Rattle.digit_tuple.specs.declared.transitions.Transition.{Transition}
use Rattle.digit_tuple.specs.declared.transitions.NfaState.{NfaState}
use Rattle.digit_tuple.specs.Automaton.{IsBefore}
use Rattle.regex_build.specs.declared.codes.LetterRange.{LetterRange}
use Rattle.regex_build.specs.declared.next_places.NextPlaces.{NextPlaces}
use Rattle.regex_build.specs.Codes.{IsInRange}
use Rattle.regex_build.specs.Fragments.{rows_in}

-- the letter is in the range of the place, counted from 1
abbrev pub IsLetterAt : List LetterRange → ℕ → ℕ → Type 0
IsLetterAt ranges zero a = ⊥
IsLetterAt ranges (suc k) a = IsSomeAnd (slice_get ranges k) (λ range. IsInRange range a)

-- the transition leads to one of the places by one of its letters
abbrev pub IsTransitionTo : List LetterRange → List ℕ → Transition → Type 0
IsTransitionTo ranges next x = Contains next x.target × IsLetterAt ranges x.target x.letter

-- a state of the automaton
pub record IsStateAt (places : NextPlaces) (ranges : List LetterRange) (q : ℕ) (state : NfaState) : Type 0 where
  pub accepting : state.accepting ≡ slice_index_or places.ends.items q false
  pub ascending : AllPairs IsBefore state.transitions.items
  pub transitions : (x : Transition) → Contains state.transitions.items x ↔ IsTransitionTo ranges (slice_index_or (rows_in places.next.items) q []) x

-- the states of the automaton, one after another from the first on
abbrev pub AreStates : NextPlaces → List LetterRange → List NfaState → Type 0
AreStates places ranges states = (q : ℕ) (other : NfaState) → q < length states → IsStateAt places ranges q (slice_index_or states q other)
