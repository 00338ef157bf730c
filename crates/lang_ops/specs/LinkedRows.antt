-- The states of an automaton, linked to another state: what leads to an accepting state leads there too.
use Rattle.std.specs.Prelude.{◌≡◌, ◌↔◌, ◌⊎◌, ◌&&◌, ℕ, ◌<◌, Bool, true, List, length, Option, Some}
use Rattle.std.specs.List.{AllPairs, Contains}
use Rattle.digit_tuple.specs.Automaton.{Branch, IsBefore}
use Rattle.digit_tuple.specs.Deterministic.{Automaton, accepting_of, transitions_of}
use Rattle.digit_tuple.specs.Reversed.{branch_at, transition_to}
use Rattle.digit_tuple.specs.declared.transitions.Transition.{Transition}

-- the transition leads to the link by a letter by which one of the others leads to an accepting state
abbrev pub IsLink : Automaton → Option ℕ → List Transition → Transition → Type 0
IsLink d link transitions e = (link ≡ Some e.target) × ((q : ℕ) × Contains transitions (transition_to e.letter q) × (accepting_of d q ≡ true))

-- the transitions and their links, in order, none twice
pub record AreLinked (d : Automaton) (link : Option ℕ) (transitions new : List Transition) : Type 0 where
  pub ascending : AllPairs IsBefore new
  pub members : (e : Transition) → Contains new e ↔ (Contains transitions e ⊎ IsLink d link transitions e)

-- a state for each of the first so many of the automaton, with its transitions and their links; which accept, if any do
pub record AreLinkedRows (d : Automaton) (link : Option ℕ) (ends : Bool) (rows : List Branch) (count : ℕ) : Type 0 where
  pub size : length rows ≡ count
  pub accepting_are : (q : ℕ) → q < count → (branch_at rows q).accepting ≡ (ends && accepting_of d q)
  pub transitions_are : (q : ℕ) → q < count → AreLinked d link (transitions_of d q) (branch_at rows q).transitions
