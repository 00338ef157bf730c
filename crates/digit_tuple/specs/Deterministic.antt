-- Deterministic automata, and the words that speak of them.
use Rattle.std.specs.Prelude.{◌≡◌, ◌≢◌, ◌==◌, ℕ, ◌<◌, ◌^◌, Bool, false, List, [], ◌∷◌, ◌++◌, length, Option, None, Some, slice_index_or, if◌then◌else◌}
use Rattle.std.specs.List.{All, AllPairs}
use Rattle.std.specs.Option.{option_map_or, option_and_then}
use Rattle.digit_tuple.specs.Letters.{product}
use Rattle.digit_tuple.specs.declared.transitions.Transition.{Transition}

-- a state: whether it accepts, and its transitions, each a letter and the state that it leads to
pub record State : Type 0 where
  pub accepting : Bool
  pub transitions : List Transition

-- a deterministic automaton over letters of tracks of these sizes, whose initial state is 0
pub record Automaton : Type 0 where
  pub sizes : List ℕ
  pub states : List State

abbrev pub letters_of : Automaton → ℕ
letters_of d = product d.sizes

abbrev pub states_of : Automaton → ℕ
states_of d = length d.states

-- the state that is taken where there is none
abbrev pub no_state : State
no_state = record { accepting = false; transitions = [] }

abbrev pub state_of : Automaton → ℕ → State
state_of d q = slice_index_or d.states q no_state

abbrev pub accepting_of : Automaton → ℕ → Bool
accepting_of d q = (state_of d q).accepting

abbrev pub transitions_of : Automaton → ℕ → List Transition
transitions_of d q = (state_of d q).transitions

-- where the first transition by the letter leads
abbrev pub target_by : List Transition → ℕ → Option ℕ
target_by [] letter = None
target_by (transition ∷ transitions) letter = if transition.letter == letter then Some transition.target else target_by transitions letter

-- where a letter leads from a state
abbrev pub step_of : Automaton → ℕ → ℕ → Option ℕ
step_of d q letter = target_by (transitions_of d q) letter

-- where a word leads from a state
abbrev pub run_of : Automaton → ℕ → List ℕ → Option ℕ
run_of d q [] = Some q
run_of d q (a ∷ w) = option_and_then (λ p. run_of d p w) (step_of d q a)

-- whether the automaton accepts the word from a state
abbrev pub accepts_from : Automaton → ℕ → List ℕ → Bool
accepts_from d q [] = accepting_of d q
accepts_from d q (a ∷ w) = option_map_or (λ p. accepts_from d p w) (step_of d q a) false

-- whether the automaton accepts the word
abbrev pub accepts_of : Automaton → List ℕ → Bool
accepts_of d w = accepts_from d 0 w

-- the letter of the one transition is before that of the other
abbrev pub IsByEarlier : Transition → Transition → Type 0
IsByEarlier e f = e.letter < f.letter

-- the transitions of a state are by letters of the alphabet, lead to states, and are sorted by letter, at most one by each
pub record IsRow (letters states : ℕ) (transitions : List Transition) : Type 0 where
  pub in_range : All (λ transition. (transition.letter < letters) × (transition.target < states)) transitions
  pub ascending : AllPairs IsByEarlier transitions

-- states are numbered by 32 bits, and the transitions of each are in range and in order
pub record IsPartTable (letters : ℕ) (states : List State) : Type 0 where
  pub small : length states < 2 ^ 32
  pub rows : All (λ state. IsRow letters (length states) state.transitions) states

-- there is an initial state, states are numbered by 32 bits, and the transitions of each are in range and in order
pub record IsTable (letters : ℕ) (states : List State) : Type 0 where
  pub initial : 0 < length states
  pub part : IsPartTable letters states

-- the automaton with one more state, from which no letter leads anywhere
abbrev pub with_state : Automaton → Bool → Automaton
with_state d accepting = record { sizes = d.sizes; states = d.states ++ (record { accepting = accepting; transitions = [] }) ∷ [] }

-- the transition by the letter leads to the target, and those by other letters are as before
pub record IsTransitionSet (old new : List Transition) (letter target : ℕ) : Type 0 where
  pub there : target_by new letter ≡ Some target
  pub elsewhere : (a : ℕ) → a ≢ letter → target_by new a ≡ target_by old a

-- with a transition by the letter to the target the transitions still may be those of a state
pub record KeepsRow (old new : List Transition) (letter target : ℕ) : Type 0 where
  pub ascending : AllPairs IsByEarlier new
  pub in_range : (letters states : ℕ) → letter < letters → target < states → All (λ transition. (transition.letter < letters) × (transition.target < states)) old → All (λ transition. (transition.letter < letters) × (transition.target < states)) new

-- the letter leads from the state to the target, and all else is as before
pub record IsSet (old new : Automaton) (state letter target : ℕ) : Type 0 where
  pub sizes : new.sizes ≡ old.sizes
  pub states : states_of new ≡ states_of old
  pub accepting : (q : ℕ) → accepting_of new q ≡ accepting_of old q
  pub there : step_of new state letter ≡ Some target
  pub elsewhere : (q a : ℕ) → ¬ ((q ≡ state) × (a ≡ letter)) → step_of new q a ≡ step_of old q a
