-- Nondeterministic automata, and the words that speak of them.
use Rattle.std.specs.Prelude.{◌≡◌, ℕ, ◌<◌, ◌^◌, ◌⊎◌, Bool, false, List, [], ◌∷◌, length, slice_index_or, IsTrue}
use Rattle.std.specs.List.{All, AllPairs, Contains}
use Rattle.digit_tuple.specs.Letters.{product}
use Rattle.digit_tuple.specs.declared.transitions.Transition.{Transition}

-- a state: whether it accepts, and its transitions, each a letter and the state that it leads to
pub record Branch : Type 0 where
  pub accepting : Bool
  pub transitions : List Transition

-- a nondeterministic automaton over letters of tracks of these sizes, whose initial state is 0
pub record Branching : Type 0 where
  pub sizes : List ℕ
  pub states : List Branch

abbrev pub letters_of : Branching → ℕ
letters_of n = product n.sizes

abbrev pub states_of : Branching → ℕ
states_of n = length n.states

-- the state that is taken where there is none
abbrev pub no_branch : Branch
no_branch = record { accepting = false; transitions = [] }

abbrev pub branch_of : Branching → ℕ → Branch
branch_of n q = slice_index_or n.states q no_branch

abbrev pub accepting_of : Branching → ℕ → Bool
accepting_of n q = (branch_of n q).accepting

abbrev pub transitions_of : Branching → ℕ → List Transition
transitions_of n q = (branch_of n q).transitions

-- a transition by the letter leads from p to q
abbrev pub Leads : Branching → ℕ → ℕ → ℕ → Type 0
Leads n p letter q = Contains (transitions_of n p) (let e : Transition = record { letter = letter; target = q } in e)

-- the word may lead from p to q
abbrev pub Path : Branching → ℕ → List ℕ → ℕ → Type 0
Path n p [] q = p ≡ q
Path n p (a ∷ w) q = (r : ℕ) × Leads n p a r × Path n r w q

-- the word may lead from the initial state to an accepting one
abbrev pub Accepts : Branching → List ℕ → Type 0
Accepts n w = (q : ℕ) × Path n 0 w q × IsTrue (accepting_of n q)

-- the order of transitions: by letter, then by target
abbrev pub IsBefore : Transition → Transition → Type 0
IsBefore e f = (e.letter < f.letter) ⊎ ((e.letter ≡ f.letter) × (e.target < f.target))

-- the transitions of a state are by letters of the alphabet, lead to states, and are in order, none twice
pub record IsRow (letters states : ℕ) (transitions : List Transition) : Type 0 where
  pub in_range : All (λ transition. (transition.letter < letters) × (transition.target < states)) transitions
  pub ascending : AllPairs IsBefore transitions

-- there is an initial state, states are numbered by 32 bits, and the transitions of each are in range and in order
pub record IsBranchTable (letters : ℕ) (states : List Branch) : Type 0 where
  pub initial : 0 < length states
  pub small : length states < 2 ^ 32
  pub rows : All (λ state. IsRow letters (length states) state.transitions) states
