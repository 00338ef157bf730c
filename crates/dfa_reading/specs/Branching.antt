-- The branching automaton of what a file lists.
use Rattle.std.specs.Prelude.{◌≡◌, ℕ, ◌↔◌, ⊤, List, [], length, IsTrue}
use Rattle.std.specs.List.{AllZip}
use Rattle.digit_tuple.specs.Automaton.{Branching, Leads, Accepts, states_of, accepting_of}
use Rattle.digit_tuple.specs.Letters.{code_of, AreDigits}
use Rattle.digit_tuple.specs.Sets.{sizes_of}
use Rattle.dfa_reading.specs.Headers.{Header, Truth, Systems, Sets}
use Rattle.dfa_reading.specs.Listed.{Listed, Moves, IsAccepting, ListedAccepts}

-- The sizes of the tracks: a set has as many digits as members, and how many digits a system has is given.
abbrev pub sizes_in : Header → List ℕ → List ℕ
sizes_in (Truth value) digits = []
sizes_in (Systems names) digits = digits
sizes_in (Sets sets) digits = sizes_of sets

-- a number of digits is given for each system
abbrev pub AreGiven : Header → List ℕ → Type 0
AreGiven (Truth value) digits = ⊤
AreGiven (Systems names) digits = length digits ≡ length names
AreGiven (Sets sets) digits = ⊤

-- The automaton over the letters of tracks of these sizes has the listed states, which accept as they are listed to, and leads by
-- the letter of a tuple as the listed transitions lead by the tuple.
pub record IsBranching (sizes : List ℕ) (listed : Listed) (n : Branching) : Type 0 where
  pub sizes_are : n.sizes ≡ sizes
  pub states : states_of n ≡ length listed.outputs
  pub accepting : (q : ℕ) → IsTrue (accepting_of n q) ↔ IsAccepting listed q
  pub leads : (p letter q : ℕ) → Leads n p letter q ↔ ((tuple : List ℕ) × Moves sizes listed p tuple q × (letter ≡ code_of sizes tuple))

-- the letter is that of a tuple of digits
pub record IsLetterOfDigits (sizes tuple : List ℕ) (letter : ℕ) : Type 0 where
  pub fit : AreDigits sizes tuple
  pub letter_is : letter ≡ code_of sizes tuple

-- it accepts the word of the letters of some tuples if and only if the file accepts the word of tuples
abbrev pub BranchingAcceptsListed : Type 0
BranchingAcceptsListed = (sizes : List ℕ) (listed : Listed) (n : Branching) → IsBranching sizes listed n → (word : List (List ℕ)) (letters : List ℕ) → AllZip (IsLetterOfDigits sizes) word letters → Accepts n letters ↔ ListedAccepts sizes listed word
