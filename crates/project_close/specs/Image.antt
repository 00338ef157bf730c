-- Automata read on some of their tracks.
use Rattle.std.specs.Prelude.{◌≡◌, ℕ, ◌<◌, Bool, true, List, [], ◌∷◌, Some, ◌↔◌, length, slice_index_or}
use Rattle.std.specs.List.{AllPairs, Contains}
use Rattle.digit_tuple.specs.Automaton as branching
use Rattle.digit_tuple.specs.Automaton.{Branching, IsBefore, IsBranchTable, Leads}
use Rattle.digit_tuple.specs.Deterministic.{Automaton, letters_of, states_of, step_of, accepting_of, accepts_from}
use Rattle.digit_tuple.specs.Letters.{IsWord}
use Rattle.digit_tuple.specs.Paddings.{zeros}
use Rattle.digit_tuple.specs.Parts.{part, parts_of_letters, picked}
use Rattle.digit_tuple.specs.declared.direction.Direction.{Direction}
use Rattle.digit_tuple.specs.declared.direction.Direction.TheVariants.{Msd, Lsd}
use Rattle.digit_tuple.specs.declared.transitions.Transition.{Transition}
use Rattle.pad_rename.specs.ZeroClosure.{AreAfterZeros, flag_at}

-- so many flags, of which those at the first so many places are set
pub record AreFlagsAt (count : ℕ) (flags : List Bool) (places : List ℕ) (first : ℕ) : Type 0 where
  pub long : length flags ≡ count
  pub set : (i : ℕ) → i < first → flag_at flags (slice_index_or places i 0) ≡ true
  pub only : (k : ℕ) → flag_at flags k ≡ true → (i : ℕ) × (i < first) × (slice_index_or places i 0 ≡ k)

-- the part of a letter
abbrev pub part_at : List ℕ → ℕ → ℕ
part_at parts letter = slice_index_or parts letter 0

-- the transition with another letter in place of its own
abbrev pub relabelled_transition : List ℕ → Transition → Transition
relabelled_transition parts transition = record { letter = part_at parts transition.letter; target = transition.target }

-- the transitions are these with other letters in place of theirs, in order, none twice
pub record AreRelabelled (parts : List ℕ) (transitions new : List Transition) : Type 0 where
  pub ascending : AllPairs IsBefore new
  pub members : (e : Transition) → Contains new e ↔ ((transition : Transition) × Contains transitions transition × (relabelled_transition parts transition ≡ e))

-- the states and transitions are those of the deterministic automaton, with other letters in place of its own; the flagged states accept
pub record IsImage (d : Automaton) (accepting : List Bool) (parts sizes : List ℕ) (n : Branching) : Type 0 where
  pub sizes_are : n.sizes ≡ sizes
  pub states : branching.states_of n ≡ states_of d
  pub accepting_is : (q : ℕ) → branching.accepting_of n q ≡ flag_at accepting q
  pub leads : (p a q : ℕ) → Leads n p a q ↔ ((letter : ℕ) × (letter < letters_of d) × (step_of d p letter ≡ Some q) × (part_at parts letter ≡ a))

-- A word may end at the state: the state accepts. With the least significant digit first, it also may where a word is accepted from
-- there whose part on the tracks that stay is zeros alone.
abbrev pub IsEnd : Direction → Automaton → List ℕ → ℕ → Type 0
IsEnd Msd d places q = accepting_of d q ≡ true
IsEnd Lsd d places q = (u : List ℕ) × IsWord (letters_of d) u × ((k : ℕ) × (part d.sizes places u ≡ zeros k)) × (accepts_from d q u ≡ true)

-- The states at which reading begins: with the most significant digit first those that some number of zeros leads to, else the
-- initial one.
abbrev pub AreFirst : Direction → Branching → List ℕ → Type 0
AreFirst Msd n first = AreAfterZeros n first
AreFirst Lsd n first = first ≡ 0 ∷ []

-- The automaton n has d's states, its transitions by their parts on the tracks at the places, and accepts where a word may end.
pub record IsImageOn (d : Automaton) (places : List ℕ) (direction : Direction) (n : Branching) : Type 0 where
  pub ends : List Bool
  pub image : IsImage d ends (parts_of_letters d.sizes places) (picked places d.sizes) n
  pub table : IsBranchTable (branching.letters_of n) n.states
  pub ends_are : (q : ℕ) → (flag_at ends q ≡ true) ↔ IsEnd direction d places q

-- The automaton n reads d's words on the tracks at the places, from the initial states on.
pub record ReadsProjection (d : Automaton) (places : List ℕ) (direction : Direction) (n : Branching) (first : List ℕ) : Type 0 where
  pub ends : List Bool
  pub image : IsImage d ends (parts_of_letters d.sizes places) (picked places d.sizes) n
  pub table : IsBranchTable (branching.letters_of n) n.states
  pub ends_are : (q : ℕ) → (flag_at ends q ≡ true) ↔ IsEnd direction d places q
  pub first_are : AreFirst direction n first
