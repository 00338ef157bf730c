-- Pairs of states as keys of the closure under trailing zeros: where the word leads without its trailing zeros, and
-- where it leads with them. The sink is the number past the states. Two sinks are no key but the first.
use Rattle.std.specs.Prelude.{◌≡◌, ◌==◌, ℕ, zero, suc, ◌<◌, ◌≤◌, ◌↔◌, Bool, true, false, not, ◌&&◌, List, [], ◌∷◌, filter, map, length, slice_index, Option, None, Some, MatchOption, ⊤, if◌then◌else◌}
use Rattle.std.proofs.Common.{refl, arith}
use Rattle.digit_tuple.specs.Deterministic.{Automaton, IsTable, states_of, letters_of, accepting_of, transitions_of}
use Rattle.digit_tuple.specs.Keys.{KeyTransition}
use Rattle.digit_tuple.specs.Paddings.{zeros}
use Rattle.digit_tuple.specs.declared.transitions.Transition.{Transition}
use Rattle.residual_classes.specs.Classes.{next_of, first_of}
use Rattle.minimise.proofs.LeadLemmas.{lead}
use Rattle.residual_classes.proofs.SinkLemmas.{next_within}
use Rattle.pad_rename.specs.ZeroClosure.{flag_at}

-- for each state whether some number of zero letters leads from it to an accepting one
abbrev pub AreFinal : Automaton → List Bool → Type 0
AreFinal d flags = (q : ℕ) → (flag_at flags q ≡ true) ↔ ((k : ℕ) × (accepting_of d (lead d q (zeros k)) ≡ true))

-- a flag for each state
pub record AreFinalFlags (d : Automaton) (flags : List Bool) : Type 0 where
  pub count : length flags ≡ states_of d
  pub final : AreFinal d flags

-- each state accepts if and only if the one does that the zero letter leads to, so that zeros after a word change nothing
abbrev pub KeepsAcceptance : Automaton → Type 0
KeepsAcceptance d = (q : ℕ) → q < states_of d → accepting_of d (next_of d q 0) ≡ accepting_of d q

-- the pair of one state
abbrev pub twice : ℕ → List ℕ
twice q = q ∷ q ∷ []

-- whether both are the sink
abbrev pub are_sinks : Automaton → ℕ → ℕ → Bool
are_sinks d p q = (p == states_of d) && (q == states_of d)

-- the pair of two states, unless both are the sink
abbrev pub some_pair : Automaton → ℕ → ℕ → Option (List ℕ)
some_pair d p q = if are_sinks d p q then None else Some (p ∷ q ∷ [])

-- where a letter leads: zeros may be trailing ones, and after other letters none trail
abbrev pub pair_after : Automaton → List ℕ → ℕ → Option (List ℕ)
pair_after d key zero = some_pair d (slice_index key 0) (next_of d (slice_index key 1) 0)
pair_after d key (suc a) = some_pair d (next_of d (slice_index key 1) (suc a)) (next_of d (slice_index key 1) (suc a))

-- the transition from a pair by the zero letter, if there is such a letter, and it does not lead to two sinks
abbrev pub transitions_by_zero : Automaton → ℕ → List ℕ → List KeyTransition
transitions_by_zero d zero key = []
transitions_by_zero d (suc letters) key = if are_sinks d (slice_index key 0) (next_of d (slice_index key 1) 0) then [] else (record { letter = 0; key = slice_index key 0 ∷ next_of d (slice_index key 1) 0 ∷ [] }) ∷ []

-- the letter of the transition is not zero
abbrev pub is_by_other : Transition → Bool
is_by_other transition = not (transition.letter == 0)

-- the transition leads to the pair of its target
abbrev pub pair_transition : Transition → KeyTransition
pair_transition transition = record { letter = transition.letter; key = twice transition.target }

-- the transitions from a pair by other letters than zero, which are those of its second state
abbrev pub transitions_by_others : List Transition → List KeyTransition
transitions_by_others transitions = map pair_transition (filter is_by_other transitions)

-- two states, each of which may be the sink
pub record IsPair (d : Automaton) (key : List ℕ) : Type 0 where
  pub count : length key ≡ 2
  pub stripped : slice_index key 0 ≤ states_of d
  pub whole : slice_index key 1 ≤ states_of d

-- the initial state, or the sink
pub first_within : (d : Automaton) → first_of d ≤ states_of d
first_within d = by (not (accepting_of d 0) && (length (transitions_of d 0) == 0))
  where
    by : (b : Bool) → (if b then states_of d else 0) ≤ states_of d
    by true = omega arith
    by false = omega arith

-- the pair of the empty word
pub first_is_pair : (d : Automaton) → IsPair d (twice (first_of d))
first_is_pair d = record { count = refl; stripped = first_within d; whole = first_within d }

some_pair_is_pair : (d : Automaton) (p q : ℕ) → p ≤ states_of d → q ≤ states_of d → MatchOption (some_pair d p q) ⊤ (IsPair d)
some_pair_is_pair d p q stripped whole = by (are_sinks d p q)
  where
    by : (b : Bool) → MatchOption (if b then None else Some (p ∷ q ∷ [])) ⊤ (IsPair d)
    by true = tt
    by false = record { count = refl; stripped = stripped; whole = whole }

-- what a letter leads to
pub pair_after_is_pair : (d : Automaton) → IsTable (letters_of d) d.states → (key : List ℕ) (a : ℕ) → IsPair d key → MatchOption (pair_after d key a) ⊤ (IsPair d)
pair_after_is_pair d table key zero is = some_pair_is_pair d (slice_index key 0) (next_of d (slice_index key 1) 0) is.stripped (next_within d table (slice_index key 1) 0)
pair_after_is_pair d table key (suc a) is =
    some_pair_is_pair d (next_of d (slice_index key 1) (suc a)) (next_of d (slice_index key 1) (suc a)) (next_within d table (slice_index key 1) (suc a)) (next_within d table (slice_index key 1) (suc a))
