-- Hashes of states: one number for states that are alike, mostly different ones for others.
use Rattle.std.specs.Prelude.{◌≡◌, ℕ, ◌+◌, ◌*◌, ◌%◌, ◌≤◌, ◌^◌, ◌&&◌, List, [], ◌∷◌, length, nat_lt, nat_le, if◌then◌else◌}
use Rattle.digit_tuple.specs.Deterministic.{Automaton, transitions_of, states_of}
use Rattle.digit_tuple.specs.KeyHashes.{mixed}
use Rattle.digit_tuple.specs.declared.transitions.Transition.{Transition}
use Rattle.residual_classes.specs.Classes.{class_of, dead_class}
use Rattle.residual_classes.specs.ClassTransitions.{class_transitions}

-- the hash with one more transition, where it is by a letter from the first to before the end
abbrev pub hash_transition : ℕ → ℕ → ℕ → Transition → ℕ
hash_transition first end hash transition = if nat_le first transition.letter && nat_lt transition.letter end then mixed ((hash * 3 % 2 ^ 64 + transition.letter) % 2 ^ 64) transition.target else hash

-- the hash with those of more transitions that are by such letters
abbrev pub hash_transitions : ℕ → ℕ → ℕ → List Transition → ℕ
hash_transitions first end hash [] = hash
hash_transitions first end hash (transition ∷ transitions) = hash_transitions first end (hash_transition first end hash transition) transitions

-- the hash of a state after a part of a round: of its own, and of its transitions by such letters to the hashes that others had
abbrev pub hash_of : Automaton → ℕ → ℕ → List ℕ → ℕ → ℕ
hash_of d first end hashes q = hash_transitions first end (class_of hashes q) (class_transitions hashes (dead_class d hashes) (transitions_of d q))

-- the hashes of the states and the sink after a part of a round, by the letters from the first to before the end
pub record AreHashed (d : Automaton) (first end : ℕ) (old new : List ℕ) : Type 0 where
  pub width : length new ≡ states_of d + 1
  pub are : (q : ℕ) → q ≤ states_of d → class_of new q ≡ hash_of d first end old q

-- the hash of an output, before the first round
abbrev pub output_hash : ℕ → ℕ
output_hash output = mixed (2 ^ 63) output
