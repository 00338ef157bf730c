-- Keys of words without their leading zeros: no state while there are zeros alone, then the state that the rest leads to. The sink is no
-- key. Nobody has to believe this: it serves the code of the step `pad`.
use Rattle.std.specs.Prelude.{◌==◌, ℕ, zero, suc, ◌<◌, Bool, not, List, [], ◌∷◌, ◌++◌, filter, map, Option, None, Some, ⊤, MatchOption}
use Rattle.std.specs.Option.{IfSome}
use Rattle.digit_tuple.specs.Deterministic.{Automaton, IsTable, transitions_of, letters_of, states_of, step_of}
use Rattle.digit_tuple.specs.Keys.{KeyTransition}
use Rattle.digit_tuple.specs.declared.transitions.Transition.{Transition}
use Rattle.digit_tuple.proofs.DfaLemmas.{target_by-in_range}
use Rattle.residual_classes.proofs.SinkLemmas.{row_of}

-- the key of a state
abbrev pub key_of : ℕ → List ℕ
key_of q = q ∷ []

-- the key of what a letter leads to
abbrev pub key_to : Option ℕ → Option (List ℕ)
key_to None = None
key_to (Some q) = Some (key_of q)

-- where a letter leads: from zeros by a zero to zeros
abbrev pub past_after : Automaton → List ℕ → ℕ → Option (List ℕ)
past_after d [] zero = Some []
past_after d [] (suc a) = key_to (step_of d 0 (suc a))
past_after d (q ∷ key) a = key_to (step_of d q a)

-- no state, or one
abbrev pub IsPast : Automaton → List ℕ → Type 0
IsPast d [] = ⊤
IsPast d (q ∷ []) = q < states_of d
IsPast d (q ∷ p ∷ key) = ⊥

-- the transitions to the targets of transitions
abbrev pub transition_to_target : Transition → KeyTransition
transition_to_target transition = record { letter = transition.letter; key = key_of transition.target }

abbrev pub transitions_from : List Transition → List KeyTransition
transitions_from transitions = map transition_to_target transitions

-- the letter of the transition is not zero
abbrev pub is_by_other : Transition → Bool
is_by_other transition = not (transition.letter == 0)

-- the transition by a zero after zeros, if there are letters
abbrev pub transition_by_zero : ℕ → List KeyTransition
transition_by_zero zero = []
transition_by_zero (suc letters) = (record { letter = 0; key = [] }) ∷ []

-- the transitions from a key
abbrev pub past_transitions : Automaton → ℕ → List ℕ → List KeyTransition
past_transitions d letters [] = transition_by_zero letters ++ transitions_from (filter is_by_other (transitions_of d 0))
past_transitions d letters (q ∷ key) = transitions_from (transitions_of d q)

-- what a letter leads to
pub past_after_is_past : (d : Automaton) → IsTable (letters_of d) d.states → (key : List ℕ) (a : ℕ) → MatchOption (past_after d key a) ⊤ (IsPast d)
past_after_is_past d table [] zero = tt
past_after_is_past d table [] (suc a) = by (step_of d 0 (suc a)) (target_by-in_range (letters_of d) (states_of d) (transitions_of d 0) (suc a) (row_of d table 0).in_range)
  where
    by : (o : Option ℕ) → IfSome o (λ t. t < states_of d) → MatchOption (key_to o) ⊤ (IsPast d)
    by None inside = tt
    by (Some t) inside = inside
past_after_is_past d table (q ∷ key) a = by (step_of d q a) (target_by-in_range (letters_of d) (states_of d) (transitions_of d q) a (row_of d table q).in_range)
  where
    by : (o : Option ℕ) → IfSome o (λ t. t < states_of d) → MatchOption (key_to o) ⊤ (IsPast d)
    by None inside = tt
    by (Some t) inside = inside
