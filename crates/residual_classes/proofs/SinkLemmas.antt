-- The sink, and where letters lead when missing transitions lead to it.
use Rattle.std.proofs.Common.{◌≡◌, ℕ, ◌<◌, ◌≤◌, false, List, [], ◌∷◌, Option, None, Some, unwrap_or, ◌⊎◌, inl, inr, refl, sym, ap, subst, arith}
use Rattle.std.specs.Option.{IfSome, option_map_or}
use Rattle.std.proofs.lemmas.Bool.{cases_lt}
use Rattle.std.proofs.lemmas.List.{get_or_past}
use Rattle.digit_tuple.specs.declared.transitions.Transition.{Transition}
use Rattle.digit_tuple.specs.Deterministic.{Automaton, State, IsTable, IsRow, no_state, letters_of, states_of, accepting_of, transitions_of, step_of, target_by, accepts_from}
use Rattle.digit_tuple.proofs.DfaLemmas.{row_at, target_by-in_range}
use Rattle.residual_classes.specs.Classes.{next_of}

module _ (d : Automaton) where
  pub no_transitions_past : (q : ℕ) → states_of d ≤ q → transitions_of d q ≡ []
  no_transitions_past q past = ap (λ (s : State). s.transitions) (get_or_past d.states q no_state past)

  pub not_accepting_past : (q : ℕ) → states_of d ≤ q → accepting_of d q ≡ false
  not_accepting_past q past = ap (λ (s : State). s.accepting) (get_or_past d.states q no_state past)

  -- no word is accepted from the sink
  pub sink_refuses : (w : List ℕ) → accepts_from d (states_of d) w ≡ false
  sink_refuses [] = not_accepting_past (states_of d) (omega arith)
  sink_refuses (a ∷ w) = ap (λ (es : List Transition). option_map_or (λ p. accepts_from d p w) (target_by es a) false) (no_transitions_past (states_of d) (omega arith))

  -- a word is accepted where the rest is, after its first letter
  pub accepts_from-next : (q a : ℕ) (w : List ℕ) → accepts_from d q (a ∷ w) ≡ accepts_from d (next_of d q a) w
  accepts_from-next q a w = by (step_of d q a)
    where
      by : (o : Option ℕ) → option_map_or (λ p. accepts_from d p w) o false ≡ accepts_from d (unwrap_or o (states_of d)) w
      by None = sym (sink_refuses w)
      by (Some p) = refl

  module _ (table : IsTable (letters_of d) d.states) where
    -- the transitions of a state, or of the sink
    pub row_of : (q : ℕ) → IsRow (letters_of d) (states_of d) (transitions_of d q)
    row_of q = by (cases_lt q (states_of d))
      where
        by : (q < states_of d) ⊎ (states_of d ≤ q) → IsRow (letters_of d) (states_of d) (transitions_of d q)
        by (inl within) = row_at d q table within
        by (inr past) = subst (λ (es : List Transition). IsRow (letters_of d) (states_of d) es) (sym (no_transitions_past q past)) (record { in_range = λ k z within. absurd (omega arith); ascending = λ i j z before within. absurd (omega arith) })

    pub next_within : (q a : ℕ) → next_of d q a ≤ states_of d
    next_within q a = by (step_of d q a) (target_by-in_range (letters_of d) (states_of d) (transitions_of d q) a (row_of q).in_range)
      where
        by : (o : Option ℕ) → IfSome o (λ t. t < states_of d) → unwrap_or o (states_of d) ≤ states_of d
        by None inside = omega arith
        by (Some t) inside = omega arith
