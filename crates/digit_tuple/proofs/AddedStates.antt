-- States that are added to an automaton.
use Rattle.std.proofs.Common.{◌≡◌, ℕ, suc, ◌+◌, ◌<◌, ◌≤◌, Bool, [], ◌∷◌, ◌++◌, length, None, refl, ap, sym, ◌∙◌, subst, arith, ◌⊎◌, inl, inr}
use Rattle.std.proofs.lemmas.Bool.{cases_order}
use Rattle.std.proofs.lemmas.List.{get_or_append_left, get_or_push, get_or_past, length_push}
use Rattle.digit_tuple.specs.Deterministic.{Automaton, State, with_state, no_state, state_of, states_of, accepting_of, step_of, target_by}

module _ (d : Automaton) (accepting : Bool) where
  abbrev added : State
  added = record { accepting = accepting; transitions = [] }

  pub states_of-added : states_of (with_state d accepting) ≡ suc (states_of d)
  states_of-added = let e : length (d.states ++ added ∷ []) ≡ length d.states + 1 = length_push d.states added in omega (arith, e)

  kept : (q : ℕ) → q < states_of d → state_of (with_state d accepting) q ≡ state_of d q
  kept q within = get_or_append_left d.states (added ∷ []) no_state q within

  new : state_of (with_state d accepting) (states_of d) ≡ added
  new = get_or_push d.states added no_state (states_of d) refl

  pub accepting_of-kept : (q : ℕ) → q < states_of d → accepting_of (with_state d accepting) q ≡ accepting_of d q
  accepting_of-kept q within = ap (λ (s : State). s.accepting) (kept q within)

  pub accepting_of-new : accepting_of (with_state d accepting) (states_of d) ≡ accepting
  accepting_of-new = ap (λ (s : State). s.accepting) new

  past : (e : Automaton) (q a : ℕ) → states_of e ≤ q → step_of e q a ≡ None
  past e q a more = ap (λ (s : State). target_by s.transitions a) (get_or_past e.states q no_state more)

  -- letters lead as before
  pub step_of-added : (q a : ℕ) → step_of (with_state d accepting) q a ≡ step_of d q a
  step_of-added q a = by (cases_order q (states_of d))
    where
      by : (q ≡ states_of d) ⊎ ((q < states_of d) ⊎ (states_of d < q)) → step_of (with_state d accepting) q a ≡ step_of d q a
      by (inl is) = subst (λ p. step_of (with_state d accepting) p a ≡ step_of d p a) (sym is) (ap (λ (s : State). target_by s.transitions a) new ∙ sym (past d (states_of d) a (omega arith)))
      by (inr (inl less)) = ap (λ (s : State). target_by s.transitions a) (kept q less)
      by (inr (inr more)) = past (with_state d accepting) q a (omega (arith, more, states_of-added)) ∙ sym (past d q a (omega (arith, more)))
