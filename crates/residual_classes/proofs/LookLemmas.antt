-- How many transitions a round looks at.
use Rattle.std.proofs.Common.{◌≡◌, ℕ, ◌+◌, ◌<◌, ◌≤◌, ◌⊎◌, inl, inr, true, ◌&&◌, cond, nat_le, nat_lt, List, [], ◌∷◌, take, length, get_or, refl, ap, arith}
use Rattle.std.specs.List.{sum_by}
use Rattle.std.proofs.lemmas.Bool.{cases_lt}
use Rattle.std.proofs.lemmas.Bool.Decides.{nat_tests}
use Rattle.std.proofs.lemmas.List.{take_all}
use Rattle.std.proofs.lemmas.List.Sums.{count_by_more_yes, sum_by-cons, sum_by-take-le, sum_by_more}
use Rattle.digit_tuple.specs.declared.transitions.Transition.{Transition}
use Rattle.digit_tuple.specs.Deterministic.{Automaton, State, no_state, states_of, transitions_of}
use Rattle.digit_tuple.specs.TransitionCounts.{transition_count}
use Rattle.residual_classes.specs.LookCounts.{all_looked_at, looked_at}
use Rattle.residual_classes.proofs.SinkLemmas.{no_transitions_past}

between : (first end letter : ℕ) → first ≤ letter → letter < end → (nat_le first letter && nat_lt letter end) ≡ true
between first end letter low high = grind (arith, nat_tests)

-- one more transition is looked at
pub looked_at-more : (first end : ℕ) (es : List Transition) (k : ℕ) (z : Transition) → k < length es → first ≤ (get_or es k z).letter → (get_or es k z).letter < end → looked_at first end (take (k + 1) es) ≡ looked_at first end (take k es) + 1
looked_at-more first end es k z inside low high = count_by_more_yes (λ (e : Transition). nat_le first e.letter && nat_lt e.letter end) es k z inside (between first end (get_or es k z).letter low high)

-- the first transitions
pub looked_at-take : (first end : ℕ) (es : List Transition) (k : ℕ) → looked_at first end (take k es) ≤ looked_at first end es
looked_at-take first end es k = sum_by-take-le (λ (e : Transition). cond (nat_le first e.letter && nat_lt e.letter end) 1 0) es k

pub looked_at-next : (first end : ℕ) (es : List Transition) (k : ℕ) (z : Transition) → k < length es → looked_at first end (take k es) ≤ looked_at first end (take (k + 1) es)
looked_at-next first end es k z inside = omega (arith, sum_by_more (λ (e : Transition). cond (nat_le first e.letter && nat_lt e.letter end) 1 0) es k z inside)

-- those of one more state, of which the sink has none
pub all_looked_at-more : (first end : ℕ) (d : Automaton) (q : ℕ) → sum_by (λ (s : State). looked_at first end s.transitions) (take q d.states) + looked_at first end (transitions_of d q) ≤ sum_by (λ (s : State). looked_at first end s.transitions) (take (q + 1) d.states)
all_looked_at-more first end d q = by (cases_lt q (states_of d))
  where
    f : State → ℕ
    f s = looked_at first end s.transitions

    by : (q < states_of d) ⊎ (states_of d ≤ q) → sum_by (λ (s : State). looked_at first end s.transitions) (take q d.states) + looked_at first end (transitions_of d q) ≤ sum_by (λ (s : State). looked_at first end s.transitions) (take (q + 1) d.states)
    by (inl less) = omega (arith, sum_by_more (λ (s : State). looked_at first end s.transitions) d.states q no_state less)
    by (inr past) = omega (
      arith,
      ap (looked_at first end) (no_transitions_past d q past),
      none,
      ap (sum_by (λ (s : State). looked_at first end s.transitions)) (take_all q d.states past),
      ap (sum_by (λ (s : State). looked_at first end s.transitions)) (take_all (q + 1) d.states (omega (arith, past))),
    )
      where
        none : looked_at first end [] ≡ 0
        none = refl

-- the two parts of a round look at no transition twice
one_part : (middle end letter : ℕ) → cond {A = ℕ} (nat_le 0 letter && nat_lt letter middle) 1 0 + cond (nat_le middle letter && nat_lt letter end) 1 0 ≤ 1
one_part middle end letter = grind (arith, nat_tests)

two_parts : (middle end : ℕ) (es : List Transition) → looked_at 0 middle es + looked_at middle end es ≤ length es
two_parts middle end [] = omega arith
two_parts middle end (e ∷ es) = omega (
  arith,
  two_parts middle end es,
  sum_by-cons (λ (t : Transition). cond {A = ℕ} (nat_le 0 t.letter && nat_lt t.letter middle) 1 0) e es,
  sum_by-cons (λ (t : Transition). cond {A = ℕ} (nat_le middle t.letter && nat_lt t.letter end) 1 0) e es,
  one_part middle end e.letter,
)

pub round_looks : (middle end : ℕ) (d : Automaton) → all_looked_at 0 middle d + all_looked_at middle end d ≤ transition_count d
round_looks middle end d = by d.states
  where
    by : (states : List State) → sum_by (λ (s : State). looked_at 0 middle s.transitions) states + sum_by (λ (s : State). looked_at middle end s.transitions) states ≤ sum_by (λ (s : State). length s.transitions) states
    by [] = omega arith
    by (s ∷ rest) = omega (
      arith,
      by rest,
      sum_by-cons (λ (t : State). looked_at 0 middle t.transitions) s rest,
      sum_by-cons (λ (t : State). looked_at middle end t.transitions) s rest,
      sum_by-cons (λ (t : State). length t.transitions) s rest,
      two_parts middle end s.transitions,
    )
