-- Accepted words are over the automaton's letters.
use Rattle.std.proofs.Common.{◌≡◌, ◌==◌, ℕ, suc, ◌<◌, Bool, true, false, List, [], ◌∷◌, Option, None, Some, if◌then◌else◌, refl, ap, sym, ◌∙◌, subst, inl, inr, arith, IsTrue}
use Rattle.std.specs.List.{All}
use Rattle.std.specs.Option.{option_map_or}
use Rattle.std.proofs.lemmas.Bool.{false≢true, cases_lt, eqb-true}
use Rattle.std.proofs.lemmas.List.{get_or_past}
use Rattle.digit_tuple.specs.Letters.{IsWord}
use Rattle.digit_tuple.specs.declared.transitions.Transition.{Transition}
use Rattle.digit_tuple.specs.Deterministic.{Automaton, State, IsTable, no_state, target_by, transitions_of, states_of, letters_of, step_of, accepts_from, accepts_of}
use Rattle.digit_tuple.proofs.DfaLemmas.{row_at}

-- the first letter leads somewhere, from where the rest is accepted
accepted_step : (d : Automaton) (q a : ℕ) (w : List ℕ) → IsTrue (accepts_from d q (a ∷ w)) → (p : ℕ) × (step_of d q a ≡ Some p) × IsTrue (accepts_from d p w)
accepted_step d q a w accepted = by (step_of d q a) refl accepted
  where
    by : (o : Option ℕ) → step_of d q a ≡ o → IsTrue (option_map_or (λ p. accepts_from d p w) o false) → (p : ℕ) × (step_of d q a ≡ Some p) × IsTrue (accepts_from d p w)
    by None leads h = absurd (false≢true h)
    by (Some p) leads h = (p, leads, h)

-- a letter that leads somewhere is one of the alphabet
letter_of_transition : (letters states : ℕ) (es : List Transition) (letter p : ℕ) → All (λ transition. (transition.letter < letters) × (transition.target < states)) es → target_by es letter ≡ Some p → letter < letters
letter_of_transition letters states [] letter p range leads = absurd (false≢true (ap (λ (o : Option ℕ). option_map_or (λ n. true) o false) leads))
letter_of_transition letters states (e ∷ es) letter p range leads = by (e.letter == letter) refl leads (letter_of_transition letters states es letter p (λ k z within. range (suc k) z (omega (arith, within))))
  where
    by : (b : Bool) → (e.letter == letter) ≡ b → (if b then Some e.target else target_by es letter) ≡ Some p → (target_by es letter ≡ Some p → letter < letters) → letter < letters
    by true same found rest = subst (λ n. n < letters) (eqb-true e.letter letter same) (range 0 e (omega arith)).0
    by false other found rest = rest found

step_over : (d : Automaton) (q a p : ℕ) → IsTable (letters_of d) d.states → step_of d q a ≡ Some p → a < letters_of d
step_over d q a p table leads = elim (cases_lt q (states_of d)) [
  | inl within ↦ letter_of_transition (letters_of d) (states_of d) (transitions_of d q) a p (row_at d q table within).in_range leads
  | inr past ↦
      letter_of_transition (letters_of d) (states_of d) [] a p (λ k z within. absurd (omega (arith, within)))
      (sym (ap (λ (s : State). target_by s.transitions a) (get_or_past d.states q no_state past)) ∙ leads)
]

accepted_from : (d : Automaton) (q : ℕ) (w : List ℕ) → IsTable (letters_of d) d.states → IsTrue (accepts_from d q w) → IsWord (letters_of d) w
accepted_from d q [] table accepted = tt
accepted_from d q (a ∷ w) table accepted =
    let step = accepted_step d q a w accepted in
    (step_over d q a (step.0) table step.1, accepted_from d (step.0) w table step.2)

pub accepted_over : (d : Automaton) (w : List ℕ) → IsTable (letters_of d) d.states → IsTrue (accepts_of d w) → IsWord (letters_of d) w
accepted_over d w table accepted = accepted_from d 0 w table accepted
