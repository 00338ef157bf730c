-- Where letters and words lead from states.
use Rattle.std.proofs.Common.{◌≡◌, ℕ, ◌<◌, List, [], ◌∷◌, Option, None, Some, refl, subst}
use Rattle.std.specs.Option.{IfSome, option_and_then}
use Rattle.std.proofs.lemmas.Option.{none-some, same_Some}
use Rattle.digit_tuple.specs.Deterministic.{Automaton, IsTable, letters_of, states_of, transitions_of, step_of, run_of}
use Rattle.digit_tuple.proofs.DfaLemmas.{row_at, target_by-in_range}

-- a letter leads to a state
pub step_within : (d : Automaton) (q a p : ℕ) → IsTable (letters_of d) d.states → q < states_of d → step_of d q a ≡ Some p → p < states_of d
step_within d q a p table within leads =
    subst (λ (o : Option ℕ). IfSome o (λ t. t < states_of d)) leads
    (target_by-in_range (letters_of d) (states_of d) (transitions_of d q) a (row_at d q table within).in_range)

-- a word leads to a state
pub run_within : (d : Automaton) (w : List ℕ) (q p : ℕ) → IsTable (letters_of d) d.states → q < states_of d → run_of d q w ≡ Some p → p < states_of d
run_within d [] q p table within leads = subst (λ n. n < states_of d) (same_Some q p leads) within
run_within d (a ∷ w) q p table within leads = by (step_of d q a) refl leads (λ r. run_within d w r p table)
  where
    by : (o : Option ℕ) → step_of d q a ≡ o → option_and_then (λ r. run_of d r w) o ≡ Some p → ((r : ℕ) → r < states_of d → run_of d r w ≡ Some p → p < states_of d) → p < states_of d
    by None is there rest = absurd (none-some p there)
    by (Some r) is there rest = rest r (step_within d q a r table within is) there
