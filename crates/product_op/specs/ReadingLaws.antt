-- Letters lead from keys to keys, or to none.
use Rattle.std.specs.Prelude.{◌==◌, ℕ, ◌≤◌, Bool, true, false, not, ◌&&◌, List, length, None, Some, MatchOption, ⊤, if◌then◌else◌}
use Rattle.std.proofs.Common.{arith, sym, subst}
use Rattle.std.proofs.lemmas.List.{get_or-map, length-map}
use Rattle.std.proofs.lemmas.List.FromFn.{length-map-range_with_len, get_or-map-range_with_len}
use Rattle.digit_tuple.specs.Deterministic.{Automaton, states_of, accepting_of, transitions_of}
use Rattle.residual_classes.specs.Classes.{next_of, first_of}
use Rattle.residual_classes.proofs.SinkLemmas.{next_within}
use Rattle.product_op.specs.declared.rule.Rule.{Rule}
use Rattle.product_op.specs.SinkKeys.{is_dead_key, live_key_after}
use Rattle.product_op.specs.Readings.{Reading, AreReadings, AreStates, no_reading, reading_at, part_read, state_at, first_key, next_key}

first_within : (d : Automaton) → first_of d ≤ states_of d
first_within d = by (not (accepting_of d 0) && (length (transitions_of d 0) == 0))
  where
    by : (b : Bool) → (if b then states_of d else 0) ≤ states_of d
    by true = omega arith
    by false = omega arith

module _ (letters : ℕ) (readings : List Reading) (are : AreReadings letters readings) where
  pub first_is_key : AreStates readings (first_key readings)
  first_is_key = record {
    count = length-map readings (λ r. first_of r.automaton);
    within = λ i inside.
        subst (λ q. q ≤ states_of (reading_at readings i).automaton) (sym (get_or-map (λ r. first_of r.automaton) readings i no_reading 0 inside)) (first_within (reading_at readings i).automaton);
  }

  pub next_is_key : (key : List ℕ) (a : ℕ) → AreStates readings (next_key readings key a)
  next_is_key key a = record {
    count = length-map-range_with_len (λ i. next_of (reading_at readings i).automaton (state_at key i) (part_read (reading_at readings i) a)) 0 (length readings);
    within = λ i inside.
        subst (λ q. q ≤ states_of (reading_at readings i).automaton)
        (sym (get_or-map-range_with_len (λ i. next_of (reading_at readings i).automaton (state_at key i) (part_read (reading_at readings i) a)) 0 (length readings) i i 0 inside (omega arith)))
        (next_within (reading_at readings i).automaton (are i no_reading inside).table (state_at key i) (part_read (reading_at readings i) a));
  }

  pub live_key_is_key : (rule : Rule) (key : List ℕ) (a : ℕ) → MatchOption (live_key_after rule readings key a) ⊤ (AreStates readings)
  live_key_is_key rule key a = by (is_dead_key rule readings (next_key readings key a))
    where
      by : (b : Bool) → MatchOption (if b then None else Some (next_key readings key a)) ⊤ (AreStates readings)
      by true = tt
      by false = next_is_key key a
