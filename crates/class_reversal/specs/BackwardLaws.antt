-- A letter leads from classes of the states to classes of the states.
use Rattle.std.specs.Prelude.{◌≡◌, ℕ, Bool, true, false, List, length, map, None, Some, MatchOption, ⊤, if◌then◌else◌}
use Rattle.std.specs.List.{range_with_len}
use Rattle.std.proofs.Common.{◌∙◌}
use Rattle.std.proofs.lemmas.List.{length-map}
use Rattle.std.proofs.lemmas.List.FromFn.{length-range_with_len}
use Rattle.digit_tuple.specs.Deterministic.{Automaton, states_of}
use Rattle.residual_classes.specs.Classes.{class_of, next_of}
use Rattle.class_reversal.specs.BackwardClasses.{HasStateClasses, classes_back, has_some_class, targets_by}

-- each state has a target
pub length-targets_by : (d : Automaton) (letter : ℕ) → length (targets_by d letter) ≡ states_of d
length-targets_by d letter = length-map (range_with_len 0 (states_of d)) (λ q. next_of d q letter) ∙ length-range_with_len 0 (states_of d)

-- and that target a class
pub back_has_state_classes : (d : Automaton) (key : List ℕ) (letter : ℕ) → MatchOption (classes_back d key letter) ⊤ (HasStateClasses d)
back_has_state_classes d key letter = by (has_some_class (map (class_of key) (targets_by d letter)))
  where
    by : (b : Bool) → MatchOption (if b then Some (map (class_of key) (targets_by d letter)) else None) ⊤ (HasStateClasses d)
    by true = length-map (targets_by d letter) (class_of key) ∙ length-targets_by d letter
    by false = tt
