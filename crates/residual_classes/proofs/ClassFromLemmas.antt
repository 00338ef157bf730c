-- The classes of states that words lead to.
use Rattle.std.proofs.Common.{◌≡◌, ℕ, ◌≤◌, List, [], ◌∷◌, ◌++◌, length, Option, None, Some, unwrap_or, refl, sym, ap, ◌∙◌, arith}
use Rattle.std.specs.Option.{option_map_or, option_and_then}
use Rattle.std.proofs.lemmas.List.{get_or_past}
use Rattle.digit_tuple.specs.declared.transitions.Transition.{Transition}
use Rattle.digit_tuple.specs.Deterministic.{Automaton, states_of, step_of, target_by, run_of}
use Rattle.digit_tuple.proofs.WordLemmas.{run_of-append}
use Rattle.residual_classes.specs.Classes.{class_of, next_of}
use Rattle.residual_classes.specs.ClassFunctions.{class_from}
use Rattle.residual_classes.proofs.SinkLemmas.{no_transitions_past}

module _ (d : Automaton) (classes : List ℕ) where
  -- a word and then another
  pub class_from-append : (q : ℕ) (w v : List ℕ) → class_from d classes q (w ++ v) ≡ option_map_or (λ p. class_from d classes p v) (run_of d q w) 0
  class_from-append q w v = ap (λ (o : Option ℕ). option_map_or (λ p. class_of classes p) o 0) (run_of-append d q w v) ∙ by (run_of d q w)
    where
      by : (o : Option ℕ) → option_map_or (λ p. class_of classes p) (option_and_then (λ p. run_of d p v) o) 0 ≡ option_map_or (λ p. class_from d classes p v) o 0
      by None = refl
      by (Some p) = refl

  module _ (count : length classes ≡ states_of d) where
    pub no_class_past : (q : ℕ) → states_of d ≤ q → class_of classes q ≡ 0
    no_class_past q past = get_or_past classes q 0 (omega (arith, count))

    -- no word has a class from the sink
    pub class_from-sink : (w : List ℕ) → class_from d classes (states_of d) w ≡ 0
    class_from-sink [] = no_class_past (states_of d) (omega arith)
    class_from-sink (a ∷ w) = ap (λ (es : List Transition). option_map_or (λ p. class_of classes p) (option_and_then (λ p. run_of d p w) (target_by es a)) 0) (no_transitions_past d (states_of d) (omega arith))

    -- a word has the class that the rest has after its first letter
    pub class_from-next : (q a : ℕ) (w : List ℕ) → class_from d classes q (a ∷ w) ≡ class_from d classes (next_of d q a) w
    class_from-next q a w = by (step_of d q a)
      where
        by : (o : Option ℕ) → option_map_or (λ p. class_of classes p) (option_and_then (λ p. run_of d p w) o) 0 ≡ class_from d classes (unwrap_or o (states_of d)) w
        by None = sym (class_from-sink w)
        by (Some p) = refl
