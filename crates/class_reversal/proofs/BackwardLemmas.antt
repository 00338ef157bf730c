-- Where words lead from the classes of the states: to the classes that the reversed words have from each state.
use Rattle.std.proofs.Common.{◌≡◌, ℕ, Bool, true, false, List, [], ◌∷◌, length, reverse, None, Some, refl, sym, ap, ◌∙◌, if◌then◌else◌}
use Rattle.std.specs.List.{range_with_len}
use Rattle.std.specs.Option.{option_and_then}
use Rattle.digit_tuple.specs.Deterministic.{Automaton, states_of}
use Rattle.digit_tuple.specs.Keys.{key_run, some_nonzero}
use Rattle.digit_tuple.proofs.PaddingLemmas.{reverse-cons}
use Rattle.residual_classes.specs.Classes.{class_of, next_of}
use Rattle.residual_classes.specs.ClassFunctions.{class_from}
use Rattle.residual_classes.proofs.ClassFromLemmas.{class_from-next}
use Rattle.class_reversal.specs.BackwardClasses.{classes_back, has_some_class}
use Rattle.class_reversal.proofs.StateClasses.{each_class, each_class-each, each_class-empty, length-each, map-twice, none_from_none}

module _ (d : Automaton) where
  -- a letter leads to the classes that it has from each state
  pub classes_back-each : (key : List ℕ) (a : ℕ) → length key ≡ states_of d → classes_back d key a ≡ some_nonzero (each_class d key (a ∷ []))
  classes_back-each key a count = ap some_nonzero (map-twice (class_of key) (λ q. next_of d q a) (λ q. class_from d key q (a ∷ [])) (range_with_len 0 (states_of d)) (λ q. sym (class_from-next d key count q a [])))

  -- a word leads to the classes that it has from each state when it is reversed
  pub key_run-each : (w key : List ℕ) → length key ≡ states_of d → has_some_class key ≡ true → key_run (classes_back d) key w ≡ some_nonzero (each_class d key (reverse w))
  key_run-each [] key count some = ap (λ b. if b then Some key else None) (sym some) ∙ ap some_nonzero (sym (each_class-empty d key count))
  key_run-each (a ∷ w) key count some = ap (option_and_then (λ next. key_run (classes_back d) next w)) (classes_back-each key a count)
      ∙ by (has_some_class next) refl (key_run-each w next (length-each d key (a ∷ [])))
    where
      next : List ℕ
      next = each_class d key (a ∷ [])

      after : each_class d next (reverse w) ≡ each_class d key (reverse (a ∷ w))
      after = each_class-each d key (a ∷ []) (reverse w) count ∙ ap (each_class d key) (sym (reverse-cons a w))

      by : (b : Bool) → has_some_class next ≡ b → (has_some_class next ≡ true → key_run (classes_back d) next w ≡ some_nonzero (each_class d next (reverse w)))
          → option_and_then (λ next. key_run (classes_back d) next w) (if b then Some next else None) ≡ some_nonzero (each_class d key (reverse (a ∷ w)))
      by true is rest = rest is ∙ ap some_nonzero after
      by false is rest = sym (ap some_nonzero (sym after) ∙ ap (λ b. if b then Some (each_class d next (reverse w)) else None) (none_from_none d next (reverse w) (length-each d key (a ∷ [])) is))
