-- Classes of which states are compared with a leader.
use Rattle.std.proofs.Common.{◌≡◌, ℕ, ◌+◌, ◌<◌, ◌≤◌, List, refl, sym, ap, ◌∙◌, subst, arith}
use Rattle.digit_tuple.specs.Deterministic.{Automaton, states_of}
use Rattle.residual_classes.specs.Classes.{class_of}
use Rattle.residual_classes.specs.Alike.{AreAlike}
use Rattle.residual_classes.specs.CoarseClasses.{HaveOneOutput}

-- states of one class are alike
abbrev pub IsStable : Automaton → List ℕ → Type 0
IsStable d classes = (p q : ℕ) → p ≤ states_of d → q ≤ states_of d → class_of classes p ≡ class_of classes q → AreAlike d classes p q

module _ (d : Automaton) (classes : List ℕ) where
  pub AreAlike-refl : (q : ℕ) → AreAlike d classes q q
  AreAlike-refl q = record { own = refl; next = λ a inside. refl }

  -- states that are like the leader of their class are alike
  pub IsStable-led : (leaders : List ℕ) → ((q : ℕ) → q < states_of d + 1 → AreAlike d classes q (class_of leaders (class_of classes q))) → IsStable d classes
  IsStable-led leaders led p q small low own =
      let one = led p (omega arith) in
      let two = subst (λ c. AreAlike d classes q (class_of leaders c)) (sym own) (led q (omega arith)) in
      record {
        own = own;
        next = λ a inside. one.next a inside ∙ sym (two.next a inside);
      }

  -- states have the outputs of the leaders of their classes
  pub HaveOneOutput-led : (outputs leaders : List ℕ) → ((q : ℕ) → q < states_of d + 1 → class_of outputs q ≡ class_of outputs (class_of leaders (class_of classes q))) → HaveOneOutput d outputs classes
  HaveOneOutput-led outputs leaders led p q small low own = led p (omega arith) ∙ ap (λ c. class_of outputs (class_of leaders c)) own ∙ sym (led q (omega arith))
