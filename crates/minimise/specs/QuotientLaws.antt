-- Letters lead from classes to classes.
use Rattle.std.specs.Prelude.{◌≡◌, ◌==◌, ℕ, ◌<◌, ◌≤◌, Bool, true, false, List, [], ◌∷◌, Option, None, Some, MatchOption, ⊤, if◌then◌else◌, unwrap_or, ◌⊎◌, IfSome}
use Rattle.std.specs.Option.{option_map}
use Rattle.std.proofs.Common.{arith, refl, ap, inl, inr}
use Rattle.std.proofs.lemmas.Bool.{cases_lt, eqb-false}
use Rattle.digit_tuple.specs.Deterministic.{Automaton, letters_of, states_of, step_of, transitions_of}
use Rattle.digit_tuple.proofs.DfaLemmas.{row_at, target_by-in_range}
use Rattle.residual_classes.specs.Classes.{class_of, next_of, dead_class}
use Rattle.minimise.specs.Quotient.{IsQuotient, IsClass, next_class, leader_of}

module _ (d : Automaton) (outputs classes leaders : List ℕ) (quotient : IsQuotient d outputs classes leaders) where
  -- the class of a state
  class_is_key : (q : ℕ) → q < states_of d → IsClass d classes leaders (class_of classes q ∷ [])
  class_is_key q within = record {
    one = refl;
    in_range = quotient.below q (omega arith);
    leader = quotient.leaders_are.within q within;
    itself = quotient.leaders_are.same q within;
  }

  pub start_is_class : IsClass d classes leaders (class_of classes 0 ∷ [])
  start_is_class = class_is_key 0 quotient.table.initial

  -- the class that a letter leads to is not that of the sink, so it is a state's
  live_is_class : (n : ℕ) → n ≤ states_of d → MatchOption (option_map (λ class. class ∷ []) (if class_of classes n == dead_class d classes then None else Some (class_of classes n))) ⊤ (IsClass d classes leaders)
  live_is_class n inside = by (class_of classes n == dead_class d classes) refl (cases_lt n (states_of d))
    where
      by : (b : Bool) → (class_of classes n == dead_class d classes) ≡ b → (n < states_of d) ⊎ (states_of d ≤ n)
          → MatchOption (option_map (λ class. class ∷ []) (if b then None else Some (class_of classes n))) ⊤ (IsClass d classes leaders)
      by true is cases = tt
      by false live (inl within) = class_is_key n within
      by false live (inr past) = let same : n ≡ states_of d = omega arith in absurd (eqb-false (class_of classes n) (dead_class d classes) live (ap (class_of classes) same))

  pub next_class_is_class : (key : List ℕ) (a : ℕ) → IsClass d classes leaders key → MatchOption (next_class d classes leaders key a) ⊤ (IsClass d classes leaders)
  next_class_is_class key a is = live_is_class (next_of d (leader_of leaders key) a)
      (by (step_of d (leader_of leaders key) a) (target_by-in_range (letters_of d) (states_of d) (transitions_of d (leader_of leaders key)) a (row_at d (leader_of leaders key) quotient.table is.leader).in_range))
    where
      by : (o : Option ℕ) → IfSome o (λ t. t < states_of d) → unwrap_or o (states_of d) ≤ states_of d
      by None within = omega arith
      by (Some t) within = omega arith
