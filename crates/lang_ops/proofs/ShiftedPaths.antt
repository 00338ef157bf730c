-- Paths among the states of an automaton that come after others.
use Rattle.std.proofs.Common.{◌≡◌, ◌↔◌, ℕ, ◌+◌, ◌<◌, List, [], ◌∷◌, Option, None, Some, refl, sym, ap, ◌∙◌, subst}
use Rattle.std.specs.Option.{option_and_then}
use Rattle.std.proofs.lemmas.Option.{none-some, same_Some}
use Rattle.digit_tuple.specs.Automaton.{Branching, Leads, Path}
use Rattle.digit_tuple.specs.Deterministic.{Automaton, IsTable, letters_of, run_of, states_of, step_of}
use Rattle.minimise.proofs.RunLemmas.{step_within}

-- a letter leads from a state as it does in the automaton, so many states further
abbrev pub LeadsShifted : Automaton → ℕ → Branching → Type 0
LeadsShifted b before n = (p c q : ℕ) → p < states_of b → Leads n (p + before) c q ↔ ((r : ℕ) × (q ≡ r + before) × (step_of b p c ≡ Some r))

module _ (b : Automaton) (table : IsTable (letters_of b) b.states) (before : ℕ) (n : Branching) (leads : LeadsShifted b before n) where
  pub shifted_path : (w : List ℕ) (p r : ℕ) → p < states_of b → run_of b p w ≡ Some r → Path n (p + before) w (r + before)
  shifted_path [] p r low is = ap (λ k. k + before) (same_Some p r is)
  shifted_path (c ∷ w) p r low is = by (step_of b p c) refl is (λ t. shifted_path w t r)
    where
      by : (o : Option ℕ) → step_of b p c ≡ o → option_and_then (λ t. run_of b t w) o ≡ Some r → ((t : ℕ) → t < states_of b → run_of b t w ≡ Some r → Path n (t + before) w (r + before))
          → (s : ℕ) × Leads n (p + before) c s × Path n s w (r + before)
      by None step none rest = absurd (none-some _ none)
      by (Some t) step some rest = (t + before, (leads p c (t + before) low).1 (t, refl, step), rest t (step_within b p c t table low step) some)

  pub run_from_shifted : (w : List ℕ) (p q : ℕ) → p < states_of b → Path n (p + before) w q → (r : ℕ) × (q ≡ r + before) × (run_of b p w ≡ Some r)
  run_from_shifted [] p q low path = (p, sym path, refl)
  run_from_shifted (c ∷ w) p q low path =
      let step = (leads p c path.0 low).0 path.1 in
      let rest = run_from_shifted w step.0 q (step_within b p c step.0 table low step.2) (subst (λ k. Path n k w q) step.1 path.2) in
      (rest.0, rest.1, ap (λ (o : Option ℕ). option_and_then (λ t. run_of b t w) o) step.2 ∙ rest.2)
