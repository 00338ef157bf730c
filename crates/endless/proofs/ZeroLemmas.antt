-- Leading zeros and the table of a canonical automaton.
use Rattle.std.proofs.Common.{◌≡◌, ℕ, ◌<◌, true, false, List, [], ◌∷◌, ◌++◌, reverse, get_or, Option, None, Some, ◌⊎◌, inl, inr, refl, sym, ap, ◌∙◌, arith}
use Rattle.std.specs.Option.{IfSome, option_map_or}
use Rattle.std.proofs.lemmas.Bool.{false≢true, cases_order}
use Rattle.std.proofs.lemmas.List.{reverse-reverse}
use Rattle.digit_tuple.specs.Deterministic.{Automaton, IsTable, letters_of, states_of, step_of, run_of, accepting_of, accepts_from, accepts_of}
use Rattle.digit_tuple.specs.declared.direction.Direction.TheVariants.{Msd, Lsd}
use Rattle.digit_tuple.proofs.DfaLemmas.{row_at, target_by-in_range}
use Rattle.digit_tuple.proofs.PaddingLemmas.{reverse-cons}
use Rattle.digit_tuple.proofs.WordLemmas.{accepts_from-append}
use Rattle.determinise.proofs.ReversalLemmas.{accepts_from-run, run_of-in_range, same_bool}
use Rattle.minimise.specs.Residuals.{SameResidual}
use Rattle.minimise.specs.Canonical.{IsCanonical}
use Rattle.endless.specs.LanguageLaws.{KeepsZeros, language_in}
use Rattle.endless.specs.Links.{IgnoresZero}

-- letters lead to states
pub step_within : (d : Automaton) → IsTable (letters_of d) d.states → (p a q : ℕ) → p < states_of d → step_of d p a ≡ Some q → q < states_of d
step_within d table p a q within leads = by (step_of d p a) leads (target_by-in_range (letters_of d) (states_of d) _ a (row_at d p table within).in_range)
  where
    by : (o : Option ℕ) → o ≡ Some q → IfSome o (λ t. t < states_of d) → q < states_of d
    by None is inside = let none : None ≡ Some q = is in cc
    by (Some t) is inside = let same : t ≡ q = cc in omega (arith, inside, same)

-- the first letter of an accepted word leads somewhere, from where the rest is accepted
pub accepted_step : (d : Automaton) (q a : ℕ) (w : List ℕ) → accepts_from d q (a ∷ w) ≡ true → (p : ℕ) × (step_of d q a ≡ Some p) × (accepts_from d p w ≡ true)
accepted_step d q a w accepted = by (step_of d q a) refl accepted
  where
    by : (o : Option ℕ) → step_of d q a ≡ o → option_map_or (λ p. accepts_from d p w) o false ≡ true → (p : ℕ) × (step_of d q a ≡ Some p) × (accepts_from d p w ≡ true)
    by None leads h = absurd (false≢true h)
    by (Some p) leads h = (p, leads, h)

-- after a letter that leads somewhere
pub accepts_from-step : (d : Automaton) (q a p : ℕ) (w : List ℕ) → step_of d q a ≡ Some p → accepts_from d q (a ∷ w) ≡ accepts_from d p w
accepts_from-step d q a p w leads = ap (λ (o : Option ℕ). option_map_or (λ r. accepts_from d r w) o false) leads

-- after a word that leads somewhere
pub accepts_from-run_to : (d : Automaton) (q p : ℕ) (w v : List ℕ) → run_of d q w ≡ Some p → accepts_from d q (w ++ v) ≡ accepts_from d p v
accepts_from-run_to d q p w v leads = accepts_from-append d q w v ∙ ap (λ (o : Option ℕ). option_map_or (λ r. accepts_from d r v) o false) leads

module _ (d : Automaton) (canonical : IsCanonical d) where
  -- states with one residual language are one
  pub one_state : (p q : ℕ) → p < states_of d → q < states_of d → SameResidual d p d q → p ≡ q
  one_state p q small low same = by (cases_order p q)
    where
      by : (p ≡ q) ⊎ ((p < q) ⊎ (q < p)) → p ≡ q
      by (inl is) = is
      by (inr (inl less)) = absurd (canonical.distinct p q less low same)
      by (inr (inr more)) = absurd (canonical.distinct q p more small (λ w over. sym (same w over)))

  -- the most significant digit first: the initial state accepts, and 0 leads to it again
  pub keeps_first : (accepting_of d 0 ≡ true) × (step_of d 0 0 ≡ Some 0) → KeepsZeros (language_in Msd d)
  keeps_first both = record {
    empty = both.0;
    zeros = λ w. ((λ t. sym (accepts_from-step d 0 0 0 w both.1) ∙ t), (λ t. accepts_from-step d 0 0 0 w both.1 ∙ t));
  }

  pub kept_first : KeepsZeros (language_in Msd d) → (accepting_of d 0 ≡ true) × (step_of d 0 0 ≡ Some 0)
  kept_first keeps = (keeps.empty, leads)
    where
      first : (p : ℕ) × (step_of d 0 0 ≡ Some p) × (accepts_from d p [] ≡ true)
      first = accepted_step d 0 0 [] ((keeps.zeros []).1 keeps.empty)

      same : SameResidual d first.0 d 0
      same w over = same_bool (accepts_from d first.0 w) (accepts_from d 0 w)
          (λ t. (keeps.zeros w).0 (accepts_from-step d 0 0 first.0 w first.1 ∙ t))
          (λ t. sym (accepts_from-step d 0 0 first.0 w first.1) ∙ (keeps.zeros w).1 t)

      leads : step_of d 0 0 ≡ Some 0
      leads = first.1 ∙ ap Some (one_state first.0 0 (step_within d canonical.table 0 0 first.0 canonical.table.initial first.1) canonical.table.initial same)

  -- the most significant digit last: the initial state accepts, and from each state 0 alone is accepted where nothing is
  zero_pushed : ((q : ℕ) → q < states_of d → IgnoresZero d q) → (w : List ℕ) → accepts_of d (w ++ 0 ∷ []) ≡ accepts_of d w
  zero_pushed ignores w = accepts_from-append d 0 w (0 ∷ []) ∙ by (run_of d 0 w) refl ∙ sym (accepts_from-run d 0 w)
    where
      by : (o : Option ℕ) → run_of d 0 w ≡ o → option_map_or (λ p. accepts_from d p (0 ∷ [])) o false ≡ option_map_or (accepting_of d) o false
      by None leads = refl
      by (Some p) leads = ignores p (run_of-in_range d canonical.table w 0 p canonical.table.initial leads)

  pub keeps_last : accepting_of d 0 ≡ true → ((q : ℕ) → q < states_of d → IgnoresZero d q) → KeepsZeros (language_in Lsd d)
  keeps_last accepts ignores = record {
    empty = accepts;
    zeros = λ w. let same : language_in Lsd d (0 ∷ w) ≡ language_in Lsd d w = ap (accepts_of d) (reverse-cons 0 w) ∙ zero_pushed ignores (reverse w) in ((λ t. sym same ∙ t), (λ t. same ∙ t));
  }

  pub kept_last : KeepsZeros (language_in Lsd d) → (q : ℕ) → q < states_of d → IgnoresZero d q
  kept_last keeps q within =
      sym (accepts_from-run_to d 0 q u (0 ∷ []) lead)
      ∙ ap (accepts_of d) (sym (reverse-cons 0 (reverse u) ∙ ap (λ (x : List ℕ). x ++ 0 ∷ []) (reverse-reverse u)))
      ∙ same_bool (language_in Lsd d (0 ∷ reverse u)) (language_in Lsd d (reverse u)) (keeps.zeros (reverse u)).0 (keeps.zeros (reverse u)).1
      ∙ ap (accepts_of d) (reverse-reverse u)
      ∙ accepts_from-run d 0 u
      ∙ ap (λ (o : Option ℕ). option_map_or (accepting_of d) o false) lead
    where
      u : List ℕ
      u = get_or canonical.firsts q []

      lead : run_of d 0 u ≡ Some q
      lead = canonical.numbered.lead q within
