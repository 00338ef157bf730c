-- Where words lead when missing transitions lead to the sink: to it, or to states from which some word is accepted.
use Rattle.std.proofs.Common.{◌≡◌, ◌==◌, ℕ, ◌<◌, Bool, true, false, not, ◌&&◌, List, [], ◌∷◌, length, Option, None, Some, unwrap_or, ◌⊎◌, inl, inr, refl, sym, ap, ◌∙◌, subst, arith, if◌then◌else◌}
use Rattle.std.specs.Option.{option_map_or, option_and_then}
use Rattle.std.proofs.lemmas.Bool.Decides.{Decides-eqb}
use Rattle.digit_tuple.specs.declared.transitions.Transition.{Transition}
use Rattle.digit_tuple.specs.Letters.{IsWord}
use Rattle.digit_tuple.specs.Deterministic.{Automaton, IsTable, IsRow, letters_of, states_of, accepting_of, transitions_of, step_of, run_of, target_by, accepts_from}
use Rattle.residual_classes.specs.Classes.{next_of, first_of}
use Rattle.residual_classes.proofs.SinkLemmas.{no_transitions_past, row_of}
use Rattle.minimise.specs.Residuals.{IsDead}
use Rattle.minimise.proofs.RunLemmas.{step_within}

-- where a word leads from a state
abbrev pub lead : Automaton → ℕ → List ℕ → ℕ
lead d q [] = q
lead d q (a ∷ w) = lead d (next_of d q a) w

-- the sink, or a state from which some word is accepted
abbrev pub IsPlace : Automaton → ℕ → Type 0
IsPlace d q = (q ≡ states_of d) ⊎ ((q < states_of d) × ¬ IsDead d q)

module _ (d : Automaton) where
  lead-sink : (w : List ℕ) → lead d (states_of d) w ≡ states_of d
  lead-sink [] = refl
  lead-sink (a ∷ w) = ap (λ (es : List Transition). lead d (unwrap_or (target_by es a) (states_of d)) w) (no_transitions_past d (states_of d) (omega arith)) ∙ lead-sink w

  -- where a word leads, or the sink where it leads nowhere
  pub lead-run : (w : List ℕ) (q : ℕ) → lead d q w ≡ unwrap_or (run_of d q w) (states_of d)
  lead-run [] q = refl
  lead-run (a ∷ w) q = by (step_of d q a) (lead-run w)
    where
      by : (o : Option ℕ) → ((p : ℕ) → lead d p w ≡ unwrap_or (run_of d p w) (states_of d)) → lead d (unwrap_or o (states_of d)) w ≡ unwrap_or (option_and_then (λ p. run_of d p w) o) (states_of d)
      by None rest = lead-sink w
      by (Some p) rest = rest p

module _ (d : Automaton) (table : IsTable (letters_of d) d.states) (live : (p a q : ℕ) → p < states_of d → a < letters_of d → step_of d p a ≡ Some q → ¬ IsDead d q) where
  live_transitions : (es : List Transition) → transitions_of d 0 ≡ es → ¬ (length es ≡ 0) → ¬ IsDead d 0
  live_transitions [] are some dead = some refl
  live_transitions (e ∷ es) are some dead =
      let row : IsRow (letters_of d) (states_of d) (e ∷ es) = subst (λ (xs : List Transition). IsRow (letters_of d) (states_of d) xs) are (row_of d table 0) in
      let small : e.letter < letters_of d = (row.in_range 0 e (omega arith)).0 in
      let step : step_of d 0 e.letter ≡ Some e.target =
      ap (λ (xs : List Transition). target_by xs e.letter) are ∙ ap (λ b. if b then Some e.target else target_by es e.letter) ((Decides-eqb e.letter e.letter).1 refl) in
      live 0 e.letter e.target table.initial small step
      (λ w over. sym (ap (λ (o : Option ℕ). option_map_or (λ p. accepts_from d p w) o false) step) ∙ dead (e.letter ∷ w) (small, over))

  pub first_is_place : IsPlace d (first_of d)
  first_is_place = by (accepting_of d 0) (length (transitions_of d 0) == 0) refl refl
    where
      by : (b z : Bool) → accepting_of d 0 ≡ b → (length (transitions_of d 0) == 0) ≡ z → IsPlace d (if not b && z then states_of d else 0)
      by true z is none = inr (table.initial, λ dead. let no : accepting_of d 0 ≡ false = dead [] tt in cc)
      by false true is none = inl refl
      by false false is some = inr (table.initial, live_transitions (transitions_of d 0) refl (λ empty. let yes : (length (transitions_of d 0) == 0) ≡ true = (Decides-eqb (length (transitions_of d 0)) 0).1 empty in cc))

  pub next_is_place : (q a : ℕ) → IsPlace d q → a < letters_of d → IsPlace d (next_of d q a)
  next_is_place q a (inl sink) small = inl (ap (λ (es : List Transition). unwrap_or (target_by es a) (states_of d)) (no_transitions_past d q (omega (arith, sink))))
  next_is_place q a (inr there) small = by (step_of d q a) refl
    where
      by : (o : Option ℕ) → step_of d q a ≡ o → IsPlace d (unwrap_or o (states_of d))
      by None none = inl refl
      by (Some t) some = inr (step_within d q a t table there.0 some, live q a t there.0 small some)

  pub lead_is_place : (w : List ℕ) (q : ℕ) → IsPlace d q → IsWord (letters_of d) w → IsPlace d (lead d q w)
  lead_is_place [] q place over = place
  lead_is_place (a ∷ w) q place over = lead_is_place w (next_of d q a) (next_is_place q a place over.0) over.1
