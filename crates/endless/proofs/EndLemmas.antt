-- States from which words of zeros alone are accepted.
use Rattle.std.proofs.Common.{◌≡◌, ◌==◌, not, ℕ, zero, suc, ◌<◌, Bool, true, false, List, [], ◌∷◌, Option, None, Some, ◌⊎◌, inl, inr, refl, sym, ap, ◌∙◌, arith}
use Rattle.std.specs.List.{list_any}
use Rattle.std.specs.Option.{option_map_or}
use Rattle.std.proofs.lemmas.Bool.{false≢true, true≢false, ne_eqb}
use Rattle.digit_tuple.specs.declared.transitions.Transition.{Transition}
use Rattle.digit_tuple.specs.Deterministic.{Automaton, states_of, transitions_of, step_of, accepting_of, accepts_from}
use Rattle.digit_tuple.proofs.MemberLemmas.{list_any-contains, contains_from_list_any}
use Rattle.minimise.specs.Canonical.{IsCanonical}
use Rattle.endless.specs.Links.{IgnoresZero, IsEnd}
use Rattle.endless.proofs.ZeroLemmas.{one_state, step_within, accepted_step, accepts_from-step}
use Rattle.endless.proofs.LiveLemmas.{Reaches, Misses, reaches_or_misses, step_of_transition, transition_there, live_after}
use Rattle.endless.proofs.RoundLemmas.{run_of-step}

-- the letter is not 0
abbrev is_other : Transition → Bool
is_other e = not (e.letter == 0)

-- some letter but 0 leads somewhere
abbrev pub has_other : Automaton → ℕ → Bool
has_other d q = list_any is_other (transitions_of d q)

other_letter : (a : ℕ) → not (a == 0) ≡ true → (b : ℕ) × (a ≡ suc b)
other_letter zero is = absurd (false≢true is)
other_letter (suc b) is = (b, refl)

-- no word of which a letter is not 0 is accepted
module _ (d : Automaton) where
  pub end_other : (q : ℕ) → IsEnd d q → (a : ℕ) (w : List ℕ) → accepts_from d q (suc a ∷ w) ≡ false
  end_other q end a w = by (step_of d q (suc a)) refl
    where
      by : (o : Option ℕ) → step_of d q (suc a) ≡ o → option_map_or (λ p. accepts_from d p w) o false ≡ false
      by None is = refl
      by (Some p) is = absurd (end.alone a p is)

  ends_accept : (p q : ℕ) → IsEnd d p → IsEnd d q → (w : List ℕ) → accepts_from d p w ≡ accepts_from d q w
  ends_accept p q one other [] = one.accepts ∙ sym other.accepts
  ends_accept p q one other (zero ∷ w) = accepts_from-step d p 0 p w one.loop ∙ ends_accept p q one other w ∙ sym (accepts_from-step d q 0 q w other.loop)
  ends_accept p q one other (suc a ∷ w) = end_other p one a w ∙ sym (end_other q other a w)

  module _ (canonical : IsCanonical d) where
    -- there is one such state at most
    pub ends_same : (p q : ℕ) → p < states_of d → q < states_of d → IsEnd d p → IsEnd d q → p ≡ q
    ends_same p q small low one other = one_state d canonical p q small low (λ w over. ends_accept p q one other w)

    pub other_leads : (q : ℕ) → q < states_of d → has_other d q ≡ true → (b : ℕ) × (p : ℕ) × (step_of d q (suc b) ≡ Some p)
    other_leads q within is =
        let found = contains_from_list_any is_other (transitions_of d q) is in
        let letter = other_letter found.0.letter found.2 in
        (letter.0, found.0.target, ap (step_of d q) (sym letter.1) ∙ step_of_transition d q canonical.table within found.0 found.1)

    no_other : (q b p : ℕ) → has_other d q ≡ false → ¬ (step_of d q (suc b) ≡ Some p)
    no_other q b p none leads =
        let found = transition_there (transitions_of d q) (suc b) p leads in
        true≢false (sym (list_any-contains is_other (transitions_of d q) found.0 found.1 (ap (λ (a : ℕ). not (a == 0)) found.2 ∙ ap not (ne_eqb (suc b) 0 (λ is. omega (arith, is))))) ∙ none)

    -- no state after which a letter is not 0 is reached
    abbrev IsBare : ℕ → Type 0
    IsBare q = Misses d canonical.table (has_other d) q

    bare_other : (q b p : ℕ) → IsBare q → ¬ (step_of d q (suc b) ≡ Some p)
    bare_other q b p bare leads = no_other q b p (bare [] q refl) leads

    bare_next : (q a p : ℕ) → IsBare q → step_of d q a ≡ Some p → IsBare p
    bare_next q a p bare leads v r led = bare (a ∷ v) r (run_of-step d q a p v leads ∙ led)

    module _ (ignores : (q : ℕ) → q < states_of d → IgnoresZero d q) where
      bare_accepts : (v : List ℕ) (q : ℕ) → q < states_of d → IsBare q → accepts_from d q v ≡ true → accepting_of d q ≡ true
      bare_accepts [] q within bare accepted = accepted
      bare_accepts (zero ∷ v) q within bare accepted =
          let step = accepted_step d q 0 v accepted in
          sym (ignores q within) ∙ accepts_from-step d q 0 step.0 [] step.1
          ∙ bare_accepts v step.0 (step_within d canonical.table q 0 step.0 within step.1) (bare_next q 0 step.0 bare step.1) step.2
      bare_accepts (suc a ∷ v) q within bare accepted = let step = accepted_step d q (suc a) v accepted in absurd (bare_other q a step.0 bare step.1)

      bare_refuses : (q a : ℕ) (w : List ℕ) → IsBare q → accepts_from d q (suc a ∷ w) ≡ false
      bare_refuses q a w bare = by (step_of d q (suc a)) refl
        where
          by : (o : Option ℕ) → step_of d q (suc a) ≡ o → option_map_or (λ p. accepts_from d p w) o false ≡ false
          by None is = refl
          by (Some p) is = absurd (bare_other q a p bare is)

      -- 0 leads from such a state to one
      zero_step : (q : ℕ) → q < states_of d → accepting_of d q ≡ true → (t : ℕ) × (step_of d q 0 ≡ Some t) × (accepting_of d t ≡ true)
      zero_step q within accepts = accepted_step d q 0 [] (ignores q within ∙ accepts)

      bare_same : (w : List ℕ) (p q : ℕ) → p < states_of d → q < states_of d → IsBare p → IsBare q → accepting_of d p ≡ true → accepting_of d q ≡ true → accepts_from d p w ≡ accepts_from d q w
      bare_same [] p q small low bare other one two = one ∙ sym two
      bare_same (zero ∷ w) p q small low bare other one two =
          let s = zero_step p small one in
          let t = zero_step q low two in
          accepts_from-step d p 0 s.0 w s.1
          ∙ bare_same w s.0 t.0 (step_within d canonical.table p 0 s.0 small s.1) (step_within d canonical.table q 0 t.0 low t.1) (bare_next p 0 s.0 bare s.1) (bare_next q 0 t.0 other t.1) s.2 t.2
          ∙ sym (accepts_from-step d q 0 t.0 w t.1)
      bare_same (suc a ∷ w) p q small low bare other one two = bare_refuses p a w bare ∙ sym (bare_refuses q a w other)

      bare_end : (q : ℕ) → q < states_of d → IsBare q → accepting_of d q ≡ true → IsEnd d q
      bare_end q within bare accepts =
          let t = zero_step q within accepts in
          let inside = step_within d canonical.table q 0 t.0 within t.1 in record {
            accepts = accepts;
            loop = t.1 ∙ ap Some (one_state d canonical t.0 q inside within (λ w over. bare_same w t.0 q inside within (bare_next q 0 t.0 bare t.1) bare t.2 accepts));
            alone = λ a p. bare_other q a p bare;
          }

      -- after a transition a letter but 0 is reached, or words of zeros alone are accepted
      pub rich_or_end : (p a q : ℕ) → p < states_of d → step_of d p a ≡ Some q → Reaches d canonical.table (has_other d) q ⊎ IsEnd d q
      rich_or_end p a q small leads = by (reaches_or_misses d canonical.table (has_other d) q within)
        where
          within : q < states_of d
          within = step_within d canonical.table p a q small leads

          by : Reaches d canonical.table (has_other d) q ⊎ IsBare q → Reaches d canonical.table (has_other d) q ⊎ IsEnd d q
          by (inl reached) = inl reached
          by (inr bare) = let some = live_after d canonical p a q small leads in inr (bare_end q within bare (bare_accepts some.0 q within bare some.1))
