-- Where words lead in an automaton when missing transitions lead to its sink.
use Rattle.std.proofs.Common.{◌≡◌, ◌==◌, ℕ, Bool, true, false, not, ◌&&◌, List, [], ◌∷◌, ◌++◌, length, inl, inr, refl, sym, ap, ◌∙◌, if◌then◌else◌}
use Rattle.std.specs.Option.{option_map_or}
use Rattle.std.proofs.lemmas.Bool.Decides.{Decides-eqb}
use Rattle.std.proofs.lemmas.List.{nil_from_length}
use Rattle.digit_tuple.specs.declared.transitions.Transition.{Transition}
use Rattle.digit_tuple.specs.Letters.{IsWord}
use Rattle.digit_tuple.specs.Deterministic.{Automaton, letters_of, states_of, accepting_of, transitions_of, target_by, accepts_from, accepts_of}
use Rattle.residual_classes.specs.Classes.{next_of, first_of}
use Rattle.residual_classes.proofs.SinkLemmas.{sink_refuses, accepts_from-next}
use Rattle.minimise.specs.Residuals.{SameResidual, SameAfter}
use Rattle.minimise.specs.Canonical.{IsCanonical}
use Rattle.minimise.proofs.CanonicalLemmas.{one_state}
use Rattle.minimise.proofs.PlaceLemmas.{first_is_place, lead_is_place}
pub use Rattle.minimise.proofs.PlaceLemmas.{lead, IsPlace}

module _ (d : Automaton) where
  -- what is accepted after a word is accepted from where it leads
  pub accepts_from-lead : (w u : List ℕ) (q : ℕ) → accepts_from d q (w ++ u) ≡ accepts_from d (lead d q w) u
  accepts_from-lead [] u q = refl
  accepts_from-lead (a ∷ w) u q = accepts_from-next d q a (w ++ u) ∙ accepts_from-lead w u (next_of d q a)

  pub accepting_of-lead : (w : List ℕ) (q : ℕ) → accepts_from d q w ≡ accepting_of d (lead d q w)
  accepting_of-lead [] q = refl
  accepting_of-lead (a ∷ w) q = accepts_from-next d q a w ∙ accepting_of-lead w (next_of d q a)

  refuses : accepting_of d 0 ≡ false → transitions_of d 0 ≡ [] → (w : List ℕ) → accepts_from d 0 w ≡ false
  refuses none empty [] = none
  refuses none empty (a ∷ w) = ap (λ (es : List Transition). option_map_or (λ p. accepts_from d p w) (target_by es a) false) empty

  -- from the initial state the language is accepted
  pub accepts_of-first : (w : List ℕ) → accepts_from d (first_of d) w ≡ accepts_of d w
  accepts_of-first w = by (accepting_of d 0) (length (transitions_of d 0) == 0) refl refl
    where
      by : (b z : Bool) → accepting_of d 0 ≡ b → (length (transitions_of d 0) == 0) ≡ z → accepts_from d (if not b && z then states_of d else 0) w ≡ accepts_from d 0 w
      by true z is none = refl
      by false true is none = sink_refuses d w ∙ sym (refuses is (nil_from_length (transitions_of d 0) ((Decides-eqb (length (transitions_of d 0)) 0).0 none)) w)
      by false false is some = refl

  after_first : (w u : List ℕ) → accepts_of d (w ++ u) ≡ accepts_from d (lead d (first_of d) w) u
  after_first w u = sym (accepts_of-first (w ++ u)) ∙ accepts_from-lead w u (first_of d)

  -- words that lead to one state have one residual after them
  pub SameAfter-lead : (w v : List ℕ) → lead d (first_of d) w ≡ lead d (first_of d) v → SameAfter d w v
  SameAfter-lead w v same u over = after_first w u ∙ ap (λ q. accepts_from d q u) same ∙ sym (after_first v u)

module _ (d : Automaton) (canonical : IsCanonical d) where
  pub first_place : IsPlace d (first_of d)
  first_place = first_is_place d canonical.table canonical.live

  pub lead_place : (w : List ℕ) (q : ℕ) → IsPlace d q → IsWord (letters_of d) w → IsPlace d (lead d q w)
  lead_place = lead_is_place d canonical.table canonical.live

  -- places with one residual are one
  pub one_place : (p q : ℕ) → IsPlace d p → IsPlace d q → SameResidual d p d q → p ≡ q
  one_place p q (inl ps) (inl qs) same = ps ∙ sym qs
  one_place p q (inl ps) (inr ql) same = absurd (ql.1 (λ w over. sym (same w over) ∙ ap (λ n. accepts_from d n w) ps ∙ sink_refuses d w))
  one_place p q (inr pl) (inl qs) same = absurd (pl.1 (λ w over. same w over ∙ ap (λ n. accepts_from d n w) qs ∙ sink_refuses d w))
  one_place p q (inr pl) (inr ql) same = one_state d canonical p q pl.0 ql.0 same

  -- words with one residual after them lead to one state
  pub one_lead : (w v : List ℕ) → IsWord (letters_of d) w → IsWord (letters_of d) v → SameAfter d w v → lead d (first_of d) w ≡ lead d (first_of d) v
  one_lead w v over there same = one_place (lead d (first_of d) w) (lead d (first_of d) v) (lead_place w (first_of d) first_place over) (lead_place v (first_of d) first_place there)
      (λ u inside. sym (after_first d w u) ∙ same u inside ∙ after_first d v u)
