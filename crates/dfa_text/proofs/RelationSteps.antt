-- The lines of a state's letters are those of its transitions.
use Rattle.std.proofs.Common.{◌≡◌, inl, inr, ℕ, zero, suc, ◌+◌, ◌<◌, ◌≤◌, List, [], ◌∷◌, ◌++◌, map, get_or, ℤ, refl, sym, ap, ◌∙◌, arith, codes}
use Rattle.std.specs.List.{All, AllPairs, flat_map, range_with_len}
use Rattle.std.proofs.lemmas.Bool.{cases_order}
use Rattle.std.proofs.lemmas.List.Folds.{flat_map-map}
use Rattle.digit_tuple.specs.declared.transitions.Transition.{Transition}
use Rattle.digit_tuple.specs.Deterministic.{Automaton, IsRow, IsByEarlier, target_by, transitions_of, letters_of}
use Rattle.digit_tuple.proofs.DfaLemmas.{target_by-first, target_by-other, target_by-none}
use Rattle.dfa_text.specs.Parts.{text_of_lines}
use Rattle.dfa_text.specs.RelationText.{tuple_of, step_line, step_lines, steps_lines, transition_text}

-- the lines of n letters from one on, where a letter has the tuple and leads where the transitions say
lines_by : (ℕ → List ℤ) → List Transition → ℕ → ℕ → List (List ℕ)
lines_by t transitions a n = flat_map (λ letter. step_lines (t letter) (target_by transitions letter)) (range_with_len a n)

no_lines : (t : ℕ → List ℤ) (a n : ℕ) → lines_by t [] a n ≡ []
unfolding lines_by
no_lines t a zero = refl
no_lines t a (suc n) = no_lines t (a + 1) n

-- a transition by an earlier letter has no part in them
same_lines : (t : ℕ → List ℤ) (e : Transition) (es : List Transition) (a n : ℕ) → e.letter < a → lines_by t (e ∷ es) a n ≡ lines_by t es a n
unfolding lines_by
same_lines t e es a zero lt = refl
same_lines t e es a (suc n) lt =
    ap (λ o. step_lines (t a) o ++ lines_by t (e ∷ es) (a + 1) n) (target_by-other e es a (λ s. absurd (omega arith)))
    ∙ ap (λ ls. step_lines (t a) (target_by es a) ++ ls) (same_lines t e es (a + 1) n (omega arith))

-- no transition is by an earlier letter than the first
from_first : (e : Transition) (es : List Transition) → AllPairs IsByEarlier (e ∷ es) → All (λ f. e.letter ≤ f.letter) (e ∷ es)
from_first e es up zero d lt = omega arith
from_first e es up (suc k) d lt = let h : e.letter < (get_or es k d).letter = up 0 (suc k) d (omega arith) lt in omega arith

lines_of_transitions : (t : ℕ → List ℤ) (a n : ℕ) (transitions : List Transition) → AllPairs IsByEarlier transitions → All (λ e. (a ≤ e.letter) × (e.letter < a + n)) transitions → lines_by t transitions a n ≡ map (λ e. step_line (t e.letter) e.target) transitions
unfolding lines_by
lines_of_transitions t a n [] up range = no_lines t a n
lines_of_transitions t a zero (e ∷ es) up range = let h : (a ≤ e.letter) × (e.letter < a + 0) = range 0 e (omega arith) in absurd (omega (arith, h.0, h.1))
lines_of_transitions t a (suc n) (e ∷ es) up range =
    let least : a ≤ e.letter = (range 0 e (omega arith)).0 in
    let later : All (λ f. e.letter < f.letter) es = λ k d lt. up 0 (suc k) d (omega arith) (omega arith) in
    elim (cases_order a e.letter) [
      | inl same ↦
          ap (λ o. step_lines (t a) o ++ lines_by t (e ∷ es) (a + 1) n) (target_by-first e es a (sym same))
          ∙ ap (λ ls. step_line (t a) e.target ∷ ls) (same_lines t e es (a + 1) n (omega arith)
          ∙ lines_of_transitions t (a + 1) n es (λ i j d lt h. up (suc i) (suc j) d (omega arith) (omega arith))
          (λ k d lt. let low : e.letter < (get_or es k d).letter = later k d lt in let high : (get_or es k d).letter < a + suc n = (range (suc k) d (omega arith)).1 in (omega arith, omega arith)))
          ∙ ap (λ x. step_line (t x) e.target ∷ map (λ f. step_line (t f.letter) f.target) es) same
      | inr (inl less) ↦
          ap (λ o. step_lines (t a) o ++ lines_by t (e ∷ es) (a + 1) n) (target_by-none (e ∷ es) a (λ k d lt s. let low : e.letter ≤ (get_or (e ∷ es) k d).letter = from_first e es up k d lt in absurd (omega arith)))
          ∙ lines_of_transitions t (a + 1) n (e ∷ es) up
          (λ k d lt. let low : e.letter ≤ (get_or (e ∷ es) k d).letter = from_first e es up k d lt in let high : (get_or (e ∷ es) k d).letter < a + suc n = (range k d lt).1 in (omega arith, omega arith))
      | inr (inr more) ↦ absurd (omega arith)
    ]

-- the lines of a state's transitions are those of its letters
pub steps_text : (sets : List (List ℤ)) (d : Automaton) (q states : ℕ) → IsRow (letters_of d) states (transitions_of d q) → flat_map (transition_text sets) (transitions_of d q) ≡ text_of_lines (steps_lines sets d q)
unfolding lines_by
steps_text sets d q states row =
    sym (ap text_of_lines (lines_of_transitions (tuple_of sets) 0 (letters_of d) (transitions_of d q) row.ascending (λ k x lt. let high : (get_or (transitions_of d q) k x).letter < letters_of d = (row.in_range k x lt).0 in (omega arith, omega arith)))
    ∙ flat_map-map (λ line. line ++ codes "\n") (λ e. step_line (tuple_of sets e.letter) e.target) (transitions_of d q))
