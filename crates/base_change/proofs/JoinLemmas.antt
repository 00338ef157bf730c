-- Where words lead by the step `join`: the state that their digits lead to.
use Rattle.std.proofs.Common.{◌≡◌, ℕ, ◌*◌, ◌<◌, ◌≤◌, Bool, List, [], ◌∷◌, ◌++◌, Option, Some, refl, sym, ap, ◌∙◌, subst, arith}
use Rattle.std.specs.Option.{option_and_then}
use Rattle.std.proofs.lemmas.Option.{same_Some}
use Rattle.digit_tuple.specs.Deterministic.{Automaton, letters_of, states_of}
use Rattle.digit_tuple.specs.Explored.{IsExplored}
use Rattle.digit_tuple.specs.Keys.{LeadAlike, key_run}
use Rattle.digit_tuple.specs.Letters.{IsWord, product}
use Rattle.residual_classes.specs.Classes.{first_of, next_of}
use Rattle.minimise.proofs.LeadLemmas.{lead}
use Rattle.word_output.specs.LetterFunctions.{IsLetterFunction, LetterFunctionValue, letter_after}
use Rattle.word_output.specs.StateLetters.{letter_led}
use Rattle.word_output.proofs.LetterLeads.{letter_after-lead, one_led, same_letters}
use Rattle.word_output.proofs.LsdLetterLemmas.{letter_led-explored}
use Rattle.base_change.specs.Digits.{expanded, lowest_digits}
use Rattle.base_change.specs.GroupKeys.{join_after, key_letter, key_letters}
use Rattle.base_change.specs.Joins.{JoinAlike}
use Rattle.base_change.proofs.DigitLemmas.{expanded-over}

-- where a word and then another lead
lead-append : (d : Automaton) (w v : List ℕ) (q : ℕ) → lead d q (w ++ v) ≡ lead d (lead d q w) v
lead-append d [] v q = refl
lead-append d (a ∷ w) v q = lead-append d w v (next_of d q a)

pub run-join : (d : Automaton) (r a : ℕ) (w : List ℕ) (q : ℕ) → key_run (join_after d r a) (q ∷ []) w ≡ Some (lead d q (expanded r a w) ∷ [])
run-join d r a [] q = refl
run-join d r a (x ∷ w) q =
    run-join d r a w (lead d q (lowest_digits r a x))
    ∙ ap (λ (p : ℕ). Some (p ∷ [])) (sym (lead-append d (lowest_digits r a x) (expanded r a w) q))

module _ (f : LetterFunctionValue) (is : IsLetterFunction f) (r a : ℕ) (base : 1 ≤ r) (sizes : f.automaton.sizes ≡ r ∷ []) where
  abbrev d : Automaton
  d = f.automaton

  abbrev after : List ℕ → ℕ → Option (List ℕ)
  after = join_after d r a

  abbrev start : List ℕ
  start = first_of d ∷ []

  letters-are : letters_of d ≡ r
  letters-are = ap product sizes ∙ (let unit : r * 1 ≡ r = omega arith in unit)

  digits-over-letters : (w : List ℕ) → IsWord (letters_of d) (expanded r a w)
  digits-over-letters w = subst (λ n. IsWord n (expanded r a w)) (sym letters-are) (expanded-over r a w base)

  pub alike_from_leads : (w v : List ℕ) → LeadAlike after start w v → JoinAlike r a f w v
  alike_from_leads w v same =
      let keys : (lead d (first_of d) (expanded r a w) ∷ []) ≡ (lead d (first_of d) (expanded r a v) ∷ []) = same_Some _ _ (sym (run-join d r a w (first_of d)) ∙ same ∙ run-join d r a v (first_of d)) in
      let state : lead d (first_of d) (expanded r a w) ≡ lead d (first_of d) (expanded r a v) = cc in
      same_letters f is (expanded r a w) (expanded r a v) (digits-over-letters w) (digits-over-letters v) state

  pub leads_from_alike : (w v : List ℕ) → JoinAlike r a f w v → LeadAlike after start w v
  leads_from_alike w v alike =
      run-join d r a w (first_of d)
      ∙ ap (λ (q : ℕ). Some (q ∷ [])) (one_led f is (expanded r a w) (expanded r a v) (digits-over-letters w) (digits-over-letters v) alike)
      ∙ sym (run-join d r a v (first_of d))

  pub letters-join : (letters : ℕ) (accepts : List ℕ → Bool) (keys : List (List ℕ)) (e : Automaton) → IsExplored letters start after accepts keys e → 0 < states_of e
      → (w : List ℕ) → IsWord letters w → letter_led e (key_letters f r keys) w ≡ letter_after f (expanded r a w)
  letters-join letters accepts keys e explored initial w inside =
      letter_led-explored letters start after accepts keys e explored initial (key_letter f r) w inside
      ∙ ap (option_and_then (key_letter f r)) (run-join d r a w (first_of d))
      ∙ sym (letter_after-lead f is (expanded r a w))
