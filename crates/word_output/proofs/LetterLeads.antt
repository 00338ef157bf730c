-- Where words lead in the automaton of a letter function: to one state if and only if the same letters follow them.
use Rattle.std.proofs.Common.{◌≡◌, ℕ, ◌<◌, ◌≤◌, List, ◌++◌, length, ◌⊎◌, inl, inr, ap, arith, None}
use Rattle.std.proofs.lemmas.Bool.{cases_lt}
use Rattle.std.proofs.lemmas.List.{get_or_past}
use Rattle.digit_tuple.specs.Deterministic.{letters_of, states_of}
use Rattle.digit_tuple.specs.Letters.{IsWord}
use Rattle.residual_classes.specs.Classes.{class_of, first_of}
use Rattle.residual_classes.specs.ClassFunctions.{class_after}
use Rattle.minimise.proofs.LeadLemmas.{lead}
use Rattle.minimise.proofs.ClassLeadLemmas.{SameClassAfter-lead, class_after-lead}
use Rattle.word_output.specs.LetterFunctions.{LetterFunctionValue, IsLetterFunction, SameLettersAfter, letter_after, letter_in}
use Rattle.word_output.proofs.LetterFunctionLemmas.{one_class}
use Rattle.word_output.specs.StateLetters.{letter_of_state}

module _ (f : LetterFunctionValue) (is : IsLetterFunction f) where
  -- where a word leads from the initial state
  abbrev pub led : List ℕ → ℕ
  led w = lead f.automaton (first_of f.automaton) w

  -- a word has the letter of where it leads
  pub letter_after-lead : (w : List ℕ) → letter_after f w ≡ letter_in f.letters (class_of f.classes (led w))
  letter_after-lead w = ap (letter_in f.letters) (class_after-lead f.automaton f.classes is.canonical w)

  -- the sink has no letter
  pub sink_letter : letter_of_state f (states_of f.automaton) ≡ None
  sink_letter = ap (letter_in f.letters) (get_or_past f.classes (states_of f.automaton) 0 (omega (arith, is.canonical.count)))

  class_within : (q : ℕ) → class_of f.classes q ≤ length f.letters
  class_within q = by (cases_lt q (length f.classes))
    where
      by : (q < length f.classes) ⊎ (length f.classes ≤ q) → class_of f.classes q ≤ length f.letters
      by (inl less) = is.within q 0 less
      by (inr past) = omega (arith, get_or_past f.classes q 0 past)

  class_after-within : (w : List ℕ) → class_after f.automaton f.classes w ≤ length f.letters
  class_after-within w = omega (arith, class_after-lead f.automaton f.classes is.canonical w, class_within (led w))

  -- the same letters follow words that lead to one state
  pub same_letters : (w v : List ℕ) → IsWord (letters_of f.automaton) w → IsWord (letters_of f.automaton) v → led w ≡ led v → SameLettersAfter f w v
  same_letters w v over there same u inside = ap (letter_in f.letters) ((SameClassAfter-lead f.automaton f.classes is.canonical w v over there).1 same u inside)

  -- and the other way round
  pub one_led : (w v : List ℕ) → IsWord (letters_of f.automaton) w → IsWord (letters_of f.automaton) v → SameLettersAfter f w v → led w ≡ led v
  one_led w v over there same = (SameClassAfter-lead f.automaton f.classes is.canonical w v over there).0 (λ u inside.
      one_class f.letters (class_after f.automaton f.classes (w ++ u)) (class_after f.automaton f.classes (v ++ u)) is.ascending (class_after-within (w ++ u)) (class_after-within (v ++ u)) (same u inside))
