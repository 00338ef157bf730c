-- Each step of automatic words has one answer.
use Rattle.std.proofs.Common.{◌≡◌, ℕ, List, sym, ◌∙◌, subst, refl}
use Rattle.digit_tuple.specs.Deterministic.{Automaton, accepts_of, letters_of}
use Rattle.digit_tuple.specs.Letters.{IsWord, product}
use Rattle.digit_tuple.specs.Width.{IsEquivalence}
use Rattle.digit_tuple.specs.declared.direction.Direction.{Direction}
use Rattle.digit_tuple.specs.declared.direction.Direction.TheVariants.{Msd, Lsd}
use Rattle.digit_tuple.proofs.TruthLemmas.{same_tests}
use Rattle.digit_tuple.proofs.WidthLemmas.{IsEquivalence-facts}
use Rattle.dfa_reading.specs.Listed.{Listed}
use Rattle.dfa_reading.proofs.TupleWords.{tuples_of}
use Rattle.minimise.specs.Tracked.{NamedAutomaton}
use Rattle.minimise.proofs.CanonicalLemmas.{canonical_forms}
use Rattle.num_system.specs.declared.comparison.Comparison.{Comparison}
use Rattle.automaton_steps.specs.Laws.{HasOneOutcome}
use Rattle.automaton_steps.proofs.StepAnswers.{step_one}
use Rattle.word_output.specs.Laws.{PairsHaveOneOutcome}
use Rattle.word_output.specs.LetterFunctions.{LetterFunctionValue, LetterFunctionsAreEqual, letter_after}
use Rattle.word_output.specs.LetterPaddings.{IsLetterPadding, PaddedLettersAlike, letter_pad_step}
use Rattle.word_output.specs.LetterReadings.{IsLetterReading, LeadsListed, ListedAlike, letter_read_step}
use Rattle.word_output.specs.ValidLetters.{AreValidLetters, ValidLettersAlike, valid_letters_step}
use Rattle.word_output.specs.WordPairs.{IsPair, PairAlike, PlacedLetters, pair_sizes, pair_step}
use Rattle.word_output.proofs.OptionLemmas.{same_option}

-- words that are alike to a step: these are equivalences
listed_alike : (sizes : List ℕ) (listed : Listed) → IsEquivalence (ListedAlike sizes listed)
listed_alike sizes listed = IsEquivalence-facts (λ w q. LeadsListed sizes listed w q)

padded_alike : (direction : Direction) (f : LetterFunctionValue) → IsEquivalence (PaddedLettersAlike direction f)
padded_alike Msd f = record {
  reflexive = λ w. record { zeros = ((λ are. are), (λ are. are)); stripped = λ u over. refl };
  symmetric = λ w v alike. record { zeros = (alike.zeros.1, alike.zeros.0); stripped = λ u over. sym (alike.stripped u over) };
  transitive = λ u v w one two. record {
    zeros = ((λ are. two.zeros.0 (one.zeros.0 are)), (λ are. one.zeros.1 (two.zeros.1 are)));
    stripped = λ t over. one.stripped t over ∙ two.stripped t over;
  };
}
padded_alike Lsd f = record {
  reflexive = λ w. record { stripped = λ u over. refl; whole = λ u over. refl };
  symmetric = λ w v alike. record { stripped = λ u over. sym (alike.stripped u over); whole = λ u over. sym (alike.whole u over) };
  transitive = λ u v w one two. record { stripped = λ t over. one.stripped t over ∙ two.stripped t over; whole = λ t over. one.whole t over ∙ two.whole t over };
}

valid_alike : (f : LetterFunctionValue) (languages : List Automaton) → IsEquivalence (ValidLettersAlike f languages)
valid_alike f languages = record {
  reflexive = λ w. record { letters = λ u over. refl; tracks = λ track less u over. refl };
  symmetric = λ w v alike. record { letters = λ u over. sym (alike.letters u over); tracks = λ track less u over. sym (alike.tracks track less u over) };
  transitive = λ u v w one two. record {
    letters = λ t over. one.letters t over ∙ two.letters t over;
    tracks = λ track less t over. one.tracks track less t over ∙ two.tracks track less t over;
  };
}

pub pair_alike : (a b : PlacedLetters) → IsEquivalence (PairAlike a b)
pair_alike a b = record {
  reflexive = λ w. record { first = λ u over. refl; second = λ u over. refl };
  symmetric = λ w v alike. record { first = λ u over. sym (alike.first u over); second = λ u over. sym (alike.second u over) };
  transitive = λ u v w one two. record { first = λ t over. one.first t over ∙ two.first t over; second = λ t over. one.second t over ∙ two.second t over };
}

module _ (equal : LetterFunctionsAreEqual) where
  one_read : (sizes : List ℕ) (listed : Listed) (f g : LetterFunctionValue) → IsLetterReading sizes listed f → IsLetterReading sizes listed g → f ≡ g
  one_read sizes listed f g one other =
      equal f g one.function other.function (one.sizes_are ∙ sym other.sizes_are)
      (λ w over.
      let tuples = tuples_of sizes w (subst (λ (ns : List ℕ). IsWord (product ns) w) one.sizes_are over) in
      same_option (letter_after f w) (letter_after g w) (λ letter.
      let first = one.letters tuples.0 w letter tuples.1 in
      let second = other.letters tuples.0 w letter tuples.1 in
      (λ is. second.1 (first.0 is), λ is. first.1 (second.0 is))))

  pub read_outcome : (sizes : List ℕ) (listed : Listed) → HasOneOutcome (letter_read_step sizes listed)
  read_outcome sizes listed = step_one (letter_read_step sizes listed) (listed_alike sizes listed) (one_read sizes listed)

  one_padding : (direction : Direction) (f g h : LetterFunctionValue) → IsLetterPadding direction f g → IsLetterPadding direction f h → g ≡ h
  one_padding direction f g h one other =
      equal g h one.function other.function (one.sizes ∙ sym other.sizes)
      (λ w over.
      let here : IsWord (letters_of f.automaton) w = subst (λ (sizes : List ℕ). IsWord (product sizes) w) one.sizes over in
      one.letters w here ∙ sym (other.letters w here))

  pub pad_outcome : (direction : Direction) (f : LetterFunctionValue) → HasOneOutcome (letter_pad_step direction f)
  pad_outcome direction f = step_one (letter_pad_step direction f) (padded_alike direction f) (one_padding direction f)

  one_validity : (languages : List Automaton) (f g h : LetterFunctionValue) → AreValidLetters languages f g → AreValidLetters languages f h → g ≡ h
  one_validity languages f g h one other =
      equal g h one.function other.function (one.sizes ∙ sym other.sizes)
      (λ w over.
      let here : IsWord (letters_of f.automaton) w = subst (λ (sizes : List ℕ). IsWord (product sizes) w) one.sizes over in
      one.letters w here ∙ sym (other.letters w here))

  pub valid_outcome : (languages : List Automaton) (f : LetterFunctionValue) → HasOneOutcome (valid_letters_step languages f)
  valid_outcome languages f = step_one (valid_letters_step languages f) (valid_alike f languages) (one_validity languages f)

pub one_pair : (comparison : Comparison) (a b : PlacedLetters) (c e : NamedAutomaton) → IsPair comparison a b c → IsPair comparison a b e → c ≡ e
one_pair comparison a b c e one other = λ i. record { names = (one.names ∙ sym other.names) i; automaton = automata i }
  where
    automata : c.automaton ≡ e.automaton
    automata =
        canonical_forms c.automaton e.automaton one.canonical other.canonical (one.sizes ∙ sym other.sizes)
        (λ w over.
        let here : IsWord (product (pair_sizes a b)) w = subst (λ (sizes : List ℕ). IsWord (product sizes) w) one.sizes over in
        let first = one.language w here in
        let second = other.language w here in
        same_tests (accepts_of c.automaton w) (accepts_of e.automaton w) (λ is. second.1 (first.0 is), λ is. first.1 (second.0 is)))

pub pair_outcome : PairsHaveOneOutcome
pair_outcome comparison a b = step_one (pair_step comparison a b) (pair_alike a b) (one_pair comparison a b)
