-- What the three steps of a word make: a word, whose letters are those that are listed.
use Rattle.std.proofs.Common.{◌≡◌, ℕ, ◌<◌, ℤ, true, List, length, Option, None, Some, Ok, sym, ap, ◌∙◌, subst, if◌then◌else◌}
use Rattle.std.specs.Prelude.{IsSome}
use Rattle.std.specs.List.{AllByRecursion}
use Rattle.digit_tuple.specs.Letters.{IsWord, product}
use Rattle.digit_tuple.specs.Paddings.{strip}
use Rattle.digit_tuple.specs.StepResults.{Then}
use Rattle.digit_tuple.specs.Steps.{StepLog}
use Rattle.digit_tuple.specs.declared.direction.Direction.{Direction}
use Rattle.dfa_reading.specs.Listed.{Listed}
use Rattle.product_op.specs.Validity.{is_valid}
use Rattle.numeration.specs.Systems.{System}
use Rattle.numeration.specs.Representation.{letters_in, sizes_of}
use Rattle.num_system.specs.Sealed.{IsSealed, SystemValue}
use Rattle.num_system.specs.Tracks.{ShareDirection, languages_of, systems_of, direction_of}
use Rattle.automaton_steps.specs.Makings.{DoesStep}
use Rattle.automaton_steps.proofs.AnswerCases.{both_done}
use Rattle.word_output.specs.Laws.{WordsHaveListedLetters}
use Rattle.word_output.specs.LetterFunctions.{LetterFunctionValue, letter_after}
use Rattle.word_output.specs.LetterPaddings.{IsLetterPadding, letter_pad_step}
use Rattle.word_output.specs.LetterReadings.{IsLetterReading, letter_read_step}
use Rattle.word_output.specs.ValidLetters.{AreValidLetters, valid_letters_step}
use Rattle.word_output.specs.WordReadings.{DoesWordSteps, HasListedLetterAt}
use Rattle.word_output.specs.Words.{HasLetter, IsWordValue, RepresentsPlace}
use Rattle.word_output.proofs.OptionLemmas.{kept_passes}
use Rattle.word_output.proofs.PlaceLemmas.{one_stripped, place_of_valid, stripped_represents, valid_of_place}
use Rattle.word_output.proofs.StripLemmas.{strip-twice}
use Rattle.dfa_reading.proofs.TupleWords.{tuples_of, word_of_tuples}

-- what the steps made
pub record AreMade (systems : List SystemValue) (listed : Listed) (f : LetterFunctionValue) : Type 0 where
  pub read : LetterFunctionValue
  pub padded : LetterFunctionValue
  pub reading : IsLetterReading (sizes_of (systems_of systems)) listed read
  pub padding : IsLetterPadding (direction_of systems) read padded
  pub validity : AreValidLetters (languages_of systems) padded f

module _ (systems : List SystemValue) (listed : Listed) where
  pub steps_made : (old new : StepLog) (f : LetterFunctionValue) → DoesWordSteps systems listed old (Ok f) new → AreMade systems listed f
  steps_made old new f done =
      let first = both_done (DoesStep (letter_read_step (sizes_of (systems_of systems)) listed))
      (λ read. Then (DoesStep (letter_pad_step (direction_of systems) read)) (λ padded. DoesStep (valid_letters_step (languages_of systems) padded))) old new f done in
      let rest = both_done (DoesStep (letter_pad_step (direction_of systems) first.0)) (λ padded. DoesStep (valid_letters_step (languages_of systems) padded)) first.1 new f first.3 in
      record { read = first.0; padded = rest.0; reading = first.2.step.made_is; padding = rest.2.step.made_is; validity = rest.3.step.made_is }

module _ (systems : List SystemValue) (listed : Listed) (f : LetterFunctionValue) (made : AreMade systems listed f) where
  abbrev direction : Direction
  direction = direction_of systems

  abbrev ss : List System
  ss = systems_of systems

  abbrev read : LetterFunctionValue
  read = made.read

  abbrev padded : LetterFunctionValue
  padded = made.padded

  read_sizes : read.automaton.sizes ≡ sizes_of ss
  read_sizes = made.reading.sizes_are

  padded_sizes : padded.automaton.sizes ≡ sizes_of ss
  padded_sizes = made.padding.sizes ∙ read_sizes

  function_sizes : f.automaton.sizes ≡ sizes_of ss
  function_sizes = made.validity.sizes ∙ padded_sizes

  over_sizes : (sizes w : List ℕ) → sizes ≡ sizes_of ss → IsWord (letters_in ss) w → IsWord (product sizes) w
  over_sizes sizes w same over = subst (λ (ns : List ℕ). IsWord (product ns) w) (sym same) over

  abbrev is_valid_here : List ℕ → Type 0
  is_valid_here w = is_valid (sizes_of ss) (languages_of systems) w ≡ true

  -- the letter of a word is the listed one of the word without leading zeros, where it is valid
  kept_letter : (w : List ℕ) → IsWord (letters_in ss) w → letter_after f w ≡ (if is_valid (sizes_of ss) (languages_of systems) w then letter_after read (strip direction w) else None)
  kept_letter w over =
      made.validity.letters w (over_sizes padded.automaton.sizes w padded_sizes over)
      ∙ ap (λ (sizes : List ℕ). if is_valid sizes (languages_of systems) w then letter_after padded w else None) padded_sizes
      ∙ ap (λ (o : Option ℤ). if is_valid (sizes_of ss) (languages_of systems) w then o else None) (made.padding.letters w (over_sizes read.automaton.sizes w read_sizes over))

  valid_letter : (w : List ℕ) → IsWord (letters_in ss) w → is_valid_here w → letter_after f w ≡ letter_after read (strip direction w)
  valid_letter w over valid = kept_letter w over ∙ ap (λ b. if b then letter_after read (strip direction w) else None) valid

  letter_valid : (w : List ℕ) → IsWord (letters_in ss) w → IsSome (letter_after f w) → is_valid_here w
  letter_valid w over there = kept_passes (is_valid (sizes_of ss) (languages_of systems) w) (letter_after read (strip direction w)) (subst IsSome (kept_letter w over) there)

  module _ (sealed : AllByRecursion IsSealed systems) (one : ShareDirection systems) where
    -- these are the letters of a word
    pub word_is : 0 < length systems → IsWordValue (record { systems = systems; function = f })
    word_is some = record {
      function = made.validity.function;
      some = some;
      sealed = sealed;
      shared_direction = one;
      sizes = function_sizes;
      represents = λ w over there. place_of_valid systems sealed one w over (letter_valid w over there);
      one = λ ns w u first second.
          valid_letter w first.over (valid_of_place systems sealed one ns w first)
          ∙ ap (letter_after read) (one_stripped systems sealed one ns w u first second)
          ∙ sym (valid_letter u second.over (valid_of_place systems sealed one ns u second));
    }

    -- a word's letter at a place is listed there
    pub listed_letter : (ns : List ℕ) (letter : ℤ) → HasLetter (record { systems = systems; function = f }) ns letter → HasListedLetterAt direction ss listed ns letter
    listed_letter ns letter (w, represented, has) =
        let short = stripped_represents systems sealed one ns w represented in
        let tuples = tuples_of (sizes_of ss) (strip direction w) short.over in
        let read_is : letter_after read (strip direction w) ≡ Some letter = sym (valid_letter w represented.over (valid_of_place systems sealed one ns w represented)) ∙ has in
        record {
          tuples = tuples.0;
          word = strip direction w;
          letters = tuples.1;
          represents = short.represents;
          shortest = strip-twice direction w;
          letter_is = (made.reading.letters tuples.0 (strip direction w) letter tuples.1).0 read_is;
        }

    -- and one that is listed there is its letter
    pub letter_listed : (ns : List ℕ) (letter : ℤ) → HasListedLetterAt direction ss listed ns letter → HasLetter (record { systems = systems; function = f }) ns letter
    letter_listed ns letter has =
        let over = word_of_tuples (sizes_of ss) has.tuples has.word has.letters in
        let represented : RepresentsPlace systems ns has.word = record { over = over; represents = has.represents } in (
          has.word,
          represented,
          valid_letter has.word over (valid_of_place systems sealed one ns has.word represented)
              ∙ ap (letter_after read) has.shortest
              ∙ (made.reading.letters has.tuples has.word letter has.letters).1 has.letter_is,
        )

pub words_listed : WordsHaveListedLetters
words_listed old new listed v are is done ns letter =
    let made = steps_made v.systems listed old new v.function done in (
      listed_letter v.systems listed v.function made is.sealed is.shared_direction ns letter,
      letter_listed v.systems listed v.function made is.sealed is.shared_direction ns letter,
    )
