-- The words that transductions make.
use Rattle.std.proofs.Common.{◌≡◌, ◌↔◌, ℕ, ℤ, ◌≤◌, List, [], ◌∷◌, reverse, Some, refl, sym, ap, ◌∙◌, subst, arith}
use Rattle.std.proofs.lemmas.List.{reverse-reverse}
use Rattle.digit_tuple.specs.Letters.{IsWord}
use Rattle.digit_tuple.specs.declared.direction.Direction.TheVariants.{Msd}
use Rattle.digit_tuple.proofs.PaddingLemmas.{IsWord-reverse}
use Rattle.base_k.specs.Positional.{RankIsPositional, base, value}
use Rattle.numeration.specs.Representation.{letters_in}
use Rattle.num_system.specs.Tracks.{direction_of, systems_of}
use Rattle.transducer_reading.specs.LetterRuns.{Makes}
use Rattle.transducer_reading.proofs.RunLemmas.{Makes-weaker}
use Rattle.transducer_reading.specs.Transducers.{Transducer}
use Rattle.word_output.specs.LetterFunctions.{IsLetterFunction, LetterFunctionValue, letter_after}
use Rattle.word_output.specs.Words.{HasLetter, IsWordValue, RepresentsPlace, WordValue}
use Rattle.word_output.proofs.OptionLemmas.{same_option}
use Rattle.word_transduce.specs.Blocks.{base_of, numeral, place_of}
use Rattle.word_transduce.specs.LetterRuns.{HasLetterAt, IgnoresZeros}
use Rattle.word_transduce.specs.TransducedWords.{IsTransduced, TransductionsMakeWords}
use Rattle.word_transduce.specs.Transductions.{IsTransduction}
use Rattle.word_transduce.proofs.BaseWords.{below_power, first_same, letters_are, over_digits, represented_value, value_represented}
use Rattle.word_transduce.proofs.LetterRunLemmas.{numeral_over, numeral_value, transductions_are_runs}

module _ (positional : RankIsPositional) (t : Transducer) (k : ℕ) (word : WordValue) (transduced reversed : LetterFunctionValue) (some : 2 ≤ k) (is : IsWordValue word) (are : systems_of word.systems ≡ base k ∷ []) (direction : direction_of word.systems ≡ Msd)
    (made : IsTransduction t word.function transduced) (letters : (w : List ℕ) → IsWord k w → letter_after reversed w ≡ letter_after transduced (reverse w)) where
  digits_are : base_of word.function ≡ k
  digits_are = letters_are positional word.systems k some are direction word.function.automaton.sizes is.sizes

  in_base : (w : List ℕ) → IsWord k w → IsWord (base_of word.function) w
  in_base w over = subst (λ n. IsWord n w) (sym digits_are) over

  from_base : (w : List ℕ) → IsWord (base_of word.function) w → IsWord k w
  from_base w over = subst (λ n. IsWord n w) digits_are over

  represented : (w : List ℕ) → IsWord k w → RepresentsPlace word.systems (value k w ∷ []) w
  represented w over = value_represented positional word.systems k some are direction w over

  ignores : IgnoresZeros word.function
  ignores w over =
      let here = from_base w over in
      let same : value k (0 ∷ w) ≡ value k w = omega arith in
      is.one (value k w ∷ []) (0 ∷ w) w (subst (λ n. RepresentsPlace word.systems (n ∷ []) (0 ∷ w)) same (represented (0 ∷ w) (omega (arith, some), here))) (represented w here)

  -- the letters of places
  at_place : (i : ℕ) (a : ℤ) → HasLetterAt word.function i a → HasLetter word (i ∷ []) a
  at_place i a (w, over, there, has) =
      let here = from_base w over in
      (w, subst (λ n. RepresentsPlace word.systems (n ∷ []) w) (ap (λ n. value n w) (sym digits_are) ∙ there) (represented w here), has)

  place_at : (i : ℕ) (a : ℤ) → HasLetter word (i ∷ []) a → HasLetterAt word.function i a
  place_at i a (w, place_is, has) =
      let at : i ≡ value k w = first_same i (value k w) (represented_value positional word.systems k some are direction (i ∷ []) w place_is) in
      (w, in_base w (over_digits positional word.systems k some are direction w place_is.over), ap (λ n. value n w) digits_are ∙ sym at, has)

  -- a word has the letter that the run makes at the place that it represents
  letter_made : (w : List ℕ) (b : ℤ) → IsWord k w → (letter_after reversed w ≡ Some b) ↔ Makes t (λ i a. HasLetter word (i ∷ []) a) (value k w) b
  letter_made w b over = (
    (λ has. Makes-weaker t (HasLetterAt word.function) (λ i a. HasLetter word (i ∷ []) a) at_place (value k w) b (subst (λ n. Makes t (HasLetterAt word.function) n b) place (both.0 (sym (letters w over) ∙ has)))),
    (λ makes. letters w over ∙ both.1 (subst (λ n. Makes t (HasLetterAt word.function) n b) (sym place) (Makes-weaker t (λ i a. HasLetter word (i ∷ []) a) (HasLetterAt word.function) place_at (value k w) b makes))),
  )
    where
      both : (letter_after transduced (reverse w) ≡ Some b) ↔ Makes t (HasLetterAt word.function) (place_of (base_of word.function) (reverse w)) b
      both = transductions_are_runs t word.function transduced made ignores (reverse w) b (IsWord-reverse (base_of word.function) w (in_base w over))

      place : place_of (base_of word.function) (reverse w) ≡ value k w
      place = ap (value (base_of word.function)) (reverse-reverse w) ∙ ap (λ n. value n w) digits_are

  -- words of one place have one letter
  one_letter : (w v : List ℕ) → IsWord k w → IsWord k v → value k w ≡ value k v → letter_after reversed w ≡ letter_after reversed v
  one_letter w v over there same = same_option (letter_after reversed w) (letter_after reversed v) (λ b. (
    (λ has. (letter_made v b there).1 (subst (λ n. Makes t (λ i a. HasLetter word (i ∷ []) a) n b) same ((letter_made w b over).0 has))),
    (λ has. (letter_made w b over).1 (subst (λ n. Makes t (λ i a. HasLetter word (i ∷ []) a) n b) (sym same) ((letter_made v b there).0 has))),
  ))

  module _ (function : IsLetterFunction reversed) (sizes : reversed.automaton.sizes ≡ word.function.automaton.sizes) where
    abbrev new : WordValue
    new = record { systems = word.systems; function = reversed }

    value_of : (ns w : List ℕ) → RepresentsPlace word.systems ns w → ns ≡ value k w ∷ []
    value_of ns w place_is = represented_value positional word.systems k some are direction ns w place_is

    digits : (w : List ℕ) → IsWord (letters_in (systems_of word.systems)) w → IsWord k w
    digits w over = over_digits positional word.systems k some are direction w over

    pub is_transduced : IsTransduced t word new
    is_transduced = record {
      systems = refl;
      word_is = record {
        function = function;
        some = is.some;
        sealed = is.sealed;
        shared_direction = is.shared_direction;
        sizes = sizes ∙ is.sizes;
        represents = λ w over there. (value k w ∷ [], represented w (digits w over));
        one = λ ns w u first second. one_letter w u (digits w first.over) (digits u second.over) (first_same (value k w) (value k u) (sym (value_of ns w first) ∙ value_of ns u second));
      };
      letters = λ place b. (forth place b, back place b);
    }
      where
        forth : (place : ℕ) (b : ℤ) → HasLetter new (place ∷ []) b → Makes t (λ i a. HasLetter word (i ∷ []) a) place b
        forth place b (w, place_is, has) =
            let at : place ≡ value k w = first_same place (value k w) (value_of (place ∷ []) w place_is) in
            subst (λ n. Makes t (λ i a. HasLetter word (i ∷ []) a) n b) (sym at) ((letter_made w b (digits w place_is.over)).0 has)

        back : (place : ℕ) (b : ℤ) → Makes t (λ i a. HasLetter word (i ∷ []) a) place b → HasLetter new (place ∷ []) b
        back place b makes =
            let low = below_power k place some in
            let w : List ℕ = numeral k place place in
            let over : IsWord k w = numeral_over k place place low in
            let value_is : value k w ≡ place = numeral_value k place place low in
            (w, subst (λ n. RepresentsPlace word.systems (n ∷ []) w) value_is (represented w over), (letter_made w b over).1 (subst (λ n. Makes t (λ i a. HasLetter word (i ∷ []) a) n b) (sym value_is) makes))

pub transductions_make_words : RankIsPositional → TransductionsMakeWords
transductions_make_words positional t k word transduced reversed some is are direction made function sizes letters = is_transduced positional t k word transduced reversed some is are direction made letters function sizes
