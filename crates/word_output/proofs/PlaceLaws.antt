-- The letters of places.
use Rattle.std.proofs.Common.{◌≡◌, ◌↔◌, ℕ, ℤ, List, length, Some, IsTrue, sym, ap, ◌∙◌, subst}
use Rattle.std.proofs.lemmas.List.{length-map}
use Rattle.std.proofs.lemmas.Option.{same_Some}
use Rattle.digit_tuple.specs.Deterministic.{Automaton, accepts_of, letters_of}
use Rattle.digit_tuple.specs.Letters.{IsWord, product}
use Rattle.digit_tuple.specs.Paddings.{in_order}
use Rattle.digit_tuple.proofs.TruthLemmas.{same_tests}
use Rattle.minimise.proofs.CanonicalLemmas.{canonical_forms}
use Rattle.numeration.specs.Representation.{Represents, letters_in, sizes_of}
use Rattle.num_system.specs.Sealed.{SystemValue, system_of}
use Rattle.num_system.specs.Tracks.{systems_of, direction_of}
use Rattle.num_system.specs.declared.comparison.Comparison.{Comparison}
use Rattle.num_system.proofs.HoldLemmas.{represented_count}
use Rattle.word_output.specs.LetterFunctions.{LetterFunctionsAreEqual, letter_after}
use Rattle.word_output.specs.LetterSets.{ComparesLetters, IsLetterSet}
use Rattle.word_output.specs.Laws.{LetterSetsHold, OneLetterSet, PlacesHaveOneLetter, LettersDetermineWords}
use Rattle.word_output.specs.Words.{HasLetter, IsWordValue, RepresentsPlace, WordValue}
use Rattle.word_output.proofs.OptionLemmas.{same_option, some_there}

pub one_letter : PlacesHaveOneLetter
one_letter v ns b c is (w, first, first_is) (u, second, second_is) = same_Some b c (sym first_is ∙ is.one ns w u first second ∙ second_is)

-- a place that has a letter is of as many numbers as there are tracks
pub letter_count : (v : WordValue) (ns : List ℕ) (letter : ℤ) → HasLetter v ns letter → length ns ≡ length v.systems
letter_count v ns letter (w, represented, has) = represented_count (systems_of v.systems) (in_order (direction_of v.systems) w) ns represented.represents ∙ length-map v.systems system_of

-- a word has the letter of the place that it represents
pub letter_of_place : (v : WordValue) (ns w : List ℕ) (b : ℤ) → IsWordValue v → RepresentsPlace v.systems ns w → HasLetter v ns b → letter_after v.function w ≡ Some b
letter_of_place v ns w b is represented (u, also, has) = is.one ns w u represented also ∙ has

-- a word that has a letter represents a place, which has the letter
pub place_of_letter : (v : WordValue) (w : List ℕ) (b : ℤ) → IsWordValue v → IsWord (letters_in (systems_of v.systems)) w → letter_after v.function w ≡ Some b
    → (ns : List ℕ) × RepresentsPlace v.systems ns w × HasLetter v ns b
place_of_letter v w b is over has =
    let found = is.represents w over (some_there (letter_after v.function w) b has) in
    (found.0, found.1, (w, found.1, has))

-- a letter that a word has in the one is one that it has in the other
letter_kept : (v u : WordValue) (w : List ℕ) (b : ℤ) → IsWordValue v → IsWordValue u → v.systems ≡ u.systems → ((ns : List ℕ) (letter : ℤ) → HasLetter v ns letter → HasLetter u ns letter)
    → IsWord (letters_in (systems_of v.systems)) w → letter_after v.function w ≡ Some b → letter_after u.function w ≡ Some b
letter_kept v u w b is other tracks has over there =
    let (ns, represented, letter) = place_of_letter v w b is over there in
    letter_of_place u ns w b other (subst (λ (systems : List SystemValue). RepresentsPlace systems ns w) tracks represented) (has ns b letter)

pub determined_by_letters : LetterFunctionsAreEqual → LettersDetermineWords
determined_by_letters equal v u is other tracks same = λ i. record { systems = tracks i; function = functions i }
  where
    functions : v.function ≡ u.function
    functions =
        equal v.function u.function is.function other.function (is.sizes ∙ ap (λ (systems : List SystemValue). sizes_of (systems_of systems)) tracks ∙ sym other.sizes)
        (λ w over.
        let here : IsWord (letters_in (systems_of v.systems)) w = subst (λ (sizes : List ℕ). IsWord (product sizes) w) is.sizes over in
        let there : IsWord (letters_in (systems_of u.systems)) w = subst (λ (systems : List SystemValue). IsWord (letters_in (systems_of systems)) w) tracks here in
        same_option (letter_after v.function w) (letter_after u.function w) (λ b. (
          letter_kept v u w b is other tracks (λ ns letter. (same ns letter).0) here,
          letter_kept u v w b other is (sym tracks) (λ ns letter. (same ns letter).1) there,
        )))

module _ (v : WordValue) (comparison : Comparison) (letter : ℤ) (d : Automaton) (is : IsWordValue v) (set : IsLetterSet comparison letter v.function d) where
  abbrev HasSuch : List ℕ → Type 0
  HasSuch ns = (b : ℤ) × HasLetter v ns b × ComparesLetters comparison b letter

  to_function : (w : List ℕ) → IsWord (letters_in (systems_of v.systems)) w → IsWord (letters_of v.function.automaton) w
  to_function w over = subst (λ (sizes : List ℕ). IsWord (product sizes) w) (sym is.sizes) over

  there : (w : List ℕ) → IsWord (letters_in (systems_of v.systems)) w → IsTrue (accepts_of d w) → (ns : List ℕ) × Represents (systems_of v.systems) (in_order (direction_of v.systems) w) ns × HasSuch ns
  there w over accepted =
      let such = (set.language w (to_function w over)).0 accepted in
      let place = place_of_letter v w such.0 is over such.1 in
      (place.0, place.1.represents, (such.0, place.2, such.2))

  back : (w : List ℕ) → IsWord (letters_in (systems_of v.systems)) w → (ns : List ℕ) × Represents (systems_of v.systems) (in_order (direction_of v.systems) w) ns × HasSuch ns → IsTrue (accepts_of d w)
  back w over (ns, represented, (b, has, compares)) =
      (set.language w (to_function w over)).1 (b, letter_of_place v ns w b is (record { over = over; represents = represented }) has, compares)

pub letter_sets : LetterSetsHold
letter_sets v comparison letter d is set = record {
  sizes = set.sizes ∙ is.sizes;
  accepts = λ w over. (there v comparison letter d is set w over, back v comparison letter d is set w over);
}

pub one_set : OneLetterSet
one_set comparison letter f d e one other =
    canonical_forms d e one.canonical other.canonical (one.sizes ∙ sym other.sizes)
    (λ w over.
    let here : IsWord (letters_of f.automaton) w = subst (λ (sizes : List ℕ). IsWord (product sizes) w) one.sizes over in
    let first = one.language w here in
    let second = other.language w here in
    same_tests (accepts_of d w) (accepts_of e w) (λ is. second.1 (first.0 is), λ is. first.1 (second.0 is)))
