-- The word whose letter at a valid word is the value of the first relation that accepts it.
use Rattle.std.proofs.Common.{◌≡◌, ◌↔◌, ℕ, ◌<◌, ℤ, Bool, true, false, List, [], ◌∷◌, length, Option, None, Some, inl, inr, refl, sym, ap, ◌∙◌, subst, true≢false, if◌then◌else◌}
use Rattle.std.specs.Prelude.{IsSome}
use Rattle.std.specs.List.{All, AllByRecursion}
use Rattle.std.proofs.lemmas.List.Elements.{All-head, All-tail}
use Rattle.std.proofs.lemmas.Option.{same_Some}
use Rattle.digit_tuple.specs.Deterministic.{accepts_of}
use Rattle.digit_tuple.specs.Letters.{IsWord}
use Rattle.digit_tuple.specs.Paddings.{in_order}
use Rattle.product_op.specs.Validity.{is_valid}
use Rattle.numeration.specs.Representation.{letters_in, sizes_of}
use Rattle.num_system.specs.Sealed.{IsSealed, SystemValue}
use Rattle.num_system.specs.Tracks.{ShareDirection, languages_of, systems_of, direction_of}
use Rattle.num_system.proofs.HoldLemmas.{one_tuple}
use Rattle.number_relations.specs.Relations.{RelationHolds}
use Rattle.word_output.specs.LetterFunctions.{IsLetterFunction, LetterFunctionValue, letter_after}
use Rattle.word_output.specs.Words.{HasLetter, IsWordValue, RepresentsPlace, WordValue}
use Rattle.word_output.proofs.OptionLemmas.{kept_passes, same_option}
use Rattle.word_output.proofs.PlaceLemmas.{place_of_valid, place_represented, valid_of_place}
use Rattle.combinations.specs.Parts.{PartValue}
use Rattle.combinations.specs.Combined.{IsCombination, IsCombined}
use Rattle.combinations.specs.HeldLetters.{first_held}
use Rattle.combinations.proofs.CombinedReadings.{accepted}
use Rattle.combinations.proofs.ShapeLemmas.{FitsSystems}

-- a relation holds of numbers if and only if it accepts a word that represents them
module _ (systems : List SystemValue) (ns w : List ℕ) (represented : RepresentsPlace systems ns w) (part : PartValue) (fits : FitsSystems systems part) where
  holds_accepted : accepts_of part.relation.automaton w ≡ true → RelationHolds part.relation ns
  holds_accepted is =
      let found = (fits.holds.accepts w represented.over).0 is in
      subst (λ (ms : List ℕ). RelationHolds part.relation ms) (one_tuple (systems_of systems) (in_order (direction_of systems) w) found.0 ns found.1 represented.represents) found.2

  holds_refused : accepts_of part.relation.automaton w ≡ false → ¬ RelationHolds part.relation ns
  holds_refused is holds = true≢false (sym ((fits.holds.accepts w represented.over).1 (ns, represented.represents, holds)) ∙ is)

-- the value of the first relation that accepts, or the rest, is the combined letter
pub combined_here : (rest : Option ℤ) (systems : List SystemValue) (ns w : List ℕ) → RepresentsPlace systems ns w → (parts : List PartValue) → All (FitsSystems systems) parts → (letter : ℤ)
    → (first_held rest parts (accepted parts w) ≡ Some letter) ↔ IsCombined rest parts ns letter
combined_here rest systems ns w represented [] fit letter = ((λ h. h), λ h. h)
combined_here rest systems ns w represented (part ∷ parts) fit letter =
    by (accepts_of part.relation.automaton w) refl (combined_here rest systems ns w represented parts (All-tail (FitsSystems systems) part parts fit) letter)
  where
    fits : FitsSystems systems part
    fits = All-head (FitsSystems systems) part parts fit

    by : (b : Bool) → accepts_of part.relation.automaton w ≡ b → (first_held rest parts (accepted parts w) ≡ Some letter) ↔ IsCombined rest parts ns letter
        → ((if b then Some part.value else first_held rest parts (accepted parts w)) ≡ Some letter) ↔ IsCombined rest (part ∷ parts) ns letter
    by true is others = ((λ same. inl (holds, sym (same_Some part.value letter same))), back)
      where
        holds : RelationHolds part.relation ns
        holds = holds_accepted systems ns w represented part fits is

        back : IsCombined rest (part ∷ parts) ns letter → Some part.value ≡ Some letter
        back (inl first) = ap Some (sym first.1)
        back (inr later) = absurd (later.0 holds)
    by false is others = ((λ same. inr (refused, others.0 same)), back)
      where
        refused : ¬ RelationHolds part.relation ns
        refused = holds_refused systems ns w represented part fits is

        back : IsCombined rest (part ∷ parts) ns letter → first_held rest parts (accepted parts w) ≡ Some letter
        back (inl first) = absurd (refused first.0)
        back (inr later) = others.1 later.1

module _ (rest : Option ℤ) (parts : List PartValue) (systems : List SystemValue) (some : 0 < length systems) (sealed : AllByRecursion IsSealed systems) (one : ShareDirection systems) (fit : All (FitsSystems systems) parts)
    (f : LetterFunctionValue) (is : IsLetterFunction f) (sizes_are : f.automaton.sizes ≡ sizes_of (systems_of systems)) where
  abbrev value : List ℕ → Option ℤ
  value w = first_held rest parts (accepted parts w)

  abbrev valid : List ℕ → Bool
  valid w = is_valid (sizes_of (systems_of systems)) (languages_of systems) w

  module _ (letters : (w : List ℕ) → IsWord (letters_in (systems_of systems)) w → letter_after f w ≡ (if valid w then value w else None)) where
    abbrev word : WordValue
    word = record { systems = systems; function = f }

    -- a representation of numbers has such a letter
    letter_represented : (ns w : List ℕ) → RepresentsPlace systems ns w → letter_after f w ≡ value w
    letter_represented ns w represented = letters w represented.over ∙ ap (λ (b : Bool). if b then value w else None) (valid_of_place systems sealed one ns w represented)

    combined : (ns w : List ℕ) → RepresentsPlace systems ns w → (letter : ℤ) → (value w ≡ Some letter) ↔ IsCombined rest parts ns letter
    combined ns w represented letter = combined_here rest systems ns w represented parts fit letter

    word_is : IsWordValue word
    word_is = record {
      function = is;
      some = some;
      sealed = sealed;
      shared_direction = one;
      sizes = sizes_are;
      represents = λ w over there. place_of_valid systems sealed one w over (kept_passes (valid w) (value w) (subst IsSome (letters w over) there));
      one = λ ns w u first second.
          letter_represented ns w first
          ∙ same_option (value w) (value u) (λ letter. (
            λ h. (combined ns u second letter).1 ((combined ns w first letter).0 h),
            λ h. (combined ns w first letter).1 ((combined ns u second letter).0 h),
          ))
          ∙ sym (letter_represented ns u second);
    }

    combined_letter : (ns : List ℕ) (letter : ℤ) → HasLetter word ns letter → IsCombined rest parts ns letter
    combined_letter ns letter (w, represented, has) = (combined ns w represented letter).0 (sym (letter_represented ns w represented) ∙ has)

    letter_combined : (ns : List ℕ) (letter : ℤ) → length ns ≡ length systems → IsCombined rest parts ns letter → HasLetter word ns letter
    letter_combined ns letter count is_combined =
        let found = place_represented systems sealed one ns count in
        (found.0, found.1, letter_represented ns found.0 found.1 ∙ (combined ns found.0 found.1 letter).1 is_combined)

    pub combination_is : IsCombination rest parts systems word
    combination_is = record {
      word_is = word_is;
      systems_are = refl;
      letters = λ ns letter count. (combined_letter ns letter, letter_combined ns letter count);
    }
