-- Lines of words that grow.
use Rattle.std.proofs.Common.{◌≡◌, ℕ, ◌<◌, true, false, List, [], ◌∷◌, ◌++◌, length, get_or, eqb, codes, sym, ap, ◌∙◌, arith, append_assoc, ℤ}
use Rattle.std.specs.List.{flat_map}
use Rattle.std.proofs.lemmas.Bool.Decides.{nat_tests}
use Rattle.std.proofs.lemmas.List.{get_or_default}
use Rattle.std.proofs.lemmas.List.Folds.{flat_map-map}
use Rattle.std.proofs.lemmas.List.Elements.{All-from_recursion}
use Rattle.digit_tuple.specs.Letters.{product, IsWord}
use Rattle.digit_tuple.specs.Sets.{sizes_of}
use Rattle.digit_tuple.specs.Tuples.{IsLetterOf}
use Rattle.digit_tuple.proofs.LetterLemmas.{digits_from_letter}
use Rattle.dfa_text.specs.RelationText.{tuple_of}
use Rattle.dfa_text.proofs.TupleSteps.{tuple_at_code}
use Rattle.listings.specs.WordLines.{letter_text, word_text, tuples_in, word_line}
use Rattle.listings.specs.Listings.{WordsHaveTuples}

-- a letter of a word of the alphabet
pub letter_within : (letters : ℕ) (word : List ℕ) (k : ℕ) → IsWord letters word → k < length word → get_or word k 0 < letters
letter_within letters word k over inside = All-from_recursion (λ letter. letter < letters) word over k 0 inside

-- a set at its track
pub set_at : (sets : List (List ℤ)) (k : ℕ) (set : List ℤ) → k < length sets → set ≡ get_or sets k set → set ≡ get_or sets k []
set_at sets k set within is = is ∙ get_or_default sets k set [] within

-- a bracket, digits and a bracket
pub letter_pushed : (old opened digits out joined : List ℕ) → opened ≡ old ++ 91 ∷ [] → digits ≡ opened ++ joined → out ≡ digits ++ 93 ∷ [] → out ≡ old ++ (codes "[" ++ (joined ++ codes "]"))
letter_pushed old opened digits out joined first second third =
    third
    ∙ ap (λ t. t ++ 93 ∷ []) (second ∙ ap (λ t. t ++ joined) first)
    ∙ append_assoc (old ++ 91 ∷ []) joined (93 ∷ [])
    ∙ append_assoc old (91 ∷ []) (joined ++ 93 ∷ [])

-- the line of the empty word
pub empty_line : (sets : List (List ℤ)) (word old out : List ℕ) → eqb (length word) 0 ≡ true → out ≡ old ++ codes "[]\n" → out ≡ old ++ word_line sets word
empty_line sets [] old out none e = e
empty_line sets (a ∷ word) old out none e = absurd (grind (arith, nat_tests))

-- the line of another word
pub other_line : (sets : List (List ℤ)) (word old letters out : List ℕ) → eqb (length word) 0 ≡ false → letters ≡ old ++ flat_map (λ letter. letter_text (tuple_of sets letter)) word → out ≡ letters ++ 10 ∷ [] → out ≡ old ++ word_line sets word
other_line sets [] old letters out some e f = absurd (grind (arith, nat_tests))
other_line sets (a ∷ word) old letters out some e f =
    f
    ∙ ap (λ t. t ++ 10 ∷ []) (e ∙ ap (λ t. old ++ t) (sym (flat_map-map letter_text (tuple_of sets) (a ∷ word))))
    ∙ append_assoc old (word_text (tuples_in sets (a ∷ word))) (10 ∷ [])

-- the tuple of a letter
letter_has_tuple : (sets : List (List ℤ)) (letter : ℕ) → letter < product (sizes_of sets) → IsLetterOf sets (tuple_of sets letter) letter
letter_has_tuple sets letter below =
    let found = digits_from_letter (sizes_of sets) letter below in
    record {
      digits = found.0;
      fit = found.1;
      tuple_is = ap (tuple_of sets) (sym found.2) ∙ tuple_at_code sets found.0 found.1;
      letter_is = sym found.2;
    }

pub words_have_tuples : WordsHaveTuples
words_have_tuples sets [] over = tt
words_have_tuples sets (a ∷ word) over = (letter_has_tuple sets a over.0, words_have_tuples sets word over.1)
