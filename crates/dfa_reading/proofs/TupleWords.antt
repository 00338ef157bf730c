-- Words of letters, and the tuples of digits that they denote.
use Rattle.std.proofs.Common.{ℕ, ◌<◌, List, [], ◌∷◌, sym, subst}
use Rattle.std.specs.List.{AllZip}
use Rattle.digit_tuple.specs.Letters.{IsWord, product}
use Rattle.digit_tuple.proofs.LetterLemmas.{code_of-below, digits_from_letter}
use Rattle.dfa_reading.specs.Branching.{IsLetterOfDigits}

-- each letter of a word is that of a tuple of digits
pub tuples_of : (sizes word : List ℕ) → IsWord (product sizes) word → (tuples : List (List ℕ)) × AllZip (IsLetterOfDigits sizes) tuples word
tuples_of sizes [] over = ([], tt)
tuples_of sizes (letter ∷ word) over =
    let first = digits_from_letter sizes letter over.0 in
    let rest = tuples_of sizes word over.1 in
    (first.0 ∷ rest.0, (record { fit = first.1; letter_is = sym first.2 }, rest.1))

-- the letters of tuples of digits are a word
pub word_of_tuples : (sizes : List ℕ) (tuples : List (List ℕ)) (word : List ℕ) → AllZip (IsLetterOfDigits sizes) tuples word → IsWord (product sizes) word
word_of_tuples sizes [] [] letters = tt
word_of_tuples sizes [] (letter ∷ word) letters = absurd letters
word_of_tuples sizes (tuple ∷ tuples) [] letters = absurd letters
word_of_tuples sizes (tuple ∷ tuples) (letter ∷ word) letters =
    (subst (λ (a : ℕ). a < product sizes) (sym letters.0.letter_is) (code_of-below sizes tuple letters.0.fit), word_of_tuples sizes tuples word letters.1)
