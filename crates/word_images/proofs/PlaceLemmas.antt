-- Letters that occur in words and in their images.
use Rattle.std.proofs.Common.{◌≡◌, ℕ, zero, suc, ◌-◌, ◌<◌, ◌≤◌, List, [], ◌∷◌, length, get_or, ℤ, pos, Some, ◌⊎◌, inl, inr, sym, ap, ◌∙◌, arith}
use Rattle.std.specs.List.{Contains}
use Rattle.std.proofs.lemmas.Bool.{cases_lt}
use Rattle.std.proofs.lemmas.List.{get_or_default, get_or_past}
use Rattle.std.proofs.lemmas.Option.{get_or_from_slice_get, none-some, same_Some, slice_get_within}
use Rattle.residual_classes.specs.Classes.{class_of}
use Rattle.morph_words.specs.Rules.{Rules}
use Rattle.morph_words.specs.Images.{image}
use Rattle.morph_words.specs.ImageLetters.{IsImageLetter}
use Rattle.morph_words.proofs.ImageLetterLemmas.{IsRuledWord, from_joined, joined, one_image_letter, one_length, ruled_image}
use Rattle.word_output.specs.LetterFunctions.{letter_in}
use Rattle.word_output.specs.Words.{HasLetter, IsWordValue, WordValue}
use Rattle.word_output.proofs.LetterFunctionLemmas.{letter_in-class}
use Rattle.word_output.proofs.LetterLeads.{led, letter_after-lead}
use Rattle.word_output.proofs.PlaceLaws.{one_letter}
use Rattle.word_images.specs.ImageWords.{IsMapped, IsOutput, OccursIn}
use Rattle.word_images.specs.Laws.{ImagesAreJoined, ImagesHaveOneLetter, LetterOf}

-- the letter of a class that is that of some state
letter_listed : (letters : List ℤ) (class : ℕ) (a : ℤ) → class ≤ length letters → letter_in letters class ≡ Some a → Contains letters a
letter_listed letters zero a few is = absurd (none-some a is)
letter_listed letters (suc c) a few is = (c, omega (arith, few), get_or_default letters c a (pos 0) (omega (arith, few)) ∙ same_Some (get_or letters c (pos 0)) a (ap (λ i. Some (get_or letters i (pos 0))) (let at : c ≡ suc c - 1 = omega arith in at) ∙ sym (letter_in-class letters (suc c) (omega arith)) ∙ is))

-- what a place has occurs
pub occurs : (word : WordValue) (ns : List ℕ) (a : ℤ) → IsWordValue word → HasLetter word ns a → OccursIn word a
occurs word ns a is (w, represented, has) =
    letter_listed word.function.letters (class_of word.function.classes (led word.function is.function w)) a (within (led word.function is.function w)) (sym (letter_after-lead word.function is.function w) ∙ has)
  where
    within : (q : ℕ) → class_of word.function.classes q ≤ length word.function.letters
    within q = by (cases_lt q (length word.function.classes))
      where
        by : (q < length word.function.classes) ⊎ (length word.function.classes ≤ q) → class_of word.function.classes q ≤ length word.function.letters
        by (inl less) = is.function.within q 0 less
        by (inr past) = omega (arith, get_or_past word.function.classes q 0 past)

-- the length of the images is the one of an image's letter
pub image_length : (rules : Rules) (word : WordValue) (k n : ℕ) (b : ℤ) → IsMapped rules word k → (h : IsImageLetter rules (LetterOf word) n b) → h.k ≡ k
image_length rules word k n b mapped h = one_length rules h.k k h.of_word h.uniform mapped.length_is.uniform (ruled_image rules h.of_word h.r b h.letter_is)

-- a letter of the image is one of an image
pub image_output : (rules : Rules) (word : WordValue) (n : ℕ) (b : ℤ) → IsWordValue word → IsImageLetter rules (LetterOf word) n b → IsOutput rules word b
image_output rules word n b is h = record {
  from = h.of_word;
  occurs = occurs word (h.q ∷ []) h.of_word is h.has;
  within = (h.r, slice_get_within (image rules h.of_word) h.r b h.letter_is, get_or_from_slice_get (image rules h.of_word) h.r b b h.letter_is);
}

-- a word has one letter at a place
one : (word : WordValue) → IsWordValue word → (place : ℕ) (a b : ℤ) → LetterOf word place a → LetterOf word place b → a ≡ b
one word is place a b first second = one_letter word (place ∷ []) a b is first second

pub images_have_one_letter : ImagesHaveOneLetter
images_have_one_letter rules word place b c is first second = one_image_letter rules (LetterOf word) (one word is) place b c first second

pub images_are_joined : ImagesAreJoined
images_are_joined rules word k is mapped some place letter =
    let ruled : IsRuledWord rules (LetterOf word) = record { some = some; one = one word is; ruled = λ q a has. mapped.ruled a (occurs word (q ∷ []) a is has) } in
    (joined rules (LetterOf word) k mapped.length_is.uniform ruled place letter, from_joined rules (LetterOf word) k mapped.length_is.uniform ruled place letter)
