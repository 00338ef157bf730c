-- Lists of the same words have one answer, or none within the limit.
use Rattle.std.proofs.Common.{◌≡◌, ℕ, Bool, List, Option, None, Some, refl, sym, ap, subst, IsTrue}
use Rattle.std.specs.Prelude.{ℤ}
use Rattle.std.specs.List.{All}
use Rattle.digit_tuple.specs.Sets.{IsAscending}
use Rattle.digit_tuple.proofs.TruthLemmas.{same_tests}
use Rattle.digit_tuple.proofs.TupleLemmas.{one_word}
use Rattle.word_walk.specs.Infinity.{IsInfinite}
use Rattle.listings.specs.Listings.{AreLinesWithin}
use Rattle.listings.proofs.NextLemmas.{same_lists_have_same_lines}
use Rattle.listings.proofs.OneListing.{listings_are_one}
use Rattle.table_listings.specs.ListedLines.{AreListedLines, AreTooManyLines, IsPlaceWord, so_many}
use Rattle.table_listings.specs.Questions.{HasLines, HasTooLongAnswer, HasVerdict}
use Rattle.table_listings.specs.Laws.{EqualListsHaveOneAnswer}
use Rattle.table_listings.specs.declared.question.Question.{Question}
use Rattle.table_listings.specs.declared.question.Question.TheVariants.{Words, Infinity}

-- a place is one word
one_place : (sets : List (List ℤ)) (place : Option (List (List ℤ))) (word other : Option (List ℕ)) → All IsAscending sets → IsPlaceWord sets place word → IsPlaceWord sets place other → word ≡ other
one_place sets None None None up one also = refl
one_place sets None None (Some v) up one also = absurd also
one_place sets None (Some w) other up one also = absurd one
one_place sets (Some place) None other up one also = absurd one
one_place sets (Some place) (Some w) None up one also = absurd also
one_place sets (Some place) (Some w) (Some v) up one also = ap Some (one_word sets place w v up one also)

module _ (lists others : List ℕ → Bool) (sets : List (List ℤ)) (place : Option (List (List ℤ))) (count : ℕ) (text : List ℕ) (up : All IsAscending sets) (same : (w : List ℕ) → lists w ≡ others w)
    (are : AreListedLines lists sets place count text) where
  moved : (word : Option (List ℕ)) → IsPlaceWord sets place word → AreLinesWithin others sets word (so_many count) text
  moved word is =
      let lines : AreLinesWithin others sets are.word (so_many count) text = (same_lists_have_same_lines lists others sets are.word (so_many count) same).0 text are.lines in
      subst (λ (w : Option (List ℕ)). AreLinesWithin others sets w (so_many count) text) (one_place sets place are.word word up are.word_is is) lines

  not_long : ¬ AreTooManyLines others sets place count
  not_long many = (listings_are_one others sets many.word (so_many count) text (moved many.word many.word_is)).0 many.long

  one_text : (other : List ℕ) → AreListedLines others sets place count other → text ≡ other
  one_text other also = (listings_are_one others sets also.word (so_many count) text (moved also.word also.word_is)).1 other also.lines

equal_lines : (lists others : List ℕ → Bool) (sets : List (List ℤ)) (question : Question) (text : List ℕ) → All IsAscending sets → ((w : List ℕ) → lists w ≡ others w) → HasLines lists sets question text
    → (¬ HasTooLongAnswer others sets question) × ((other : List ℕ) → HasLines others sets question other → text ≡ other)
equal_lines lists others sets (Words words) text up same are = (not_long lists others sets words.place words.count text up same are, one_text lists others sets words.place words.count text up same are)
equal_lines lists others sets Infinity text up same are = absurd are

-- infinitely many words of a list are as many of another one that has the same
moved_infinity : (lists others : List ℕ → Bool) → ((w : List ℕ) → lists w ≡ others w) → IsInfinite lists → IsInfinite others
moved_infinity lists others same infinite n = let found = infinite n in (found.0, found.1, subst IsTrue (same found.0) found.2)

equal_verdicts : (lists others : List ℕ → Bool) (question : Question) (is other : Bool) → ((w : List ℕ) → lists w ≡ others w) → HasVerdict lists question is → HasVerdict others question other → is ≡ other
equal_verdicts lists others (Words words) is other same has also = absurd has
equal_verdicts lists others Infinity is other same has also =
    same_tests is other (λ h. also.1 (moved_infinity lists others same (has.0 h)), λ h. has.1 (moved_infinity others lists (λ w. sym (same w)) (also.0 h)))

pub equal_lists : EqualListsHaveOneAnswer
equal_lists = record { lines = equal_lines; verdict = equal_verdicts }
