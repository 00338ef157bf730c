-- What holds of listed lines.
use Rattle.std.specs.Prelude.{◌≡◌, ◌↔◌, ℕ, ℤ, Bool, List}
use Rattle.std.specs.List.{All}
use Rattle.digit_tuple.specs.Sets.{IsAscending}
use Rattle.digit_tuple.specs.Tuples.{Codes}
use Rattle.listings.specs.Tracks.{IsOnTracks}
use Rattle.table_listings.specs.Questions.{HasTooLongAnswer, HasLines, HasVerdict}
use Rattle.table_listings.specs.declared.question.Question.{Question}

-- lists of the same words have one answer, or none within the limit
pub record EqualListsHaveOneAnswer : Type 0 where
  pub lines : (lists others : List ℕ → Bool) (sets : List (List ℤ)) (question : Question) (text : List ℕ) → All IsAscending sets → ((w : List ℕ) → lists w ≡ others w) → HasLines lists sets question text
      → (¬ HasTooLongAnswer others sets question) × ((other : List ℕ) → HasLines others sets question other → text ≡ other)
  pub verdict : (lists others : List ℕ → Bool) (question : Question) (is other : Bool) → ((w : List ℕ) → lists w ≡ others w) → HasVerdict lists question is → HasVerdict others question other → is ≡ other

-- a place is on the tracks if and only if it is a word over them
abbrev pub ListedPlacesAreWords : Type 0
ListedPlacesAreWords = (sets place : List (List ℤ)) → IsOnTracks sets place ↔ ((word : List ℕ) × Codes sets place word)
