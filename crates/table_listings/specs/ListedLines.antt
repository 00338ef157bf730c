-- The lines of the first words of a list that come after a place.
use Rattle.std.specs.Prelude.{ℕ, ℤ, Bool, List, Option, None, Some, ⊤}
use Rattle.digit_tuple.specs.Deterministic.{Automaton}
use Rattle.digit_tuple.specs.Tuples.{Codes}
use Rattle.digit_tuple.specs.declared.direction.Direction.{Direction}
use Rattle.word_walk.specs.Walks.{IsWalk, WalkValue}
use Rattle.listings.specs.Listings.{AreLinesWithin, PassBound}
use Rattle.listings.specs.declared.line_fault.LineFault.{LineFault}
use Rattle.listings.specs.declared.line_fault.LineFault.TheVariants.{Long, Memory}
use Rattle.listings.specs.declared.listed_lines.Bounds.{Bounds}

-- the place as a word of letters, or no place
abbrev pub IsPlaceWord : List (List ℤ) → Option (List (List ℤ)) → Option (List ℕ) → Type 0
IsPlaceWord sets None None = ⊤
IsPlaceWord sets None (Some word) = ⊥
IsPlaceWord sets (Some place) None = ⊥
IsPlaceWord sets (Some place) (Some word) = Codes sets place word

-- so many words, whose lines may have 16,777,216 bytes
abbrev pub so_many : ℕ → Bounds
so_many count = record { words = count; bytes = 16777216 }

-- these are the lines of the first so many words of the list after the place, or of all where there are fewer, and they have no more bytes than that
pub record AreListedLines (lists : List ℕ → Bool) (sets : List (List ℤ)) (place : Option (List (List ℤ))) (count : ℕ) (text : List ℕ) : Type 0 where
  pub word : Option (List ℕ)
  pub word_is : IsPlaceWord sets place word
  pub lines : AreLinesWithin lists sets word (so_many count) text

-- they have more
pub record AreTooManyLines (lists : List ℕ → Bool) (sets : List (List ℤ)) (place : Option (List (List ℤ))) (count : ℕ) : Type 0 where
  pub word : Option (List ℕ)
  pub word_is : IsPlaceWord sets place word
  pub long : PassBound lists sets word (so_many count)

-- the fault comes only where they do
abbrev pub IsLinesFault : (List ℕ → Bool) → List (List ℤ) → Option (List (List ℤ)) → ℕ → LineFault → Type 0
IsLinesFault lists sets place count Long = AreTooManyLines lists sets place count
IsLinesFault lists sets place count Memory = ⊤

-- the walk over an automaton is at the place
pub record HasWalk (d : Automaton) (skip : Option Direction) (sets : List (List ℤ)) (place : Option (List (List ℤ))) (walk : WalkValue) : Type 0 where
  pub word : Option (List ℕ)
  pub word_is : IsPlaceWord sets place word
  pub walks : IsWalk d skip word walk
