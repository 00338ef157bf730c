-- Questions about the words of a list, and their answers.
use Rattle.std.specs.Prelude.{◌↔◌, ℕ, ℤ, Bool, List, IsTrue, MatchOption, ⊤}
use Rattle.word_walk.specs.Infinity.{IsInfinite}
use Rattle.listings.specs.Tracks.{IsOnTracks}
use Rattle.listings.specs.declared.line_fault.LineFault.{LineFault}
use Rattle.listings.specs.declared.line_fault.LineFault.TheVariants as faults
use Rattle.table_listings.specs.ListedLines.{AreListedLines, AreTooManyLines}
use Rattle.table_listings.specs.declared.question.Answer.{Answer}
use Rattle.table_listings.specs.declared.question.Answer.TheVariants.{Lines, Verdict}
use Rattle.table_listings.specs.declared.question.Question.{Question}
use Rattle.table_listings.specs.declared.question.Question.TheVariants.{Words, Infinity}

-- the place of the question, if there is one, is on the tracks
abbrev pub IsAskedOn : List (List ℤ) → Question → Type 0
IsAskedOn sets (Words words) = MatchOption words.place ⊤ (IsOnTracks sets)
IsAskedOn sets Infinity = ⊤

-- these are the lines of the words that are asked for, so many after the place
abbrev pub HasLines : (List ℕ → Bool) → List (List ℤ) → Question → List ℕ → Type 0
HasLines lists sets (Words words) text = AreListedLines lists sets words.place words.count text
HasLines lists sets Infinity text = ⊥

-- whether there are infinitely many words, where this is asked
abbrev pub HasVerdict : (List ℕ → Bool) → Question → Bool → Type 0
HasVerdict lists (Words words) infinite = ⊥
HasVerdict lists Infinity infinite = IsTrue infinite ↔ IsInfinite lists

-- the answer: the lines, or the verdict
abbrev pub Answers : (List ℕ → Bool) → List (List ℤ) → Question → Answer → Type 0
Answers lists sets question (Lines text) = HasLines lists sets question text.items
Answers lists sets question (Verdict infinite) = HasVerdict lists question infinite

-- the lines have too many bytes
abbrev pub HasTooLongAnswer : (List ℕ → Bool) → List (List ℤ) → Question → Type 0
HasTooLongAnswer lists sets (Words words) = AreTooManyLines lists sets words.place words.count
HasTooLongAnswer lists sets Infinity = ⊥

-- the fault comes only where they have
abbrev pub IsUnanswered : (List ℕ → Bool) → List (List ℤ) → Question → LineFault → Type 0
IsUnanswered lists sets question faults.Long = HasTooLongAnswer lists sets question
IsUnanswered lists sets question faults.Memory = ⊤
