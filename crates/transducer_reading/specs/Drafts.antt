-- What was read so far, as the reader keeps it. Nobody has to believe this: it serves the reader.
use Rattle.std.specs.Prelude.{◌≡◌, ℕ, ◌+◌, ◌<◌, ◌≤◌, ℤ, List, [], length, take, drop, Option, None, Some, IfSome, IsTrue}
use Rattle.std.specs.List.{All}
use Rattle.std.specs.List.Sorted.{IsNonDecreasingBy}
use Rattle.transducer_reading.specs.declared.draft.Draft.{Draft as DraftRead}
use Rattle.transducer_reading.specs.declared.results.Results.{Results}
use Rattle.transducer_reading.specs.declared.transducer.TransducerLine.{TransducerLine}
use Rattle.transducer_reading.specs.Transducers.{is_member}
use Rattle.transducer_reading.specs.Reading.{Draft}
use Rattle.transducer_reading.specs.Conflicts.{IsWithoutConflict}
use Rattle.transducer_reading.specs.LastResults.{AreResults}

abbrev pub draft_view : DraftRead → Draft
draft_view draft = record { set = draft.set; numbers = draft.numbers.keys; lines = draft.lines.items }

-- the members of the set that was read, if one was
abbrev pub members_in : Option (List ℤ) → List ℤ
members_in None = []
members_in (Some set) = set

-- the line is of a state that was read, by a letter of the set
pub record IsDraftLine (set : List ℤ) (states : ℕ) (line : ℕ × TransducerLine) : Type 0 where
  pub state : line.1.state < states
  pub letter : IfSome line.1.letter (λ letter. IsTrue (is_member set letter))

-- The lines are of states that were read, by letters of the set, in the order of their states, and in no conflict. Before the set is no line.
pub record IsDraft (draft : Draft) : Type 0 where
  pub none : draft.set ≡ None → draft.lines ≡ []
  pub lines : All (IsDraftLine (members_in draft.set) (length draft.numbers)) draft.lines
  pub order : IsNonDecreasingBy (λ line. line.1.state) draft.lines
  pub agreed : IsWithoutConflict draft.lines

-- the lines of the state that was listed last are those from a place on, and these are their results
pub record IsLast (numbers : List ℕ) (lines : List (ℕ × TransducerLine)) (first : ℕ) (results : Results) : Type 0 where
  pub within : first ≤ length lines
  pub earlier : All (λ line. line.1.state + 1 < length numbers) (take first lines)
  pub own : All (λ line. line.1.state + 1 ≡ length numbers) (drop first lines)
  pub results_are : AreResults (drop first lines) results

abbrev pub IsLastKept : DraftRead → Type 0
IsLastKept draft = IsLast draft.numbers.keys draft.lines.items draft.first draft.results

pub record IsReading (draft : DraftRead) : Type 0 where
  pub draft_is : IsDraft (draft_view draft)
  pub last : IsLastKept draft
