-- Files of automatic words: what the bytes list, or the line of the first fault. The format is that of a relation's file, but that the
-- tracks are of systems, that a state's output is its letter, or `-` for none, and that from a state a tuple leads to one state at most.
use Rattle.std.specs.Prelude.{◌≡◌, ℕ, ◌<◌, Bool, true, false, ◌&&◌, if◌then◌else◌, List, length, Option, None, Some, Result, Ok}
use Rattle.dfa_reading.specs.Lines.{◌>>=◌, lines_of, line_after}
use Rattle.dfa_reading.specs.Headers.{Header, Systems}
use Rattle.dfa_reading.specs.Listed.{Listed, Moves}
use Rattle.dfa_reading.specs.Conflicts.{are_without_conflict}
use Rattle.dfa_reading.specs.declared.outputs.Outputs.TheVariants.{Letters}
use Rattle.dfa_reading.specs.Reading.{Draft, no_draft, add_line, add_lines_by, then_read, finish}

-- the tracks that were read are of systems
abbrev pub is_of_systems : Header → Bool
is_of_systems (Systems names) = true
is_of_systems _ = false

abbrev pub are_of_systems : Option Header → Bool
are_of_systems None = true
are_of_systems (Some header) = is_of_systems header

-- what was read may be the prefix of a word's file
abbrev pub is_word : Draft → Bool
is_word draft = are_of_systems draft.header && are_without_conflict draft.lines

abbrev pub kept_word : Draft → Option Draft
kept_word draft = if is_word draft then Some draft else None

-- one line more; none where the line breaks the format
unfoldable pub add_word_line : ℕ → Draft → List ℕ → Option Draft
add_word_line at draft line = add_line Letters at draft line >>= kept_word

-- what the bytes list
unfoldable pub word_of : List ℕ → Result Listed ℕ
word_of text = then_read (add_lines_by add_word_line 1 no_draft (lines_of text)) (finish (line_after (lines_of text)))

-- on tracks of these sizes a tuple leads from a state to one state at most
abbrev pub IsFunctional : List ℕ → Listed → Type 0
IsFunctional sizes listed = (p : ℕ) (tuple : List ℕ) (q r : ℕ) → Moves sizes listed p tuple q → Moves sizes listed p tuple r → q ≡ r

-- what a word's file lists: its tracks are of systems, at least one, and it is functional, however many digits these have
pub record IsWordListed (listed : Listed) : Type 0 where
  pub names : List (List ℕ)
  pub header : listed.header ≡ Systems names
  pub some : 0 < length names
  pub functional : (sizes : List ℕ) → IsFunctional sizes listed

abbrev pub WordFilesListWords : Type 0
WordFilesListWords = (text : List ℕ) (listed : Listed) → word_of text ≡ Ok listed → IsWordListed listed
