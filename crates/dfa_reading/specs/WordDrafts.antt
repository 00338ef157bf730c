-- What was read of a word's file so far, with the transitions of the state that was listed last. Nobody has to believe this: it serves
-- the reader of such files.
use Rattle.std.specs.Prelude.{◌≡◌, ℕ, ◌-◌, ◌==◌, Bool, true, false, List, [], ◌++◌, length, Option, None, Some}
use Rattle.std.specs.List.{filter, flat_map}
use Rattle.dfa_reading.specs.Listed.{ListedLine}
use Rattle.dfa_reading.specs.Reading.{Draft, IsDraft}
use Rattle.dfa_reading.specs.StarTables.{StarTable}
use Rattle.dfa_reading.specs.Transitions.{Transition, agree_all, to_each, transitions_in, AreIndexed}
use Rattle.dfa_reading.specs.WordFiles.{is_word}
use Rattle.dfa_reading.specs.DraftViews.{draft_view}
use Rattle.dfa_reading.specs.declared.word_draft.WordDraft.{WordDraft}

-- the line is of the state at the place
abbrev pub is_of_state : ℕ → ℕ × ListedLine → Bool
is_of_state state line = line.1.state == state

-- the transitions of lines
abbrev pub transitions_of : List (ℕ × ListedLine) → List Transition
transitions_of lines = flat_map (λ line. to_each line.1.digits line.1.targets) lines

-- the transitions from the state at the place
abbrev pub transitions_from : ℕ → List (ℕ × ListedLine) → List Transition
transitions_from state lines = transitions_of (filter (is_of_state state) lines)

-- what was read is the prefix of a word's file, and the transitions are those from the last state
pub record IsReading (draft : Draft) (list : List Transition) (tables : List StarTable) : Type 0 where
  pub draft_is : IsDraft draft
  pub word : is_word draft ≡ true
  pub last : list ≡ transitions_from (length draft.outputs - 1) draft.lines
  pub indexed : AreIndexed list tables

abbrev pub IsReader : WordDraft → Type 0
IsReader d = IsReading (draft_view d.draft) (transitions_in d.last.list.items) d.last.tables.items

-- the transitions from the last state after a line: none where the line is a state, and those of a line of transitions more
abbrev pub after_line : Bool → Option (ℕ × ListedLine) → List Transition → List Transition
after_line true line list = []
after_line false None list = list
after_line false (Some line) list = list ++ to_each line.1.digits line.1.targets

-- those of a line of transitions agree with the others
abbrev pub agrees_line : Bool → Option (ℕ × ListedLine) → List Transition → Bool
agrees_line true line list = true
agrees_line false None list = true
agrees_line false (Some line) list = agree_all list line.1.digits line.1.targets
