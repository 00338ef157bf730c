-- The lines of a transducer's file: the set, the states, and the lines of each state. Numbers, blanks, `->` and sets are as in the files of
-- automata.
use Rattle.std.specs.Prelude.{ℕ, ◌==◌, if◌then◌else◌, ℤ, List, [], ◌∷◌, Option, None, Some, option_map}
use Rattle.std.specs.List.{slice_split}
use Rattle.dfa_reading.specs.Numbers.{integer_of}
use Rattle.dfa_reading.specs.Lines.{◌>>=◌, parts_of, arrow_at}
use Rattle.dfa_reading.specs.Headers.{sets_of}
use Rattle.dfa_reading.specs.Entries.{is_star, state_number}
use Rattle.transducer_reading.specs.Transducers.{is_member}

-- the only set
abbrev pub only_set : List (List ℤ) → Option (List ℤ)
only_set (set ∷ []) = Some set
only_set _ = None

-- the set of a line that has this set and nothing else
abbrev pub set_of : List ℕ → Option (List ℤ)
set_of line = sets_of line >>= only_set

-- the only part
abbrev pub only_of : List (List ℕ) → Option (List ℕ)
only_of (part ∷ []) = Some part
only_of _ = None

-- all of a text but blanks, if it is one part
abbrev pub only_part : List ℕ → Option (List ℕ)
only_part text = only_of (parts_of text)

-- a letter, if it is in the set
abbrev pub within_set : List ℤ → ℤ → Option ℤ
within_set set letter = if is_member set letter then Some letter else None

-- `*`, or a letter of the set
abbrev pub letter_of : List ℤ → List ℕ → Option (Option ℤ)
letter_of set part = if is_star part then Some None else option_map Some (integer_of part >>= within_set set)

-- the two texts that one `/` divides
abbrev pub two_of : List (List ℕ) → Option (List ℕ × List ℕ)
two_of (before ∷ after ∷ []) = Some (before, after)
two_of _ = None

-- the number of a target, and an output
abbrev pub result_by : List ℕ × List ℕ → Option (ℕ × ℤ)
result_by texts = do
  target ← only_part texts.0 >>= state_number
  output ← only_part texts.1 >>= integer_of
  Some (target, output)

-- a target and an output, with `/` between them
abbrev pub result_of : List ℕ → Option (ℕ × ℤ)
result_of text = two_of (slice_split (λ b. b == 47) text) >>= result_by

-- the number of a state; or a letter (`None` is `*`) with the number of a target and an output
pub data Entry : Type 0 where
  State : ℕ → Entry
  Line : Option ℤ → ℕ × ℤ → Entry

-- a letter and a result
abbrev pub line_of : List ℤ → List ℕ → List ℕ → Option Entry
line_of set before after = do
  letter ← only_part before >>= letter_of set
  result ← result_of after
  Some (Line letter result)

-- a line with `->` is of a state, and any other is a state's number
abbrev pub entry_by : List ℤ → List ℕ → Option (List ℕ × List ℕ) → Option Entry
entry_by set line None = option_map State (only_part line >>= state_number)
entry_by set line (Some p) = line_of set p.0 p.1

unfoldable pub entry_of : List ℤ → List ℕ → Option Entry
entry_of set line = entry_by set line (arrow_at line)
