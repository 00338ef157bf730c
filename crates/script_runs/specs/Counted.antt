-- What is counted of the items that were answered.
use Rattle.std.specs.Prelude.{◌≡◌, ℕ, Bool, not, ◌||◌, ◌&&◌, List, length, codes, bytes_eq, count_by}
use Rattle.script_runs.specs.declared.counts.Counts.{Counts}
use Rattle.script_runs.specs.Languages.{CommandLanguage}
use Rattle.script_runs.specs.Replies.{Answered, is_refusal}
use Rattle.script_runs.specs.Printed.{line_of}

-- the lines of statements that are true, and that are false
abbrev pub true_line : List ℕ
true_line = codes "TRUE\n"

abbrev pub false_line : List ℕ
false_line = codes "FALSE\n"

-- whether an item is refused
abbrev pub is_refused : {F : Type 0} (l : CommandLanguage F) → Answered l → Bool
is_refused l a = is_refusal l a.reply

-- whether an item is accepted, and this is all that is printed of it
abbrev pub prints_only : {F : Type 0} (l : CommandLanguage F) → List ℕ → Answered l → Bool
prints_only l line a = not (is_refused l a) && bytes_eq (line_of l a.item a.reply) line

-- whether an item is accepted, and something else than one of these lines is printed of it, or nothing
abbrev pub prints_other : {F : Type 0} (l : CommandLanguage F) → Answered l → Bool
prints_other l a = not (is_refused l a || (prints_only l true_line a || prints_only l false_line a))

-- so many items were answered, and so many of each kind
pub record AreCounted {F : Type 0} (l : CommandLanguage F) (answered : List (Answered l)) (counts : Counts) : Type 0 where
  pub commands : counts.commands ≡ length answered
  pub yes : counts.yes ≡ count_by (prints_only l true_line) answered
  pub no : counts.no ≡ count_by (prints_only l false_line) answered
  pub other : counts.other ≡ count_by (prints_other l) answered
  pub refused : counts.refused ≡ count_by (is_refused l) answered

-- nothing was counted yet
abbrev pub no_counts : Counts
no_counts = record { commands = 0; yes = 0; no = 0; other = 0; refused = 0 }
