-- How a run over a text ends that is given whole. Nothing is printed of it.
use Rattle.std.specs.Prelude.{◌≡◌, ℕ, true, false, List, Result, Ok, Err}
use Rattle.std.specs.declared.alloc.AllocError.{AllocError}
use Rattle.wal_outside.specs.Views.{StoreView}
use Rattle.script_cut.specs.Cuts.{Rest, IsAtEnd}
use Rattle.script_runs.specs.declared.counts.Counts.{Counts}
use Rattle.script_runs.specs.declared.text_run.TextRun.{TextRun}
use Rattle.script_runs.specs.declared.status.Status.{Status}
use Rattle.script_runs.specs.Languages.{CommandLanguage}
use Rattle.script_runs.specs.Turns.{Turns, in_order, is_cut_off, IsDue}
use Rattle.script_runs.specs.Printed.{status_of}
use Rattle.script_runs.specs.Ends.{HasTurns}
use Rattle.script_runs.specs.Counted.{AreCounted}

-- All items were answered up to the text's end, or up to one that ends the run; they were counted so, and the status is that of all.
pub record RanWhole {F : Type 0} (l : CommandLanguage F) (text : List ℕ) (old new : StoreView) (counts : Counts) (state : Status) : Type 0 where
  pub turns : Turns l
  pub last : Rest
  pub has_turns : HasTurns l text old turns last new
  pub due : IsDue l turns
  pub end : is_cut_off l turns ≡ false → IsAtEnd last
  pub counted : AreCounted l (in_order l turns) counts
  pub state_is : state ≡ status_of l (in_order l turns)

-- Memory ran out between two items, or in the line of one that was refused.
pub record RanShort {F : Type 0} (l : CommandLanguage F) (text : List ℕ) (old new : StoreView) : Type 0 where
  pub turns : Turns l
  pub last : Rest
  pub has_turns : HasTurns l text old turns last new
  pub cut : is_cut_off l turns ≡ true

abbrev pub HasRunText : {F : Type 0} → CommandLanguage F → List ℕ → StoreView → StoreView → Result TextRun AllocError → Type 0
HasRunText l text old new (Ok run) = RanWhole l text old new run.counts run.status
HasRunText l text old new (Err error) = RanShort l text old new
