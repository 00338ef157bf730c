-- Runs of the generated script of a seed.
use Rattle.std.specs.Prelude.{◌≡◌, ◌⊎◌, ℕ, List, ◌++◌, codes, decimal, Result, Ok, Err}
use Rattle.wal_outside.specs.Sending.{Sends}
use Rattle.wal_outside.specs.Views.{SinkView, StoreView}
use Rattle.wal_outside.specs.declared.sink.WriteFault.{WriteFault}
use Rattle.made_script.specs.Scripts.{script_text}
use Rattle.script_runs.specs.Languages.{CommandLanguage}
use Rattle.script_runs.specs.Ends.{stop_status}
use Rattle.script_runs.specs.TextRuns.{RanWhole, RanShort}
use Rattle.script_runs.specs.declared.counts.Counts.{Counts}
use Rattle.script_runs.specs.declared.text_run.TextRun.{TextRun}
use Rattle.script_runs.specs.declared.status.Status.{Status}
use Rattle.script_runs.specs.declared.status.Status.TheVariants as status

-- two numbers, each after its name
abbrev pub two_numbers : List ℕ → ℕ → List ℕ → ℕ → List ℕ
two_numbers name number other_name other = (name ++ decimal number) ++ (other_name ++ decimal other)

-- The line of a run: the seed, how many commands were answered, how many of the accepted ones printed `TRUE` alone, `FALSE` alone, and anything
-- else or nothing, and how many were refused.
abbrev pub made_line : ℕ → Counts → List ℕ
made_line seed counts =
    ((two_numbers (codes "made ") seed (codes " commands ") counts.commands ++ two_numbers (codes " true ") counts.yes (codes " false ") counts.no)
    ++ two_numbers (codes " other ") counts.other (codes " refused ") counts.refused) ++ codes "\n"

-- where the sink stopped the line, the status is the sink's
abbrev pub made_status : Status → Result (Unit {0}) WriteFault → Status
made_status state (Ok done) = state
made_status state (Err fault) = stop_status fault

-- the line of a run was printed, or a part of it where the sink stopped it
abbrev pub PrintsRun : ℕ → TextRun → SinkView → SinkView → Status → Type 0
PrintsRun seed run held now state = (sent : Result (Unit {0}) WriteFault) × Sends held (made_line seed run.counts) sent now × (state ≡ made_status run.status sent)

-- The commands of the script were answered, to its end or to one that ends the run, and the line of the run was printed.
pub record RanMade {F : Type 0} (l : CommandLanguage F) (seed : ℕ) (old new : StoreView) (held now : SinkView) (state : Status) : Type 0 where
  pub run : TextRun
  pub ran : RanWhole l (script_text seed) old new run.counts run.status
  pub prints : PrintsRun seed run held now state

-- Memory ran out before that, outside a command, and nothing was printed.
pub record MadeShort {F : Type 0} (l : CommandLanguage F) (seed : ℕ) (old new : StoreView) (held now : SinkView) (state : Status) : Type 0 where
  pub ran : RanShort l (script_text seed) old new
  pub sink_stays : now ≡ held
  pub state_is : state ≡ status.Memory

abbrev pub HasMade : {F : Type 0} → CommandLanguage F → ℕ → StoreView → StoreView → SinkView → SinkView → Status → Type 0
HasMade l seed old new held now state = RanMade l seed old new held now state ⊎ MadeShort l seed old new held now state
