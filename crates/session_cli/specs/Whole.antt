-- The whole call: from the words and the script to the status.
use Rattle.std.specs.Prelude.{◌≡◌, ◌⊎◌, ℕ, Bool, List, codes, Option, None, Some, Result, Ok, Err}
use Rattle.wal_outside.specs.Sending.{Sends}
use Rattle.wal_outside.specs.Views.{SourceView, SinkView, StoreView}
use Rattle.wal_outside.specs.declared.sink.WriteFault.{WriteFault}
use Rattle.wal_outside.specs.declared.sink.WriteFault.TheVariants as writes
use Rattle.command_line.specs.Words.{GivesOptions, GivesNone}
use Rattle.command_line.specs.declared.options.Options.{Options}
use Rattle.script_runs.specs.Ends.{HasRun}
use Rattle.script_runs.specs.declared.status.Status.{Status}
use Rattle.script_runs.specs.declared.status.Status.TheVariants as status
use Rattle.session_cli.specs.SessionLanguage.{session_language}
use Rattle.session_cli.specs.Made.{HasMade}

abbrev pub usage_line : List ℕ
usage_line = codes "usage: walnut [--states N] [--stop] [--make SEED]\n"

-- where words are refused a sink that fails changes nothing of the status
abbrev pub usage_status : Result (Unit {0}) WriteFault → Status
usage_status (Ok done) = status.Usage
usage_status (Err writes.Failed) = status.Usage
usage_status (Err writes.Memory) = status.Memory

-- the usage line was printed, or a part of it where the sink stopped it
abbrev pub PrintsUsage : SinkView → SinkView → Status → Type 0
PrintsUsage held now state = (sent : Result (Unit {0}) WriteFault) × Sends held usage_line sent now × (state ≡ usage_status sent)

-- and source and store stay
pub record ShowsUsage (from to : SourceView) (old new : StoreView) (held now : SinkView) (state : Status) : Type 0 where
  pub source_stays : to ≡ from
  pub store_stays : new ≡ old
  pub shown : PrintsUsage held now state

-- There was no memory to read the words, and nothing was done.
pub record EndsUnread (from to : SourceView) (old new : StoreView) (held now : SinkView) (state : Status) : Type 0 where
  pub source_stays : to ≡ from
  pub store_stays : new ≡ old
  pub sink_stays : now ≡ held
  pub state_is : state ≡ status.Memory

-- A run over the script, or where there is a seed over its generated script; then the source stays. It ends with the first refusal where the
-- words say so.
abbrev pub HasServed : ℕ → Bool → Option ℕ → SourceView → SourceView → StoreView → StoreView → SinkView → SinkView → Status → Type 0
HasServed limit stop None from to old new held now state = HasRun (session_language limit stop) from to old new held now state
HasServed limit stop (Some seed) from to old new held now state = (to ≡ from) × HasMade (session_language limit stop) seed old new held now state

-- A whole call: a run by the options that the words give; or the words are refused, and the usage line.
abbrev pub HasCalled : List (List ℕ) → SourceView → SourceView → StoreView → StoreView → SinkView → SinkView → Status → Type 0
HasCalled words from to old new held now state =
    ((options : Options) × GivesOptions words options × HasServed options.limit options.stop options.seed from to old new held now state)
    ⊎ (GivesNone words × ShowsUsage from to old new held now state)
    ⊎ EndsUnread from to old new held now state
