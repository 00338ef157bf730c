-- Runs over scripts that begin alike.
use Rattle.std.specs.Prelude.{◌≡◌, ℕ, Bool, List, ◌++◌, Option, None, Some}
use Rattle.wal_outside.specs.Files.{Files}
use Rattle.wal_outside.specs.Views.{SourceView, SinkView, StoreView}
use Rattle.command_line.specs.Words.{GivesOptions}
use Rattle.command_line.specs.declared.options.Options.{Options}
use Rattle.script_cut.specs.Prefixes.{EndsAfterTerminator}
use Rattle.script_runs.specs.Laws.{IsClean, EndAlike}
use Rattle.script_runs.specs.Prefixes.{RunsBeginWithPrefixes, RunsGoOn, EndedRunsStay, BeginAlike}
use Rattle.script_runs.specs.declared.status.Status.{Status}
use Rattle.session_cli.specs.SessionLanguage.{session_language}
use Rattle.session_cli.specs.Whole.{HasCalled}

-- two runs begin alike; those over a generated script, which read no source, end alike
abbrev pub ServedAlike : ℕ → Bool → Option ℕ → List ℕ → List ℕ → StoreView → StoreView → StoreView → StoreView → SinkView → SinkView → SinkView → SinkView → Status → Status → Type 0
ServedAlike limit stop None script more old new old' new' held now held' now' state state' = BeginAlike (session_language limit stop) script more old new old' new' held now held' now' state state'
ServedAlike limit stop (Some seed) script more old new old' new' held now held' now' state state' = EndAlike new new' held now held' now' state state'

-- Where the store reports its files and both statuses are Done or Refused, two calls with the same words begin alike, of which one reads a script
-- that ends after a terminator and the other a longer one: the commands of the first are answered in the second as they were, what the first
-- printed is printed first, and the second goes on from the files that the first left.
abbrev pub LongerCalls : Type 0
LongerCalls = (words : List (List ℕ)) (script more : List ℕ) (files : Files) (from to from' to' : SourceView) (old new old' new' : StoreView) (held now held' now' : SinkView) (state state' : Status)
    → EndsAfterTerminator script → HasCalled words from to old new held now state → HasCalled words from' to' old' new' held' now' state'
    → from.left ≡ Some script → from'.left ≡ Some (script ++ more) → old.files ≡ Some files → old'.files ≡ Some files → IsClean state → IsClean state'
    → (options : Options) × GivesOptions words options × ServedAlike options.limit options.stop options.seed script more old new old' new' held now held' now' state state'

-- However they end, a run over a longer script is one over the script, and then one over the rest.
abbrev pub SessionsBeginWithPrefixes : Type 0
SessionsBeginWithPrefixes = (limit : ℕ) (stop : Bool) → RunsBeginWithPrefixes (session_language limit stop) × RunsGoOn (session_language limit stop) × EndedRunsStay (session_language limit stop)
