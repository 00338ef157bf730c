-- What holds of all runs.
use Rattle.std.specs.Prelude.{◌≡◌, ℕ, Bool, List, Some, Result}
use Rattle.wal_outside.specs.Files.{Files}
use Rattle.wal_outside.specs.Views.{SourceView, SinkView, StoreView}
use Rattle.script_runs.specs.Laws.{IsClean, EndAlike, StoreFaultsAreCounted}
use Rattle.script_runs.specs.declared.status.Status.{Status}
use Rattle.definitions.specs.Trees.{Ledger}
use Rattle.command_parts.specs.declared.refusal.Refusal.{Refusal}
use Rattle.command_parts.specs.Accepting.{Accepted}
use Rattle.session_cli.specs.Outcomes.{Outcome}
use Rattle.session_cli.specs.SessionLanguage.{session_language}
use Rattle.session_cli.specs.Whole.{HasCalled}

-- a command has at most one proper outcome
abbrev pub OneOutcome : Type 0
OneOutcome = (limit : ℕ) (ledger : Ledger) (text : List ℕ) (answer other : Result Accepted Refusal) → Outcome limit ledger text answer → Outcome limit ledger text other → answer ≡ other

-- Where the store reports its files and the status is Done or Refused, what was printed, the files and the status are a function of the
-- words, of the script and of the files at the beginning: how the bytes of the script came does not change them.
abbrev pub OneRun : Type 0
OneRun = (words : List (List ℕ)) (script : List ℕ) (files : Files) (from to from' to' : SourceView) (old new old' new' : StoreView) (held now held' now' : SinkView) (state state' : Status)
    → HasCalled words from to old new held now state → HasCalled words from' to' old' new' held' now' state'
    → from.left ≡ Some script → from'.left ≡ Some script → old.files ≡ Some files → old'.files ≡ Some files → IsClean state → IsClean state'
    → EndAlike new new' held now held' now' state state'

-- at most as many answers are store faults as the store's count rose, unless that is at its last value
abbrev pub StoreFaultsCounted : Type 0
StoreFaultsCounted = (limit : ℕ) (stop : Bool) → StoreFaultsAreCounted (session_language limit stop)
