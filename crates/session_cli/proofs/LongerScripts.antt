-- Runs over a script and over longer ones.
use Rattle.std.proofs.Common.{◌≡◌, ℕ, Bool, List, ◌++◌, Option, None, Some, subst}
use Rattle.wal_outside.specs.Files.{Files}
use Rattle.wal_outside.specs.Views.{SourceView, SinkView, StoreView}
use Rattle.command_line.specs.Words.{GivesOptions}
use Rattle.command_line.specs.declared.options.Options.{Options}
use Rattle.command_line.proofs.OneOptions.{one_options}
use Rattle.script_cut.specs.Prefixes.{EndsAfterTerminator}
use Rattle.script_runs.specs.Laws.{IsClean}
use Rattle.script_runs.specs.declared.status.Status.{Status}
use Rattle.script_runs.proofs.LongerRuns.{runs_begin_with_prefixes, runs_go_on_after, ended_runs_stay, runs_begin_alike}
use Rattle.session_cli.specs.SessionLanguage.{session_language}
use Rattle.session_cli.specs.SoundLanguage.{session_is_sound}
use Rattle.session_cli.specs.Whole.{HasServed}
use Rattle.session_cli.specs.LongerScripts.{ServedAlike, LongerCalls, SessionsBeginWithPrefixes}
use Rattle.session_cli.proofs.OneRuns.{session_is_determined, clean_run, made_alike}

pub sessions_begin_with_prefixes : SessionsBeginWithPrefixes
sessions_begin_with_prefixes = λ limit stop.
    (runs_begin_with_prefixes (session_language limit stop) (session_is_sound limit stop), runs_go_on_after (session_language limit stop) (session_is_sound limit stop), ended_runs_stay (session_language limit stop) (session_is_sound limit stop))

-- what calls run over a script and a longer one
served_alike : (limit : ℕ) (stop : Bool) (seed : Option ℕ) (script more : List ℕ) (files : Files) (from to from' to' : SourceView) (old new old' new' : StoreView) (held now held' now' : SinkView) (state state' : Status)
    → EndsAfterTerminator script → HasServed limit stop seed from to old new held now state → HasServed limit stop seed from' to' old' new' held' now' state'
    → from.left ≡ Some script → from'.left ≡ Some (script ++ more) → old.files ≡ Some files → old'.files ≡ Some files → IsClean state → IsClean state'
    → ServedAlike limit stop seed script more old new old' new' held now held' now' state state'
served_alike limit stop None script more files from to from' to' old new old' new' held now held' now' state state' ends ran ran' is is' reported reported' clean clean' =
    runs_begin_alike (session_language limit stop) (session_is_sound limit stop) (session_is_determined limit stop) script more files from to from' to' old new old' new' held now held' now' state state' ends ran ran' is is' reported reported' clean clean'
served_alike limit stop (Some seed) script more files from to from' to' old new old' new' held now held' now' state state' ends ran ran' is is' reported reported' clean clean' =
    made_alike (session_language limit stop) (session_is_determined limit stop) seed files old new old' new' held now held' now' state state' ran.1 ran'.1 reported reported' clean clean'

-- calls with the same words over a script and a longer one
pub longer_calls : LongerCalls
longer_calls = λ words script more files from to from' to' old new old' new' held now held' now' state state' ends call call' is is' reported reported' clean clean'.
    let ran : (options : Options) × GivesOptions words options × HasServed options.limit options.stop options.seed from to old new held now state = clean_run words from to old new held now state call clean in
    let ran' : (options : Options) × GivesOptions words options × HasServed options.limit options.stop options.seed from' to' old' new' held' now' state' = clean_run words from' to' old' new' held' now' state' call' clean' in
    let same : ran'.0 ≡ ran.0 = one_options words ran'.0 ran.0 ran'.1 ran.1 in
    let P : Options → Type 0 = λ options. HasServed options.limit options.stop options.seed from' to' old' new' held' now' state' in
    (ran.0, ran.1, served_alike ran.0.limit ran.0.stop ran.0.seed script more files from to from' to' old new old' new' held now held' now' state state' ends ran.2 (subst P same ran'.2) is is' reported reported' clean clean')
