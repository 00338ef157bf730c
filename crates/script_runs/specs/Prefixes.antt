-- Runs over scripts and over their prefixes.
use Rattle.std.specs.Prelude.{◌≡◌, ◌⊎◌, ℕ, true, false, List, ◌++◌, Some}
use Rattle.wal_outside.specs.Files.{Files}
use Rattle.wal_outside.specs.Sending.{HasSent}
use Rattle.wal_outside.specs.Views.{SourceView, SinkView, StoreView}
use Rattle.script_cut.specs.Cuts.{Rest, start, IsAtEnd}
use Rattle.script_cut.specs.Prefixes.{with_more, EndsAfterTerminator}
use Rattle.script_runs.specs.declared.status.Status.{Status}
use Rattle.script_runs.specs.Languages.{CommandLanguage}
use Rattle.script_runs.specs.Replies.{State}
use Rattle.script_runs.specs.Turns.{Turns, no_more, cut_off, turn, in_order, is_cut_off}
use Rattle.script_runs.specs.Runs.{Run, first_state}
use Rattle.script_runs.specs.Printed.{printed, status_of}
use Rattle.script_runs.specs.Ends.{HasTurns, HasRun}
use Rattle.script_runs.specs.Laws.{IsDetermined, IsClean}

-- the turns of a text, and then others; none come after a run that ended
abbrev pub followed_by : {F : Type 0} (l : CommandLanguage F) → Turns l → Turns l → Turns l
followed_by l no_more rest = rest
followed_by l cut_off rest = cut_off
followed_by l (turn first inside after) rest = turn first inside (followed_by l after rest)

-- A run over a text and more bytes is a run over the text, and then a run over what is left of it and the bytes. Where the first one ends the
-- run, there is no second one; and there is none but at the end of the text.
pub record RunsInTwo {F : Type 0} (l : CommandLanguage F) (place : Rest) (more : List ℕ) (old : State l) (turns : Turns l) (last : Rest) (new : State l) : Type 0 where
  pub first : Turns l
  pub rest : Turns l
  pub middle : Rest
  pub between : State l
  pub joined : turns ≡ followed_by l first rest
  pub run : Run l 0 place old first middle between
  pub ended : is_cut_off l first ≡ true → (rest ≡ no_more) × (new ≡ between)
  pub goes_on : is_cut_off l first ≡ false → Run l 0 (with_more middle more) between rest last new
  pub whole : (rest ≡ no_more) ⊎ IsAtEnd middle

-- So it is with each run over a script that begins with one that ends after a terminator.
abbrev pub RunsBeginWithPrefixes : {F : Type 0} → CommandLanguage F → Type 0
RunsBeginWithPrefixes l = (script more : List ℕ) (old : State l) (turns : Turns l) (last : Rest) (new : State l) → EndsAfterTerminator script
    → Run l 0 (start (script ++ more)) old turns last new → RunsInTwo l (start script) more old turns last new

-- And each run over such a script is the beginning of one over the longer script: of itself and any run over the rest; or it is the whole of it,
-- where the run ended.
abbrev pub RunsGoOn : {F : Type 0} → CommandLanguage F → Type 0
RunsGoOn l = (script more : List ℕ) (old between new : State l) (turns rest : Turns l) (middle last : Rest) → EndsAfterTerminator script
    → Run l 0 (start script) old turns middle between → is_cut_off l turns ≡ false → Run l 0 (with_more middle more) between rest last new
    → Run l 0 (start (script ++ more)) old (followed_by l turns rest) last new

abbrev pub EndedRunsStay : {F : Type 0} → CommandLanguage F → Type 0
EndedRunsStay l = (script more : List ℕ) (old new : State l) (turns : Turns l) (last : Rest) → EndsAfterTerminator script
    → Run l 0 (start script) old turns last new → is_cut_off l turns ≡ true → (end : Rest) × Run l 0 (start (script ++ more)) old turns end new

-- Two runs, the second over a longer script: the turns of the first are the beginning of those of the second, and what is printed of the first is
-- the beginning of what is printed of the second. After those turns the same is known in both, and the files are the same.
pub record BeginAlike {F : Type 0} (l : CommandLanguage F) (script more : List ℕ) (old new old' new' : StoreView) (held now held' now' : SinkView) (state state' : Status) : Type 0 where
  pub turns : Turns l
  pub last : Rest
  pub run : HasTurns l script old turns last new
  pub longer : Turns l
  pub end : Rest
  pub run' : HasTurns l (script ++ more) old' longer end new'
  pub two : RunsInTwo l (start script) more (first_state l old') longer end (record { ledger = run'.ledger; store = new'; room = run'.room })
  pub same : two.first ≡ turns
  pub whole : is_cut_off l turns ≡ false → IsAtEnd last
  pub ledger : two.between.ledger ≡ run.ledger
  pub files : two.between.store.files ≡ new.files
  pub room : two.between.room ≡ run.room
  pub prints : HasSent held (printed l (in_order l turns)) now
  pub prints' : HasSent held' (printed l (in_order l turns) ++ printed l (in_order l two.rest)) now'
  pub state_is : state ≡ status_of l (in_order l turns)
  pub state_is' : state' ≡ status_of l (in_order l turns ++ in_order l two.rest)

-- Where the store reports its files and both statuses are Done or Refused, two runs begin alike, of which one is over a script that ends after
-- a terminator and the other over a longer one.
abbrev pub RunsBeginAlike : {F : Type 0} → CommandLanguage F → Type 0
RunsBeginAlike l = IsDetermined l → (script more : List ℕ) (files : Files) (from to from' to' : SourceView) (old new old' new' : StoreView) (held now held' now' : SinkView) (state state' : Status)
    → EndsAfterTerminator script → HasRun l from to old new held now state → HasRun l from' to' old' new' held' now' state'
    → from.left ≡ Some script → from'.left ≡ Some (script ++ more) → old.files ≡ Some files → old'.files ≡ Some files → IsClean state → IsClean state'
    → BeginAlike l script more old new old' new' held now held' now' state state'
