-- What holds of all runs.
use Rattle.std.specs.Prelude.{◌≡◌, ◌⊎◌, ℕ, ◌+◌, ◌-◌, ◌^◌, ◌≤◌, min, Bool, true, false, if◌then◌else◌, List, [], ◌∷◌, length, count_by, Option, Some}
use Rattle.wal_outside.specs.Files.{Files}
use Rattle.wal_outside.specs.Sending.{HasSent}
use Rattle.wal_outside.specs.Views.{SourceView, SinkView, StoreView}
use Rattle.script_cut.specs.Cuts.{Ended, Terminated, Unterminated, PastLimit, Rest}
use Rattle.script_runs.specs.declared.status.Status.{Status}
use Rattle.script_runs.specs.declared.status.Status.TheVariants as status
use Rattle.script_runs.specs.Languages.{CommandLanguage, Reply}
use Rattle.script_runs.specs.Replies.{State, Answered, is_by_store, is_by_memory}
use Rattle.script_runs.specs.Turns.{Turns, in_order}
use Rattle.script_runs.specs.Runs.{Run}
use Rattle.script_runs.specs.Ends.{HasRun}
use Rattle.script_runs.specs.declared.counts.Counts.{Counts}
use Rattle.script_runs.specs.TextRuns.{RanWhole}

-- a reply that is neither the store's nor memory's
pub record IsProper {F : Type 0} (l : CommandLanguage F) (reply : Reply l) : Type 0 where
  pub store : is_by_store l reply ≡ false
  pub memory : is_by_memory l reply ≡ false

-- A command has at most one such reply, and one that makes something changes the files in one way. Files that are reported stay so.
pub record IsDetermined {F : Type 0} (l : CommandLanguage F) : Type 0 where
  pub one_reply : (depth : ℕ) (ledger : l.Ledger) (text : List ℕ) (reply other : Reply l) → l.answers depth ledger text reply → l.answers depth ledger text other → IsProper l reply → IsProper l other → reply ≡ other
  pub one_change : (ledger : l.Ledger) (success : l.Success) (old new new' : Option Files) → l.changes ledger success old new → l.changes ledger success old new' → new ≡ new'
  pub stays_reported : (ledger : l.Ledger) (success : l.Success) (files : Files) (new : Option Files) → l.changes ledger success (Some files) new → (later : Files) × (new ≡ Some later)

-- the run was through, and neither the store nor memory refused a command
abbrev pub IsClean : Status → Type 0
IsClean state = (state ≡ status.Done) ⊎ (state ≡ status.Refused)

-- two runs end alike: with the same status, the same files, and the same text printed
pub record EndAlike (new new' : StoreView) (held now held' now' : SinkView) (state state' : Status) : Type 0 where
  pub status : state ≡ state'
  pub files : new.files ≡ new'.files
  pub text : List ℕ
  pub printed : HasSent held text now
  pub printed' : HasSent held' text now'

-- Where the store reports its files and the status is Done or Refused, what was printed, the files and the status are a function of the
-- script and of the files at the beginning: how the bytes of the script came does not change them.
abbrev pub RunsEndAlike : {F : Type 0} → CommandLanguage F → Type 0
RunsEndAlike l = (script : List ℕ) (files : Files) (from to from' to' : SourceView) (old new old' new' : StoreView) (held now held' now' : SinkView) (state state' : Status)
    → HasRun l from to old new held now state → HasRun l from' to' old' new' held' now' state'
    → from.left ≡ Some script → from'.left ≡ Some script → old.files ≡ Some files → old'.files ≡ Some files → IsClean state → IsClean state'
    → EndAlike new new' held now held' now' state state'

-- two runs over texts end alike: with the same status, the same files, and the same counts
pub record TextsAlike (new new' : StoreView) (given given' : Counts) (state state' : Status) : Type 0 where
  pub status : state ≡ state'
  pub files : new.files ≡ new'.files
  pub counts : given ≡ given'

-- So the counts are a function of a text that is given whole and of the files at the beginning.
abbrev pub TextRunsEndAlike : {F : Type 0} → CommandLanguage F → Type 0
TextRunsEndAlike l = (text : List ℕ) (files : Files) (old new old' new' : StoreView) (counts counts' : Counts) (state state' : Status)
    → RanWhole l text old new counts state → RanWhole l text old' new' counts' state'
    → old.files ≡ Some files → old'.files ≡ Some files → IsClean state → IsClean state'
    → TextsAlike new new' counts counts' state state'

-- how many of the replies are store faults
abbrev pub store_faults : {F : Type 0} (l : CommandLanguage F) → List (Answered l) → ℕ
store_faults l [] = 0
store_faults l (a ∷ answered) = (if is_by_store l a.reply then 1 else 0) + store_faults l answered

-- at most as many replies are store faults as the store's count rose, unless that is at its last value
abbrev pub StoreFaultsAreCounted : {F : Type 0} → CommandLanguage F → Type 0
StoreFaultsAreCounted l = (depth : ℕ) (turns : Turns l) (place last : Rest) (old new : State l) → Run l depth place old turns last new
    → min (old.store.faults + store_faults l (in_order l turns)) (2 ^ 64 - 1) ≤ new.store.faults

-- whether an item is what comes past the limit
abbrev pub is_past_limit : Ended → Bool
is_past_limit (Terminated shown) = false
is_past_limit Unterminated = false
is_past_limit PastLimit = true

-- how many of the items are past the limit
abbrev pub past_limit : {F : Type 0} (l : CommandLanguage F) → List (Answered l) → ℕ
past_limit l answered = count_by (λ (a : Answered l). is_past_limit a.item.ended) answered

-- Of so many bytes that may be read so many are left after the items: each but one past the limit has a byte that counted, of the script or of
-- a text that was loaded, and that no other item has. At most one is past the limit.
pub record HaveBytes {F : Type 0} (l : CommandLanguage F) (room : ℕ) (answered : List (Answered l)) (left : ℕ) : Type 0 where
  pub counted : left + length answered ≤ room + past_limit l answered
  pub once : past_limit l answered ≤ 1

-- So it is in each run over a script. The room at its last place is what was left of it after the bytes that were passed and the texts that
-- were loaded.
abbrev pub ItemsHaveBytes : {F : Type 0} → CommandLanguage F → Type 0
ItemsHaveBytes l = (turns : Turns l) (place last : Rest) (old new : State l) → place.room ≤ 16777216 → Run l 0 place old turns last new → HaveBytes l place.room (in_order l turns) last.room
