-- How a run over a script ends.
use Rattle.std.specs.Prelude.{◌≡◌, ◌⊎◌, ℕ, ◌≤◌, true, false, List, [], ◌∷◌, ◌++◌, length, IfSome, Err}
use Rattle.std.specs.Io.KnownBytes.{Consumes}
use Rattle.wal_outside.specs.Causes.{Rose}
use Rattle.wal_outside.specs.Sending.{Sends, HasSent}
use Rattle.wal_outside.specs.Views.{SourceView, SinkView, StoreView}
use Rattle.wal_outside.specs.declared.sink.WriteFault.{WriteFault}
use Rattle.wal_outside.specs.declared.sink.WriteFault.TheVariants as writes
use Rattle.script_cut.specs.Cuts.{Rest, start, IsAtEnd, HasNoCommand}
use Rattle.script_runs.specs.declared.status.Status.{Status}
use Rattle.script_runs.specs.declared.status.Status.TheVariants as status
use Rattle.script_runs.specs.Languages.{CommandLanguage}
use Rattle.script_runs.specs.Replies.{Answered}
use Rattle.script_runs.specs.Turns.{Turns, in_order, is_cut_off, IsDue}
use Rattle.script_runs.specs.Runs.{Run, first_state}
use Rattle.script_runs.specs.Printed.{line_of, printed, status_of}

-- how a run ends that a sink stopped
abbrev pub stop_status : WriteFault → Status
stop_status writes.Failed = status.Outside
stop_status writes.Memory = status.Memory

-- The source gave these bytes, at most one more than a script may have; and what it has left is this, where it is reported.
pub record HasGiven (from to : SourceView) (gave more : List ℕ) : Type 0 where
  pub taken : Consumes from.left to.left gave
  pub within : length gave ≤ 16777217
  pub reported : IfSome to.left (λ left. more ≡ left)

-- The turns of a script, from a store to what is known of it at the end.
pub record HasTurns {F : Type 0} (l : CommandLanguage F) (script : List ℕ) (old : StoreView) (turns : Turns l) (last : Rest) (new : StoreView) : Type 0 where
  pub ledger : l.Ledger
  pub room : ℕ
  pub run : Run l 0 (start script) (first_state l old) turns last (record { ledger = ledger; store = new; room = room })
  pub stores : IfSome new.files (l.stores ledger)

-- All items were answered up to the script's end, or up to one that ends the run, and all lines printed. Neither source nor sink failed.
pub record RanThrough {F : Type 0} (l : CommandLanguage F) (script : List ℕ) (from to : SourceView) (old new : StoreView) (held now : SinkView) (state : Status) : Type 0 where
  pub turns : Turns l
  pub last : Rest
  pub has_turns : HasTurns l script old turns last new
  pub due : IsDue l turns
  pub end : is_cut_off l turns ≡ false → IsAtEnd last
  pub sent : HasSent held (printed l (in_order l turns)) now
  pub source_kept : to.faults ≡ from.faults
  pub state_is : state ≡ status_of l (in_order l turns)

-- some lines were printed whole, and a part of the last one, in which the sink stopped
pub record PrintsPart {F : Type 0} (l : CommandLanguage F) (held : SinkView) (answered : List (Answered l)) (fault : WriteFault) (now : SinkView) : Type 0 where
  pub prefix : List (Answered l)
  pub last : Answered l
  pub split : answered ≡ prefix ++ last ∷ []
  pub mid : SinkView
  pub sent : HasSent held (printed l prefix) mid
  pub stopped : Sends mid (line_of l last.item last.reply) (Err fault) now

-- The sink stopped the run in the line of its last reply. The source did not fail.
pub record RanToStop {F : Type 0} (l : CommandLanguage F) (script : List ℕ) (from to : SourceView) (old new : StoreView) (held now : SinkView) (state : Status) : Type 0 where
  pub turns : Turns l
  pub last : Rest
  pub has_turns : HasTurns l script old turns last new
  pub cut : is_cut_off l turns ≡ true
  pub fault : WriteFault
  pub part : PrintsPart l held (in_order l turns) fault now
  pub source_kept : to.faults ≡ from.faults
  pub state_is : state ≡ stop_status fault

-- The source failed: nothing was cut off, and no further command has its terminator in what the source gave, which is no longer than a script
-- may be.
pub record SourceFailed {F : Type 0} (l : CommandLanguage F) (turns : Turns l) (from to : SourceView) (gave suffix : List ℕ) (state : Status) : Type 0 where
  pub rose : Rose from.faults to.faults
  pub due : IsDue l turns
  pub whole : is_cut_off l turns ≡ false
  pub none : HasNoCommand suffix
  pub within : length gave ≤ 16777216
  pub state_is : state ≡ status.Outside

-- there was no memory to cut the next command, of the script or of a text that it loads
pub record WantedMemory {F : Type 0} (l : CommandLanguage F) (turns : Turns l) (from to : SourceView) (state : Status) : Type 0 where
  pub cut : is_cut_off l turns ≡ true
  pub source_kept : to.faults ≡ from.faults
  pub state_is : state ≡ status.Memory

-- The source failed, or there was no memory to cut the next command. The items answered are those of what the source gave, and their
-- lines were printed whole. The sink did not fail.
pub record RanToFault {F : Type 0} (l : CommandLanguage F) (gave more : List ℕ) (from to : SourceView) (old new : StoreView) (held now : SinkView) (state : Status) : Type 0 where
  pub turns : Turns l
  pub last : Rest
  pub has_turns : HasTurns l (gave ++ more) old turns last new
  pub suffix : List ℕ
  pub left_is : last.left ≡ suffix ++ more
  pub sent : HasSent held (printed l (in_order l turns)) now
  pub cause : SourceFailed l turns from to gave suffix state ⊎ WantedMemory l turns from to state

-- A run, over the bytes that the source gave and those that it has left.
abbrev pub HasRun : {F : Type 0} → CommandLanguage F → SourceView → SourceView → StoreView → StoreView → SinkView → SinkView → Status → Type 0
HasRun l from to old new held now state =
    (gave : List ℕ) × (more : List ℕ) × HasGiven from to gave more
    × (RanThrough l (gave ++ more) from to old new held now state
    ⊎ (RanToStop l (gave ++ more) from to old new held now state
    ⊎ RanToFault l gave more from to old new held now state))
