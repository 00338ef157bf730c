-- What one call of the outside reports.
use Rattle.std.specs.Prelude.{◌≡◌, ℕ, ◌<◌, ◌≤◌, Bool, true, false, List, length, Result, Ok, Err}
use Rattle.std.specs.Io.KnownBytes.{ReadConsumes, WriteAppends}
use Rattle.wal_outside.specs.declared.sink.WriteFault.{WriteFault}
use Rattle.wal_outside.specs.declared.source.Failed.{Failed}
use Rattle.wal_outside.specs.declared.store.Found.{Found}
use Rattle.wal_outside.specs.declared.store.Found.TheVariants as answers
use Rattle.wal_outside.specs.Causes.{Rose, one_more, CountsFault, is_failure}
use Rattle.wal_outside.specs.Views.{SourceView, SinkView}

-- whether a read failed
abbrev pub is_failed_read : Result ℕ Failed → Bool
is_failed_read (Ok count) = false
is_failed_read (Err fault) = true

-- whether a store failed at a read
abbrev pub is_failed_find : Found → Bool
is_failed_find answers.Failed = true
is_failed_find answers.Found = false
is_failed_find answers.Absent = false
is_failed_find answers.TooLong = false
is_failed_find answers.Memory = false

-- a read moves a prefix of what is left to the first bytes of the buffer, and is one call
pub record Reads (old : SourceView) (result : Result ℕ Failed) (buffer : List ℕ) (new : SourceView) : Type 0 where
  pub bytes : ReadConsumes old.left new.left result buffer
  pub calls : new.calls ≡ one_more old.calls
  pub faults : CountsFault (is_failed_read result) old.faults new.faults

-- bytes of a piece were taken: where there are some and none is taken, that is a fault
pub record TakesBytes (taken : ℕ) (piece : List ℕ) (before now : ℕ) : Type 0 where
  pub later : before ≤ now
  pub stuck : taken ≡ 0 → 0 < length piece → Rose before now
  pub some : 0 < taken → now ≡ before
  pub empty : length piece ≡ 0 → now ≡ before

-- the count of faults over a write
abbrev pub CountsWrite : Result ℕ WriteFault → List ℕ → ℕ → ℕ → Type 0
CountsWrite (Ok taken) piece before now = TakesBytes taken piece before now
CountsWrite (Err fault) piece before now = CountsFault (is_failure fault) before now

-- a write appends a prefix of a piece to what was written
pub record Writes (old : SinkView) (result : Result ℕ WriteFault) (piece : List ℕ) (new : SinkView) : Type 0 where
  pub bytes : WriteAppends old.held new.held result piece
  pub faults : CountsWrite result piece old.faults new.faults
