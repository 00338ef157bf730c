-- Which calls of an object in memory are to fail, and how many bytes each takes.
use Rattle.std.specs.Prelude.{◌≡◌, ℕ, ◌==◌, min, Bool, List, slice_index_or}
use Rattle.std.specs.List.{list_any}
use Rattle.wal_outside.specs.Causes.{one_more}
use Rattle.wal_outside.specs.declared.schedule.Schedule.{Schedule}
use Rattle.wal_outside.specs.declared.pieces.Pieces.{Pieces}

-- whether the next call is one that is to fail: its number is listed
abbrev pub fails_next : Schedule → Bool
fails_next schedule = list_any (λ number. number == one_more schedule.calls) schedule.failing.items

-- no call was made yet, and those with these numbers are to fail
pub record IsFresh (schedule : Schedule) (failing : List ℕ) : Type 0 where
  pub failing_is : schedule.failing.items ≡ failing
  pub calls_is : schedule.calls ≡ 0
  pub faults_is : schedule.faults ≡ 0

-- the bytes that the next call takes of so many: at most its length in the list, and all once the list is over
abbrev pub next_taken : Pieces → ℕ → ℕ
next_taken pieces most = min (slice_index_or pieces.lengths.items pieces.next most) most
