-- Parts of letters on some of their tracks.
use Rattle.std.specs.Prelude.{◌≡◌, ℕ, ◌<◌, ◌≤◌, List, length}
use Rattle.std.specs.List.{All}
use Rattle.digit_tuple.specs.Letters.{product}
use Rattle.digit_tuple.specs.Parts.{picked}
use Rattle.track_parts.specs.Runs.{AreRuns}
use Rattle.track_parts.specs.declared.run.Run.{Run}

-- the tracks are there, and the runs are theirs
pub record AreTrackParts (sizes places own : List ℕ) (runs : List Run) : Type 0 where
  pub within : All (λ place. place < length sizes) places
  pub own_is : own ≡ picked places sizes
  pub few : product own ≤ 65536
  pub runs_are : AreRuns sizes places runs
