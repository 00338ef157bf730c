-- The checks of a `reg` after its systems read no file.
use Rattle.std.proofs.Common.{ℕ, List, inl, inr}
use Rattle.wal_outside.specs.Places.{Place}
use Rattle.digit_tuple.specs.Steps.{StepLog}
use Rattle.definitions.specs.Tracks.{Tracks}
use Rattle.system_files.specs.SystemFiles.{Custom}
use Rattle.language_commands.specs.RegOutcomes.{after_tracks}

pub no_track_read : (admitted : StepLog) (custom : Custom) (name body : List ℕ) (tracks : Tracks) (place : Place) → (after_tracks admitted custom name body tracks).reads place → ⊥
no_track_read admitted custom name body tracks place (inl read) = read
no_track_read admitted custom name body tracks place (inr (pattern, parses, inl read)) = read
no_track_read admitted custom name body tracks place (inr (pattern, parses, inr (lines, steps, read))) = read
