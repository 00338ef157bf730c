use Rattle.std.proofs.Common.{◌≡◌, ◌++◌, map}
use Rattle.std.specs.List.{range_with_len}
use Rattle.std.specs.Rc.{rc_value}
use Rattle.product_op.specs.Readings.{readings_in}
use Rattle.product_op.specs.TrackReadings.{track_reading}
use Rattle.product_op.proofs.argument_readers.add_track_readers.Given as goal

abbrev pub invariant-loop-track : goal.invariant-loop-track
invariant-loop-track l = readings_in l.readers.items ≡ readings_in l.fn.readers.items ++ map (track_reading l.alphabet (map rc_value l.languages)) (range_with_len 0 l.track)
