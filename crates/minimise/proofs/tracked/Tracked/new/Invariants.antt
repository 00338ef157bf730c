use Rattle.std.proofs.Common.{◌≡◌, take}
use Rattle.minimise.proofs.tracked.Tracked.new.Given as goal

abbrev pub invariant-loop-name : goal.invariant-loop-name
invariant-loop-name l = l.track_names.items ≡ take l.name-index l.names
