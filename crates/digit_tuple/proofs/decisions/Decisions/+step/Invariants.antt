use Rattle.std.proofs.Common.{length}
use Rattle.digit_tuple.specs.Decisions.{sizes_in}
use Rattle.digit_tuple.proofs.decisions.Decisions.+step.Given as goal

abbrev pub decreases-step : goal.decreases-step
decreases-step l = length (sizes_in l.self.now)
